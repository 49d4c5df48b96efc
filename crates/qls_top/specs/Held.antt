-- A disk that holds the machine's state.
use Rattle.std.specs.Prelude.{◌≡◌, Ok}
use Rattle.qls_model.specs.Machine.{MachineState, settle}
use Rattle.qls_site.specs.Disk.{Disk, IsQuiet, full}
use Rattle.qls_meaning.specs.Dead.{NoneDead}
use Rattle.qls_meaning.specs.Meaning.{meaning}
use Rattle.qls_journals.specs.State.{NonePast}

-- nothing is pending, the files mean the state, settled, and no journal has a dead oldest file, nor a file past its reading
pub record IsHeld (S : MachineState) (d : Disk) : Type 0 where
  pub quiet : IsQuiet d
  pub meaning : meaning (full d) ≡ Ok (settle S)
  pub alive : NoneDead (full d)
  pub past : NonePast d
