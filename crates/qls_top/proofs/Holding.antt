-- What the disk holds where a clean store fits it.
use Rattle.std.proofs.Common.{◌≡◌, Ok}
use Rattle.qls_model.specs.Machine.{settle}
use Rattle.qls_site.specs.Disk.{Disk, IsQuiet, full}
use Rattle.qls_meaning.specs.Dead.{NoneDead}
use Rattle.qls_meaning.specs.Meaning.{meaning}
use Rattle.qls_meaning.specs.Spent.{list_rid}
use Rattle.qls_journals.specs.State.{NonePast}
use Rattle.qls_store.specs.Stores.{StoreState, state_of, rid_of, IsStore, Fits, IsClean}
use Rattle.qls_top.specs.Held.{IsHeld}

abbrev pub MeansItsState : Type 0
MeansItsState = (s : StoreState) (d : Disk) → IsStore s → Fits s d → IsClean s d → IsQuiet d → IsHeld (state_of s) d

-- and the record id that is in force in the list
abbrev pub SaysItsRid : Type 0
SaysItsRid = (s : StoreState) (d : Disk) → IsStore s → Fits s d → IsClean s d → list_rid d ≡ rid_of s

-- from the laws of clean stores
pub means_its_state : ((s : StoreState) (d : Disk) → IsStore s → Fits s d → IsClean s d → meaning (full d) ≡ Ok (settle (state_of s)))
    → ((s : StoreState) (d : Disk) → IsStore s → Fits s d → IsClean s d → NoneDead (full d)) → ((s : StoreState) (d : Disk) → IsStore s → Fits s d → IsClean s d → NonePast d) → MeansItsState
means_its_state means alive past = λ s d store fits clean quiet. record { quiet = quiet; meaning = means s d store fits clean; alive = alive s d store fits clean; past = past s d store fits clean }
