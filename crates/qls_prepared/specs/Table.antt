-- The table of the entries: by xid, and the enqueue of each by record id.
use Rattle.std.specs.Prelude.{ℕ, List, [], Option, Some, None}
use Rattle.qls_model.specs.declared.machine.Status.TheVariants.{Ready}
use Rattle.qls_decide.specs.declared.ListEntry.{ListEntry}
use Rattle.qls_enqmap.specs.declared.Held.{Held}
use Rattle.qls_enqmap.specs.Records.{without}
use Rattle.qls_log.specs.declared.spot.Spot.{Spot}

pub record TableState : Type 0 where
  pub entries : List ListEntry
  pub held : List Held

-- the enqueue that lies there, held by its record id
abbrev pub held_at_spot : ℕ → Spot → Held
held_at_spot rid s = record { rid = rid; status = Ready; body = []; file = s.file; end_file = s.end_file }

-- what is held without the enqueue of this entry
abbrev pub held_without : Option ListEntry → List Held → List Held
held_without None hs = hs
held_without (Some e) hs = without e.rid hs
