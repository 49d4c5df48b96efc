-- What one record that was read makes of the table: its entries are those of the replay, and with them go the enqueues that are held.
use Rattle.std.specs.Prelude.{ℕ, Bool, false, ◌&&◌, ◌==◌, List, [], ◌∷◌, ◌++◌, Option, Some, None}
use Rattle.qls_record.specs.declared.Kind.{Kind}
use Rattle.qls_record.specs.declared.Kind.TheVariants.{Enqueue, Dequeue, Commit, Abort, Filler}
use Rattle.qls_decide.specs.declared.ListEntry.{ListEntry}
use Rattle.qls_decide.specs.Entries.{entry_of}
use Rattle.qls_enqmap.specs.declared.Held.{Held}
use Rattle.qls_meaning.specs.Reading.{Read}
use Rattle.qls_meaning.specs.Replay.{xid_in, is_undecided}
use Rattle.qls_prepared.specs.Lists.{held_of}
use Rattle.qls_prepared.specs.Table.{TableState, held_without}

-- the enqueue of a transaction is held in place of that of its older entry
abbrev pub held_entered : Read → Option (List ℕ) → TableState → List Held
held_entered r None t = t.held
held_entered r (Some x) t = held_without (entry_of x t.entries) t.held ++ held_of r ∷ []

-- an end lets it go
abbrev pub held_after : Kind → Read → TableState → List Held
held_after Enqueue r t = held_entered r (xid_in r.what.xid) t
held_after Dequeue r t = t.held
held_after Commit r t = held_without (entry_of r.what.xid t.entries) t.held
held_after Abort r t = t.held
held_after Filler r t = t.held

-- a decision is of the undecided entry with that record id
abbrev pub may_decide : ℕ → Option ListEntry → Bool
may_decide target None = false
may_decide target (Some e) = e.rid == target && is_undecided e.state
