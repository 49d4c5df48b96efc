-- Entries of the prepared list, kept in a table by xid.
use Rattle.std.specs.Prelude.{ℕ, List, [], ◌∷◌}
use Rattle.qls_decide.specs.declared.ListState.{ListState}
use Rattle.qls_decide.specs.declared.ListEntry.{ListEntry}
use Rattle.qls_decide.specs.Entries.{with_entry}

-- an xid, with the record id and the state of its entry
abbrev pub Pair : Type 0
Pair = List ℕ × (ℕ × ListState)

abbrev pub entry_for : Pair → ListEntry
entry_for p = record { xid = p.0; rid = p.1.0; state = p.1.1 }

-- the entries of a table in byte order of xid, in whatever order the table has them
abbrev pub entries_of : List Pair → List ListEntry
entries_of [] = []
entries_of (p ∷ ps) = with_entry (entry_for p) (entries_of ps)
