-- The entries of these xids, let go one after another.
use Rattle.std.specs.Prelude.{ℕ, List, [], ◌∷◌}
use Rattle.qls_decide.specs.declared.ListEntry.{ListEntry}
use Rattle.qls_decide.specs.Entries.{entry_of, without_entry}
use Rattle.qls_enqmap.specs.declared.Held.{Held}
use Rattle.qls_prepared.specs.Table.{held_without}

abbrev pub ended_entries : List (List ℕ) → List ListEntry → List ListEntry
ended_entries [] es = es
ended_entries (x ∷ xs) es = ended_entries xs (without_entry x es)

-- what is held without their enqueues
abbrev pub ended_held : List (List ℕ) → List ListEntry → List Held → List Held
ended_held [] es hs = hs
ended_held (x ∷ xs) es hs = ended_held xs (without_entry x es) (held_without (entry_of x es) hs)
