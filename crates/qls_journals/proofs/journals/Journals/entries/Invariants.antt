use Rattle.std.proofs.Common.{◌≡◌, ◌-◌, ◌++◌, drop, length}
use Rattle.qls_journals.proofs.journals.Journals.entries.Given as goal

-- those so far, and those to come
abbrev pub invariant-loop-entry : goal.invariant-loop-entry
invariant-loop-entry l = l.entries ++ drop (length l.entries) l.self-inside.list.entries ≡ l.self-inside.list.entries

abbrev pub decreases-loop-entry : goal.decreases-loop-entry
decreases-loop-entry l = length l.self-inside.list.entries - length l.entries
