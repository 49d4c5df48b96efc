use Rattle.std.proofs.Common.{is_some}
use Rattle.std.proofs.lemmas.List.Filters.{FiltersInPlace}
use Rattle.qls_enqmap.proofs.slots.move_together.Given as goal

abbrev pub invariant-loop-at : goal.invariant-loop-at
invariant-loop-at l = FiltersInPlace (λ e. is_some e.1) l.initial.slots.entries l.slots.entries l.records l.at
