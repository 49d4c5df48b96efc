use Rattle.std.proofs.Common.{◌<◌, ◌∙◌, None, length, get_or, sym, arith, ℕ, Option}
use Rattle.std.proofs.lemmas.List.Filters.{FiltersInPlace-more_no, FiltersInPlace-more_swap}
use Rattle.qls_enqmap.specs.declared.Held.{Held}
use Rattle.qls_enqmap.proofs.Together.{swapped_at, slot_held, own_default}
use Rattle.qls_enqmap.proofs.slots.move_together.Goals as goal
use Rattle.qls_enqmap.proofs.slots.move_together.Goals.{then-is_held, else-is_held}

pub loop-at-preserved : goal.loop-at-preserved
loop-at-preserved c =
    let es = c.loop-at.slots.entries in
    let i = c.loop-at.at in
    let x : ℕ × Option Held = get_or es i (0, None) in
    let l : i < length es = omega (arith, c.loop-at-test.true, c.len-at-end.ensures.len, c.loop-at.invariant.long) in
    let own = own_default es i (0, None) l in
    let held = sym (slot_held es i) ∙ sym c.is_held.ensures.held in
    elim c.if-is_held.branch [
      | then-is_held w ↦ rw (w.slots-is, w.records-is) (FiltersInPlace-more_swap c.loop-at.invariant l (held ∙ w.if-is_held.true) own (swapped_at es w.swap_indices.new.self.entries c.loop-at.records i (omega (arith, l, c.loop-at.invariant.behind)) l w.swap_indices.ensures.entries))
      | else-is_held w ↦ rw (w.slots-is, w.records-is) (FiltersInPlace-more_no c.loop-at.invariant l (held ∙ w.if-is_held.false) own)
    ]
