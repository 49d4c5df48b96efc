use Rattle.std.proofs.Common.{◌≡◌, ◌∙◌, ◌+◌, sym, Bool, true, false, not, refl, arith}
use Rattle.qls_enqmap.proofs.Ends.{Passes, passes}
use Rattle.qls_enqmap.proofs.slots.next_held.Goals as goal

not_true : (b : Bool) → true ≡ not b → b ≡ false
not_true true h = cc
not_true false h = refl

pub loop-at-preserved : goal.loop-at-preserved
loop-at-preserved c =
    let es = c.args.slots.now.entries in
    let at = c.loop-at.at in
    let p : Passes es at (at + 1) = passes es at (at + 1) refl (not_true _ (sym c.if-is_hole.true ∙ c.is_hole.ensures.hole)) in
    record {
      from = omega arith;
      within = omega arith;
      same = p.same ∙ c.loop-at.invariant.same;
      holes = λ h. p.holes (c.loop-at.invariant.holes h);
    }
