use Rattle.std.proofs.Common.{◌≡◌, ◌∙◌, sym, Bool, true, false, not, refl, arith}
use Rattle.qls_enqmap.proofs.Ends.{Trims, trims}
use Rattle.qls_enqmap.proofs.slots.trim_end.Goals as goal

not_true : (b : Bool) → true ≡ not b → b ≡ false
not_true true h = cc
not_true false h = refl

pub loop-slots-preserved-in-loop-slots : goal.loop-slots-preserved-in-loop-slots
loop-slots-preserved-in-loop-slots c =
    let t : Trims c.loop-slots.slots.entries c.pop.new.self.entries =
    trims c.loop-slots.slots.entries c.pop.new.self.entries c.pop.result c.pop.ensures.entries (not_true _ (sym c.loop-slots-test.true ∙ c.last_is_hole.ensures.hole)) in
    record {
      held = t.held ∙ c.loop-slots.invariant.held;
      before = λ n. t.before n ∙ c.loop-slots.invariant.before n;
      shorter = omega (arith, t.shorter, c.loop-slots.invariant.shorter);
      rises = λ r. t.rises (c.loop-slots.invariant.rises r);
      holes = λ n h. t.holes n (c.loop-slots.invariant.holes n h);
    }

pub loop-slots-preserved-in-loop-slots-2 : goal.loop-slots-preserved-in-loop-slots-2
loop-slots-preserved-in-loop-slots-2 c =
    let t : Trims c.loop-slots.slots.entries c.pop.new.self.entries =
    trims c.loop-slots.slots.entries c.pop.new.self.entries c.pop.result c.pop.ensures.entries (not_true _ (sym c.loop-slots-test.true ∙ c.last_is_hole.ensures.hole)) in
    record {
      held = t.held ∙ c.loop-slots.invariant.held;
      before = λ n. t.before n ∙ c.loop-slots.invariant.before n;
      shorter = omega (arith, t.shorter, c.loop-slots.invariant.shorter);
      rises = λ r. t.rises (c.loop-slots.invariant.rises r);
      holes = λ n h. t.holes n (c.loop-slots.invariant.holes n h);
    }
