use Rattle.std.proofs.Common.{Bool, eqb, length, Ok, true, false, ℕ, List, ap, ◌∙◌, arith, subst}
use Rattle.qls_top.specs.Cutting.{TakesPart, Refills, Counted}
use Rattle.qls_top.proofs.CutLines.{line_ended, line_goes_on, line_is_last, kept_length, rest_spent, counted_then}
use Rattle.qls_top.proofs.script.Script.next_line.Goals as goal

pub returns-then-branch-clause-cut : goal.returns-then-branch-clause-cut
returns-then-branch-clause-cut g c =
    line_ended c.args.self.now c.loop-self.self _ _ c.take_part.new.self c.loop-self.line.items c.take_part.new.line.items c.loop-self.invariant.read
    (subst (λ (b : Bool). TakesPart c.loop-self.self.waiting c.take_part.new.self.waiting c.loop-self.line.items c.take_part.new.line.items b) c.if-branch.true c.in_ok-take_part.ensures.part)

pub returns-then-not-branch-clause-cut : goal.returns-then-not-branch-clause-cut
returns-then-not-branch-clause-cut g c =
    line_is_last c.args.self.now c.loop-self.self c.take_part.new.self c.refill.new.self _ (g.R.Source.left c.loop-self.source) _ c.loop-self.line.items c.take_part.new.line.items c.is_empty.result
    c.loop-self.invariant.read
    (subst (λ (b : Bool). TakesPart c.loop-self.self.waiting c.take_part.new.self.waiting c.loop-self.line.items c.take_part.new.line.items b) c.if-branch.false c.in_ok-take_part.ensures.part)
    (subst (λ (b : Bool). Refills (g.R.Source.left c.loop-self.source) c.refill.new.self (g.R.Source.left c.refill.new.source) b) c.if-not-branch.true c.in_ok-refill.ensures.refilled)
    (c.is_empty.ensures ∙ ap (λ (xs : List ℕ). eqb (length xs) 0) c.as_slice.ensures.value)

pub loop-self-preserved : goal.loop-self-preserved
loop-self-preserved g c =
    let t : TakesPart c.loop-self.self.waiting c.take_part.new.self.waiting c.loop-self.line.items c.take_part.new.line.items false =
    subst (λ (b : Bool). TakesPart c.loop-self.self.waiting c.take_part.new.self.waiting c.loop-self.line.items c.take_part.new.line.items b) c.if-branch.false c.in_ok-take_part.ensures.part in
    let spent = rest_spent c.loop-self.self.waiting c.take_part.new.self.waiting c.loop-self.line.items c.take_part.new.line.items t in
    record {
      read = line_goes_on c.args.self.now c.loop-self.self c.take_part.new.self c.refill.new.self _ (g.R.Source.left c.loop-self.source) _ c.loop-self.line.items c.take_part.new.line.items
          c.loop-self.invariant.read t
          (subst (λ (b : Bool). Refills (g.R.Source.left c.loop-self.source) c.refill.new.self (g.R.Source.left c.refill.new.source) b) c.if-not-branch.false c.in_ok-refill.ensures.refilled);
      counted = counted_then c.args.self.now.budget c.loop-self.self.budget c.refill.new.self.budget _ (g.R.Source.left c.loop-self.source) _ true c.in_ok-refill.field-0 c.loop-self.invariant.counted
          (subst (λ (n : ℕ). Counted n (g.R.Source.left c.loop-self.source) c.refill.new.self.budget (g.R.Source.left c.refill.new.source) (Ok c.in_ok-refill.field-0)) c.in_ok-take_part.ensures.budget c.in_ok-refill.ensures.counted);
      nearer = omega (arith, spent.0, c.in_ok-refill.ensures.nearer, c.in_ok-take_part.ensures.budget, c.loop-self.invariant.nearer);
      short = kept_length c.loop-self.self.waiting c.take_part.new.self.waiting c.loop-self.line.items c.take_part.new.line.items false t;
      faults = omega (arith, c.loop-self.invariant.faults, c.in_ok-refill.ensures.kept);
    }
