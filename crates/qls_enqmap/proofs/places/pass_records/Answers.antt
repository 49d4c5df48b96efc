use Rattle.std.proofs.Common.{◌≡◌, ◌+◌, length, refl, ap, ◌∙◌, subst, arith}
use Rattle.qls_enqmap.specs.Slots.{IsPlace, before}
use Rattle.qls_enqmap.proofs.Counted.{within, next_count}
use Rattle.qls_enqmap.proofs.places.pass_records.Goals as goal

pub loop-passed-init : goal.loop-passed-init
loop-passed-init c = record {
  before = ap length c.next_held-place.ensures.same ∙ (let e : before c.args.slots.now.entries c.args.from ≡ before c.args.slots.now.entries c.args.from + 0 = omega arith in e);
  first = c.next_held-place.ensures.first;
}

pub overflow_add-place : goal.overflow_add-place
overflow_add-place c =
    let w = within c.args.slots.now.entries c.loop-passed.place (before c.args.slots.now.entries c.args.from + c.loop-passed._passed) c.loop-passed.invariant.before (omega (arith, c.requires.enough, c.loop-passed-test.true)) in
    omega (arith, w, c.len-len.ensures.len, c.len-len.ensures.small)

pub next_held-place-requires-in-loop-passed : goal.next_held-place-requires-in-loop-passed
next_held-place-requires-in-loop-passed c =
    let w = within c.args.slots.now.entries c.loop-passed.place (before c.args.slots.now.entries c.args.from + c.loop-passed._passed) c.loop-passed.invariant.before (omega (arith, c.requires.enough, c.loop-passed-test.true)) in
    record { within = omega (arith, w) }

pub loop-passed-preserved : goal.loop-passed-preserved
loop-passed-preserved c =
    let es = c.args.slots.now.entries in
    let p = c.loop-passed.place in
    let n = before es c.args.from + c.loop-passed._passed in
    let w = within es p n c.loop-passed.invariant.before (omega (arith, c.requires.enough, c.loop-passed-test.true)) in
    let e : n + 1 ≡ before es c.args.from + (c.loop-passed._passed + 1) = omega arith in
    record {
      before = ap length c.next_held-place-in-loop-passed.ensures.same ∙ next_count es p (p + 1) refl w c.loop-passed.invariant.first ∙ ap (λ k. k + 1) c.loop-passed.invariant.before ∙ e;
      first = c.next_held-place-in-loop-passed.ensures.first;
    }

pub returns : goal.returns
returns c = record { place = subst (λ n. IsPlace c.args.slots.now.entries (before c.args.slots.now.entries c.args.from + n) c.loop-passed.place) (omega arith) c.loop-passed.invariant }
