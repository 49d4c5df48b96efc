use Rattle.std.proofs.Common.{sym, ◌∙◌, ap, arith}
use Rattle.qls_memsite.specs.Log.{begun, act_of}
use Rattle.qls_memsite.proofs.Moments.{stays, as_if_not, as_if, at_doubt, at_sure}
use Rattle.qls_memsite.proofs.past.scene_at.Goals as goal

pub returns-then-left-eq0 : goal.returns-then-left-eq0
returns-then-left-eq0 c = stays c.args.calls.now c.loop-call.call-index c.args.moment (begun c.args.start.now) _ (c.loop-call.invariant.here c.if-left-eq0.true)

pub returns-then-left-eq1 : goal.returns-then-left-eq1
returns-then-left-eq1 c =
    as_if_not c.args.calls.now c.loop-call.call-index c.args.moment c.call-item.result (begun c.args.start.now) _ c.loop-call-test.true c.call-item.is
    (sym c.is_in_doubt.ensures ∙ c.if-is_in_doubt.true) c.loop-call.invariant.same (omega (arith, c.loop-call.invariant.count, c.if-left-eq1.true))

pub returns-then-left-eq2 : goal.returns-then-left-eq2
returns-then-left-eq2 c =
    as_if c.args.calls.now c.loop-call.call-index c.args.moment c.call-item.result (begun c.args.start.now) _ c.loop-call-test.true c.call-item.is
    (sym c.is_in_doubt.ensures ∙ c.if-is_in_doubt.true) (c.in_ok-redo.ensures ∙ ap (act_of c.call-item.result) c.loop-call.invariant.same)
    (omega (arith, c.loop-call.invariant.count, c.if-left-eq2.true))

pub loop-call-preserved-then-is_in_doubt : goal.loop-call-preserved-then-is_in_doubt
loop-call-preserved-then-is_in_doubt c =
    at_doubt c.args.calls.now c.loop-call.call-index c.args.moment c.loop-call.left c.call-item.result (begun c.args.start.now) _ c.loop-call-test.true c.call-item.is
    (sym c.is_in_doubt.ensures ∙ c.if-is_in_doubt.true) c.loop-call.invariant (omega arith)

pub loop-call-preserved : goal.loop-call-preserved
loop-call-preserved c =
    at_sure c.args.calls.now c.loop-call.call-index c.args.moment c.loop-call.left c.call-item.result (begun c.args.start.now) _ _ c.loop-call-test.true c.call-item.is
    (sym c.is_in_doubt.ensures ∙ c.if-is_in_doubt.false) c.loop-call.invariant c.in_ok-redo-2.ensures (omega arith)
