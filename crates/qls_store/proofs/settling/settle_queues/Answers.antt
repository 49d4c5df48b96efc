use Rattle.std.proofs.Common.{◌≡◌, ◌<◌, ℕ, List, length, take, Some, Ok, Err, IfOk, IfSome, refl, sym, ap, subst, ◌∙◌, rules, arith}
use Rattle.std.specs.List.{AllByRecursion, slice_get}
use Rattle.qls_model.specs.Machine.{change_queue}
use Rattle.qls_model.specs.Messages.{decided}
use Rattle.qls_model.specs.declared.machine.QueueState.{QueueState}
use Rattle.qls_decide.specs.declared.ListEntry.{ListEntry}
use Rattle.qls_decide.specs.Entries.{verdict_by}
use Rattle.qls_site.specs.Content.{Tells}
use Rattle.qls_prepared.specs.Lists.{PreparedState}
use Rattle.qls_journals.specs.State.{JournalsState, queues_of}
use Rattle.qls_store.specs.Settling.{IsDoubted, StopsInQueue}
use Rattle.qls_store.proofs.Keys.{all_at}
use Rattle.qls_store.proofs.States.{rises_by}
use Rattle.qls_store.proofs.Together.{calls_then, calls_none, calls_error, fits_then}
use Rattle.qls_store.proofs.SettledQueues.{at_settled, before_settled, place_within, queue_at, settled_next, some_at, stops_in_one}
use Rattle.qls_store.proofs.settling.settle_queues.Goals as goal

pub loop-at-init : goal.loop-at-init
loop-at-init g c = record {
  count = c.queue_count-count.ensures.counted;
  queues = refl;
  list = refl;
  kept = c.requires.journals;
  fits = c.requires.fits;
  called = calls_none c.args.journals _ _ _ _ c.requires.fits;
  still = λ h. (refl, refl);
}

pub settle_queue-requires-clause-place : goal.settle_queue-requires-clause-place
settle_queue-requires-clause-place g c =
    let inv = c.loop-at.invariant in
    let within : c.loop-at.at < length c.args.journals.queues = omega (arith, c.loop-at-test.true, inv.count) in
    place_within (verdict_by c.args.entries.now) c.args.journals c.loop-at.settled c.loop-at.at inv.queues within

pub settle_queue-requires-clause-before : goal.settle_queue-requires-clause-before
settle_queue-requires-clause-before g c =
    let v = verdict_by c.args.entries.now in
    subst (λ (qs : List QueueState). AllByRecursion (IsDoubted v) (take c.loop-at.at qs)) (sym c.loop-at.invariant.queues) (before_settled v c.loop-at.at (queues_of c.args.journals))

pub returns-in_err-settled-clause-called : goal.returns-in_err-settled-clause-called
returns-in_err-settled-clause-called g c =
    let is : Err c.in_err-settled.field-0.0 ≡ c.from_residual.result = search (rules, c.from_residual.ensures) in
    calls_then c.args.journals c.loop-at.settled c.from_residual.result _ _ _ _ _ _ _ _ _ _ _ _ c.loop-at.invariant.called
    (calls_error c.loop-at.settled c.in_err-settled.field-0.0 c.from_residual.result _ _ _ _ _ _ _ _ is c.in_err-settled.ensures.called)

pub returns-in_err-settled-clause-spent : goal.returns-in_err-settled-clause-spent
returns-in_err-settled-clause-spent g c = λ e.
    let is : Err c.in_err-settled.field-0.0 ≡ c.from_residual.result = search (rules, c.from_residual.ensures) in
    let inv = c.loop-at.invariant in
    let at = c.loop-at.at in
    let was = c.args.journals in
    let mid = c.loop-at.settled in
    let within : at < length was.queues = omega (arith, c.loop-at-test.true, inv.count) in
    let q = queue_at was at within in
    let here : slice_get (queues_of mid) at ≡ Some q.0 = ap (λ (qs : List QueueState). slice_get qs at) inv.queues ∙ at_settled (verdict_by c.args.entries.now) at (queues_of was) ∙ q.1 in
    stops_in_one was mid inv.called.homes inv.list at q.0 q.1 _ _ _ inv.called.told
    (some_at (λ (q : QueueState). Tells (StopsInQueue mid q) (g.S.Site.told c.loop-at.site) (g.S.Site.told c.settle_queue.new.site)) (slice_get (queues_of mid) at) q.0 here (c.in_err-settled.ensures.spent (is ∙ e)))

pub loop-at-preserved : goal.loop-at-preserved
loop-at-preserved g c =
    let inv = c.loop-at.invariant in
    let at = c.loop-at.at in
    let was = c.args.journals in
    let mid = c.loop-at.settled in
    let now = c.in_ok-settled.settled in
    let done = c.in_ok-settled.ensures in
    let v = verdict_by c.args.entries.now in
    let within : at < length was.queues = omega (arith, c.loop-at-test.true, inv.count) in
    let q = queue_at was at within in
    let here : slice_get (queues_of mid) at ≡ Some q.0 = ap (λ (qs : List QueueState). slice_get qs at) inv.queues ∙ at_settled v at (queues_of was) ∙ q.1 in
    record {
      count = inv.count;
      queues = some_at (λ (q : QueueState). queues_of now ≡ change_queue q.name (decided v) (queues_of mid)) (slice_get (queues_of mid) at) q.0 here done.queues
          ∙ ap (change_queue q.0.name (decided v)) inv.queues ∙ settled_next v at (queues_of was) q.0 (rises_by was.queues c.requires.journals.rising) q.1;
      list = done.list ∙ inv.list;
      kept = done.kept;
      fits = fits_then mid now _ _ done.called.told inv.fits;
      called = calls_then was mid (Ok now) _ _ _ _ _ _ _ _ _ _ _ _ inv.called done.called;
      still = λ h.
          let first = inv.still h in
          let next = some_at (λ (q : QueueState). IsDoubted v q → (now ≡ mid) × (c.settle_queue.new.site ≡ c.loop-at.site)) (slice_get (queues_of mid) at) q.0 here done.still (all_at (IsDoubted v) (queues_of was) at q.0 h q.1) in
          (next.0 ∙ first.0, next.1 ∙ first.1);
    }
