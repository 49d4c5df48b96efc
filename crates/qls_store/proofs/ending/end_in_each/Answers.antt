use Rattle.std.proofs.Common.{◌≡◌, Ok, Err, refl, ◌∙◌, rules, arith}
use Rattle.qls_journals.specs.Moments.{Changes}
use Rattle.qls_journals.specs.State.{queues_of}
use Rattle.qls_store.proofs.Together.{calls_then, calls_none, calls_error, fits_then, told_passes}
use Rattle.qls_store.proofs.Each.{next_ended, later_there, stops_here, next_had, alive_then, alive_still}
use Rattle.qls_store.proofs.Deciding.{next_first, next_left}
use Rattle.qls_store.proofs.ending.end_in_each.Goals as goal

pub end_in_one-requires-clause-order : goal.end_in_one-requires-clause-order
end_in_one-requires-clause-order g c =
    next_first c.args.ends.now c.args.names.now c.loop-name.name-index c.name-item.result c.loop-name-test.true c.name-item.is (queues_of c.loop-name.journals) c.loop-name.invariant.left

pub loop-name-init : goal.loop-name-init
loop-name-init g c = record {
  queues = refl;
  list = refl;
  kept = c.requires.journals;
  left = c.requires.all;
  there = c.requires.there;
  fits = c.requires.fits;
  called = calls_none c.args.journals _ _ _ _ c.requires.fits;
  alive = alive_still c.args.journals _;
  first = λ e. (refl, refl);
  had = λ h. absurd (omega (arith, h));
}

pub returns-in_err-journals-clause-called : goal.returns-in_err-journals-clause-called
returns-in_err-journals-clause-called g c =
    let is : Err c.in_err-journals.field-0.0 ≡ c.from_residual.result = search (rules, c.from_residual.ensures) in
    calls_then c.args.journals c.loop-name.journals c.from_residual.result _ _ _ _ _ _ _ _ _ _ _ _ c.loop-name.invariant.called
    (calls_error c.loop-name.journals c.in_err-journals.field-0.0 c.from_residual.result _ _ _ _ _ _ _ _ is c.in_err-journals.ensures.called)

pub returns-in_err-journals-clause-spent : goal.returns-in_err-journals-clause-spent
returns-in_err-journals-clause-spent g c = λ e.
    let is : Err c.in_err-journals.field-0.0 ≡ c.from_residual.result = search (rules, c.from_residual.ensures) in
    stops_here c.args.journals c.loop-name.journals c.loop-name.invariant.called.homes c.args.names.now c.loop-name.name-index c.name-item.result _ _ _ c.loop-name-test.true c.name-item.is c.loop-name.invariant.called.told
    (c.in_err-journals.ensures.spent (is ∙ e))

pub loop-name-preserved : goal.loop-name-preserved
loop-name-preserved g c =
    let names = c.args.names.now in
    let i = c.loop-name.name-index in
    let n = c.name-item.result in
    let there = c.loop-name-test.true in
    let is = c.name-item.is in
    let was = c.args.journals in
    let mid = c.loop-name.journals in
    let now = c.in_ok-journals.journals in
    let inv = c.loop-name.invariant in
    let done = c.in_ok-journals.ensures in
    record {
      queues = next_ended names i n c.args.ends.now (queues_of mid) (queues_of now) _ there is inv.queues done.queues;
      list = done.list ∙ inv.list;
      kept = done.kept;
      left = next_left c.args.ends.now c.requires.one names i n there is mid (queues_of now) inv.kept.rising inv.left done.queues;
      there = later_there names i n c.args.ends.now (queues_of mid) (queues_of now) there is inv.there done.queues;
      fits = fits_then mid now _ _ done.called.told inv.fits;
      called = calls_then was mid (Ok now) _ _ _ _ _ _ _ _ _ _ _ _ inv.called done.called;
      alive = alive_then was mid now (Changes was mid) _ _ _ inv.called.told inv.alive done.alive;
      first = λ e. absurd (omega (arith, e));
      had = λ h. next_had was mid names i n _ _ _ there is inv.first inv.had done.had (told_passes mid (Ok now) _ _ done.called.told);
    }
