use Rattle.std.proofs.Common.{◌≡◌, List, length, take, Result, Ok, Err, ap, subst, ◌∙◌, arith}
use Rattle.std.proofs.Math.Seq.{take-length}
use Rattle.qls_site.specs.Content.{Tells}
use Rattle.qls_queue.specs.Live.{LiveState}
use Rattle.qls_journals.specs.declared.cause.Cause.{Cause}
use Rattle.qls_journals.specs.Moments.{Changes, IsStoreStep}
use Rattle.qls_journals.specs.Releasing.{GivesBack}
use Rattle.qls_journals.specs.State.{AreReleased, JournalsState}
use Rattle.qls_journals.proofs.Dropping.{pools_untaken}
use Rattle.qls_journals.proofs.Placed.{ends_err}
use Rattle.qls_journals.proofs.Releases.{as_many, clean_all, given_back, given_next, gives_next, leaves_back, passes_back, same_then, takes_back, writes_err, writes_next}
use Rattle.qls_journals.proofs.journals.Journals.release.Given.{Over}
use Rattle.qls_journals.proofs.journals.Journals.release.Goals.{After-from_residual-in_err-journals-2, After-loop-at}
use Rattle.qls_journals.proofs.journals.Journals.release.Goals as goal

-- ---- the list's files can't go back

pub returns-in_err-journals-clause-pools : goal.returns-in_err-journals-clause-pools
returns-in_err-journals-clause-pools g c = λ homes.
    pools_untaken homes IsStoreStep _ _ (passes_back c.args.self _ _ c.in_err-journals.ensures.gives) (takes_back c.args.self _ _ c.in_err-journals.ensures.gives)

-- ---- those of the next queue

pub release_queue-requires-clause-place : goal.release_queue-requires-clause-place
release_queue-requires-clause-place g c =
    let many : length c.loop-at.journals.queues ≡ length c.args.self.queues = as_many c.args.self c.loop-at.journals c.loop-at.invariant.same in
    let bound : c.queue_count-at-end.result ≡ length c.args.self.queues = c.queue_count-at-end.ensures.counted ∙ ap (λ (qs : List LiveState). length qs) c.in_ok-journals.ensures.queues in
    omega (arith, c.loop-at-test.true, many, bound)

gives_so : (g : Over) (c : After-from_residual-in_err-journals-2 g) → Tells (GivesBack c.args.self) (g.S.Site.told c.args.site.now) (g.S.Site.told c.release_queue.new.site)
gives_so g c = gives_next c.loop-at.at c.args.self c.loop-at.journals _ _ _ c.loop-at.invariant.given c.in_err-journals-2.ensures.gives

pub returns-in_err-journals-2-clause-told : goal.returns-in_err-journals-2-clause-told
returns-in_err-journals-2-clause-told g c =
    ends_err IsStoreStep (λ x. Changes c.args.self x) c.from_residual-in_err-journals-2.result _ _ c.from_residual-in_err-journals-2.ensures.0 (passes_back c.args.self _ _ (gives_so g c))

pub returns-in_err-journals-2-clause-none : goal.returns-in_err-journals-2-clause-none
returns-in_err-journals-2-clause-none g c = takes_back c.args.self _ _ (gives_so g c)

pub returns-in_err-journals-2-clause-leaves : goal.returns-in_err-journals-2-clause-leaves
returns-in_err-journals-2-clause-leaves g c = leaves_back c.args.self _ _ (gives_so g c)

pub returns-in_err-journals-2-clause-writes : goal.returns-in_err-journals-2-clause-writes
returns-in_err-journals-2-clause-writes g c =
    let failed : Result JournalsState Cause = Err c.in_err-journals-2.field-0.0 in
    writes_err failed c.from_residual-in_err-journals-2.result c.args.self _ _ c.from_residual-in_err-journals-2.ensures.0
    (writes_next c.loop-at.at c.args.self c.loop-at.journals failed _ _ _ c.loop-at.invariant.given c.in_err-journals-2.ensures.gives c.loop-at.invariant.writes c.in_err-journals-2.ensures.writes)

pub returns-in_err-journals-2-clause-pools : goal.returns-in_err-journals-2-clause-pools
returns-in_err-journals-2-clause-pools g c = λ homes.
    pools_untaken homes IsStoreStep _ _ (passes_back c.args.self _ _ (gives_so g c)) (takes_back c.args.self _ _ (gives_so g c))

pub loop-at-preserved : goal.loop-at-preserved
loop-at-preserved g c =
    let was = c.loop-at.invariant in
    let is = c.in_ok-journals-2.ensures in
    let s : JournalsState = c.args.self in
    let t : JournalsState = c.loop-at.journals in
    let u : JournalsState = c.in_ok-journals-2.journals in
    record {
      same = same_then s t u was.same is.same;
      kept = is.kept;
      given = given_next c.loop-at.at s t u _ _ _ was.given is.done is.alive;
      writes = writes_next c.loop-at.at s t (Ok u) _ _ _ was.given is.gives was.writes is.writes;
      released = is.released was.released;
      faults = omega (arith, was.faults, is.causes.kept);
    }

-- ---- all went back

all_in : (g : Over) (c : After-loop-at g) → c.loop-at.at ≡ length c.loop-at.journals.queues
all_in g c =
    let many : length c.loop-at.journals.queues ≡ length c.args.self.queues = as_many c.args.self c.loop-at.journals c.loop-at.invariant.same in
    let bound : c.queue_count-at-end.result ≡ length c.args.self.queues = c.queue_count-at-end.ensures.counted ∙ ap (λ (qs : List LiveState). length qs) c.in_ok-journals.ensures.queues in
    omega (arith, c.loop-at-test.false, c.loop-at.auto.at-end, many, bound)

pub returns-clause-released : goal.returns-clause-released
returns-clause-released g c = subst AreReleased (ap (λ n. take n c.loop-at.journals.queues) (all_in g c) ∙ take-length c.loop-at.journals.queues) c.loop-at.invariant.released

pub returns-clause-clean : goal.returns-clause-clean
returns-clause-clean g c = clean_all c.loop-at.at c.args.self c.loop-at.journals _ _ (all_in g c) c.loop-at.invariant.given

pub returns-clause-pools : goal.returns-clause-pools
returns-clause-pools g c = λ homes.
    let back = given_back c.loop-at.at c.args.self c.loop-at.journals _ _ c.loop-at.invariant.given in
    pools_untaken homes IsStoreStep _ _ (passes_back c.args.self _ _ back) (takes_back c.args.self _ _ back)
