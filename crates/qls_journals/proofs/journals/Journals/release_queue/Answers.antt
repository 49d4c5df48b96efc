use Rattle.std.proofs.Common.{◌<◌, ◌+◌, length, take, IfSome, Ok, Err, refl, sym, ap, subst, ◌∙◌}
use Rattle.std.proofs.Math.ListN.{set}
use Rattle.qls_site.specs.Content.{Tells}
use Rattle.qls_pool.specs.Pools.{PoolState}
use Rattle.qls_pool.specs.Files.{OnDisk}
use Rattle.qls_queue.specs.Live.{LiveState}
use Rattle.qls_journals.specs.declared.cause.Cause.{Cause}
use Rattle.qls_journals.specs.Moments.{StaysWritten}
use Rattle.qls_journals.specs.Releasing.{AreSame, GivesBack, HasGivenBack, NextComesAlive}
use Rattle.qls_journals.specs.State.{AreReleased, Fits, JournalsState}
use Rattle.qls_journals.proofs.Dropping.{causes_dropped}
use Rattle.qls_journals.proofs.Placed.{Placed, placed, placed_kept, placed_there}
use Rattle.qls_journals.proofs.ReleasedQueue.{QueueGivesBack, next_released, released_more, same_after, same_queue, told_done, told_gives, told_next}
use Rattle.qls_journals.proofs.Writing.{NextQueue, journals_after, writes_done, writes_failed}
use Rattle.qls_journals.proofs.journals.Journals.release_queue.Given.{Over}
use Rattle.qls_journals.proofs.journals.Journals.release_queue.Goals as goal

pub release-requires-clause-unended : goal.release-requires-clause-unended
release-requires-clause-unended g c =
    let s : JournalsState = record { home = c.self.inside.home; pool = c.self.inside.pool; queues = c.self.inside.queues.items; list = c.self.inside.list } in
    let q : LiveState = c.index_mut.result.now in
    let p : Placed s c.args.at q = placed s c.args.at q c.self.invariant (subst (λ (w : JournalsState). c.args.at < length w.queues) (sym c.self.view_is) c.requires.place) c.index_mut.ensures.value in
    (placed_kept s c.args.at q p).unended

pub release-requires-clause-there : goal.release-requires-clause-there
release-requires-clause-there g c =
    let s : JournalsState = record { home = c.self.inside.home; pool = c.self.inside.pool; queues = c.self.inside.queues.items; list = c.self.inside.list } in
    let q : LiveState = c.index_mut.result.now in
    let p : Placed s c.args.at q = placed s c.args.at q c.self.invariant (subst (λ (w : JournalsState). c.args.at < length w.queues) (sym c.self.view_is) c.requires.place) c.index_mut.ensures.value in
    let fits : IfSome (g.S.Site.told c.args.site.now) (OnDisk (Fits s)) = subst (λ w. IfSome (g.S.Site.told c.args.site.now) (OnDisk (Fits w))) (sym c.self.view_is) c.requires.fits in
    placed_there s c.args.at q p (g.S.Site.told c.args.site.now) fits

-- ---- at Ok

-- the journals before the call, the queue at the place, and the queue behind it
abbrev was_in : (g : Over) (c : goal.In-Ok g) → JournalsState
was_in g c = record { home = c.self.inside.home; pool = c.self.inside.pool; queues = c.self.inside.queues.items; list = c.self.inside.list }

within_in : (g : Over) (c : goal.In-Ok g) → c.args.at < length (was_in g c).queues
within_in g c = subst (λ (w : JournalsState). c.args.at < length w.queues) (sym c.self.view_is) c.requires.place

placed_in : (g : Over) (c : goal.In-Ok g) → Placed (was_in g c) c.args.at c.index_mut.result.now
placed_in g c = placed (was_in g c) c.args.at c.index_mut.result.now c.self.invariant (within_in g c) c.index_mut.ensures.value

next_in : (g : Over) (c : goal.In-Ok g) → NextQueue c.index_mut.result.now c.release.new.self
next_in g c = next_released c.index_mut.result.now c.release.new.self (placed_kept (was_in g c) c.args.at c.index_mut.result.now (placed_in g c)) c.in-Ok.ensures.queue c.in-Ok.ensures.ended c.in-Ok.ensures.sound c.in-Ok.ensures.log

gives_in : (g : Over) (c : goal.In-Ok g) → Tells (GivesBack (was_in g c)) (g.S.Site.told c.args.site.now) (g.S.Site.told c.release.new.site)
gives_in g c =
    let p = placed_in g c in
    told_gives (was_in g c) p.all c.args.at c.index_mut.result.now p.place p.held {X = Unit {0}} (Ok (tt {0})) _ _ c.in-Ok.ensures.went c.in-Ok.ensures.none c.in-Ok.ensures.leaves

pub invariant_of-self : goal.invariant_of-self
invariant_of-self g c = let p = placed_in g c in journals_after (was_in g c) p.all c.args.at c.index_mut.result.now p.place p.held c.release.new.self c.release.new.pool (next_in g c)

pub returns-in-Ok-clause-kept : goal.returns-in-Ok-clause-kept
returns-in-Ok-clause-kept g c = let p = placed_in g c in journals_after (was_in g c) p.all c.args.at c.index_mut.result.now p.place p.held c.release.new.self c.release.new.pool (next_in g c)

pub returns-in-Ok-clause-same : goal.returns-in-Ok-clause-same
returns-in-Ok-clause-same g c =
    let s : JournalsState = was_in g c in
    let q : LiveState = c.index_mut.result.now in
    let p = placed_in g c in
    let r : LiveState = c.release.new.self in
    subst (λ (w : JournalsState). AreSame w (record { home = s.home; pool = c.release.new.pool; queues = set s.queues c.args.at r; list = s.list })) c.self.view_is
    (same_after s p.all c.args.at q p.place p.held r c.release.new.pool (next_in g c) (ap (λ (u : LiveState). u.queue) c.in-Ok.ensures.queue ∙ same_queue q (placed_kept s c.args.at q p).sound))

pub returns-in-Ok-clause-released : goal.returns-in-Ok-clause-released
returns-in-Ok-clause-released g c =
    let s : JournalsState = was_in g c in
    subst (λ (w : JournalsState). AreReleased (take c.args.at w.queues) → AreReleased (take (c.args.at + 1) (set s.queues c.args.at c.release.new.self))) c.self.view_is
    (released_more s.queues c.args.at c.release.new.self (within_in g c) c.in-Ok.ensures.one)

pub returns-in-Ok-clause-gives : goal.returns-in-Ok-clause-gives
returns-in-Ok-clause-gives g c = subst (λ (w : JournalsState). Tells (GivesBack w) (g.S.Site.told c.args.site.now) (g.S.Site.told c.release.new.site)) c.self.view_is (gives_in g c)

pub returns-in-Ok-clause-done : goal.returns-in-Ok-clause-done
returns-in-Ok-clause-done g c =
    let s : JournalsState = was_in g c in
    let q : LiveState = c.index_mut.result.now in
    let p = placed_in g c in
    let r : LiveState = c.release.new.self in
    let left : PoolState = c.release.new.pool in
    let is = c.in-Ok.ensures in
    let fits : IfSome (g.S.Site.told c.args.site.now) (OnDisk (Fits s)) = subst (λ w. IfSome (g.S.Site.told c.args.site.now) (OnDisk (Fits w))) (sym c.self.view_is) c.requires.fits in
    let done : QueueGivesBack q r s.pool left (g.S.Site.told c.args.site.now) (g.S.Site.told c.release.new.site) = record { went = is.went; back = is.told; quiet = is.quiet; there = is.there; whole = is.pool; limit = is.limit; clean = is.clean; still = is.still } in
    subst (λ (w : JournalsState). Tells (HasGivenBack w (record { home = s.home; pool = left; queues = set s.queues c.args.at r; list = s.list })) (g.S.Site.told c.args.site.now) (g.S.Site.told c.release.new.site)) c.self.view_is
    (told_done s p.all c.args.at q p.place p.held r left (next_in g c) _ _ fits (gives_in g c) done)

pub returns-in-Ok-clause-alive : goal.returns-in-Ok-clause-alive
returns-in-Ok-clause-alive g c =
    let s : JournalsState = was_in g c in
    let q : LiveState = c.index_mut.result.now in
    let p = placed_in g c in
    let r : LiveState = c.release.new.self in
    let left : PoolState = c.release.new.pool in
    subst (λ (w : JournalsState). Tells (NextComesAlive c.args.at w (record { home = s.home; pool = left; queues = set s.queues c.args.at r; list = s.list })) (g.S.Site.told c.args.site.now) (g.S.Site.told c.release.new.site)) c.self.view_is
    (told_next s p.all c.args.at q p.place p.held r left (next_in g c) (within_in g c) _ _ c.in-Ok.ensures.went c.in-Ok.ensures.clean)

pub returns-in-Ok-clause-writes : goal.returns-in-Ok-clause-writes
returns-in-Ok-clause-writes g c =
    let s : JournalsState = was_in g c in
    let q : LiveState = c.index_mut.result.now in
    let p = placed_in g c in
    let r : LiveState = c.release.new.self in
    let left : PoolState = c.release.new.pool in
    let fits : IfSome (g.S.Site.told c.args.site.now) (OnDisk (Fits s)) = subst (λ w. IfSome (g.S.Site.told c.args.site.now) (OnDisk (Fits w))) (sym c.self.view_is) c.requires.fits in
    subst (λ (w : JournalsState). Tells (StaysWritten {X = JournalsState} {E = Cause} (Ok (record { home = s.home; pool = left; queues = set s.queues c.args.at r; list = s.list })) (λ (x : JournalsState). x) w) (g.S.Site.told c.args.site.now) (g.S.Site.told c.release.new.site)) c.self.view_is
    (writes_done s p.all c.args.at q p.place p.held r left (next_in g c) c.files_that_stay_stay_written.ensures.stays (tt {0}) (record { home = s.home; pool = left; queues = set s.queues c.args.at r; list = s.list }) (λ (x : JournalsState). x) (g.S.Site.told c.args.site.now) (g.S.Site.told c.release.new.site) refl fits c.in-Ok.ensures.went c.in-Ok.ensures.writes)

-- ---- after an error

pub returns-in-Err-clause-gives : goal.returns-in-Err-clause-gives
returns-in-Err-clause-gives g c =
    let s : JournalsState = record { home = c.self.inside.home; pool = c.self.inside.pool; queues = c.self.inside.queues.items; list = c.self.inside.list } in
    let q : LiveState = c.index_mut.result.now in
    let p : Placed s c.args.at q = placed s c.args.at q c.self.invariant (subst (λ (w : JournalsState). c.args.at < length w.queues) (sym c.self.view_is) c.requires.place) c.index_mut.ensures.value in
    subst (λ (w : JournalsState). Tells (GivesBack w) (g.S.Site.told c.args.site.now) (g.S.Site.told c.release.new.site)) c.self.view_is
    (told_gives s p.all c.args.at q p.place p.held {X = Unit {0}} (Err c.in-Err.error) _ _ c.in-Err.ensures.went c.in-Err.ensures.none c.in-Err.ensures.leaves)

pub returns-in-Err-clause-writes : goal.returns-in-Err-clause-writes
returns-in-Err-clause-writes g c =
    let s : JournalsState = record { home = c.self.inside.home; pool = c.self.inside.pool; queues = c.self.inside.queues.items; list = c.self.inside.list } in
    let q : LiveState = c.index_mut.result.now in
    let p : Placed s c.args.at q = placed s c.args.at q c.self.invariant (subst (λ (w : JournalsState). c.args.at < length w.queues) (sym c.self.view_is) c.requires.place) c.index_mut.ensures.value in
    subst (λ (w : JournalsState). Tells (StaysWritten {X = JournalsState} {E = Cause} (Err c.cause_of_queue.result) (λ (x : JournalsState). x) w) (g.S.Site.told c.args.site.now) (g.S.Site.told c.release.new.site)) c.self.view_is
    (writes_failed s p.all c.args.at q p.place p.held {X = Unit {0}} (Err c.in-Err.error) c.release.new.self c.cause_of_queue.result (λ (x : JournalsState). x) (g.S.Site.told c.args.site.now) (g.S.Site.told c.release.new.site) c.in-Err.ensures.writes)

pub returns-in-Err-clause-causes : goal.returns-in-Err-clause-causes
returns-in-Err-clause-causes g c = causes_dropped c.in-Err.error c.cause_of_queue.result _ _ c.release.result c.in-Err.is c.in-Err.ensures.only c.cause_of_queue.ensures.exact c.release.ensures.cause
