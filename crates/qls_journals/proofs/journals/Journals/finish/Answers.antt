use Rattle.std.proofs.Common.{◌≡◌, ◌<◌, length, IfSome, Result, Ok, Err, refl, sym, ap, subst, ◌∙◌}
use Rattle.std.specs.List.{slice_get}
use Rattle.std.proofs.Math.ListN.{set}
use Rattle.qls_model.specs.Machine.{change_queue}
use Rattle.qls_model.specs.declared.machine.QueueState.{QueueState}
use Rattle.qls_site.specs.Content.{Tells}
use Rattle.qls_filehdr.specs.declared.JournalKind.TheVariants.{Queue}
use Rattle.qls_pool.specs.Pools.{PoolState}
use Rattle.qls_pool.specs.Files.{OnDisk, Carries}
use Rattle.qls_pool.specs.Moments.{Passes}
use Rattle.qls_log.specs.Steps.{IsLogStep}
use Rattle.qls_queue.specs.Live.{LiveState}
use Rattle.qls_queue.specs.Records.{end_records, ended_by}
use Rattle.qls_queue.specs.declared.fault.QueueError.{QueueError}
use Rattle.qls_queue.specs.declared.fault.QueueError.TheVariants as queue
use Rattle.qls_journals.specs.declared.cause.Cause.{Cause}
use Rattle.qls_journals.specs.Ends.{HadRoom, StopsAtEnd}
use Rattle.qls_journals.specs.Homes.{homes_of, SameHomes, TakesFromHome}
use Rattle.qls_journals.specs.Moments.{Changes, LeavesDead, StaysWritten}
use Rattle.qls_journals.specs.State.{JournalsState, queues_of, Fits, IsListAlive, AreReleased}
use Rattle.qls_journals.proofs.Answering.{ended_name, no_end}
use Rattle.qls_journals.proofs.Making.{causes_made}
use Rattle.qls_journals.proofs.Placed.{Placed, placed, placed_kept, placed_there, if_placed, next_queue, spent_of, told_had, told_stops, arrives_if_exact}
use Rattle.qls_journals.proofs.Writing.{NextQueue, CallDone, opening_is, journals_after, released_after, queues_after, journals_pass, homes_kept, pools_pass, leaves_so, writes_failed, writes_done, changes_done, told_alive}
use Rattle.qls_journals.proofs.journals.Journals.finish.Goals as goal

pub finish-requires-clause-unended : goal.finish-requires-clause-unended
finish-requires-clause-unended g c =
    let s : JournalsState = record { home = c.self.inside.home; pool = c.self.inside.pool; queues = c.self.inside.queues.items; list = c.self.inside.list } in
    let q : LiveState = c.index_mut.result.now in
    let p : Placed s c.args.at q = placed s c.args.at q c.self.invariant (subst (λ (w : JournalsState). c.args.at < length w.queues) (sym c.self.view_is) c.requires.place) c.index_mut.ensures.value in
    (placed_kept s c.args.at q p).unended

pub finish-requires-clause-there : goal.finish-requires-clause-there
finish-requires-clause-there g c =
    let s : JournalsState = record { home = c.self.inside.home; pool = c.self.inside.pool; queues = c.self.inside.queues.items; list = c.self.inside.list } in
    let q : LiveState = c.index_mut.result.now in
    let p : Placed s c.args.at q = placed s c.args.at q c.self.invariant (subst (λ (w : JournalsState). c.args.at < length w.queues) (sym c.self.view_is) c.requires.place) c.index_mut.ensures.value in
    let fits : IfSome (g.S.Site.told c.args.site.now) (OnDisk (Fits s)) = subst (λ w. IfSome (g.S.Site.told c.args.site.now) (OnDisk (Fits w))) (sym c.self.view_is) c.requires.fits in
    placed_there s c.args.at q p (g.S.Site.told c.args.site.now) fits

pub invariant_of-self : goal.invariant_of-self
invariant_of-self g c =
    let s : JournalsState = record { home = c.self.inside.home; pool = c.self.inside.pool; queues = c.self.inside.queues.items; list = c.self.inside.list } in
    let q : LiveState = c.index_mut.result.now in
    let p : Placed s c.args.at q = placed s c.args.at q c.self.invariant (subst (λ (w : JournalsState). c.args.at < length w.queues) (sym c.self.view_is) c.requires.place) c.index_mut.ensures.value in
    let r : LiveState = c.finish.new.self in
    let left : PoolState = c.finish.new.pool in
    let next : NextQueue q r = next_queue q r (placed_kept s c.args.at q p) (opening_is (end_records q.queue.last c.args.ends.now) q r s.pool left _ _ _ _ c.in-Ok.ensures.written) (ap (λ (x : QueueState). x.name) c.in-Ok.ensures.queue ∙ ended_name c.args.ends.now q.queue) c.in-Ok.ensures.ended c.in-Ok.ensures.sound c.in-Ok.ensures.log in
    journals_after s p.all c.args.at q p.place p.held r left next

pub returns-in-Ok-clause-queues : goal.returns-in-Ok-clause-queues
returns-in-Ok-clause-queues g c =
    let s : JournalsState = record { home = c.self.inside.home; pool = c.self.inside.pool; queues = c.self.inside.queues.items; list = c.self.inside.list } in
    let q : LiveState = c.index_mut.result.now in
    let p : Placed s c.args.at q = placed s c.args.at q c.self.invariant (subst (λ (w : JournalsState). c.args.at < length w.queues) (sym c.self.view_is) c.requires.place) c.index_mut.ensures.value in
    let r : LiveState = c.finish.new.self in
    let left : PoolState = c.finish.new.pool in
    let next : NextQueue q r = next_queue q r (placed_kept s c.args.at q p) (opening_is (end_records q.queue.last c.args.ends.now) q r s.pool left _ _ _ _ c.in-Ok.ensures.written) (ap (λ (x : QueueState). x.name) c.in-Ok.ensures.queue ∙ ended_name c.args.ends.now q.queue) c.in-Ok.ensures.ended c.in-Ok.ensures.sound c.in-Ok.ensures.log in
    subst (λ (w : JournalsState). IfSome (slice_get w.queues c.args.at) (λ (u : LiveState). queues_of (record { home = s.home; pool = left; queues = set s.queues c.args.at r; list = s.list }) ≡ change_queue u.queue.name (ended_by c.args.ends.now) (queues_of w))) c.self.view_is
    (if_placed s c.args.at q (λ (u : LiveState). queues_of (record { home = s.home; pool = left; queues = set s.queues c.args.at r; list = s.list }) ≡ change_queue u.queue.name (ended_by c.args.ends.now) (queues_of s)) p
    (queues_after s p.all c.args.at q p.place p.held r left next (ended_by c.args.ends.now) c.in-Ok.ensures.queue))

pub returns-in-Ok-clause-list : goal.returns-in-Ok-clause-list
returns-in-Ok-clause-list g c =
    ap (λ (w : JournalsState). w.list) c.self.view_is

pub returns-in-Ok-clause-kept : goal.returns-in-Ok-clause-kept
returns-in-Ok-clause-kept g c =
    let s : JournalsState = record { home = c.self.inside.home; pool = c.self.inside.pool; queues = c.self.inside.queues.items; list = c.self.inside.list } in
    let q : LiveState = c.index_mut.result.now in
    let p : Placed s c.args.at q = placed s c.args.at q c.self.invariant (subst (λ (w : JournalsState). c.args.at < length w.queues) (sym c.self.view_is) c.requires.place) c.index_mut.ensures.value in
    let r : LiveState = c.finish.new.self in
    let left : PoolState = c.finish.new.pool in
    let next : NextQueue q r = next_queue q r (placed_kept s c.args.at q p) (opening_is (end_records q.queue.last c.args.ends.now) q r s.pool left _ _ _ _ c.in-Ok.ensures.written) (ap (λ (x : QueueState). x.name) c.in-Ok.ensures.queue ∙ ended_name c.args.ends.now q.queue) c.in-Ok.ensures.ended c.in-Ok.ensures.sound c.in-Ok.ensures.log in
    journals_after s p.all c.args.at q p.place p.held r left next

pub returns-in-Ok-clause-released : goal.returns-in-Ok-clause-released
returns-in-Ok-clause-released g c =
    let s : JournalsState = record { home = c.self.inside.home; pool = c.self.inside.pool; queues = c.self.inside.queues.items; list = c.self.inside.list } in
    let q : LiveState = c.index_mut.result.now in
    let p : Placed s c.args.at q = placed s c.args.at q c.self.invariant (subst (λ (w : JournalsState). c.args.at < length w.queues) (sym c.self.view_is) c.requires.place) c.index_mut.ensures.value in
    let r : LiveState = c.finish.new.self in
    let left : PoolState = c.finish.new.pool in
    let next : NextQueue q r = next_queue q r (placed_kept s c.args.at q p) (opening_is (end_records q.queue.last c.args.ends.now) q r s.pool left _ _ _ _ c.in-Ok.ensures.written) (ap (λ (x : QueueState). x.name) c.in-Ok.ensures.queue ∙ ended_name c.args.ends.now q.queue) c.in-Ok.ensures.ended c.in-Ok.ensures.sound c.in-Ok.ensures.log in
    subst (λ (w : JournalsState). AreReleased w.queues → AreReleased (set s.queues c.args.at r)) c.self.view_is (released_after s p.all c.args.at q p.place p.held r left next c.in-Ok.ensures.one)

pub returns-in-Ok-clause-told : goal.returns-in-Ok-clause-told
returns-in-Ok-clause-told g c =
    let s : JournalsState = record { home = c.self.inside.home; pool = c.self.inside.pool; queues = c.self.inside.queues.items; list = c.self.inside.list } in
    let q : LiveState = c.index_mut.result.now in
    let p : Placed s c.args.at q = placed s c.args.at q c.self.invariant (subst (λ (w : JournalsState). c.args.at < length w.queues) (sym c.self.view_is) c.requires.place) c.index_mut.ensures.value in
    let fits : IfSome (g.S.Site.told c.args.site.now) (OnDisk (Fits s)) = subst (λ w. IfSome (g.S.Site.told c.args.site.now) (OnDisk (Fits w))) (sym c.self.view_is) c.requires.fits in
    let r : LiveState = c.finish.new.self in
    let left : PoolState = c.finish.new.pool in
    let next : NextQueue q r = next_queue q r (placed_kept s c.args.at q p) (opening_is (end_records q.queue.last c.args.ends.now) q r s.pool left _ _ _ _ c.in-Ok.ensures.written) (ap (λ (x : QueueState). x.name) c.in-Ok.ensures.queue ∙ ended_name c.args.ends.now q.queue) c.in-Ok.ensures.ended c.in-Ok.ensures.sound c.in-Ok.ensures.log in
    let done : CallDone (end_records q.queue.last c.args.ends.now) q r s.pool left (g.N.Serials.drawn c.args.serials.now) (g.N.Serials.drawn c.finish.new.serials) (g.S.Site.told c.args.site.now) (g.S.Site.told c.finish.new.site) = record {
      went = c.in-Ok.ensures.went;
      quiet = c.in-Ok.ensures.quiet;
      there = c.in-Ok.ensures.there c.in-Ok.ensures.ended;
      whole = c.in-Ok.ensures.pool c.in-Ok.ensures.ended;
      limit = c.in-Ok.ensures.limit;
      written = c.in-Ok.ensures.written;
      clean = c.in-Ok.ensures.clean;
    } in
    subst (λ (w : JournalsState). Tells (Changes w (record { home = s.home; pool = left; queues = set s.queues c.args.at r; list = s.list })) (g.S.Site.told c.args.site.now) (g.S.Site.told c.finish.new.site)) c.self.view_is
    (changes_done s p.all c.args.at q p.place p.held r left next (end_records q.queue.last c.args.ends.now) _ _ (g.S.Site.told c.args.site.now) (g.S.Site.told c.finish.new.site) fits done)

pub returns-in-Ok-clause-alive : goal.returns-in-Ok-clause-alive
returns-in-Ok-clause-alive g c =
    let s : JournalsState = record { home = c.self.inside.home; pool = c.self.inside.pool; queues = c.self.inside.queues.items; list = c.self.inside.list } in
    let q : LiveState = c.index_mut.result.now in
    let p : Placed s c.args.at q = placed s c.args.at q c.self.invariant (subst (λ (w : JournalsState). c.args.at < length w.queues) (sym c.self.view_is) c.requires.place) c.index_mut.ensures.value in
    let r : LiveState = c.finish.new.self in
    let left : PoolState = c.finish.new.pool in
    let next : NextQueue q r = next_queue q r (placed_kept s c.args.at q p) (opening_is (end_records q.queue.last c.args.ends.now) q r s.pool left _ _ _ _ c.in-Ok.ensures.written) (ap (λ (x : QueueState). x.name) c.in-Ok.ensures.queue ∙ ended_name c.args.ends.now q.queue) c.in-Ok.ensures.ended c.in-Ok.ensures.sound c.in-Ok.ensures.log in
    subst (λ (w : JournalsState). Carries (IsListAlive w) (IsListAlive (record { home = s.home; pool = left; queues = set s.queues c.args.at r; list = s.list })) (g.S.Site.told c.args.site.now) (g.S.Site.told c.finish.new.site)) c.self.view_is
    (told_alive s p.all c.args.at q p.place p.held r left next (g.S.Site.told c.args.site.now) (g.S.Site.told c.finish.new.site) c.in-Ok.ensures.went)

pub returns-in-Ok-clause-leaves : goal.returns-in-Ok-clause-leaves
returns-in-Ok-clause-leaves g c =
    let s : JournalsState = record { home = c.self.inside.home; pool = c.self.inside.pool; queues = c.self.inside.queues.items; list = c.self.inside.list } in
    let q : LiveState = c.index_mut.result.now in
    let p : Placed s c.args.at q = placed s c.args.at q c.self.invariant (subst (λ (w : JournalsState). c.args.at < length w.queues) (sym c.self.view_is) c.requires.place) c.index_mut.ensures.value in
    subst (λ (w : JournalsState). Tells (LeavesDead w) (g.S.Site.told c.args.site.now) (g.S.Site.told c.finish.new.site)) c.self.view_is (leaves_so s p.all c.args.at q p.place p.held (g.S.Site.told c.args.site.now) (g.S.Site.told c.finish.new.site) c.in-Ok.ensures.leaves)

pub returns-in-Ok-clause-writes : goal.returns-in-Ok-clause-writes
returns-in-Ok-clause-writes g c =
    let s : JournalsState = record { home = c.self.inside.home; pool = c.self.inside.pool; queues = c.self.inside.queues.items; list = c.self.inside.list } in
    let q : LiveState = c.index_mut.result.now in
    let p : Placed s c.args.at q = placed s c.args.at q c.self.invariant (subst (λ (w : JournalsState). c.args.at < length w.queues) (sym c.self.view_is) c.requires.place) c.index_mut.ensures.value in
    let fits : IfSome (g.S.Site.told c.args.site.now) (OnDisk (Fits s)) = subst (λ w. IfSome (g.S.Site.told c.args.site.now) (OnDisk (Fits w))) (sym c.self.view_is) c.requires.fits in
    let r : LiveState = c.finish.new.self in
    let left : PoolState = c.finish.new.pool in
    let next : NextQueue q r = next_queue q r (placed_kept s c.args.at q p) (opening_is (end_records q.queue.last c.args.ends.now) q r s.pool left _ _ _ _ c.in-Ok.ensures.written) (ap (λ (x : QueueState). x.name) c.in-Ok.ensures.queue ∙ ended_name c.args.ends.now q.queue) c.in-Ok.ensures.ended c.in-Ok.ensures.sound c.in-Ok.ensures.log in
    subst (λ (w : JournalsState). Tells (StaysWritten {X = JournalsState} {E = Cause} (Ok (record { home = s.home; pool = left; queues = set s.queues c.args.at r; list = s.list })) (λ (x : JournalsState). x) w) (g.S.Site.told c.args.site.now) (g.S.Site.told c.finish.new.site)) c.self.view_is
    (writes_done s p.all c.args.at q p.place p.held r left next c.files_that_stay_stay_written.ensures.stays (tt {0}) (record { home = s.home; pool = left; queues = set s.queues c.args.at r; list = s.list }) (λ (x : JournalsState). x) (g.S.Site.told c.args.site.now) (g.S.Site.told c.finish.new.site) refl fits c.in-Ok.ensures.went c.in-Ok.ensures.writes)

pub returns-in-Ok-clause-homes : goal.returns-in-Ok-clause-homes
returns-in-Ok-clause-homes g c =
    let s : JournalsState = record { home = c.self.inside.home; pool = c.self.inside.pool; queues = c.self.inside.queues.items; list = c.self.inside.list } in
    let q : LiveState = c.index_mut.result.now in
    let p : Placed s c.args.at q = placed s c.args.at q c.self.invariant (subst (λ (w : JournalsState). c.args.at < length w.queues) (sym c.self.view_is) c.requires.place) c.index_mut.ensures.value in
    let r : LiveState = c.finish.new.self in
    let left : PoolState = c.finish.new.pool in
    let next : NextQueue q r = next_queue q r (placed_kept s c.args.at q p) (opening_is (end_records q.queue.last c.args.ends.now) q r s.pool left _ _ _ _ c.in-Ok.ensures.written) (ap (λ (x : QueueState). x.name) c.in-Ok.ensures.queue ∙ ended_name c.args.ends.now q.queue) c.in-Ok.ensures.ended c.in-Ok.ensures.sound c.in-Ok.ensures.log in
    subst (λ (w : JournalsState). SameHomes (homes_of (record { home = s.home; pool = left; queues = set s.queues c.args.at r; list = s.list })) (homes_of w)) c.self.view_is (homes_kept s p.all c.args.at q p.place p.held r left next)

pub returns-in-Ok-clause-pools : goal.returns-in-Ok-clause-pools
returns-in-Ok-clause-pools g c =
    let s : JournalsState = record { home = c.self.inside.home; pool = c.self.inside.pool; queues = c.self.inside.queues.items; list = c.self.inside.list } in
    let q : LiveState = c.index_mut.result.now in
    let p : Placed s c.args.at q = placed s c.args.at q c.self.invariant (subst (λ (w : JournalsState). c.args.at < length w.queues) (sym c.self.view_is) c.requires.place) c.index_mut.ensures.value in
    subst (λ (w : JournalsState). Tells (Passes (TakesFromHome (homes_of w))) (g.S.Site.told c.args.site.now) (g.S.Site.told c.finish.new.site)) c.self.view_is
    (pools_pass s p.all c.args.at q p.place p.held {X = (Unit {0})} (Ok (tt {0})) (g.S.Site.told c.args.site.now) (g.S.Site.told c.finish.new.site) c.in-Ok.ensures.went)

pub returns-in-Ok-clause-had : goal.returns-in-Ok-clause-had
returns-in-Ok-clause-had g c =
    let s : JournalsState = record { home = c.self.inside.home; pool = c.self.inside.pool; queues = c.self.inside.queues.items; list = c.self.inside.list } in
    let q : LiveState = c.index_mut.result.now in
    let p : Placed s c.args.at q = placed s c.args.at q c.self.invariant (subst (λ (w : JournalsState). c.args.at < length w.queues) (sym c.self.view_is) c.requires.place) c.index_mut.ensures.value in
    let fits : IfSome (g.S.Site.told c.args.site.now) (OnDisk (Fits s)) = subst (λ w. IfSome (g.S.Site.told c.args.site.now) (OnDisk (Fits w))) (sym c.self.view_is) c.requires.fits in
    subst (λ (w : JournalsState). IfSome (slice_get w.queues c.args.at) (λ (u : LiveState). Tells (HadRoom w Queue u.queue.name (end_records u.queue.last c.args.ends.now)) (g.S.Site.told c.args.site.now) (g.S.Site.told c.finish.new.site))) c.self.view_is
    (if_placed s c.args.at q (λ (u : LiveState). Tells (HadRoom s Queue u.queue.name (end_records u.queue.last c.args.ends.now)) (g.S.Site.told c.args.site.now) (g.S.Site.told c.finish.new.site)) p
    (told_had s c.args.at q p (end_records q.queue.last c.args.ends.now) c.log_has_its_room.ensures.room (λ fresh meets. no_end tt (c.in-Ok.ensures.at_end fresh meets)) (g.S.Site.told c.args.site.now) (g.S.Site.told c.finish.new.site) fits c.in-Ok.ensures.went))

pub returns-in-Err-clause-told : goal.returns-in-Err-clause-told
returns-in-Err-clause-told g c =
    let s : JournalsState = record { home = c.self.inside.home; pool = c.self.inside.pool; queues = c.self.inside.queues.items; list = c.self.inside.list } in
    let q : LiveState = c.index_mut.result.now in
    let p : Placed s c.args.at q = placed s c.args.at q c.self.invariant (subst (λ (w : JournalsState). c.args.at < length w.queues) (sym c.self.view_is) c.requires.place) c.index_mut.ensures.value in
    journals_pass s p.all c.args.at q p.place p.held {X = (Unit {0})} (Err c.in-Err.error) (g.S.Site.told c.args.site.now) (g.S.Site.told c.finish.new.site) c.in-Err.ensures.went

pub returns-in-Err-clause-leaves : goal.returns-in-Err-clause-leaves
returns-in-Err-clause-leaves g c =
    let s : JournalsState = record { home = c.self.inside.home; pool = c.self.inside.pool; queues = c.self.inside.queues.items; list = c.self.inside.list } in
    let q : LiveState = c.index_mut.result.now in
    let p : Placed s c.args.at q = placed s c.args.at q c.self.invariant (subst (λ (w : JournalsState). c.args.at < length w.queues) (sym c.self.view_is) c.requires.place) c.index_mut.ensures.value in
    subst (λ (w : JournalsState). Tells (LeavesDead w) (g.S.Site.told c.args.site.now) (g.S.Site.told c.finish.new.site)) c.self.view_is (leaves_so s p.all c.args.at q p.place p.held (g.S.Site.told c.args.site.now) (g.S.Site.told c.finish.new.site) c.in-Err.ensures.leaves)

pub returns-in-Err-clause-writes : goal.returns-in-Err-clause-writes
returns-in-Err-clause-writes g c =
    let s : JournalsState = record { home = c.self.inside.home; pool = c.self.inside.pool; queues = c.self.inside.queues.items; list = c.self.inside.list } in
    let q : LiveState = c.index_mut.result.now in
    let p : Placed s c.args.at q = placed s c.args.at q c.self.invariant (subst (λ (w : JournalsState). c.args.at < length w.queues) (sym c.self.view_is) c.requires.place) c.index_mut.ensures.value in
    subst (λ (w : JournalsState). Tells (StaysWritten {X = JournalsState} {E = Cause} (Err c.cause_of_queue.result) (λ (x : JournalsState). x) w) (g.S.Site.told c.args.site.now) (g.S.Site.told c.finish.new.site)) c.self.view_is (writes_failed s p.all c.args.at q p.place p.held {X = (Unit {0})} (Err c.in-Err.error) c.finish.new.self c.cause_of_queue.result (λ (x : JournalsState). x) (g.S.Site.told c.args.site.now) (g.S.Site.told c.finish.new.site) c.in-Err.ensures.writes)

pub returns-in-Err-clause-pools : goal.returns-in-Err-clause-pools
returns-in-Err-clause-pools g c =
    let s : JournalsState = record { home = c.self.inside.home; pool = c.self.inside.pool; queues = c.self.inside.queues.items; list = c.self.inside.list } in
    let q : LiveState = c.index_mut.result.now in
    let p : Placed s c.args.at q = placed s c.args.at q c.self.invariant (subst (λ (w : JournalsState). c.args.at < length w.queues) (sym c.self.view_is) c.requires.place) c.index_mut.ensures.value in
    subst (λ (w : JournalsState). Tells (Passes (TakesFromHome (homes_of w))) (g.S.Site.told c.args.site.now) (g.S.Site.told c.finish.new.site)) c.self.view_is
    (pools_pass s p.all c.args.at q p.place p.held {X = (Unit {0})} (Err c.in-Err.error) (g.S.Site.told c.args.site.now) (g.S.Site.told c.finish.new.site) c.in-Err.ensures.went)

pub returns-in-Err-clause-spent : goal.returns-in-Err-clause-spent
returns-in-Err-clause-spent g c =
    λ e.
    let s : JournalsState = record { home = c.self.inside.home; pool = c.self.inside.pool; queues = c.self.inside.queues.items; list = c.self.inside.list } in
    let q : LiveState = c.index_mut.result.now in
    let p : Placed s c.args.at q = placed s c.args.at q c.self.invariant (subst (λ (w : JournalsState). c.args.at < length w.queues) (sym c.self.view_is) c.requires.place) c.index_mut.ensures.value in
    let fits : IfSome (g.S.Site.told c.args.site.now) (OnDisk (Fits s)) = subst (λ w. IfSome (g.S.Site.told c.args.site.now) (OnDisk (Fits w))) (sym c.self.view_is) c.requires.fits in
    let is : queue.Spent ≡ c.in-Err.error = sym (spent_of c.in-Err.error c.cause_of_queue.result (Err c.cause_of_queue.result) (sym c.cause_of_queue.ensures.exact) refl e) in
    let spent : ◌≡◌ {A = Result (Unit {0}) QueueError} (Err c.in-Err.error) (Err queue.Spent) = ap (λ f. Err f) (sym is) in
    subst (λ (w : JournalsState). IfSome (slice_get w.queues c.args.at) (λ (u : LiveState). Tells (StopsAtEnd w Queue u.queue.name (end_records u.queue.last c.args.ends.now)) (g.S.Site.told c.args.site.now) (g.S.Site.told c.finish.new.site))) c.self.view_is
    (if_placed s c.args.at q (λ (u : LiveState). Tells (StopsAtEnd s Queue u.queue.name (end_records u.queue.last c.args.ends.now)) (g.S.Site.told c.args.site.now) (g.S.Site.told c.finish.new.site)) p
    (told_stops s c.args.at q p (end_records q.queue.last c.args.ends.now) (g.S.Site.told c.args.site.now) (g.S.Site.told c.finish.new.site) fits
    (arrives_if_exact (Unit {0}) (IsLogStep q.log.opening) c.in-Err.error (g.S.Site.told c.args.site.now) (g.S.Site.told c.finish.new.site) (sym is) c.in-Err.ensures.went) (c.in-Err.ensures.stays spent) (c.in-Err.ensures.room spent) (c.in-Err.ensures.ends spent)))

pub returns-in-Err-clause-causes : goal.returns-in-Err-clause-causes
returns-in-Err-clause-causes g c =
    causes_made c.in-Err.error c.cause_of_queue.result (g.S.Site.faults c.args.site.now) (g.S.Site.faults c.finish.new.site) (g.N.Serials.faults c.args.serials.now) (g.N.Serials.faults c.finish.new.serials) (Err c.in-Err.error) refl c.cause_of_queue.ensures.exact c.in-Err.ensures.cause
