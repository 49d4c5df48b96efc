use Rattle.std.proofs.Common.{rules, ◌≡◌, ℕ, ◌+◌, ◌-◌, ◌<◌, ◌^◌, [], ◌∷◌, length, true, false, IfSome, Result, Ok, Err, refl, sym, ap, subst, ◌∙◌}
use Rattle.std.specs.Prelude.{is_err}
use Rattle.std.specs.List.{slice_get}
use Rattle.std.proofs.Math.ListN.{set}
use Rattle.qls_model.specs.Messages.{with_message}
use Rattle.qls_model.specs.Machine.{change_queue, put_message}
use Rattle.qls_model.specs.declared.machine.QueueState.{QueueState}
use Rattle.qls_model.specs.declared.machine.Refusal.{Refusal}
use Rattle.qls_model.specs.declared.machine.Refusal.TheVariants as refusal
use Rattle.qls_site.specs.Content.{Tells}
use Rattle.qls_filehdr.specs.declared.JournalKind.TheVariants.{Queue}
use Rattle.qls_pool.specs.Pools.{PoolState}
use Rattle.qls_pool.specs.Files.{OnDisk, Carries}
use Rattle.qls_pool.specs.Moments.{Passes}
use Rattle.qls_pool.specs.Serials.{DrawsTaken}
use Rattle.qls_log.specs.Steps.{IsLogStep}
use Rattle.qls_queue.specs.Live.{LiveState}
use Rattle.qls_queue.specs.Records.{enqueue_of}
use Rattle.qls_queue.specs.declared.fault.QueueError.{QueueError}
use Rattle.qls_queue.specs.declared.fault.QueueError.TheVariants as queue
use Rattle.qls_journals.specs.declared.cause.Cause.{Cause}
use Rattle.qls_journals.specs.Answers.{put_answer, is_exact, StoreCauses}
use Rattle.qls_journals.specs.Ends.{HadRoom, StopsAtEnd}
use Rattle.qls_journals.specs.Homes.{homes_of, SameHomes, TakesFromHome}
use Rattle.qls_journals.specs.Moments.{IsStoreStep, Changes, LeavesDead, StaysWritten}
use Rattle.qls_journals.specs.State.{JournalsState, queues_of, AreJournals, Fits, IsListAlive, AreReleased}
use Rattle.qls_journals.proofs.Answering.{if_err, put_done, put_spent, put_no_err, put_at_last, numbers_of, ends_numbers, no_end, no_err, err_is, drawn_of, causes_answered}
use Rattle.qls_journals.proofs.Making.{causes_made}
use Rattle.qls_journals.proofs.Placed.{Placed, placed, placed_kept, placed_there, if_placed, next_queue, below_last, ends_err, spent_of, same_journals, same_homes, told_refused, alive_refused, writes_refused, told_had, told_stops, arrives_if_exact}
use Rattle.qls_journals.proofs.Writing.{NextQueue, CallDone, opening_is, journals_after, released_after, queues_after, journals_pass, homes_kept, pools_pass, leaves_so, writes_failed, writes_done, changes_done, told_alive}
use Rattle.qls_journals.proofs.journals.Journals.put.Goals as goal

pub put-requires-clause-unended : goal.put-requires-clause-unended
put-requires-clause-unended g c =
    let s : JournalsState = record { home = c.self.inside.home; pool = c.self.inside.pool; queues = c.self.inside.queues.items; list = c.self.inside.list } in
    let q : LiveState = c.index_mut.result.now in
    let p : Placed s c.args.at q = placed s c.args.at q c.self.invariant (subst (λ (w : JournalsState). c.args.at < length w.queues) (sym c.self.view_is) c.requires.place) c.index_mut.ensures.value in
    (placed_kept s c.args.at q p).unended

pub put-requires-clause-there : goal.put-requires-clause-there
put-requires-clause-there g c =
    let s : JournalsState = record { home = c.self.inside.home; pool = c.self.inside.pool; queues = c.self.inside.queues.items; list = c.self.inside.list } in
    let q : LiveState = c.index_mut.result.now in
    let p : Placed s c.args.at q = placed s c.args.at q c.self.invariant (subst (λ (w : JournalsState). c.args.at < length w.queues) (sym c.self.view_is) c.requires.place) c.index_mut.ensures.value in
    let fits : IfSome (g.S.Site.told c.args.site.now) (OnDisk (Fits s)) = subst (λ w. IfSome (g.S.Site.told c.args.site.now) (OnDisk (Fits w))) (sym c.self.view_is) c.requires.fits in
    placed_there s c.args.at q p (g.S.Site.told c.args.site.now) fits

pub invariant_of-self : goal.invariant_of-self
invariant_of-self g c =
    let s : JournalsState = record { home = c.self.inside.home; pool = c.self.inside.pool; queues = c.self.inside.queues.items; list = c.self.inside.list } in
    let q : LiveState = c.index_mut.result.now in
    let p : Placed s c.args.at q = placed s c.args.at q c.self.invariant (subst (λ (w : JournalsState). c.args.at < length w.queues) (sym c.self.view_is) c.requires.place) c.index_mut.ensures.value in
    let r : LiveState = c.put.new.self in
    let left : PoolState = c.put.new.pool in
    let next : NextQueue q r = next_queue q r (placed_kept s c.args.at q p) (opening_is (enqueue_of c.in-Ok.number c.args.body c.args.xid ∷ []) q r s.pool left _ _ _ _ c.in-Ok.ensures.written) (ap (λ (x : QueueState). x.name) c.in-Ok.ensures.queue) c.in-Ok.ensures.ended c.in-Ok.ensures.sound c.in-Ok.ensures.log in
    journals_after s p.all c.args.at q p.place p.held r left next

pub returns-in-Ok-clause-answer : goal.returns-in-Ok-clause-answer
returns-in-Ok-clause-answer g c =
    let s : JournalsState = record { home = c.self.inside.home; pool = c.self.inside.pool; queues = c.self.inside.queues.items; list = c.self.inside.list } in
    let q : LiveState = c.index_mut.result.now in
    let p : Placed s c.args.at q = placed s c.args.at q c.self.invariant (subst (λ (w : JournalsState). c.args.at < length w.queues) (sym c.self.view_is) c.requires.place) c.index_mut.ensures.value in
    let more : q.queue.last ≡ 2 ^ 62 - 1 → ⊥ = λ e. no_err c.in-Ok.number queue.Numbers (c.in-Ok.ensures.at_last e) in
    subst (λ (w : JournalsState). IfSome (slice_get w.queues c.args.at) (λ (u : LiveState). ◌≡◌ {A = Result ℕ Refusal} (Ok c.in-Ok.number) (put_answer u.queue))) c.self.view_is
    (if_placed s c.args.at q (λ (u : LiveState). ◌≡◌ {A = Result ℕ Refusal} (Ok c.in-Ok.number) (put_answer u.queue)) p
    (put_done q.queue c.in-Ok.number c.in-Ok.ensures.number more))

pub returns-in-Ok-clause-still : goal.returns-in-Ok-clause-still
returns-in-Ok-clause-still g c =
    let s : JournalsState = record { home = c.self.inside.home; pool = c.self.inside.pool; queues = c.self.inside.queues.items; list = c.self.inside.list } in
    let q : LiveState = c.index_mut.result.now in
    let p : Placed s c.args.at q = placed s c.args.at q c.self.invariant (subst (λ (w : JournalsState). c.args.at < length w.queues) (sym c.self.view_is) c.requires.place) c.index_mut.ensures.value in
    let more : q.queue.last ≡ 2 ^ 62 - 1 → ⊥ = λ e. no_err c.in-Ok.number queue.Numbers (c.in-Ok.ensures.at_last e) in
    subst (λ (w : JournalsState). IfSome (slice_get w.queues c.args.at) (λ (u : LiveState). is_err (put_answer u.queue) ≡ true → (c.put.new.site ≡ c.args.site.now) × (c.put.new.serials ≡ c.args.serials.now))) c.self.view_is
    (if_placed s c.args.at q (λ (u : LiveState). is_err (put_answer u.queue) ≡ true → (c.put.new.site ≡ c.args.site.now) × (c.put.new.serials ≡ c.args.serials.now)) p
    (λ e. absurd (more (put_at_last q.queue e))))

pub returns-in-Ok-clause-queues : goal.returns-in-Ok-clause-queues
returns-in-Ok-clause-queues g c =
    let s : JournalsState = record { home = c.self.inside.home; pool = c.self.inside.pool; queues = c.self.inside.queues.items; list = c.self.inside.list } in
    let q : LiveState = c.index_mut.result.now in
    let p : Placed s c.args.at q = placed s c.args.at q c.self.invariant (subst (λ (w : JournalsState). c.args.at < length w.queues) (sym c.self.view_is) c.requires.place) c.index_mut.ensures.value in
    let r : LiveState = c.put.new.self in
    let left : PoolState = c.put.new.pool in
    let next : NextQueue q r = next_queue q r (placed_kept s c.args.at q p) (opening_is (enqueue_of c.in-Ok.number c.args.body c.args.xid ∷ []) q r s.pool left _ _ _ _ c.in-Ok.ensures.written) (ap (λ (x : QueueState). x.name) c.in-Ok.ensures.queue) c.in-Ok.ensures.ended c.in-Ok.ensures.sound c.in-Ok.ensures.log in
    subst (λ (w : JournalsState). IfSome (slice_get w.queues c.args.at) (λ (u : LiveState). queues_of (record { home = s.home; pool = left; queues = set s.queues c.args.at r; list = s.list }) ≡ change_queue u.queue.name (with_message (put_message c.in-Ok.number c.args.body c.args.xid)) (queues_of w))) c.self.view_is
    (if_placed s c.args.at q (λ (u : LiveState). queues_of (record { home = s.home; pool = left; queues = set s.queues c.args.at r; list = s.list }) ≡ change_queue u.queue.name (with_message (put_message c.in-Ok.number c.args.body c.args.xid)) (queues_of s)) p
    (queues_after s p.all c.args.at q p.place p.held r left next (with_message (put_message c.in-Ok.number c.args.body c.args.xid)) c.in-Ok.ensures.queue))

pub returns-in-Ok-clause-list : goal.returns-in-Ok-clause-list
returns-in-Ok-clause-list g c =
    ap (λ (w : JournalsState). w.list) c.self.view_is

pub returns-in-Ok-clause-kept : goal.returns-in-Ok-clause-kept
returns-in-Ok-clause-kept g c =
    let s : JournalsState = record { home = c.self.inside.home; pool = c.self.inside.pool; queues = c.self.inside.queues.items; list = c.self.inside.list } in
    let q : LiveState = c.index_mut.result.now in
    let p : Placed s c.args.at q = placed s c.args.at q c.self.invariant (subst (λ (w : JournalsState). c.args.at < length w.queues) (sym c.self.view_is) c.requires.place) c.index_mut.ensures.value in
    let r : LiveState = c.put.new.self in
    let left : PoolState = c.put.new.pool in
    let next : NextQueue q r = next_queue q r (placed_kept s c.args.at q p) (opening_is (enqueue_of c.in-Ok.number c.args.body c.args.xid ∷ []) q r s.pool left _ _ _ _ c.in-Ok.ensures.written) (ap (λ (x : QueueState). x.name) c.in-Ok.ensures.queue) c.in-Ok.ensures.ended c.in-Ok.ensures.sound c.in-Ok.ensures.log in
    journals_after s p.all c.args.at q p.place p.held r left next

pub returns-in-Ok-clause-released : goal.returns-in-Ok-clause-released
returns-in-Ok-clause-released g c =
    let s : JournalsState = record { home = c.self.inside.home; pool = c.self.inside.pool; queues = c.self.inside.queues.items; list = c.self.inside.list } in
    let q : LiveState = c.index_mut.result.now in
    let p : Placed s c.args.at q = placed s c.args.at q c.self.invariant (subst (λ (w : JournalsState). c.args.at < length w.queues) (sym c.self.view_is) c.requires.place) c.index_mut.ensures.value in
    let r : LiveState = c.put.new.self in
    let left : PoolState = c.put.new.pool in
    let next : NextQueue q r = next_queue q r (placed_kept s c.args.at q p) (opening_is (enqueue_of c.in-Ok.number c.args.body c.args.xid ∷ []) q r s.pool left _ _ _ _ c.in-Ok.ensures.written) (ap (λ (x : QueueState). x.name) c.in-Ok.ensures.queue) c.in-Ok.ensures.ended c.in-Ok.ensures.sound c.in-Ok.ensures.log in
    subst (λ (w : JournalsState). AreReleased w.queues → AreReleased (set s.queues c.args.at r)) c.self.view_is (released_after s p.all c.args.at q p.place p.held r left next c.in-Ok.ensures.one)

pub returns-in-Ok-clause-told : goal.returns-in-Ok-clause-told
returns-in-Ok-clause-told g c =
    let s : JournalsState = record { home = c.self.inside.home; pool = c.self.inside.pool; queues = c.self.inside.queues.items; list = c.self.inside.list } in
    let q : LiveState = c.index_mut.result.now in
    let p : Placed s c.args.at q = placed s c.args.at q c.self.invariant (subst (λ (w : JournalsState). c.args.at < length w.queues) (sym c.self.view_is) c.requires.place) c.index_mut.ensures.value in
    let fits : IfSome (g.S.Site.told c.args.site.now) (OnDisk (Fits s)) = subst (λ w. IfSome (g.S.Site.told c.args.site.now) (OnDisk (Fits w))) (sym c.self.view_is) c.requires.fits in
    let r : LiveState = c.put.new.self in
    let left : PoolState = c.put.new.pool in
    let next : NextQueue q r = next_queue q r (placed_kept s c.args.at q p) (opening_is (enqueue_of c.in-Ok.number c.args.body c.args.xid ∷ []) q r s.pool left _ _ _ _ c.in-Ok.ensures.written) (ap (λ (x : QueueState). x.name) c.in-Ok.ensures.queue) c.in-Ok.ensures.ended c.in-Ok.ensures.sound c.in-Ok.ensures.log in
    let done : CallDone (enqueue_of c.in-Ok.number c.args.body c.args.xid ∷ []) q r s.pool left (g.N.Serials.drawn c.args.serials.now) (g.N.Serials.drawn c.put.new.serials) (g.S.Site.told c.args.site.now) (g.S.Site.told c.put.new.site) = record {
      went = c.in-Ok.ensures.went;
      quiet = c.in-Ok.ensures.quiet;
      there = c.in-Ok.ensures.there c.in-Ok.ensures.ended;
      whole = c.in-Ok.ensures.pool c.in-Ok.ensures.ended;
      limit = c.in-Ok.ensures.limit;
      written = c.in-Ok.ensures.written;
      clean = c.in-Ok.ensures.clean;
    } in
    subst (λ (w : JournalsState). Tells (Changes w (record { home = s.home; pool = left; queues = set s.queues c.args.at r; list = s.list })) (g.S.Site.told c.args.site.now) (g.S.Site.told c.put.new.site)) c.self.view_is
    (changes_done s p.all c.args.at q p.place p.held r left next (enqueue_of c.in-Ok.number c.args.body c.args.xid ∷ []) _ _ (g.S.Site.told c.args.site.now) (g.S.Site.told c.put.new.site) fits done)

pub returns-in-Ok-clause-alive : goal.returns-in-Ok-clause-alive
returns-in-Ok-clause-alive g c =
    let s : JournalsState = record { home = c.self.inside.home; pool = c.self.inside.pool; queues = c.self.inside.queues.items; list = c.self.inside.list } in
    let q : LiveState = c.index_mut.result.now in
    let p : Placed s c.args.at q = placed s c.args.at q c.self.invariant (subst (λ (w : JournalsState). c.args.at < length w.queues) (sym c.self.view_is) c.requires.place) c.index_mut.ensures.value in
    let r : LiveState = c.put.new.self in
    let left : PoolState = c.put.new.pool in
    let next : NextQueue q r = next_queue q r (placed_kept s c.args.at q p) (opening_is (enqueue_of c.in-Ok.number c.args.body c.args.xid ∷ []) q r s.pool left _ _ _ _ c.in-Ok.ensures.written) (ap (λ (x : QueueState). x.name) c.in-Ok.ensures.queue) c.in-Ok.ensures.ended c.in-Ok.ensures.sound c.in-Ok.ensures.log in
    subst (λ (w : JournalsState). Carries (IsListAlive w) (IsListAlive (record { home = s.home; pool = left; queues = set s.queues c.args.at r; list = s.list })) (g.S.Site.told c.args.site.now) (g.S.Site.told c.put.new.site)) c.self.view_is
    (told_alive s p.all c.args.at q p.place p.held r left next (g.S.Site.told c.args.site.now) (g.S.Site.told c.put.new.site) c.in-Ok.ensures.went)

pub returns-in-Ok-clause-leaves : goal.returns-in-Ok-clause-leaves
returns-in-Ok-clause-leaves g c =
    let s : JournalsState = record { home = c.self.inside.home; pool = c.self.inside.pool; queues = c.self.inside.queues.items; list = c.self.inside.list } in
    let q : LiveState = c.index_mut.result.now in
    let p : Placed s c.args.at q = placed s c.args.at q c.self.invariant (subst (λ (w : JournalsState). c.args.at < length w.queues) (sym c.self.view_is) c.requires.place) c.index_mut.ensures.value in
    subst (λ (w : JournalsState). Tells (LeavesDead w) (g.S.Site.told c.args.site.now) (g.S.Site.told c.put.new.site)) c.self.view_is (leaves_so s p.all c.args.at q p.place p.held (g.S.Site.told c.args.site.now) (g.S.Site.told c.put.new.site) c.in-Ok.ensures.leaves)

pub returns-in-Ok-clause-writes : goal.returns-in-Ok-clause-writes
returns-in-Ok-clause-writes g c =
    let s : JournalsState = record { home = c.self.inside.home; pool = c.self.inside.pool; queues = c.self.inside.queues.items; list = c.self.inside.list } in
    let q : LiveState = c.index_mut.result.now in
    let p : Placed s c.args.at q = placed s c.args.at q c.self.invariant (subst (λ (w : JournalsState). c.args.at < length w.queues) (sym c.self.view_is) c.requires.place) c.index_mut.ensures.value in
    let fits : IfSome (g.S.Site.told c.args.site.now) (OnDisk (Fits s)) = subst (λ w. IfSome (g.S.Site.told c.args.site.now) (OnDisk (Fits w))) (sym c.self.view_is) c.requires.fits in
    let r : LiveState = c.put.new.self in
    let left : PoolState = c.put.new.pool in
    let next : NextQueue q r = next_queue q r (placed_kept s c.args.at q p) (opening_is (enqueue_of c.in-Ok.number c.args.body c.args.xid ∷ []) q r s.pool left _ _ _ _ c.in-Ok.ensures.written) (ap (λ (x : QueueState). x.name) c.in-Ok.ensures.queue) c.in-Ok.ensures.ended c.in-Ok.ensures.sound c.in-Ok.ensures.log in
    subst (λ (w : JournalsState). Tells (StaysWritten {X = JournalsState × Result ℕ Refusal} {E = Cause} (Ok ((record { home = s.home; pool = left; queues = set s.queues c.args.at r; list = s.list }), (Ok c.in-Ok.number))) (λ (x : JournalsState × Result ℕ Refusal). x.0) w) (g.S.Site.told c.args.site.now) (g.S.Site.told c.put.new.site)) c.self.view_is
    (writes_done s p.all c.args.at q p.place p.held r left next c.files_that_stay_stay_written.ensures.stays c.in-Ok.number ((record { home = s.home; pool = left; queues = set s.queues c.args.at r; list = s.list }), (Ok c.in-Ok.number)) (λ (x : JournalsState × Result ℕ Refusal). x.0) (g.S.Site.told c.args.site.now) (g.S.Site.told c.put.new.site) refl fits c.in-Ok.ensures.went c.in-Ok.ensures.writes)

pub returns-in-Ok-clause-homes : goal.returns-in-Ok-clause-homes
returns-in-Ok-clause-homes g c =
    let s : JournalsState = record { home = c.self.inside.home; pool = c.self.inside.pool; queues = c.self.inside.queues.items; list = c.self.inside.list } in
    let q : LiveState = c.index_mut.result.now in
    let p : Placed s c.args.at q = placed s c.args.at q c.self.invariant (subst (λ (w : JournalsState). c.args.at < length w.queues) (sym c.self.view_is) c.requires.place) c.index_mut.ensures.value in
    let r : LiveState = c.put.new.self in
    let left : PoolState = c.put.new.pool in
    let next : NextQueue q r = next_queue q r (placed_kept s c.args.at q p) (opening_is (enqueue_of c.in-Ok.number c.args.body c.args.xid ∷ []) q r s.pool left _ _ _ _ c.in-Ok.ensures.written) (ap (λ (x : QueueState). x.name) c.in-Ok.ensures.queue) c.in-Ok.ensures.ended c.in-Ok.ensures.sound c.in-Ok.ensures.log in
    subst (λ (w : JournalsState). SameHomes (homes_of (record { home = s.home; pool = left; queues = set s.queues c.args.at r; list = s.list })) (homes_of w)) c.self.view_is (homes_kept s p.all c.args.at q p.place p.held r left next)

pub returns-in-Ok-clause-pools : goal.returns-in-Ok-clause-pools
returns-in-Ok-clause-pools g c =
    let s : JournalsState = record { home = c.self.inside.home; pool = c.self.inside.pool; queues = c.self.inside.queues.items; list = c.self.inside.list } in
    let q : LiveState = c.index_mut.result.now in
    let p : Placed s c.args.at q = placed s c.args.at q c.self.invariant (subst (λ (w : JournalsState). c.args.at < length w.queues) (sym c.self.view_is) c.requires.place) c.index_mut.ensures.value in
    subst (λ (w : JournalsState). Tells (Passes (TakesFromHome (homes_of w))) (g.S.Site.told c.args.site.now) (g.S.Site.told c.put.new.site)) c.self.view_is
    (pools_pass s p.all c.args.at q p.place p.held {X = ℕ} (Ok c.in-Ok.number) (g.S.Site.told c.args.site.now) (g.S.Site.told c.put.new.site) c.in-Ok.ensures.went)

pub returns-in-Ok-clause-had : goal.returns-in-Ok-clause-had
returns-in-Ok-clause-had g c =
    let s : JournalsState = record { home = c.self.inside.home; pool = c.self.inside.pool; queues = c.self.inside.queues.items; list = c.self.inside.list } in
    let q : LiveState = c.index_mut.result.now in
    let p : Placed s c.args.at q = placed s c.args.at q c.self.invariant (subst (λ (w : JournalsState). c.args.at < length w.queues) (sym c.self.view_is) c.requires.place) c.index_mut.ensures.value in
    let fits : IfSome (g.S.Site.told c.args.site.now) (OnDisk (Fits s)) = subst (λ w. IfSome (g.S.Site.told c.args.site.now) (OnDisk (Fits w))) (sym c.self.view_is) c.requires.fits in
    let more : q.queue.last ≡ 2 ^ 62 - 1 → ⊥ = λ e. no_err c.in-Ok.number queue.Numbers (c.in-Ok.ensures.at_last e) in
    subst (λ (w : JournalsState). IfSome (slice_get w.queues c.args.at) (λ (u : LiveState). Tells (HadRoom w Queue u.queue.name (enqueue_of (u.queue.last + 1) c.args.body c.args.xid ∷ [])) (g.S.Site.told c.args.site.now) (g.S.Site.told c.put.new.site))) c.self.view_is
    (if_placed s c.args.at q (λ (u : LiveState). Tells (HadRoom s Queue u.queue.name (enqueue_of (u.queue.last + 1) c.args.body c.args.xid ∷ [])) (g.S.Site.told c.args.site.now) (g.S.Site.told c.put.new.site)) p
    (told_had s c.args.at q p (enqueue_of (q.queue.last + 1) c.args.body c.args.xid ∷ []) c.log_has_its_room.ensures.room (λ fresh meets. no_end c.in-Ok.number (c.in-Ok.ensures.at_end (below_last q.queue.last (subst (λ n. n < 2 ^ 62) (sym (placed_kept s c.args.at q p).sound.rid) (placed_kept s c.args.at q p).sound.last) more) fresh meets)) (g.S.Site.told c.args.site.now) (g.S.Site.told c.put.new.site) fits c.in-Ok.ensures.went))

pub returns-in_err-refusal_or_cause-in-Err-clause-told : goal.returns-in_err-refusal_or_cause-in-Err-clause-told
returns-in_err-refusal_or_cause-in-Err-clause-told g c =
    let s : JournalsState = record { home = c.self.inside.home; pool = c.self.inside.pool; queues = c.self.inside.queues.items; list = c.self.inside.list } in
    let q : LiveState = c.index_mut.result.now in
    let p : Placed s c.args.at q = placed s c.args.at q c.self.invariant (subst (λ (w : JournalsState). c.args.at < length w.queues) (sym c.self.view_is) c.requires.place) c.index_mut.ensures.value in
    ends_err IsStoreStep _ c.from_residual.result (g.S.Site.told c.args.site.now) (g.S.Site.told c.put.new.site) c.from_residual.ensures.0 (journals_pass s p.all c.args.at q p.place p.held {X = ℕ} (Err c.in-Err.error) (g.S.Site.told c.args.site.now) (g.S.Site.told c.put.new.site) c.in-Err.ensures.went)

pub returns-in_err-refusal_or_cause-in-Err-clause-leaves : goal.returns-in_err-refusal_or_cause-in-Err-clause-leaves
returns-in_err-refusal_or_cause-in-Err-clause-leaves g c =
    let s : JournalsState = record { home = c.self.inside.home; pool = c.self.inside.pool; queues = c.self.inside.queues.items; list = c.self.inside.list } in
    let q : LiveState = c.index_mut.result.now in
    let p : Placed s c.args.at q = placed s c.args.at q c.self.invariant (subst (λ (w : JournalsState). c.args.at < length w.queues) (sym c.self.view_is) c.requires.place) c.index_mut.ensures.value in
    subst (λ (w : JournalsState). Tells (LeavesDead w) (g.S.Site.told c.args.site.now) (g.S.Site.told c.put.new.site)) c.self.view_is (leaves_so s p.all c.args.at q p.place p.held (g.S.Site.told c.args.site.now) (g.S.Site.told c.put.new.site) c.in-Err.ensures.leaves)

pub returns-in_err-refusal_or_cause-in-Err-clause-writes : goal.returns-in_err-refusal_or_cause-in-Err-clause-writes
returns-in_err-refusal_or_cause-in-Err-clause-writes g c =
    let s : JournalsState = record { home = c.self.inside.home; pool = c.self.inside.pool; queues = c.self.inside.queues.items; list = c.self.inside.list } in
    let q : LiveState = c.index_mut.result.now in
    let p : Placed s c.args.at q = placed s c.args.at q c.self.invariant (subst (λ (w : JournalsState). c.args.at < length w.queues) (sym c.self.view_is) c.requires.place) c.index_mut.ensures.value in
    let given : Err c.in_err-refusal_or_cause-in-Err.field-0.0 ≡ c.from_residual.result = search (rules, c.from_residual.ensures) in
    subst (λ v. Tells (StaysWritten v (λ (x : JournalsState × Result ℕ Refusal). x.0) c.args.self) (g.S.Site.told c.args.site.now) (g.S.Site.told c.put.new.site)) given
    (subst (λ (w : JournalsState). Tells (StaysWritten {X = JournalsState × Result ℕ Refusal} {E = Cause} (Err c.in_err-refusal_or_cause-in-Err.field-0.0) (λ (x : JournalsState × Result ℕ Refusal). x.0) w) (g.S.Site.told c.args.site.now) (g.S.Site.told c.put.new.site)) c.self.view_is (writes_failed s p.all c.args.at q p.place p.held {X = ℕ} (Err c.in-Err.error) c.put.new.self c.in_err-refusal_or_cause-in-Err.field-0.0 (λ (x : JournalsState × Result ℕ Refusal). x.0) (g.S.Site.told c.args.site.now) (g.S.Site.told c.put.new.site) c.in-Err.ensures.writes))

pub returns-in_err-refusal_or_cause-in-Err-clause-drawn : goal.returns-in_err-refusal_or_cause-in-Err-clause-drawn
returns-in_err-refusal_or_cause-in-Err-clause-drawn g c =
    let given : Err c.in_err-refusal_or_cause-in-Err.field-0.0 ≡ c.from_residual.result = search (rules, c.from_residual.ensures) in
    subst (λ v. DrawsTaken (is_exact v) (g.S.Site.told c.args.site.now) (g.S.Site.told c.put.new.site) (g.N.Serials.drawn c.args.serials.now) (g.N.Serials.drawn c.put.new.serials)) given
    (drawn_of (JournalsState × Result ℕ Refusal) c.in-Err.error c.in_err-refusal_or_cause-in-Err.field-0.0 _ _ _ _ c.in_err-refusal_or_cause-in-Err.ensures.exact c.in-Err.ensures.drew)

pub returns-in_err-refusal_or_cause-in-Err-clause-pools : goal.returns-in_err-refusal_or_cause-in-Err-clause-pools
returns-in_err-refusal_or_cause-in-Err-clause-pools g c =
    let s : JournalsState = record { home = c.self.inside.home; pool = c.self.inside.pool; queues = c.self.inside.queues.items; list = c.self.inside.list } in
    let q : LiveState = c.index_mut.result.now in
    let p : Placed s c.args.at q = placed s c.args.at q c.self.invariant (subst (λ (w : JournalsState). c.args.at < length w.queues) (sym c.self.view_is) c.requires.place) c.index_mut.ensures.value in
    subst (λ (w : JournalsState). Tells (Passes (TakesFromHome (homes_of w))) (g.S.Site.told c.args.site.now) (g.S.Site.told c.put.new.site)) c.self.view_is
    (pools_pass s p.all c.args.at q p.place p.held {X = ℕ} (Err c.in-Err.error) (g.S.Site.told c.args.site.now) (g.S.Site.told c.put.new.site) c.in-Err.ensures.went)

pub returns-in_err-refusal_or_cause-in-Err-clause-spent : goal.returns-in_err-refusal_or_cause-in-Err-clause-spent
returns-in_err-refusal_or_cause-in-Err-clause-spent g c =
    λ e.
    let s : JournalsState = record { home = c.self.inside.home; pool = c.self.inside.pool; queues = c.self.inside.queues.items; list = c.self.inside.list } in
    let q : LiveState = c.index_mut.result.now in
    let p : Placed s c.args.at q = placed s c.args.at q c.self.invariant (subst (λ (w : JournalsState). c.args.at < length w.queues) (sym c.self.view_is) c.requires.place) c.index_mut.ensures.value in
    let fits : IfSome (g.S.Site.told c.args.site.now) (OnDisk (Fits s)) = subst (λ w. IfSome (g.S.Site.told c.args.site.now) (OnDisk (Fits w))) (sym c.self.view_is) c.requires.fits in
    let given : Err c.in_err-refusal_or_cause-in-Err.field-0.0 ≡ c.from_residual.result = search (rules, c.from_residual.ensures) in
    let is : queue.Spent ≡ c.in-Err.error = sym (spent_of c.in-Err.error c.in_err-refusal_or_cause-in-Err.field-0.0 c.from_residual.result (c.in_err-refusal_or_cause-in-Err.ensures.exact) given e) in
    let spent : ◌≡◌ {A = Result ℕ QueueError} (Err c.in-Err.error) (Err queue.Spent) = ap (λ f. Err f) (sym is) in
    subst (λ (w : JournalsState). IfSome (slice_get w.queues c.args.at) (λ (u : LiveState). Tells (StopsAtEnd w Queue u.queue.name (enqueue_of (u.queue.last + 1) c.args.body c.args.xid ∷ [])) (g.S.Site.told c.args.site.now) (g.S.Site.told c.put.new.site))) c.self.view_is
    (if_placed s c.args.at q (λ (u : LiveState). Tells (StopsAtEnd s Queue u.queue.name (enqueue_of (u.queue.last + 1) c.args.body c.args.xid ∷ [])) (g.S.Site.told c.args.site.now) (g.S.Site.told c.put.new.site)) p
    (told_stops s c.args.at q p (enqueue_of (q.queue.last + 1) c.args.body c.args.xid ∷ []) (g.S.Site.told c.args.site.now) (g.S.Site.told c.put.new.site) fits
    (arrives_if_exact ℕ (IsLogStep q.log.opening) c.in-Err.error (g.S.Site.told c.args.site.now) (g.S.Site.told c.put.new.site) (sym is) c.in-Err.ensures.went) (c.in-Err.ensures.stays spent) (c.in-Err.ensures.room spent) (c.in-Err.ensures.ends spent)))

pub returns-in_err-refusal_or_cause-in-Err-clause-ended : goal.returns-in_err-refusal_or_cause-in-Err-clause-ended
returns-in_err-refusal_or_cause-in-Err-clause-ended g c =
    let s : JournalsState = record { home = c.self.inside.home; pool = c.self.inside.pool; queues = c.self.inside.queues.items; list = c.self.inside.list } in
    let q : LiveState = c.index_mut.result.now in
    let p : Placed s c.args.at q = placed s c.args.at q c.self.invariant (subst (λ (w : JournalsState). c.args.at < length w.queues) (sym c.self.view_is) c.requires.place) c.index_mut.ensures.value in
    let more : q.queue.last ≡ 2 ^ 62 - 1 → ⊥ = λ e. ends_numbers c.in-Err.error c.in_err-refusal_or_cause-in-Err.field-0.0 c.in_err-refusal_or_cause-in-Err.ensures.exact (err_is (c.in-Err.ensures.at_last e)) in
    if_err _ c.from_residual.result
    (subst (λ (w : JournalsState). IfSome (slice_get w.queues c.args.at) (λ (u : LiveState). is_err (put_answer u.queue) ≡ false)) c.self.view_is
    (if_placed s c.args.at q (λ (u : LiveState). is_err (put_answer u.queue) ≡ false) p (put_no_err q.queue more)))

pub returns-in_err-refusal_or_cause-in-Err-clause-still : goal.returns-in_err-refusal_or_cause-in-Err-clause-still
returns-in_err-refusal_or_cause-in-Err-clause-still g c =
    let s : JournalsState = record { home = c.self.inside.home; pool = c.self.inside.pool; queues = c.self.inside.queues.items; list = c.self.inside.list } in
    let q : LiveState = c.index_mut.result.now in
    let p : Placed s c.args.at q = placed s c.args.at q c.self.invariant (subst (λ (w : JournalsState). c.args.at < length w.queues) (sym c.self.view_is) c.requires.place) c.index_mut.ensures.value in
    let more : q.queue.last ≡ 2 ^ 62 - 1 → ⊥ = λ e. ends_numbers c.in-Err.error c.in_err-refusal_or_cause-in-Err.field-0.0 c.in_err-refusal_or_cause-in-Err.ensures.exact (err_is (c.in-Err.ensures.at_last e)) in
    subst (λ (w : JournalsState). IfSome (slice_get w.queues c.args.at) (λ (u : LiveState). is_err (put_answer u.queue) ≡ true → (c.put.new.site ≡ c.args.site.now) × (c.put.new.serials ≡ c.args.serials.now))) c.self.view_is
    (if_placed s c.args.at q (λ (u : LiveState). is_err (put_answer u.queue) ≡ true → (c.put.new.site ≡ c.args.site.now) × (c.put.new.serials ≡ c.args.serials.now)) p
    (λ e. absurd (more (put_at_last q.queue e))))

pub returns-in_err-refusal_or_cause-in-Err-clause-causes : goal.returns-in_err-refusal_or_cause-in-Err-clause-causes
returns-in_err-refusal_or_cause-in-Err-clause-causes g c =
    let given : Err c.in_err-refusal_or_cause-in-Err.field-0.0 ≡ c.from_residual.result = search (rules, c.from_residual.ensures) in
    subst (λ v. StoreCauses (g.S.Site.faults c.args.site.now) (g.S.Site.faults c.put.new.site) (g.N.Serials.faults c.args.serials.now) (g.N.Serials.faults c.put.new.serials) v) given (causes_made c.in-Err.error c.in_err-refusal_or_cause-in-Err.field-0.0 (g.S.Site.faults c.args.site.now) (g.S.Site.faults c.put.new.site) (g.N.Serials.faults c.args.serials.now) (g.N.Serials.faults c.put.new.serials) (Err c.in-Err.error) refl (sym c.in_err-refusal_or_cause-in-Err.ensures.exact) c.in-Err.ensures.cause)

pub returns-in-Ok-clause-causes : goal.returns-in-Ok-clause-causes
returns-in-Ok-clause-causes g c =
    causes_answered (Ok c.in-Ok.number) _ (g.S.Site.faults c.args.site.now) (g.S.Site.faults c.put.new.site) (g.N.Serials.faults c.args.serials.now) (g.N.Serials.faults c.put.new.serials) c.in-Ok.ensures.cause

pub returns-in_ok-refusal_or_cause-in-Err-clause-causes : goal.returns-in_ok-refusal_or_cause-in-Err-clause-causes
returns-in_ok-refusal_or_cause-in-Err-clause-causes g c =
    causes_answered (Err c.in-Err.error) _ (g.S.Site.faults c.args.site.now) (g.S.Site.faults c.put.new.site) (g.N.Serials.faults c.args.serials.now) (g.N.Serials.faults c.put.new.serials) c.in-Err.ensures.cause

pub invariant_of-result : goal.invariant_of-result
invariant_of-result g c =
    let s : JournalsState = record { home = c.self.inside.home; pool = c.self.inside.pool; queues = c.self.inside.queues.items; list = c.self.inside.list } in
    let q : LiveState = c.index_mut.result.now in
    let p : Placed s c.args.at q = placed s c.args.at q c.self.invariant (subst (λ (w : JournalsState). c.args.at < length w.queues) (sym c.self.view_is) c.requires.place) c.index_mut.ensures.value in
    let f : (c.in-Err.error ≡ queue.Numbers) × (c.in_ok-refusal_or_cause-in-Err.field-0 ≡ refusal.Spent) = numbers_of c.in-Err.error c.in_ok-refusal_or_cause-in-Err.field-0 c.in_ok-refusal_or_cause-in-Err.ensures.exact (λ e. c.in-Err.ensures.no_other.0 (ap (λ x. Err x) e)) (λ e. c.in-Err.ensures.no_other.1 (ap (λ x. Err x) e)) in
    let is : ◌≡◌ {A = Result ℕ QueueError} (Err c.in-Err.error) (Err queue.Numbers) = ap (λ x. Err x) f.0 in
    let calls = c.in-Err.ensures.no_call is in
    let same : (record { home = s.home; pool = c.put.new.pool; queues = set s.queues c.args.at c.put.new.self; list = s.list }) ≡ s = same_journals s c.args.at q c.put.new.self c.put.new.pool p (c.in-Err.ensures.refused is) calls.1 in
    subst AreJournals (sym same) p.all

pub returns-in_ok-refusal_or_cause-in-Err-clause-answer : goal.returns-in_ok-refusal_or_cause-in-Err-clause-answer
returns-in_ok-refusal_or_cause-in-Err-clause-answer g c =
    let s : JournalsState = record { home = c.self.inside.home; pool = c.self.inside.pool; queues = c.self.inside.queues.items; list = c.self.inside.list } in
    let q : LiveState = c.index_mut.result.now in
    let p : Placed s c.args.at q = placed s c.args.at q c.self.invariant (subst (λ (w : JournalsState). c.args.at < length w.queues) (sym c.self.view_is) c.requires.place) c.index_mut.ensures.value in
    let f : (c.in-Err.error ≡ queue.Numbers) × (c.in_ok-refusal_or_cause-in-Err.field-0 ≡ refusal.Spent) = numbers_of c.in-Err.error c.in_ok-refusal_or_cause-in-Err.field-0 c.in_ok-refusal_or_cause-in-Err.ensures.exact (λ e. c.in-Err.ensures.no_other.0 (ap (λ x. Err x) e)) (λ e. c.in-Err.ensures.no_other.1 (ap (λ x. Err x) e)) in
    let is : ◌≡◌ {A = Result ℕ QueueError} (Err c.in-Err.error) (Err queue.Numbers) = ap (λ x. Err x) f.0 in
    let calls = c.in-Err.ensures.no_call is in
    let same : (record { home = s.home; pool = c.put.new.pool; queues = set s.queues c.args.at c.put.new.self; list = s.list }) ≡ s = same_journals s c.args.at q c.put.new.self c.put.new.pool p (c.in-Err.ensures.refused is) calls.1 in
    subst (λ (w : JournalsState). IfSome (slice_get w.queues c.args.at) (λ (u : LiveState). ◌≡◌ {A = Result ℕ Refusal} (Err c.in_ok-refusal_or_cause-in-Err.field-0) (put_answer u.queue))) c.self.view_is
    (if_placed s c.args.at q (λ (u : LiveState). ◌≡◌ {A = Result ℕ Refusal} (Err c.in_ok-refusal_or_cause-in-Err.field-0) (put_answer u.queue)) p
    (ap (λ x. Err x) f.1 ∙ sym (put_spent q.queue (c.in-Err.ensures.numbers is))))

pub returns-in_ok-refusal_or_cause-in-Err-clause-still : goal.returns-in_ok-refusal_or_cause-in-Err-clause-still
returns-in_ok-refusal_or_cause-in-Err-clause-still g c =
    let s : JournalsState = record { home = c.self.inside.home; pool = c.self.inside.pool; queues = c.self.inside.queues.items; list = c.self.inside.list } in
    let q : LiveState = c.index_mut.result.now in
    let p : Placed s c.args.at q = placed s c.args.at q c.self.invariant (subst (λ (w : JournalsState). c.args.at < length w.queues) (sym c.self.view_is) c.requires.place) c.index_mut.ensures.value in
    let f : (c.in-Err.error ≡ queue.Numbers) × (c.in_ok-refusal_or_cause-in-Err.field-0 ≡ refusal.Spent) = numbers_of c.in-Err.error c.in_ok-refusal_or_cause-in-Err.field-0 c.in_ok-refusal_or_cause-in-Err.ensures.exact (λ e. c.in-Err.ensures.no_other.0 (ap (λ x. Err x) e)) (λ e. c.in-Err.ensures.no_other.1 (ap (λ x. Err x) e)) in
    let is : ◌≡◌ {A = Result ℕ QueueError} (Err c.in-Err.error) (Err queue.Numbers) = ap (λ x. Err x) f.0 in
    let calls = c.in-Err.ensures.no_call is in
    let same : (record { home = s.home; pool = c.put.new.pool; queues = set s.queues c.args.at c.put.new.self; list = s.list }) ≡ s = same_journals s c.args.at q c.put.new.self c.put.new.pool p (c.in-Err.ensures.refused is) calls.1 in
    subst (λ (w : JournalsState). IfSome (slice_get w.queues c.args.at) (λ (u : LiveState). is_err (put_answer u.queue) ≡ true → (c.put.new.site ≡ c.args.site.now) × (c.put.new.serials ≡ c.args.serials.now))) c.self.view_is
    (if_placed s c.args.at q (λ (u : LiveState). is_err (put_answer u.queue) ≡ true → (c.put.new.site ≡ c.args.site.now) × (c.put.new.serials ≡ c.args.serials.now)) p
    (λ e. (calls.0, calls.2)))

pub returns-in_ok-refusal_or_cause-in-Err-clause-refused : goal.returns-in_ok-refusal_or_cause-in-Err-clause-refused
returns-in_ok-refusal_or_cause-in-Err-clause-refused g c =
    let s : JournalsState = record { home = c.self.inside.home; pool = c.self.inside.pool; queues = c.self.inside.queues.items; list = c.self.inside.list } in
    let q : LiveState = c.index_mut.result.now in
    let p : Placed s c.args.at q = placed s c.args.at q c.self.invariant (subst (λ (w : JournalsState). c.args.at < length w.queues) (sym c.self.view_is) c.requires.place) c.index_mut.ensures.value in
    let f : (c.in-Err.error ≡ queue.Numbers) × (c.in_ok-refusal_or_cause-in-Err.field-0 ≡ refusal.Spent) = numbers_of c.in-Err.error c.in_ok-refusal_or_cause-in-Err.field-0 c.in_ok-refusal_or_cause-in-Err.ensures.exact (λ e. c.in-Err.ensures.no_other.0 (ap (λ x. Err x) e)) (λ e. c.in-Err.ensures.no_other.1 (ap (λ x. Err x) e)) in
    let is : ◌≡◌ {A = Result ℕ QueueError} (Err c.in-Err.error) (Err queue.Numbers) = ap (λ x. Err x) f.0 in
    let calls = c.in-Err.ensures.no_call is in
    let same : (record { home = s.home; pool = c.put.new.pool; queues = set s.queues c.args.at c.put.new.self; list = s.list }) ≡ s = same_journals s c.args.at q c.put.new.self c.put.new.pool p (c.in-Err.ensures.refused is) calls.1 in
    (same ∙ c.self.view_is, calls.0, calls.2)

pub returns-in_ok-refusal_or_cause-in-Err-clause-list : goal.returns-in_ok-refusal_or_cause-in-Err-clause-list
returns-in_ok-refusal_or_cause-in-Err-clause-list g c =
    ap (λ (w : JournalsState). w.list) c.self.view_is

pub returns-in_ok-refusal_or_cause-in-Err-clause-kept : goal.returns-in_ok-refusal_or_cause-in-Err-clause-kept
returns-in_ok-refusal_or_cause-in-Err-clause-kept g c =
    let s : JournalsState = record { home = c.self.inside.home; pool = c.self.inside.pool; queues = c.self.inside.queues.items; list = c.self.inside.list } in
    let q : LiveState = c.index_mut.result.now in
    let p : Placed s c.args.at q = placed s c.args.at q c.self.invariant (subst (λ (w : JournalsState). c.args.at < length w.queues) (sym c.self.view_is) c.requires.place) c.index_mut.ensures.value in
    let f : (c.in-Err.error ≡ queue.Numbers) × (c.in_ok-refusal_or_cause-in-Err.field-0 ≡ refusal.Spent) = numbers_of c.in-Err.error c.in_ok-refusal_or_cause-in-Err.field-0 c.in_ok-refusal_or_cause-in-Err.ensures.exact (λ e. c.in-Err.ensures.no_other.0 (ap (λ x. Err x) e)) (λ e. c.in-Err.ensures.no_other.1 (ap (λ x. Err x) e)) in
    let is : ◌≡◌ {A = Result ℕ QueueError} (Err c.in-Err.error) (Err queue.Numbers) = ap (λ x. Err x) f.0 in
    let calls = c.in-Err.ensures.no_call is in
    let same : (record { home = s.home; pool = c.put.new.pool; queues = set s.queues c.args.at c.put.new.self; list = s.list }) ≡ s = same_journals s c.args.at q c.put.new.self c.put.new.pool p (c.in-Err.ensures.refused is) calls.1 in
    subst AreJournals (sym same) p.all

pub returns-in_ok-refusal_or_cause-in-Err-clause-released : goal.returns-in_ok-refusal_or_cause-in-Err-clause-released
returns-in_ok-refusal_or_cause-in-Err-clause-released g c =
    let s : JournalsState = record { home = c.self.inside.home; pool = c.self.inside.pool; queues = c.self.inside.queues.items; list = c.self.inside.list } in
    let q : LiveState = c.index_mut.result.now in
    let p : Placed s c.args.at q = placed s c.args.at q c.self.invariant (subst (λ (w : JournalsState). c.args.at < length w.queues) (sym c.self.view_is) c.requires.place) c.index_mut.ensures.value in
    let f : (c.in-Err.error ≡ queue.Numbers) × (c.in_ok-refusal_or_cause-in-Err.field-0 ≡ refusal.Spent) = numbers_of c.in-Err.error c.in_ok-refusal_or_cause-in-Err.field-0 c.in_ok-refusal_or_cause-in-Err.ensures.exact (λ e. c.in-Err.ensures.no_other.0 (ap (λ x. Err x) e)) (λ e. c.in-Err.ensures.no_other.1 (ap (λ x. Err x) e)) in
    let is : ◌≡◌ {A = Result ℕ QueueError} (Err c.in-Err.error) (Err queue.Numbers) = ap (λ x. Err x) f.0 in
    let calls = c.in-Err.ensures.no_call is in
    let same : (record { home = s.home; pool = c.put.new.pool; queues = set s.queues c.args.at c.put.new.self; list = s.list }) ≡ s = same_journals s c.args.at q c.put.new.self c.put.new.pool p (c.in-Err.ensures.refused is) calls.1 in
    subst (λ (w : JournalsState). AreReleased w.queues → AreReleased (set s.queues c.args.at c.put.new.self)) c.self.view_is (λ h. subst (λ (w : JournalsState). AreReleased w.queues) (sym same) h)

pub returns-in_ok-refusal_or_cause-in-Err-clause-told : goal.returns-in_ok-refusal_or_cause-in-Err-clause-told
returns-in_ok-refusal_or_cause-in-Err-clause-told g c =
    let s : JournalsState = record { home = c.self.inside.home; pool = c.self.inside.pool; queues = c.self.inside.queues.items; list = c.self.inside.list } in
    let q : LiveState = c.index_mut.result.now in
    let p : Placed s c.args.at q = placed s c.args.at q c.self.invariant (subst (λ (w : JournalsState). c.args.at < length w.queues) (sym c.self.view_is) c.requires.place) c.index_mut.ensures.value in
    let fits : IfSome (g.S.Site.told c.args.site.now) (OnDisk (Fits s)) = subst (λ w. IfSome (g.S.Site.told c.args.site.now) (OnDisk (Fits w))) (sym c.self.view_is) c.requires.fits in
    let f : (c.in-Err.error ≡ queue.Numbers) × (c.in_ok-refusal_or_cause-in-Err.field-0 ≡ refusal.Spent) = numbers_of c.in-Err.error c.in_ok-refusal_or_cause-in-Err.field-0 c.in_ok-refusal_or_cause-in-Err.ensures.exact (λ e. c.in-Err.ensures.no_other.0 (ap (λ x. Err x) e)) (λ e. c.in-Err.ensures.no_other.1 (ap (λ x. Err x) e)) in
    let is : ◌≡◌ {A = Result ℕ QueueError} (Err c.in-Err.error) (Err queue.Numbers) = ap (λ x. Err x) f.0 in
    let calls = c.in-Err.ensures.no_call is in
    let same : (record { home = s.home; pool = c.put.new.pool; queues = set s.queues c.args.at c.put.new.self; list = s.list }) ≡ s = same_journals s c.args.at q c.put.new.self c.put.new.pool p (c.in-Err.ensures.refused is) calls.1 in
    subst (λ (w : JournalsState). Tells (Changes w (record { home = s.home; pool = c.put.new.pool; queues = set s.queues c.args.at c.put.new.self; list = s.list })) (g.S.Site.told c.args.site.now) (g.S.Site.told c.put.new.site)) c.self.view_is (told_refused s _ (g.S.Site.told c.args.site.now) (g.S.Site.told c.put.new.site) same (ap g.S.Site.told calls.0) fits)

pub returns-in_ok-refusal_or_cause-in-Err-clause-alive : goal.returns-in_ok-refusal_or_cause-in-Err-clause-alive
returns-in_ok-refusal_or_cause-in-Err-clause-alive g c =
    let s : JournalsState = record { home = c.self.inside.home; pool = c.self.inside.pool; queues = c.self.inside.queues.items; list = c.self.inside.list } in
    let q : LiveState = c.index_mut.result.now in
    let p : Placed s c.args.at q = placed s c.args.at q c.self.invariant (subst (λ (w : JournalsState). c.args.at < length w.queues) (sym c.self.view_is) c.requires.place) c.index_mut.ensures.value in
    let f : (c.in-Err.error ≡ queue.Numbers) × (c.in_ok-refusal_or_cause-in-Err.field-0 ≡ refusal.Spent) = numbers_of c.in-Err.error c.in_ok-refusal_or_cause-in-Err.field-0 c.in_ok-refusal_or_cause-in-Err.ensures.exact (λ e. c.in-Err.ensures.no_other.0 (ap (λ x. Err x) e)) (λ e. c.in-Err.ensures.no_other.1 (ap (λ x. Err x) e)) in
    let is : ◌≡◌ {A = Result ℕ QueueError} (Err c.in-Err.error) (Err queue.Numbers) = ap (λ x. Err x) f.0 in
    let calls = c.in-Err.ensures.no_call is in
    let same : (record { home = s.home; pool = c.put.new.pool; queues = set s.queues c.args.at c.put.new.self; list = s.list }) ≡ s = same_journals s c.args.at q c.put.new.self c.put.new.pool p (c.in-Err.ensures.refused is) calls.1 in
    subst (λ (w : JournalsState). Carries (IsListAlive w) (IsListAlive (record { home = s.home; pool = c.put.new.pool; queues = set s.queues c.args.at c.put.new.self; list = s.list })) (g.S.Site.told c.args.site.now) (g.S.Site.told c.put.new.site)) c.self.view_is (alive_refused s _ (g.S.Site.told c.args.site.now) (g.S.Site.told c.put.new.site) same (ap g.S.Site.told calls.0))

pub returns-in_ok-refusal_or_cause-in-Err-clause-leaves : goal.returns-in_ok-refusal_or_cause-in-Err-clause-leaves
returns-in_ok-refusal_or_cause-in-Err-clause-leaves g c =
    let s : JournalsState = record { home = c.self.inside.home; pool = c.self.inside.pool; queues = c.self.inside.queues.items; list = c.self.inside.list } in
    let q : LiveState = c.index_mut.result.now in
    let p : Placed s c.args.at q = placed s c.args.at q c.self.invariant (subst (λ (w : JournalsState). c.args.at < length w.queues) (sym c.self.view_is) c.requires.place) c.index_mut.ensures.value in
    subst (λ (w : JournalsState). Tells (LeavesDead w) (g.S.Site.told c.args.site.now) (g.S.Site.told c.put.new.site)) c.self.view_is (leaves_so s p.all c.args.at q p.place p.held (g.S.Site.told c.args.site.now) (g.S.Site.told c.put.new.site) c.in-Err.ensures.leaves)

pub returns-in_ok-refusal_or_cause-in-Err-clause-writes : goal.returns-in_ok-refusal_or_cause-in-Err-clause-writes
returns-in_ok-refusal_or_cause-in-Err-clause-writes g c =
    let s : JournalsState = record { home = c.self.inside.home; pool = c.self.inside.pool; queues = c.self.inside.queues.items; list = c.self.inside.list } in
    let q : LiveState = c.index_mut.result.now in
    let p : Placed s c.args.at q = placed s c.args.at q c.self.invariant (subst (λ (w : JournalsState). c.args.at < length w.queues) (sym c.self.view_is) c.requires.place) c.index_mut.ensures.value in
    let f : (c.in-Err.error ≡ queue.Numbers) × (c.in_ok-refusal_or_cause-in-Err.field-0 ≡ refusal.Spent) = numbers_of c.in-Err.error c.in_ok-refusal_or_cause-in-Err.field-0 c.in_ok-refusal_or_cause-in-Err.ensures.exact (λ e. c.in-Err.ensures.no_other.0 (ap (λ x. Err x) e)) (λ e. c.in-Err.ensures.no_other.1 (ap (λ x. Err x) e)) in
    let is : ◌≡◌ {A = Result ℕ QueueError} (Err c.in-Err.error) (Err queue.Numbers) = ap (λ x. Err x) f.0 in
    let calls = c.in-Err.ensures.no_call is in
    let same : (record { home = s.home; pool = c.put.new.pool; queues = set s.queues c.args.at c.put.new.self; list = s.list }) ≡ s = same_journals s c.args.at q c.put.new.self c.put.new.pool p (c.in-Err.ensures.refused is) calls.1 in
    subst (λ (w : JournalsState). Tells (StaysWritten {X = JournalsState × Result ℕ Refusal} {E = Cause} (Ok ((record { home = s.home; pool = c.put.new.pool; queues = set s.queues c.args.at c.put.new.self; list = s.list }), Err c.in_ok-refusal_or_cause-in-Err.field-0)) (λ (x : JournalsState × Result ℕ Refusal). x.0) w) (g.S.Site.told c.args.site.now) (g.S.Site.told c.put.new.site)) c.self.view_is
    (writes_refused s ((record { home = s.home; pool = c.put.new.pool; queues = set s.queues c.args.at c.put.new.self; list = s.list }), Err c.in_ok-refusal_or_cause-in-Err.field-0) (λ (x : JournalsState × Result ℕ Refusal). x.0) (g.S.Site.told c.args.site.now) (g.S.Site.told c.put.new.site) same (ap g.S.Site.told calls.0))

pub returns-in_ok-refusal_or_cause-in-Err-clause-homes : goal.returns-in_ok-refusal_or_cause-in-Err-clause-homes
returns-in_ok-refusal_or_cause-in-Err-clause-homes g c =
    let s : JournalsState = record { home = c.self.inside.home; pool = c.self.inside.pool; queues = c.self.inside.queues.items; list = c.self.inside.list } in
    let q : LiveState = c.index_mut.result.now in
    let p : Placed s c.args.at q = placed s c.args.at q c.self.invariant (subst (λ (w : JournalsState). c.args.at < length w.queues) (sym c.self.view_is) c.requires.place) c.index_mut.ensures.value in
    let f : (c.in-Err.error ≡ queue.Numbers) × (c.in_ok-refusal_or_cause-in-Err.field-0 ≡ refusal.Spent) = numbers_of c.in-Err.error c.in_ok-refusal_or_cause-in-Err.field-0 c.in_ok-refusal_or_cause-in-Err.ensures.exact (λ e. c.in-Err.ensures.no_other.0 (ap (λ x. Err x) e)) (λ e. c.in-Err.ensures.no_other.1 (ap (λ x. Err x) e)) in
    let is : ◌≡◌ {A = Result ℕ QueueError} (Err c.in-Err.error) (Err queue.Numbers) = ap (λ x. Err x) f.0 in
    let calls = c.in-Err.ensures.no_call is in
    let same : (record { home = s.home; pool = c.put.new.pool; queues = set s.queues c.args.at c.put.new.self; list = s.list }) ≡ s = same_journals s c.args.at q c.put.new.self c.put.new.pool p (c.in-Err.ensures.refused is) calls.1 in
    same_homes _ c.args.self (same ∙ c.self.view_is)

pub returns-in_ok-refusal_or_cause-in-Err-clause-pools : goal.returns-in_ok-refusal_or_cause-in-Err-clause-pools
returns-in_ok-refusal_or_cause-in-Err-clause-pools g c =
    let s : JournalsState = record { home = c.self.inside.home; pool = c.self.inside.pool; queues = c.self.inside.queues.items; list = c.self.inside.list } in
    let q : LiveState = c.index_mut.result.now in
    let p : Placed s c.args.at q = placed s c.args.at q c.self.invariant (subst (λ (w : JournalsState). c.args.at < length w.queues) (sym c.self.view_is) c.requires.place) c.index_mut.ensures.value in
    subst (λ (w : JournalsState). Tells (Passes (TakesFromHome (homes_of w))) (g.S.Site.told c.args.site.now) (g.S.Site.told c.put.new.site)) c.self.view_is
    (pools_pass s p.all c.args.at q p.place p.held {X = ℕ} (Err c.in-Err.error) (g.S.Site.told c.args.site.now) (g.S.Site.told c.put.new.site) c.in-Err.ensures.went)
