-- The prepared list is changed by a call, and all queues stay: what holds of the journals then.
use Rattle.std.proofs.Common.{◌≡◌, true, false, ◌^◌, ◌<◌, List, [], ◌∷◌, Option, Some, None, IfSome, Result, Ok, Err, refl, sym, ap, ◌∙◌, subst}
use Rattle.std.specs.List.{AllByRecursion}
use Rattle.qls_model.specs.declared.machine.PoolId.{PoolId}
use Rattle.qls_site.specs.Disk.{Disk, FileState, IsQuiet, file_of}
use Rattle.qls_site.specs.Content.{Moment, Content, Tells, moments_since}
use Rattle.qls_site.proofs.Told.{Tells-weaken}
use Rattle.qls_filehdr.specs.declared.JournalKind.TheVariants.{List as TheList}
use Rattle.qls_meaning.specs.History.{History, FreeArea, AllUnmarked, now}
use Rattle.qls_pool.specs.Pools.{PoolState}
use Rattle.qls_pool.specs.Files.{IsWholePool, OnDisk, Carries}
use Rattle.qls_pool.specs.Moments.{Chain, Passes, Arrives}
use Rattle.qls_pool.proofs.Moments.{Passes-of, chain_weaken, since_is}
use Rattle.qls_log.specs.declared.fault.LogError.{LogError}
use Rattle.qls_log.specs.declared.fault.LogError.TheVariants as log
use Rattle.qls_log.specs.declared.opening.Opening.{Opening}
use Rattle.qls_log.specs.Logs.{LogState}
use Rattle.qls_log.specs.Leaving.{NoneLeaves, RemainsInUse, LeavesFile, LeavesInOrder}
use Rattle.qls_log.specs.Steps.{IsLogStep, GoesBy}
use Rattle.qls_log.specs.Unwritten.{IsWrittenTo, history_with}
use Rattle.qls_queue.specs.Live.{QueueThere}
use Rattle.qls_queue.specs.Releasing.{IsQueueWhole}
use Rattle.qls_prepared.specs.Lists.{PreparedState, opening_by, IsOwn, IsSound, ListThere, IsListWhole, StaysWhole, BecomesClean as ListBecomesClean}
use Rattle.qls_prepared.specs.Moments.{WrittenBy, LeavesDead as ListLeavesDead, StaysWritten as ListStaysWritten}
use Rattle.qls_prepared.specs.Ends.{IsFitPool, KeepsFit}
use Rattle.qls_journals.specs.declared.cause.Cause.{Cause}
use Rattle.qls_journals.specs.State.{JournalsState, IsKept, AreJournals, AreQueuesAlive, Fits, IsWhole}
use Rattle.qls_journals.specs.Homes.{homes_of, home_by, home_for, SameHomes, TakesFromHome}
use Rattle.qls_journals.specs.Moments.{IsStoreStep, Changes, BecomesClean, LeavesDead, StaysWritten, AreWritten}
use Rattle.qls_journals.proofs.AllJournals.{all_joined}
use Rattle.qls_journals.proofs.Others.{FilesStayWritten, store_arrival, store_passing, home_passing, queue_kept, IsAlive, queue_whole_kept, queue_alive_kept, written_kept, other_queue, named_kept, list_named_by, ids_kept}

-- ---- a call on the list, whatever it answered

pub passes_of : {X : Type 0} (R : Moment → Moment → Type 0) (r : Result X LogError) (a b : Option Content) → Tells (GoesBy R r) a b → Tells (Passes R) a b
passes_of {X} R r a b h = Tells-weaken (GoesBy R r) (Passes R) a b h (λ x y k. by r x y k)
  where
    by : (r : Result X LogError) (x y : Content) → GoesBy R r x y → Passes R x y
    by (Ok v) x y k = Passes-of R x y k
    by (Err log.Spent) x y k = Passes-of R x y k
    by (Err log.Failed) x y k = k
    by (Err log.Draw) x y k = k
    by (Err log.Memory) x y k = k

-- no file leaves use: then none leaves it out of order
file_in_order : (m : Moment) (p : Option FileState) (g : FileState) → RemainsInUse p g → LeavesFile m p g
file_in_order m None g h = tt
file_in_order m (Some f) g h = λ used unused.
    let both : true ≡ false = sym (h used) ∙ unused in
    absurd (cc)

all_in_order : (m : Moment) (d : Disk) → AllByRecursion (λ g. RemainsInUse (file_of g.id m.disk) g) d → AllByRecursion (λ g. LeavesFile m (file_of g.id m.disk) g) d
all_in_order m [] h = tt
all_in_order m (g ∷ d) h = (file_in_order m (file_of g.id m.disk) g h.0, all_in_order m d h.1)

in_order : (m n : Moment) → NoneLeaves m n → LeavesInOrder m n
in_order m n h = all_in_order m n.disk h

chain_in_order : (a b : Content) → Passes NoneLeaves a b → Chain LeavesInOrder a.now (moments_since a b)
chain_in_order a b h = subst (Chain LeavesInOrder a.now) (sym (since_is NoneLeaves a b h)) (chain_weaken NoneLeaves LeavesInOrder in_order a.now h.since h.chain)

pub leaves_no_file : (s : JournalsState) (a b : Option Content) → Tells (Passes NoneLeaves) a b → Tells (LeavesDead s) a b
leaves_no_file s a b h = Tells-weaken (Passes NoneLeaves) (LeavesDead s) a b h (λ x y k quiet unmarked whole. chain_in_order x y k)

pub leaves_dead : (s : JournalsState) (a b : Option Content) → Tells (ListLeavesDead s.list) a b → Tells (LeavesDead s) a b
leaves_dead s a b h = Tells-weaken (ListLeavesDead s.list) (LeavesDead s) a b h (λ x y k quiet unmarked whole. k quiet unmarked whole.list)

-- what the list's files have in common
abbrev pub own_opening : PreparedState → Opening
own_opening p = opening_by p.home p.log

pub kind_by : (home : PoolId) (log : Option LogState) → IsOwn log → (opening_by home log).kind ≡ TheList
kind_by home None own = refl
kind_by home (Some l) own = own.kind

pub name_by : (home : PoolId) (log : Option LogState) → IsOwn log → (opening_by home log).name ≡ []
name_by home None own = refl
name_by home (Some l) own = own.name

pub own_kind : (s : JournalsState) → AreJournals s → (own_opening s.list).kind ≡ TheList
own_kind s all = kind_by s.list.home s.list.log all.list.sound.log

pub own_name : (s : JournalsState) → AreJournals s → (own_opening s.list).name ≡ []
own_name s all = name_by s.list.home s.list.log all.list.sound.log

pub own_home : (s : JournalsState) → AreJournals s → home_by (own_opening s.list).kind (own_opening s.list).name (homes_of s) ≡ Some (home_for (own_opening s.list))
own_home s all = λ i. home_by (own_kind s all i) (own_name s all i) (homes_of s)

pub list_passes : {X : Type 0} (s : JournalsState) (all : AreJournals s) (v : Result X LogError) (a b : Option Content) → Tells (GoesBy (IsLogStep (own_opening s.list)) v) a b → Tells (Passes IsStoreStep) a b
list_passes s all v a b h =
    let o : Opening = own_opening s.list in
    Tells-weaken (Passes (IsLogStep o)) (Passes IsStoreStep) a b (passes_of (IsLogStep o) v a b h) (store_passing o)

pub list_pools : {X : Type 0} (s : JournalsState) (all : AreJournals s) (v : Result X LogError) (a b : Option Content) → Tells (GoesBy (IsLogStep (own_opening s.list)) v) a b → Tells (Passes (TakesFromHome (homes_of s))) a b
list_pools s all v a b h =
    let o : Opening = own_opening s.list in
    Tells-weaken (Passes (IsLogStep o)) (Passes (TakesFromHome (homes_of s))) a b (passes_of (IsLogStep o) v a b h) (home_passing o (homes_of s) (own_home s all))

pub list_writes_failed : {X Y : Type 0} (s : JournalsState) (v : Result X LogError) (new : PreparedState) (e : Cause) (after : Y → JournalsState) (a b : Option Content) → Tells (ListStaysWritten v s.list new) a b
    → Tells (StaysWritten {X = Y} {E = Cause} (Err e) after s) a b
list_writes_failed {X} {Y} s v new e after a b h =
    Tells-weaken (ListStaysWritten v s.list new) (StaysWritten {X = Y} {E = Cause} (Err e) after s) a b h (λ x y k areas history is written. ((k areas history is written.list).0, tt))

-- ---- at Ok

-- the list behind it
pub record NextList (p new : PreparedState) : Type 0 where
  pub home : new.home ≡ p.home
  pub opening : own_opening new ≡ own_opening p
  pub unended : new.ended ≡ false
  pub sound : IsSound new

-- what a call that wrote did
pub record ListCallDone (p new : PreparedState) (pool left : PoolState) (a b : Option Content) : Type 0 where
  pub went : Tells (Arrives (IsLogStep (own_opening p))) a b
  pub quiet : Carries IsQuiet IsQuiet a b
  pub there : IfSome b (OnDisk (ListThere new))
  pub whole : IfSome b (OnDisk (IsWholePool left))
  pub limit : pool.greatest < 2 ^ 62 → left.greatest < 2 ^ 62
  pub fit : Tells (KeepsFit pool left) a b

module _ (s : JournalsState) (all : AreJournals s) (new : PreparedState) (left : PoolState) (next : NextList s.list new) where
  abbrev o : Opening
  o = own_opening s.list

  abbrev pub with_list : JournalsState
  with_list = record { home = s.home; pool = left; queues = s.queues; list = new }

  pub list_journals_after : AreJournals with_list
  list_journals_after = record {
    home = all.home;
    kept = all.kept;
    rising = all.rising;
    list = record { unended = next.unended; sound = next.sound; home = next.home ∙ all.list.home };
  }

  pub list_homes_kept : SameHomes (homes_of with_list) (homes_of s)
  list_homes_kept = record { default = refl; queue = λ n. refl; list = ap home_for next.opening }

  module _ (a b : Content) (went : Arrives (IsLogStep o) a b) where
    list_fits_after : Fits s a.now.disk → ListThere new b.now.disk → IsWholePool left b.now.disk → (s.pool.greatest < 2 ^ 62 → left.greatest < 2 ^ 62) → (IsFitPool s.pool → IsFitPool left) → Fits with_list b.now.disk
    list_fits_after fits there whole limit fit = record {
      pool = whole;
      limit = limit fits.limit;
      fit = fit fits.fit;
      ids = ids_kept o a b went fits.ids;
      queues = all_joined IsKept (λ u. QueueThere u a.now.disk) (λ u. QueueThere u b.now.disk) (λ u k t. queue_kept o u a b k (other_queue o u (own_kind s all) k) went whole.0 t) s.queues all.kept fits.queues;
      list = there;
      own = named_kept s.queues o (list_named_by s.queues o (own_kind s all) (own_name s all)) a b went fits.own;
    }

    list_whole_after : IsListWhole new b.now.disk → IsWhole s a.now.disk → IsWhole with_list b.now.disk
    list_whole_after own was = record {
      queues = all_joined IsKept (λ u. IsQueueWhole u a.now.disk) (λ u. IsQueueWhole u b.now.disk) (λ u k w. queue_whole_kept o u a b (other_queue o u (own_kind s all) k) went w) s.queues all.kept was.queues;
      list = own;
    }

    queues_alive_after : AreQueuesAlive s.queues a.now.disk → AreQueuesAlive s.queues b.now.disk
    queues_alive_after alive = all_joined IsKept (λ u. IsAlive u a.now.disk) (λ u. IsAlive u b.now.disk) (λ u k c. queue_alive_kept o u a b (other_queue o u (own_kind s all) k) went c) s.queues all.kept alive

    changes_by : Fits s a.now.disk → (IsQuiet a.now.disk → IsQuiet b.now.disk) → ListThere new b.now.disk → IsWholePool left b.now.disk → (s.pool.greatest < 2 ^ 62 → left.greatest < 2 ^ 62) → (IsFitPool s.pool → IsFitPool left)
        → (AllUnmarked a.now (moments_since a b) → IsListWhole s.list a.now.disk → IsListWhole new b.now.disk) → Changes s with_list a b
    changes_by fits quiet there whole limit fit stays = record {
      arrives = store_arrival o a b went;
      quiet = quiet;
      fits = list_fits_after fits there whole limit fit;
      whole = λ unmarked was. list_whole_after (stays unmarked was.list) was;
      alive = λ unmarked was alive. queues_alive_after alive;
    }

    clean_by : ListBecomesClean s.list new a b → BecomesClean s with_list a b
    clean_by becomes = λ unmarked was alive.
        let own = becomes.clean unmarked was.list in
        record { whole = list_whole_after own.whole was; queues = queues_alive_after alive; list = own.alive }

  changes_told : (a b : Option Content) → IfSome a (OnDisk (Fits s)) → ListCallDone s.list new s.pool left a b
      → Tells (λ x y. AllUnmarked x.now (moments_since x y) → IsListWhole s.list x.now.disk → IsListWhole new y.now.disk) a b → Tells (Changes s with_list) a b
  changes_told a b fits done stays = by a b fits done.went done.quiet done.there done.whole done.fit stays
    where
      by : (a b : Option Content) → IfSome a (OnDisk (Fits s)) → Tells (Arrives (IsLogStep o)) a b → Carries IsQuiet IsQuiet a b → IfSome b (OnDisk (ListThere new)) → IfSome b (OnDisk (IsWholePool left))
          → Tells (KeepsFit s.pool left) a b → Tells (λ x y. AllUnmarked x.now (moments_since x y) → IsListWhole s.list x.now.disk → IsListWhole new y.now.disk) a b → Tells (Changes s with_list) a b
      by None None fits went quiet there whole fit stays = tt
      by None (Some y) fits went quiet there whole fit stays = absurd went
      by (Some x) None fits went quiet there whole fit stays = absurd went
      by (Some x) (Some y) fits went quiet there whole fit stays = changes_by x y went fits quiet there whole done.limit fit stays

  pub changes_whole : (a b : Option Content) → IfSome a (OnDisk (Fits s)) → ListCallDone s.list new s.pool left a b → Tells (StaysWhole s.list new) a b → Tells (Changes s with_list) a b
  changes_whole a b fits done stays = changes_told a b fits done (Tells-weaken (StaysWhole s.list new) _ a b stays (λ x y k. k.whole))

  pub changes_clean : (a b : Option Content) → IfSome a (OnDisk (Fits s)) → ListCallDone s.list new s.pool left a b → Tells (ListBecomesClean s.list new) a b → Tells (Changes s with_list) a b
  changes_clean a b fits done becomes =
      changes_told a b fits done (Tells-weaken (ListBecomesClean s.list new) _ a b becomes (λ x y k unmarked was. (k.clean unmarked was).whole))

  pub told_clean : (a b : Option Content) → Tells (Arrives (IsLogStep o)) a b → Tells (ListBecomesClean s.list new) a b → Tells (BecomesClean s with_list) a b
  told_clean None None went becomes = tt
  told_clean None (Some y) went becomes = absurd went
  told_clean (Some x) None went becomes = absurd went
  told_clean (Some x) (Some y) went becomes = clean_by x y went becomes

  list_written_after : (law : FilesStayWritten) (a b : Content) → Passes (IsLogStep o) a b → Fits s a.now.disk → (areas : List FreeArea) (h : History) → now h ≡ a.now
      → WrittenBy areas (history_with h (moments_since a b)) new.log → AreWritten areas h s → AreWritten areas (history_with h (moments_since a b)) with_list
  list_written_after law a b went fits areas h is own written = record {
    queues =
        all_joined (λ u. IsKept u × QueueThere u a.now.disk) (λ u. IsWrittenTo areas h u.log) (λ u. IsWrittenTo areas (history_with h (moments_since a b)) u.log)
        (λ u k w. written_kept o u.log k.0.log (other_queue o u (own_kind s all) k.0) areas h a b (law areas h u.log) went is k.0.sound.flushed k.1 w) s.queues
        (all_joined IsKept (λ u. QueueThere u a.now.disk) _ (λ u k t. (k, t)) s.queues all.kept fits.queues) written.queues;
    list = own;
  }

  pub list_writes_done : {X Y : Type 0} (law : FilesStayWritten) (v : X) (answer : Y) (journals : Y → JournalsState) (a b : Option Content) → journals answer ≡ with_list → IfSome a (OnDisk (Fits s)) → Tells (Arrives (IsLogStep o)) a b
      → Tells (ListStaysWritten (Ok v) s.list new) a b → Tells (StaysWritten {X = Y} {E = Cause} (Ok answer) journals s) a b
  list_writes_done law v answer journals None None is fits went h = tt
  list_writes_done law v answer journals None (Some y) is fits went h = absurd h
  list_writes_done law v answer journals (Some x) None is fits went h = absurd h
  list_writes_done law v answer journals (Some x) (Some y) is fits went h = λ areas history at_now written.
      let k = h areas history at_now written.list in
      (k.0, subst (AreWritten areas (history_with history (moments_since x y))) (sym is) (list_written_after law x y (Passes-of (IsLogStep o) x y went) fits areas history at_now k.1 written))
