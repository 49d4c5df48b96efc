-- One queue at its place is changed by a call, and all else stays: what holds of the journals then.
use Rattle.std.proofs.Common.{◌≡◌, inl, inr, ℕ, zero, suc, Bool, true, false, cond, ◌^◌, ◌<◌, List, [], ◌∷◌, map, Option, Some, None, IfSome, option_map, Result, Ok, Err, refl, sym, ap, ◌∙◌, subst}
use Rattle.std.proofs.Math.ListN.{set}
use Rattle.std.specs.List.{AllByRecursion, slice_get}
use Rattle.qls_model.specs.Bytes.{same, comes_before}
use Rattle.qls_model.specs.Machine.{change_queue}
use Rattle.qls_model.specs.declared.machine.QueueState.{QueueState}
use Rattle.qls_model.proofs.XidKeys.{same_true, same_self}
use Rattle.qls_record.specs.Record.{Record}
use Rattle.qls_site.specs.Disk.{IsQuiet}
use Rattle.qls_site.specs.Content.{Moment, Content, Tells, moments_since}
use Rattle.qls_filehdr.specs.declared.FileHeader.{FileHeader}
use Rattle.qls_meaning.specs.History.{History, FreeArea, AllUnmarked, now}
use Rattle.qls_pool.specs.Pools.{PoolState}
use Rattle.qls_pool.specs.Files.{IsWholePool, OnDisk, Carries}
use Rattle.qls_pool.specs.Moments.{Passes, Arrives}
use Rattle.qls_pool.proofs.Moments.{Passes-of}
use Rattle.qls_log.specs.declared.opening.Opening.{Opening}
use Rattle.qls_log.specs.Logs.{LogState}
use Rattle.qls_log.specs.Steps.{IsLogStep}
use Rattle.qls_log.specs.Unwritten.{IsWrittenTo, history_with}
use Rattle.qls_queue.specs.Live.{LiveState, QueueThere}
use Rattle.qls_queue.specs.declared.fault.QueueError.{QueueError}
use Rattle.qls_queue.specs.Moments.{ArrivesOr, GoesBy, is_exact, LeavesDead as QueueLeavesDead, StaysWritten as QueueStaysWritten}
use Rattle.qls_queue.specs.Releasing.{HasWrittenAndReleased, BecomesClean, IsQueueWhole, IsQueueClean}
use Rattle.qls_site.proofs.Told.{Tells-weaken}
use Rattle.qls_journals.specs.declared.cause.Cause.{Cause}
use Rattle.qls_journals.specs.State.{JournalsState, queues_of, queue_held, IsKept, IsReleased, AreReleased, AreJournals, AreQueuesAlive, IsListAlive, NamesRise, names_of, NamesQueue, NamesJournal, Fits, IsWhole}
use Rattle.qls_journals.specs.Homes.{Home, home_for, homes_of, SameHomes, home_by, TakesFromHome}
use Rattle.qls_journals.specs.Moments.{IsStoreStep, Changes, LeavesDead, StaysWritten, AreWritten}
use Rattle.qls_journals.proofs.FitPools.{IsFitDisk, fit_disk, fit_pool, released_fits}
use Rattle.qls_journals.proofs.Names.{before_differs, behind_differs, all_at, held_of}
use Rattle.qls_journals.proofs.Others.{FilesStayWritten, store_arrival, store_passing, home_passing, queue_kept, IsAlive, queue_whole_kept, queue_alive_kept, list_kept, list_whole_kept, list_alive_kept, list_written_kept, written_kept, other_name, other_list, named_kept, queue_named_by, ids_kept}

-- ---- the queues, in order of their names, with one changed

some_is : {A : Type 0} {x y : A} → Some x ≡ Some y → x ≡ y
some_is e = cc

abbrev AllAfter : List ℕ → List LiveState → Type 0
AllAfter n us = AllByRecursion (λ m. comes_before n m ≡ true) (names_of us)

-- a queue at a place behind the name
after_at : (n : List ℕ) (us : List LiveState) (at : ℕ) (q : LiveState) → AllAfter n us → slice_get us at ≡ Some q → comes_before n q.queue.name ≡ true
after_at n [] at q h e = absurd (cc)
after_at n (u ∷ us) zero q h e = subst (λ (v : LiveState). comes_before n v.queue.name ≡ true) (some_is e) h.0
after_at n (u ∷ us) (suc at) q h e = after_at n us at q h.1 e

all_rest : (P Q : LiveState → Type 0) (n : List ℕ) (us : List LiveState) → AllAfter n us → ((u : LiveState) → same n u.queue.name ≡ false → P u → Q u) → AllByRecursion P us → AllByRecursion Q us
all_rest P Q n [] behind other h = tt
all_rest P Q n (u ∷ us) behind other h = (other u (before_differs n u.queue.name behind.0) h.0, all_rest P Q n us behind.1 other h.1)

-- what holds of the queue that is changed, and of each other one
pub all_set : (P Q : LiveState → Type 0) (qs : List LiveState) (at : ℕ) (q r : LiveState) → NamesRise (names_of qs) → slice_get qs at ≡ Some q → ((u : LiveState) → same q.queue.name u.queue.name ≡ false → P u → Q u) → Q r
    → AllByRecursion P qs → AllByRecursion Q (set qs at r)
all_set P Q [] at q r rise e other new h = absurd (cc)
all_set P Q (u ∷ us) zero q r rise e other new h = (new, all_rest P Q q.queue.name us (subst (λ (v : LiveState). AllAfter v.queue.name us) (some_is e) rise.0) other h.1)
all_set P Q (u ∷ us) (suc at) q r rise e other new h =
    (other u (behind_differs q.queue.name u.queue.name (after_at u.queue.name us at q rise.0 e)) h.0, all_set P Q us at q r rise.1 e other new h.1)

pub names_set : (qs : List LiveState) (at : ℕ) (q r : LiveState) → slice_get qs at ≡ Some q → r.queue.name ≡ q.queue.name → names_of (set qs at r) ≡ names_of qs
names_set [] at q r e name = absurd (cc)
names_set (u ∷ us) zero q r e name = ap (λ n. n ∷ names_of us) (name ∙ sym (ap (λ (v : LiveState). v.queue.name) (some_is e)))
names_set (u ∷ us) (suc at) q r e name = ap (λ ns. u.queue.name ∷ ns) (names_set us at q r e name)

-- the machine's queues, where the one of that name is changed
module _ (f : QueueState → QueueState) where
  changed_rest : (n : List ℕ) (us : List LiveState) → AllAfter n us → map held_of us ≡ change_queue n f (map held_of us)
  changed_rest n [] h = refl
  changed_rest n (u ∷ us) h = λ i. cond (sym (behind_differs u.queue.name n h.0) i) (f u.queue) u.queue ∷ changed_rest n us h.1 i

  pub queues_set : (qs : List LiveState) (at : ℕ) (q r : LiveState) → NamesRise (names_of qs) → slice_get qs at ≡ Some q → r.queue ≡ f q.queue → map held_of (set qs at r) ≡ change_queue q.queue.name f (map held_of qs)
  queues_set [] at q r rise e is = absurd (cc)
  queues_set (u ∷ us) zero q r rise e is =
      subst (λ (v : LiveState). r.queue ∷ map held_of us ≡ change_queue q.queue.name f (v.queue ∷ map held_of us)) (sym (some_is e))
      (λ i. own i ∷ changed_rest q.queue.name us (subst (λ (v : LiveState). AllAfter v.queue.name us) (some_is e) rise.0) i)
    where
      own : r.queue ≡ cond (same q.queue.name q.queue.name) (f q.queue) q.queue
      own = is ∙ ap (λ b. cond b (f q.queue) q.queue) (sym (same_self q.queue.name))
  queues_set (u ∷ us) (suc at) q r rise e is =
      λ i. cond (sym (before_differs u.queue.name q.queue.name (after_at u.queue.name us at q rise.0 e)) i) (f u.queue) u.queue ∷ queues_set us at q r rise.1 e is i

-- the look-up by name
either : {A : Type 0} (p q : Bool) (x y : A) (rest : Option A) → (p ≡ true → q ≡ true → ⊥) → cond p (Some x) (cond q (Some y) rest) ≡ cond q (Some y) (cond p (Some x) rest)
either true true x y rest apart = absurd (apart refl refl)
either true false x y rest apart = refl
either false true x y rest apart = refl
either false false x y rest apart = refl

meet : (a b n : List ℕ) → same a b ≡ false → same a n ≡ true → same b n ≡ true → ⊥
meet a b n other x y = clash (sym (same_self a) ∙ ap (same a) (same_true a n x ∙ sym (same_true b n y)) ∙ other)
  where
    clash : true ≡ false → ⊥
    clash e = cc

twice : (b : Bool) (x y : LiveState) (rest : Option LiveState) → cond b (Some x) rest ≡ cond b (Some x) (cond b (Some y) rest)
twice true x y rest = refl
twice false x y rest = refl

pub held_set : (n : List ℕ) (qs : List LiveState) (at : ℕ) (q r : LiveState) → NamesRise (names_of qs) → slice_get qs at ≡ Some q → r.queue.name ≡ q.queue.name
    → queue_held n (set qs at r) ≡ cond (same q.queue.name n) (Some r) (queue_held n qs)
held_set n [] at q r rise e name = absurd (cc)
held_set n (u ∷ us) zero q r rise e name =
    ap (λ m. cond (same m n) (Some r) (queue_held n us)) name ∙ twice (same q.queue.name n) r q (queue_held n us)
    ∙ ap (λ (v : LiveState). cond (same q.queue.name n) (Some r) (cond (same v.queue.name n) (Some v) (queue_held n us))) (sym (some_is e))
held_set n (u ∷ us) (suc at) q r rise e name =
    ap (cond (same u.queue.name n) (Some u)) (held_set n us at q r rise.1 e name)
    ∙ either (same u.queue.name n) (same q.queue.name n) u r (queue_held n us) (meet u.queue.name q.queue.name n (before_differs u.queue.name q.queue.name (after_at u.queue.name us at q rise.0 e)))

all_both : (P Q : LiveState → Type 0) (qs : List LiveState) → AllByRecursion P qs → AllByRecursion Q qs → AllByRecursion (λ q. P q × Q q) qs
all_both P Q [] h k = tt
all_both P Q (q ∷ qs) h k = ((h.0, k.0), all_both P Q qs h.1 k.1)

-- ---- a call on the queue

-- how it went, whatever it answered
pub passes_of : {X : Type 0} (R : Moment → Moment → Type 0) (r : Result X QueueError) (a b : Option Content) → Tells (GoesBy R r) a b → Tells (Passes R) a b
passes_of R r a b h = Tells-weaken (GoesBy R r) (Passes R) a b h (λ x y k. by x y (is_exact r) k)
  where
    by : (x y : Content) (b : Bool) → ArrivesOr b R x y → Passes R x y
    by x y true k = Passes-of R x y k
    by x y false k = k

-- the queue behind it
pub record NextQueue (q r : LiveState) : Type 0 where
  pub opening : r.log.opening ≡ q.log.opening
  pub name : r.queue.name ≡ q.queue.name
  pub kept : IsKept r

-- what a call that wrote these records did
pub record CallDone (rs : List Record) (q r : LiveState) (pool left : PoolState) (draws draws_now : Option (List ℕ)) (a b : Option Content) : Type 0 where
  pub went : Tells (Arrives (IsLogStep q.log.opening)) a b
  pub quiet : Carries IsQuiet IsQuiet a b
  pub there : IfSome b (OnDisk (QueueThere r))
  pub whole : IfSome b (OnDisk (IsWholePool left))
  pub limit : pool.greatest < 2 ^ 62 → left.greatest < 2 ^ 62
  pub written : HasWrittenAndReleased rs q r pool left draws draws_now a b
  pub clean : Tells (BecomesClean q r) a b

pub opening_is : (rs : List Record) (q r : LiveState) (pool left : PoolState) (draws draws_now : Option (List ℕ)) (a b : Option Content) → HasWrittenAndReleased rs q r pool left draws draws_now a b → r.log.opening ≡ q.log.opening
opening_is rs q r pool left draws draws_now a b h = ap (λ (x : LiveState). x.log.opening) h.queue ∙ ap (λ (l : LogState). l.opening) h.written.flushed ∙ h.written.appended.opening

-- ---- the journals behind it

module _ (s : JournalsState) (all : AreJournals s) (at : ℕ) (q : LiveState) (place : slice_get s.queues at ≡ Some q) (held : queue_held q.queue.name s.queues ≡ Some q) where
  pub kept_queue : IsKept q
  kept_queue = all_at IsKept s.queues at q all.kept place

  abbrev o : Opening
  o = q.log.opening

  own_other : (u : LiveState) → same q.queue.name u.queue.name ≡ false → same o.name u.queue.name ≡ false
  own_other u e = ap (λ n. same n u.queue.name) (sym kept_queue.sound.name) ∙ e

  -- ---- whatever it answered

  pub journals_pass : {X : Type 0} (v : Result X QueueError) (a b : Option Content) → Tells (GoesBy (IsLogStep o) v) a b → Tells (Passes IsStoreStep) a b
  journals_pass v a b h = Tells-weaken (Passes (IsLogStep o)) (Passes IsStoreStep) a b (passes_of (IsLogStep o) v a b h) (store_passing o)

  pub home_is : home_by o.kind o.name (homes_of s) ≡ Some (home_for o)
  home_is =
      (λ i. home_by (kept_queue.sound.kind i) (sym kept_queue.sound.name i) (homes_of s)) ∙ ap (option_map (λ (u : LiveState). home_for u.log.opening)) held

  pub pools_pass : {X : Type 0} (v : Result X QueueError) (a b : Option Content) → Tells (GoesBy (IsLogStep o) v) a b → Tells (Passes (TakesFromHome (homes_of s))) a b
  pools_pass v a b h = Tells-weaken (Passes (IsLogStep o)) (Passes (TakesFromHome (homes_of s))) a b (passes_of (IsLogStep o) v a b h) (home_passing o (homes_of s) home_is)

  pub leaves_so : (a b : Option Content) → Tells (QueueLeavesDead q) a b → Tells (LeavesDead s) a b
  leaves_so a b h = Tells-weaken (QueueLeavesDead q) (LeavesDead s) a b h (λ x y k quiet unmarked whole. k quiet unmarked (all_at (λ u. IsQueueWhole u x.now.disk) s.queues at q whole.queues place))

  pub writes_failed : {X Y : Type 0} (v : Result X QueueError) (r : LiveState) (e : Cause) (after : Y → JournalsState) (a b : Option Content) → Tells (QueueStaysWritten v q r) a b → Tells (StaysWritten {X = Y} {E = Cause} (Err e) after s) a b
  writes_failed {X} {Y} v r e after a b h =
      Tells-weaken (QueueStaysWritten v q r) (StaysWritten {X = Y} {E = Cause} (Err e) after s) a b h (λ x y k areas history is written. ((k areas history is (all_at (λ u. IsWrittenTo areas history u.log) s.queues at q written.queues place)).0, tt))

  -- ---- at Ok

  module _ (r : LiveState) (left : PoolState) (next : NextQueue q r) where
    abbrev pub after : JournalsState
    after = record { home = s.home; pool = left; queues = set s.queues at r; list = s.list }

    pub journals_after : AreJournals after
    journals_after = record {
      home = all.home;
      kept = all_set IsKept IsKept s.queues at q r all.rising place (λ u other k. k) next.kept all.kept;
      rising = subst NamesRise (sym (names_set s.queues at q r place next.name)) all.rising;
      list = all.list;
    }

    pub queues_after : (f : QueueState → QueueState) → r.queue ≡ f q.queue → queues_of after ≡ change_queue q.queue.name f (queues_of s)
    queues_after f is = queues_set f s.queues at q r all.rising place is

    pub released_after : IsReleased r → AreReleased s.queues → AreReleased (set s.queues at r)
    released_after one h = all_set IsReleased IsReleased s.queues at q r all.rising place (λ u other k. k) one h

    found : (n : List ℕ) → queue_held n (set s.queues at r) ≡ cond (same q.queue.name n) (Some r) (queue_held n s.queues)
    found n = held_set n s.queues at q r all.rising place next.name

    pub homes_kept : SameHomes (homes_of after) (homes_of s)
    homes_kept = record { default = refl; queue = λ n. ap home_of (found n) ∙ by n (same q.queue.name n) refl; list = refl }
      where
        home_of : Option LiveState → Option Home
        home_of u = option_map (λ (u : LiveState). home_for u.log.opening) u

        by : (n : List ℕ) (b : Bool) → same q.queue.name n ≡ b → home_of (cond b (Some r) (queue_held n s.queues)) ≡ home_of (queue_held n s.queues)
        by n true k = ap (λ (p : Opening). Some (home_for p)) next.opening ∙ ap home_of (sym held ∙ ap (λ m. queue_held m s.queues) (same_true q.queue.name n k))
        by n false k = refl

    still_queue : (h : FileHeader) → NamesQueue s.queues h → NamesQueue (set s.queues at r) h
    still_queue h k = let u = by (same q.queue.name h.name) in record { kind = k.kind; queue = u.0; there = found h.name ∙ u.1 }
      where
        by : (b : Bool) → (u : LiveState) × (cond b (Some r) (queue_held h.name s.queues) ≡ Some u)
        by true = (r, refl)
        by false = (k.queue, k.there)

    still_named : (h : FileHeader) → NamesJournal s.queues h → NamesJournal (set s.queues at r) h
    still_named h (inl k) = inl (still_queue h k)
    still_named h (inr k) = inr k

    own_held : queue_held o.name (set s.queues at r) ≡ Some r
    own_held = ap (λ n. queue_held n (set s.queues at r)) (sym kept_queue.sound.name) ∙ found q.queue.name ∙ ap (λ b. cond b (Some r) (queue_held q.queue.name s.queues)) (same_self q.queue.name)

    module _ (a b : Content) (went : Arrives (IsLogStep o) a b) where
      pub fits_after : Fits s a.now.disk → QueueThere r b.now.disk → IsWholePool left b.now.disk → (s.pool.greatest < 2 ^ 62 → left.greatest < 2 ^ 62) → (IsFitDisk a.now.disk → IsFitDisk b.now.disk) → Fits after b.now.disk
      fits_after fits there whole limit fit = record {
        pool = whole;
        limit = limit fits.limit;
        fit = fit_pool left b.now.disk whole (fit (fit_disk s.pool a.now.disk fits.pool fits.fit));
        ids = ids_kept o a b went fits.ids;
        queues =
            all_set (λ u. IsKept u × QueueThere u a.now.disk) (λ u. QueueThere u b.now.disk) s.queues at q r all.rising place
            (λ u other k. queue_kept o u a b k.0 (other_name o u kept_queue.sound.kind k.0 (own_other u other)) went whole.0 k.1) there
            (all_both IsKept (λ u. QueueThere u a.now.disk) s.queues all.kept fits.queues);
        list = list_kept o (other_list o kept_queue.sound.kind) a b went s.list all.list.sound whole.0 fits.list;
        own = named_kept (set s.queues at r) o (queue_named_by (set s.queues at r) o kept_queue.sound.kind r own_held) a b went (λ id f found used. still_named _ (fits.own id f found used));
      }

      pub whole_after : IsQueueWhole r b.now.disk → IsWhole s a.now.disk → IsWhole after b.now.disk
      whole_after own whole = record {
        queues =
            all_set (λ u. IsKept u × IsQueueWhole u a.now.disk) (λ u. IsQueueWhole u b.now.disk) s.queues at q r all.rising place
            (λ u other k. queue_whole_kept o u a b (other_name o u kept_queue.sound.kind k.0 (own_other u other)) went k.1) own
            (all_both IsKept (λ u. IsQueueWhole u a.now.disk) s.queues all.kept whole.queues);
        list = list_whole_kept o (other_list o kept_queue.sound.kind) a b went s.list all.list.sound whole.list;
      }

      pub queues_alive_after : IsAlive r b.now.disk → AreQueuesAlive s.queues a.now.disk → AreQueuesAlive (set s.queues at r) b.now.disk
      queues_alive_after own alive =
          all_set (λ u. IsKept u × IsAlive u a.now.disk) (λ u. IsAlive u b.now.disk) s.queues at q r all.rising place
          (λ u other k. queue_alive_kept o u a b (other_name o u kept_queue.sound.kind k.0 (own_other u other)) went k.1) own
          (all_both IsKept (λ u. IsAlive u a.now.disk) s.queues all.kept alive)

      pub alive_after : IsListAlive s a.now.disk → IsListAlive after b.now.disk
      alive_after h = list_alive_kept o (other_list o kept_queue.sound.kind) a b went s.list all.list.sound h

    pub told_alive : (a b : Option Content) → Tells (Arrives (IsLogStep o)) a b → Carries (IsListAlive s) (IsListAlive after) a b
    told_alive None None went = tt
    told_alive None (Some y) went = tt
    told_alive (Some x) None went = tt
    told_alive (Some x) (Some y) went = alive_after x y went

    written_after : (law : FilesStayWritten) (a b : Content) → Passes (IsLogStep o) a b → Fits s a.now.disk → (areas : List FreeArea) (h : History) → now h ≡ a.now
        → IsWrittenTo areas (history_with h (moments_since a b)) r.log → AreWritten areas h s → AreWritten areas (history_with h (moments_since a b)) after
    written_after law a b went fits areas h is new written = record {
      queues =
          all_set (λ u. (IsKept u × QueueThere u a.now.disk) × IsWrittenTo areas h u.log) (λ u. IsWrittenTo areas (history_with h (moments_since a b)) u.log) s.queues at q r all.rising place
          (λ u other k. written_kept o u.log k.0.0.log (other_name o u kept_queue.sound.kind k.0.0 (own_other u other)) areas h a b (law areas h u.log) went is k.0.0.sound.flushed k.0.1 k.1) new
          (all_both (λ u. IsKept u × QueueThere u a.now.disk) (λ u. IsWrittenTo areas h u.log) s.queues (all_both IsKept (λ u. QueueThere u a.now.disk) s.queues all.kept fits.queues) written.queues);
      list = list_written_kept law o (other_list o kept_queue.sound.kind) areas h a b went is s.list all.list.sound fits.list written.list;
    }

    -- `answer` is what the call gives back, with the journals in it
    pub writes_done : {X Y : Type 0} (law : FilesStayWritten) (v : X) (answer : Y) (journals : Y → JournalsState) (a b : Option Content) → journals answer ≡ after → IfSome a (OnDisk (Fits s)) → Tells (Arrives (IsLogStep o)) a b → Tells (QueueStaysWritten (Ok v) q r) a b
        → Tells (StaysWritten {X = Y} {E = Cause} (Ok answer) journals s) a b
    writes_done law v answer journals None None is fits went h = tt
    writes_done law v answer journals None (Some y) is fits went h = absurd h
    writes_done law v answer journals (Some x) None is fits went h = absurd h
    writes_done law v answer journals (Some x) (Some y) is fits went h = λ areas history at_now written.
        let k = h areas history at_now (all_at (λ u. IsWrittenTo areas history u.log) s.queues at q written.queues place) in
        (k.0, subst (AreWritten areas (history_with history (moments_since x y))) (sym is) (written_after law x y (Passes-of (IsLogStep o) x y went) fits areas history at_now k.1 written))

    pub changes_done : (rs : List Record) (draws draws_now : Option (List ℕ)) (a b : Option Content) → IfSome a (OnDisk (Fits s)) → CallDone rs q r s.pool left draws draws_now a b → Tells (Changes s after) a b
    changes_done rs draws draws_now a b fits done = by a b fits done.went done.quiet done.there done.whole done.written done.clean
      where
        now_clean : (x y : Content) → BecomesClean q r x y → AllUnmarked x.now (moments_since x y) → IsWhole s x.now.disk → IsQueueClean r y.now.disk
        now_clean x y clean unmarked was = clean.clean unmarked (all_at (λ u. IsQueueWhole u x.now.disk) s.queues at q was.queues place)

        by : (a b : Option Content) → IfSome a (OnDisk (Fits s)) → Tells (Arrives (IsLogStep o)) a b → Carries IsQuiet IsQuiet a b → IfSome b (OnDisk (QueueThere r)) → IfSome b (OnDisk (IsWholePool left))
            → HasWrittenAndReleased rs q r s.pool left draws draws_now a b → Tells (BecomesClean q r) a b → Tells (Changes s after) a b
        by None None fits went quiet there whole written clean = tt
        by None (Some y) fits went quiet there whole written clean = absurd went
        by (Some x) None fits went quiet there whole written clean = absurd went
        by (Some x) (Some y) fits went quiet there whole written clean = record {
          arrives = store_arrival o x y went;
          quiet = quiet;
          fits = fits_after x y went fits there whole done.limit (released_fits rs q r s.pool left draws draws_now x y kept_queue.log written);
          whole = λ unmarked was. whole_after x y went (now_clean x y clean unmarked was).whole was;
          alive = λ unmarked was alive. queues_alive_after x y went (now_clean x y clean unmarked was).alive alive;
        }
