-- A new queue at its place among the others: what holds of the journals then, and what all else keeps.
use Rattle.std.proofs.Common.{◌≡◌, ◌⊎◌, inl, inr, ℕ, zero, suc, Bool, true, false, cond, ◌^◌, ◌<◌, ◌≤◌, List, [], ◌∷◌, map, length, take, drop, Option, Some, None, IfSome, IsTrue, option_map, Result, Ok, Err, IsErr, append-nil, arith, refl, sym, ap, ◌∙◌, subst}
use Rattle.std.specs.List.{AllByRecursion, insert}
use Rattle.qls_model.specs.Bytes.{same}
use Rattle.qls_model.specs.Limits.{is_queue_name, is_partition, is_kib}
use Rattle.qls_model.specs.Machine.{with_queue}
use Rattle.qls_model.specs.declared.machine.PoolId.{PoolId}
use Rattle.qls_model.specs.declared.machine.QueueState.{QueueState}
use Rattle.qls_model.proofs.XidKeys.{same_self}
use Rattle.qls_site.specs.Disk.{FileState, IsQuiet, file_of}
use Rattle.qls_site.specs.Content.{Moment, Content, Tells, moments_since}
use Rattle.qls_site.proofs.Told.{Tells-weaken}
use Rattle.qls_filehdr.specs.declared.FileHeader.{FileHeader}
use Rattle.qls_meaning.specs.Journals.{is_in_use}
use Rattle.qls_pool.specs.Pools.{PoolState, IsSpent}
use Rattle.qls_pool.specs.Files.{IsWholePool, OnDisk, Carries}
use Rattle.qls_pool.specs.Moments.{Chain, Passes, Arrives, EndsIn}
use Rattle.qls_pool.specs.Serials.{DrawsTaken, taken_since}
use Rattle.qls_pool.proofs.Moments.{Passes-of, Passes-same, since_is, chain_weaken}
use Rattle.qls_pool.proofs.Steps.{all_weaken}
use Rattle.qls_log.specs.declared.opening.Opening.{Opening}
use Rattle.qls_log.specs.Appending.{IsNew}
use Rattle.qls_log.specs.Leaving.{NoneLeaves, LeavesInOrder, RemainsInUse, LeavesFile}
use Rattle.qls_log.specs.Logs.{LogState, IsLegalOpening, IsSound as IsSoundLog}
use Rattle.qls_log.specs.Standing.{files_on}
use Rattle.qls_log.specs.Steps.{IsLogStep}
use Rattle.qls_log.specs.Taking.{TakesFiles}
use Rattle.qls_log.specs.Unwritten.{IsWrittenTo, history_with}
use Rattle.qls_queue.specs.Faults.{QueueCauses}
use Rattle.qls_queue.specs.Live.{LiveState, IsSound, QueueThere}
use Rattle.qls_queue.specs.Moments.{BeginsWritten, is_exact_error}
use Rattle.qls_queue.specs.Records.{opening_of}
use Rattle.qls_queue.specs.Releasing.{BeginsClean, IsQueueWhole}
use Rattle.qls_queue.specs.declared.fault.QueueError.{QueueError}
use Rattle.qls_queue.specs.declared.fault.QueueError.TheVariants as queue
use Rattle.qls_journals.specs.declared.cause.Cause.{Cause}
use Rattle.qls_journals.specs.declared.cause.Cause.TheVariants.{Failed, Draw, Spent}
use Rattle.qls_journals.specs.State.{JournalsState, queues_of, queue_held, IsKept, IsReleased, AreReleased, AreJournals, AreQueuesAlive, NamesJournal, Fits, IsWhole, IsListAlive}
use Rattle.qls_journals.specs.Answers.{is_exact as store_exact, StoreCauses}
use Rattle.qls_journals.specs.Errors.{by_error}
use Rattle.qls_journals.specs.Homes.{Home, Homes, new_home, home_for, homes_of, with_home, SameHomes, TakesFromHome}
use Rattle.qls_journals.specs.Ends.{NewQueueStops, HadNewQueue}
use Rattle.qls_journals.specs.Moments.{IsStoreStep, Changes, LeavesDead, StaysWritten}
use Rattle.qls_journals.specs.Places.{WouldStandAt}
use Rattle.qls_journals.proofs.FitPools.{IsFitDisk, fit_disk, fit_pool, files_taken}
use Rattle.qls_journals.proofs.Missing.{no_journal, spent_of_disk, no_file_of}
use Rattle.qls_journals.proofs.Names.{held_of, AllBefore, AllBehind, Lacks, lacks_between, before_differs, behind_differs}
use Rattle.qls_journals.proofs.Others.{store_arrival, store_passing, home_passing, queue_kept, IsAlive, queue_whole_kept, queue_alive_kept, written_kept, other_name, other_list, named_kept, queue_named_by, ids_kept, list_kept, list_whole_kept, list_alive_kept, list_written_kept, FilesStayWritten}
use Rattle.qls_journals.proofs.Resting.{writes_none}
use Rattle.qls_journals.proofs.Placing.{all_insert, rises_insert, queues_insert, held_insert}

-- ---- the new queue

abbrev pub new_queue : List ℕ → QueueState
new_queue name = record { name = name; last = 0; messages = [] }

pub record IsMade (name : List ℕ) (home : PoolId) (q : LiveState) : Type 0 where
  pub queue : q.queue ≡ new_queue name
  pub unended : q.ended ≡ false
  pub new : IsNew (opening_of name home) q.log
  pub sound : IsSound q
  pub log : IsSoundLog q.log

pub opening_made : (name : List ℕ) (home : PoolId) (q : LiveState) → IsMade name home q → q.log.opening ≡ opening_of name home
opening_made name home q m = ap (λ (l : LogState). l.opening) m.new.log

pub kept_made : (name : List ℕ) (home : PoolId) (q : LiveState) → IsTrue (is_queue_name name) → IsMade name home q → IsKept q
kept_made name home q legal m = record {
  unended = m.unended;
  sound = m.sound;
  log = m.log;
  name = subst (λ (p : QueueState). IsTrue (is_queue_name p.name)) (sym m.queue) legal;
}

-- it has one file
pub released_made : (name : List ℕ) (home : PoolId) (q : LiveState) → IsMade name home q → IsReleased q
released_made name home q m = λ e. ap (λ (l : LogState). length l.files) m.new.log

pub legal_opening : (name : List ℕ) (home : PoolId) → is_queue_name name ≡ true → (is_partition home.part ≡ true) × (is_kib home.kib ≡ true) → IsLegalOpening (opening_of name home)
legal_opening name home legal within = record { part = within.0; kib = within.1; epoch = (omega arith, omega arith); name = legal }

-- ---- lists

-- three facts of each queue, and what follows of it
pub all_three : (P Q R T : LiveState → Type 0) → ((u : LiveState) → P u → Q u → R u → T u) → (qs : List LiveState) → AllByRecursion P qs → AllByRecursion Q qs → AllByRecursion R qs → AllByRecursion T qs
all_three P Q R T f [] p q r = tt
all_three P Q R T f (u ∷ us) p q r = (f u p.0 q.0 r.0, all_three P Q R T f us p.1 q.1 r.1)

pub all_two : (P Q : LiveState → Type 0) (us : List LiveState) → AllByRecursion P us → AllByRecursion Q us → AllByRecursion (λ u. P u × Q u) us
all_two P Q [] p q = tt
all_two P Q (u ∷ us) p q = ((p.0, q.0), all_two P Q us p.1 q.1)

-- each queue has another name
abbrev pub AllOther : List ℕ → List LiveState → Type 0
AllOther name qs = AllByRecursion (λ u. same name u.queue.name ≡ false) qs

pub others_between : (name : List ℕ) (qs : List LiveState) (i : ℕ) → AllBefore name (take i qs) → AllBehind name (drop i qs) → AllOther name qs
others_between name [] i b a = tt
others_between name (q ∷ qs) zero b a = (before_differs name q.queue.name a.0, others_between name qs zero tt a.1)
others_between name (q ∷ qs) (suc i) b a = (behind_differs name q.queue.name b.0, others_between name qs i b.1 a)

-- ---- where no file leaves use

none_leaves : (m n : Moment) → NoneLeaves m n → LeavesInOrder m n
none_leaves m n h = all_weaken (λ g. RemainsInUse (file_of g.id m.disk) g) (λ g. LeavesFile m (file_of g.id m.disk) g) (λ g k. by g (file_of g.id m.disk) k) n.disk h
  where
    not_both : (b : Bool) → b ≡ true → b ≡ false → ⊥
    not_both b t f = cc

    by : (g : FileState) (o : Option FileState) → RemainsInUse o g → LeavesFile m o g
    by g None k = tt
    by g (Some f) k = λ was gone. absurd (not_both (is_in_use g.place) (k was) gone)

pub leaves_staying : (s : JournalsState) (a b : Option Content) → Tells (Passes NoneLeaves) a b → Tells (LeavesDead s) a b
leaves_staying s a b h = Tells-weaken (Passes NoneLeaves) (LeavesDead s) a b h (λ x y k quiet unmarked whole.
    subst (Chain LeavesInOrder x.now) (sym (since_is NoneLeaves x y k)) (chain_weaken NoneLeaves LeavesInOrder none_leaves x.now k.since k.chain))

-- ---- the journals behind it

module _ (s : JournalsState) (store : AreJournals s) (name : List ℕ) (home : PoolId) (at : ℕ) (w : WouldStandAt s.queues name at) where
  abbrev pub o : Opening
  o = opening_of name home

  abbrev pub homes_made : Homes
  homes_made = with_home name (Some home) (homes_of s)

  others : AllOther name s.queues
  others = others_between name s.queues at w.before w.behind

  pub pools_made : (a b : Option Content) → Tells (Passes (IsLogStep o)) a b → Tells (Passes (TakesFromHome homes_made)) a b
  pools_made a b h =
      Tells-weaken (Passes (IsLogStep o)) (Passes (TakesFromHome homes_made)) a b h
      (home_passing o homes_made (ap (λ b. cond b (Some (new_home home)) ((homes_of s).queue name)) (same_self name)))

  -- the site has no file of it
  pub asked : (a : Option Content) → IfSome a (OnDisk (Fits s)) → IfSome a (OnDisk (λ d. files_on o d ≡ []))
  asked None fits = tt
  asked (Some a) fits = no_journal s.queues s.pool a.now.disk name home fits.pool fits.own w.none

  -- there is no file for it
  pub stops : (left : PoolState) (a b : Option Content) → IfSome a (OnDisk (Fits s)) → b ≡ a → left ≡ s.pool → IsSpent home left → Tells (NewQueueStops s home) a b
  stops left a b fits same stays spent = subst (λ (b : Option Content). Tells (NewQueueStops s home) a b) (sym same) (by a fits)
    where
      by : (a : Option Content) → IfSome a (OnDisk (Fits s)) → Tells (NewQueueStops s home) a a
      by None fits = tt
      by (Some x) fits = record { same = refl; meets = no_file_of home s.pool x.now.disk fits.pool (subst (IsSpent home) stays spent) }

  -- there was one
  pub had_file : (a b : Option Content) → IfSome a (OnDisk (Fits s)) → (IsSpent home s.pool → ⊥) → Tells (Arrives (IsLogStep o)) a b → Tells (HadNewQueue s home) a b
  had_file None None fits had went = tt
  had_file None (Some y) fits had went = absurd went
  had_file (Some x) None fits had went = absurd went
  had_file (Some x) (Some y) fits had went = λ ends. had (spent_of_disk home s.pool x.now.disk fits.pool ends)

  module _ (q : LiveState) (left : PoolState) (legal : IsTrue (is_queue_name name)) (m : IsMade name home q) where
    abbrev pub after : JournalsState
    after = record { home = s.home; pool = left; queues = insert s.queues at q; list = s.list }

    name_is : name ≡ q.queue.name
    name_is = sym (ap (λ (p : QueueState). p.name) m.queue)

    before : AllBefore q.queue.name (take at s.queues)
    before = subst (λ n. AllBefore n (take at s.queues)) name_is w.before

    behind : AllBehind q.queue.name (drop at s.queues)
    behind = subst (λ n. AllBehind n (drop at s.queues)) name_is w.behind

    pub store_after : AreJournals after
    store_after = record {
      home = store.home;
      kept = all_insert IsKept s.queues at q (kept_made name home q legal m) store.kept;
      rising = rises_insert s.queues at q store.rising before behind;
      list = store.list;
    }

    pub released_after : AreReleased s.queues → AreReleased (insert s.queues at q)
    released_after h = all_insert IsReleased s.queues at q (released_made name home q m) h

    pub queues_after : queues_of after ≡ with_queue (new_queue name) (queues_of s)
    queues_after = sym (queues_insert s.queues at q before behind) ∙ ap (λ (p : QueueState). with_queue p (map held_of s.queues)) m.queue

    found : (n : List ℕ) → queue_held n (insert s.queues at q) ≡ cond (same name n) (Some q) (queue_held n s.queues)
    found n =
        held_insert n s.queues at q (subst (λ n. Lacks n s.queues) name_is (lacks_between name s.queues at w.before w.behind))
        ∙ ap (λ k. cond (same k n) (Some q) (queue_held n s.queues)) (sym name_is)

    pub homes_after : SameHomes (homes_of after) homes_made
    homes_after = record { default = refl; queue = λ n. ap home_of (found n) ∙ by n (same name n); list = refl }
      where
        home_of : Option LiveState → Option Home
        home_of u = option_map (λ (u : LiveState). home_for u.log.opening) u

        by : (n : List ℕ) (b : Bool) → home_of (cond b (Some q) (queue_held n s.queues)) ≡ cond b (Some (new_home home)) ((homes_of s).queue n)
        by n true = ap (λ (p : Opening). Some (home_for p)) (opening_made name home q m)
        by n false = refl

    still_named : (h : FileHeader) → NamesJournal s.queues h → NamesJournal (insert s.queues at q) h
    still_named h (inl k) = let u = by (same name h.name) in inl (record { kind = k.kind; queue = u.0; there = found h.name ∙ u.1 })
      where
        by : (b : Bool) → (u : LiveState) × (cond b (Some q) (queue_held h.name s.queues) ≡ Some u)
        by true = (q, refl)
        by false = (k.queue, k.there)
    still_named h (inr k) = inr k

    own_held : queue_held name (insert s.queues at q) ≡ Some q
    own_held = found name ∙ ap (λ b. cond b (Some q) (queue_held name s.queues)) (same_self name)

    module _ (a b : Content) (went : Arrives (IsLogStep o) a b) where
      pub fits_after : Fits s a.now.disk → QueueThere q b.now.disk → IsWholePool left b.now.disk → (s.pool.greatest < 2 ^ 62 → left.greatest < 2 ^ 62) → (IsFitDisk a.now.disk → IsFitDisk b.now.disk) → Fits after b.now.disk
      fits_after fits there whole limit fit = record {
        pool = whole;
        limit = limit fits.limit;
        fit = fit_pool left b.now.disk whole (fit (fit_disk s.pool a.now.disk fits.pool fits.fit));
        ids = ids_kept o a b went fits.ids;
        queues =
            all_insert (λ u. QueueThere u b.now.disk) s.queues at q there
            (all_three IsKept (λ u. same name u.queue.name ≡ false) (λ u. QueueThere u a.now.disk) (λ u. QueueThere u b.now.disk) (λ u kept other k. queue_kept o u a b kept (other_name o u refl kept other) went whole.0 k) s.queues store.kept others fits.queues);
        list = list_kept o (other_list o refl) a b went s.list store.list.sound whole.0 fits.list;
        own = named_kept (insert s.queues at q) o (queue_named_by (insert s.queues at q) o refl q own_held) a b went (λ id f found used. still_named _ (fits.own id f found used));
      }

      pub whole_after : IsQueueWhole q b.now.disk → IsWhole s a.now.disk → IsWhole after b.now.disk
      whole_after own all = record {
        queues =
            all_insert (λ u. IsQueueWhole u b.now.disk) s.queues at q own
            (all_three IsKept (λ u. same name u.queue.name ≡ false) (λ u. IsQueueWhole u a.now.disk) (λ u. IsQueueWhole u b.now.disk) (λ u kept other k. queue_whole_kept o u a b (other_name o u refl kept other) went k) s.queues store.kept others all.queues);
        list = list_whole_kept o (other_list o refl) a b went s.list store.list.sound all.list;
      }

      pub queues_alive_after : IsAlive q b.now.disk → AreQueuesAlive s.queues a.now.disk → AreQueuesAlive (insert s.queues at q) b.now.disk
      queues_alive_after own alive =
          all_insert (λ u. IsAlive u b.now.disk) s.queues at q own
          (all_three IsKept (λ u. same name u.queue.name ≡ false) (λ u. IsAlive u a.now.disk) (λ u. IsAlive u b.now.disk) (λ u kept other k. queue_alive_kept o u a b (other_name o u refl kept other) went k) s.queues store.kept others alive)

    -- what making it did
    pub record MakingDone (a b : Option Content) : Type 0 where
      pub went : Tells (Arrives (IsLogStep o)) a b
      pub quiet : Carries IsQuiet IsQuiet a b
      pub there : IfSome b (OnDisk (QueueThere q))
      pub whole : IfSome b (OnDisk (IsWholePool left))
      pub limit : s.pool.greatest < 2 ^ 62 → left.greatest < 2 ^ 62
      pub took : Tells (TakesFiles home s.pool left q.log.files) a b
      pub clean : Tells (BeginsClean q) a b
      pub within : (is_partition home.part ≡ true) × (is_kib home.kib ≡ true)

    pub changes_made : (a b : Option Content) → IfSome a (OnDisk (Fits s)) → MakingDone a b → Tells (Changes s after) a b
    changes_made a b fits done = by a b fits done.went done.quiet done.there done.whole done.took done.clean
      where
        by : (a b : Option Content) → IfSome a (OnDisk (Fits s)) → Tells (Arrives (IsLogStep o)) a b → Carries IsQuiet IsQuiet a b → IfSome b (OnDisk (QueueThere q)) → IfSome b (OnDisk (IsWholePool left))
            → Tells (TakesFiles home s.pool left q.log.files) a b → Tells (BeginsClean q) a b → Tells (Changes s after) a b
        by None None fits went quiet there whole took clean = tt
        by None (Some y) fits went quiet there whole took clean = absurd went
        by (Some x) None fits went quiet there whole took clean = absurd went
        by (Some x) (Some y) fits went quiet there whole took clean = record {
          arrives = store_arrival o x y went;
          quiet = quiet;
          fits = fits_after x y went fits there whole done.limit (files_taken home done.within s.pool left q.log.files x y took);
          whole = λ unmarked all. whole_after x y went (clean unmarked).whole all;
          alive = λ unmarked all alive. queues_alive_after x y went (clean unmarked).alive alive;
        }

    pub alive_made : (a b : Option Content) → Tells (Arrives (IsLogStep o)) a b → Carries (IsListAlive s) (IsListAlive after) a b
    alive_made None b went = tt
    alive_made (Some x) None went = absurd went
    alive_made (Some x) (Some y) went = λ alive. list_alive_kept o (other_list o refl) x y went s.list store.list.sound alive

    pub writes_made : (law : FilesStayWritten) (a b : Option Content) → IfSome a (OnDisk (Fits s)) → Tells (Arrives (IsLogStep o)) a b → Tells (BeginsWritten (Ok q)) a b
        → Tells (StaysWritten {X = JournalsState} {E = Cause} (Ok after) (λ x. x) s) a b
    writes_made law None None fits went h = tt
    writes_made law None (Some y) fits went h = absurd h
    writes_made law (Some x) None fits went h = absurd h
    writes_made law (Some x) (Some y) fits went h = λ areas history is written.
        let k = h areas history is in (
          k.0,
          record {
            queues =
                all_insert (λ u. IsWrittenTo areas (history_with history (moments_since x y)) u.log) s.queues at q k.1
                (all_three (λ u. IsKept u × (same name u.queue.name ≡ false)) (λ u. QueueThere u x.now.disk) (λ u. IsWrittenTo areas history u.log) (λ u. IsWrittenTo areas (history_with history (moments_since x y)) u.log)
                (λ u kept there one. written_kept o u.log kept.0.log (other_name o u refl kept.0 kept.1) areas history x y (law areas history u.log) (Passes-of (IsLogStep o) x y went) is kept.0.sound.flushed there one)
                s.queues (all_two IsKept (λ u. same name u.queue.name ≡ false) s.queues store.kept others) fits.queues written.queues);
            list = list_written_kept law o (other_list o refl) areas history x y (Passes-of (IsLogStep o) x y went) is s.list store.list.sound fits.list written.list;
          },
        )

-- ---- by the answer

abbrev pub exactly : Cause → Bool
exactly k = store_exact {X = JournalsState} (Err k)

err_is : {A B : Type 0} {x y : B} → ◌≡◌ {A = Result A B} (Err x) (Err y) → x ≡ y
err_is e = cc

pub drawn_cause : (e : QueueError) (k : Cause) (a b : Option Content) (x y : Option (List ℕ)) → by_error e ≡ Err k → DrawsTaken (is_exact_error e) a b x y → DrawsTaken (exactly k) a b x y
drawn_cause queue.Failed k a b x y h d = subst (λ c. DrawsTaken (exactly c) a b x y) (err_is h) d
drawn_cause queue.Draw k a b x y h d = subst (λ c. DrawsTaken (exactly c) a b x y) (err_is h) d
drawn_cause queue.Spent k a b x y h d = subst (λ c. DrawsTaken (exactly c) a b x y) (err_is h) d
drawn_cause queue.Memory k a b x y h d = subst (λ c. DrawsTaken (exactly c) a b x y) (err_is h) d
drawn_cause queue.Unknown k a b x y h d = absurd (cc)
drawn_cause queue.Locked k a b x y h d = absurd (cc)
drawn_cause queue.Numbers k a b x y h d = absurd (cc)

pub spent_error : (e : QueueError) (k : Cause) → by_error e ≡ Err k → k ≡ Spent → e ≡ queue.Spent
spent_error queue.Spent k h is = refl
spent_error queue.Failed k h is = absurd (cc)
spent_error queue.Draw k h is = absurd (cc)
spent_error queue.Memory k h is = absurd (cc)
spent_error queue.Unknown k h is = absurd (cc)
spent_error queue.Locked k h is = absurd (cc)
spent_error queue.Numbers k h is = absurd (cc)

failed_error : (e : QueueError) (k : Cause) → by_error e ≡ Err k → k ≡ Failed → e ≡ queue.Failed
failed_error queue.Failed k h is = refl
failed_error queue.Spent k h is = absurd (cc)
failed_error queue.Draw k h is = absurd (cc)
failed_error queue.Memory k h is = absurd (cc)
failed_error queue.Unknown k h is = absurd (cc)
failed_error queue.Locked k h is = absurd (cc)
failed_error queue.Numbers k h is = absurd (cc)

draw_error : (e : QueueError) (k : Cause) → by_error e ≡ Err k → k ≡ Draw → e ≡ queue.Draw
draw_error queue.Draw k h is = refl
draw_error queue.Failed k h is = absurd (cc)
draw_error queue.Spent k h is = absurd (cc)
draw_error queue.Memory k h is = absurd (cc)
draw_error queue.Unknown k h is = absurd (cc)
draw_error queue.Locked k h is = absurd (cc)
draw_error queue.Numbers k h is = absurd (cc)

pub causes_made : {X Y : Type 0} (e : QueueError) (k : Cause) (sites sites_now draws draws_now : ℕ) (r : Result X QueueError) → r ≡ Err e → by_error e ≡ Err k → QueueCauses sites sites_now draws draws_now r → StoreCauses {X = Y} sites sites_now draws draws_now (Err k)
causes_made {X} {Y} e k sites sites_now draws draws_now r answers gives causes = record {
  sites_kept = causes.sites_kept;
  draws_kept = causes.draws_kept;
  failed = λ h. causes.failed (answers ∙ ap Err (failed_error e k gives (cause_is k Failed h)));
  draw = λ h. causes.draw (answers ∙ ap Err (draw_error e k gives (cause_is k Draw h)));
}
  where
    cause_is : (k l : Cause) → ◌≡◌ {A = Result Y Cause} (Err k) (Err l) → k ≡ l
    cause_is k l h = cc

pub failed_told : (done : JournalsState → Content → Content → Type 0) (r : Result JournalsState Cause) (a b : Option Content) → IsErr r → Tells (Passes IsStoreStep) a b → Tells (EndsIn done (Passes IsStoreStep) r) a b
failed_told done (Ok x) a b e h = absurd (not_err x e)
  where
    not_err : (x : JournalsState) → IsErr {T = JournalsState} {E = Cause} (Ok x) → ⊥
    not_err x e = cc
failed_told done (Err f) a b e h = h

pub writes_unmade : (v : Result LiveState QueueError) (r : Result JournalsState Cause) (s : JournalsState) (a b : Option Content) → IsErr r → Tells (BeginsWritten v) a b → Tells (StaysWritten r (λ x. x) s) a b
writes_unmade v (Ok x) s a b e h = absurd (not_err x e)
  where
    not_err : (x : JournalsState) → IsErr {T = JournalsState} {E = Cause} (Ok x) → ⊥
    not_err x e = cc
writes_unmade v (Err f) s a b e h =
    Tells-weaken (BeginsWritten v) (StaysWritten {X = JournalsState} {E = Cause} (Err f) (λ x. x) s) a b h (λ x y k areas history is written. ((k areas history is).0, tt))

pub none_written : (r : Result JournalsState Cause) (s : JournalsState) (a : Option Content) → IsErr r → Tells (StaysWritten r (λ x. x) s) a a
none_written (Ok x) s a e = absurd (not_err x e)
  where
    not_err : (x : JournalsState) → IsErr {T = JournalsState} {E = Cause} (Ok x) → ⊥
    not_err x e = cc
none_written (Err f) s a e = writes_none {X = JournalsState} {E = Cause} (Err f) (λ x. x) s a tt

-- what is exact is so up to one more
pub drawn_so : (exact : Bool) (a b : Option Content) (x y : Option (List ℕ)) → DrawsTaken true a b x y → DrawsTaken exact a b x y
drawn_so true a b x y h = h
drawn_so false a b x None h = tt
drawn_so false a b None (Some y) h = absurd h
drawn_so false None b (Some x) (Some y) h = tt
drawn_so false (Some a) None (Some x) (Some y) h = tt
drawn_so false (Some a) (Some b) (Some x) (Some y) h = (h.0, h.1, ([], h.2 ∙ sym (append-nil (taken_since a b)), none_short))
  where
    none_short : length {A = ℕ} [] ≤ 1
    none_short = omega arith

pub store_passed : (name : List ℕ) (home : PoolId) (a b : Option Content) → Tells (Passes (IsLogStep (opening_of name home))) a b → Tells (Passes IsStoreStep) a b
store_passed name home a b h = Tells-weaken (Passes (IsLogStep (opening_of name home))) (Passes IsStoreStep) a b h (store_passing (opening_of name home))

pub none_passed : (a : Option Content) → Tells (Passes IsStoreStep) a a
none_passed None = tt
none_passed (Some a) = Passes-same IsStoreStep a a refl

pub not_ended : {X E : Type 0} (x : X) (e f : E) → (◌≡◌ {A = Result X E} (Ok x) (Err e)) ⊎ (◌≡◌ {A = Result X E} (Ok x) (Err f)) → ⊥
not_ended x e f (inl h) = cc
not_ended x e f (inr h) = cc

-- ---- as they are handed back

module _ (s t : JournalsState) (same_store : s ≡ t) (store : AreJournals t) (name : List ℕ) (home : PoolId) (at : ℕ) (w : WouldStandAt t.queues name at) (q : LiveState) (left : PoolState) (legal : IsTrue (is_queue_name name)) (m : IsMade name home q)
    (qs : List LiveState) (placed : qs ≡ insert s.queues at q) where
  abbrev pub handed : JournalsState
  handed = record { home = s.home; pool = left; queues = qs; list = s.list }

  handed_is : after t store name home at w q left legal m ≡ handed
  handed_is =
      ap (λ (x : JournalsState). record { home = x.home; pool = left; queues = insert x.queues at q; list = x.list }) (sym same_store)
      ∙ ap (λ (us : List LiveState). record { home = s.home; pool = left; queues = us; list = s.list }) (sym placed)

  pub handed_store : AreJournals handed
  handed_store = subst AreJournals handed_is (store_after t store name home at w q left legal m)

  pub handed_queues : queues_of handed ≡ with_queue (new_queue name) (queues_of t)
  handed_queues = ap queues_of (sym handed_is) ∙ queues_after t store name home at w q left legal m

  pub handed_homes : SameHomes (homes_of handed) (with_home name (Some home) (homes_of t))
  handed_homes = subst (λ (x : JournalsState). SameHomes (homes_of x) (with_home name (Some home) (homes_of t))) handed_is (homes_after t store name home at w q left legal m)

  pub handed_released : AreReleased t.queues → AreReleased handed.queues
  handed_released h = subst (λ (x : JournalsState). AreReleased x.queues) handed_is (released_after t store name home at w q left legal m h)

  pub handed_changes : (a b : Option Content) → IfSome a (OnDisk (Fits t)) → MakingDone t store name home at w q left legal m a b → Tells (Changes t handed) a b
  handed_changes a b fits done = subst (λ (x : JournalsState). Tells (Changes t x) a b) handed_is (changes_made t store name home at w q left legal m a b fits done)

  pub handed_alive : (a b : Option Content) → Tells (Arrives (IsLogStep (opening_of name home))) a b → Carries (IsListAlive t) (IsListAlive handed) a b
  handed_alive a b went = subst (λ (x : JournalsState). Carries (IsListAlive t) (IsListAlive x) a b) handed_is (alive_made t store name home at w q left legal m a b went)

  pub handed_writes : (law : FilesStayWritten) (a b : Option Content) → IfSome a (OnDisk (Fits t)) → Tells (Arrives (IsLogStep (opening_of name home))) a b → Tells (BeginsWritten (Ok q)) a b
      → Tells (StaysWritten {X = JournalsState} {E = Cause} (Ok handed) (λ x. x) t) a b
  handed_writes law a b fits went h =
      subst (λ (x : JournalsState). Tells (StaysWritten {X = JournalsState} {E = Cause} (Ok x) (λ y. y) t) a b) handed_is (writes_made t store name home at w q left legal m law a b fits went h)
