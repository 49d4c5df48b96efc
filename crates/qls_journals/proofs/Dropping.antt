-- A queue without messages is taken away: what holds of the journals then, and what all else keeps.
use Rattle.std.proofs.Common.{◌≡◌, ◌⊎◌, inl, inr, ℕ, Bool, true, false, not, cond, ◌&&◌, ◌^◌, ◌<◌, List, [], ◌∷◌, ◌++◌, map, length, get_or, Option, Some, None, IfSome, option_map, Result, Ok, Err, refl, sym, ap, ◌∙◌, subst}
use Rattle.std.specs.List.{AllByRecursion, remove, slice_get, filter}
use Rattle.std.proofs.lemmas.Option.{get_or_from_slice_get, slice_get_within}
use Rattle.qls_model.specs.Bytes.{same}
use Rattle.qls_model.specs.Machine.{without_queue}
use Rattle.qls_site.specs.Disk.{Disk, FileState, IsQuiet, file_of, full, full_file}
use Rattle.qls_site.specs.Content.{Moment, Content, Tells, moments_since}
use Rattle.qls_site.proofs.Told.{Tells-weaken}
use Rattle.qls_filehdr.specs.declared.JournalKind.{JournalKind}
use Rattle.qls_filehdr.specs.declared.JournalKind.TheVariants.{Queue}
use Rattle.qls_filehdr.specs.declared.JournalKind.TheVariants as journal
use Rattle.qls_meaning.specs.History.{newly_used, uses, is_file_in_use}
use Rattle.qls_meaning.specs.Journals.{Headed, headed, is_in_use, in_use, is_of, same_kind}
use Rattle.qls_meaning.specs.Spent.{greatest_id}
use Rattle.qls_pool.specs.Pools.{PoolState}
use Rattle.qls_pool.specs.Files.{HeadedFile, IsPoolOf, IsWholePool, OnDisk, Carries}
use Rattle.qls_pool.specs.Moments.{Chain, Passes, Arrives}
use Rattle.qls_pool.specs.Serials.{TakesNone, serials_taken}
use Rattle.qls_pool.proofs.Disks.{greatest-change}
use Rattle.qls_pool.proofs.Moments.{Passes-of, since_is}
use Rattle.qls_pool.proofs.Steps.{all_weaken}
use Rattle.qls_log.specs.declared.opening.Opening.{Opening}
use Rattle.qls_log.specs.Returning.{GivesAll, with_back, with_backs}
use Rattle.qls_log.specs.Standing.{files_on}
use Rattle.qls_log.specs.Steps.{IsLogStep, is_own}
use Rattle.qls_log.specs.Unwritten.{IsWrittenTo, WritesWell, history_with}
use Rattle.qls_log.proofs.Splits.{by_number-back}
use Rattle.qls_queue.specs.Faults.{SiteCauses as QueueSiteCauses}
use Rattle.qls_queue.specs.Live.{LiveState, QueueThere}
use Rattle.qls_queue.specs.Moments.{LeavesDead as QueueLeavesDead, GoesBy}
use Rattle.qls_queue.specs.declared.fault.QueueError.{QueueError}
use Rattle.qls_queue.specs.declared.fault.QueueError.TheVariants as queue
use Rattle.qls_queue.specs.Releasing.{IsQueueWhole}
use Rattle.qls_journals.specs.declared.cause.Cause.{Cause}
use Rattle.qls_journals.specs.declared.cause.Cause.TheVariants.{Failed, Draw, Spent, Memory}
use Rattle.qls_journals.specs.State.{JournalsState, queues_of, queue_held, IsKept, IsReleased, AreReleased, AreJournals, AreQueuesAlive, NamesJournal, Fits, IsWhole, IsListAlive}
use Rattle.qls_journals.specs.Answers.{SiteCauses}
use Rattle.qls_journals.specs.Errors.{by_error}
use Rattle.qls_journals.specs.Homes.{Home, Homes, home_for, homes_of, with_home, SameHomes, TakesFrom, TakesFromHome}
use Rattle.qls_journals.specs.Moments.{IsStoreStep, Changes, LeavesDead, StaysWritten}
use Rattle.qls_journals.specs.Places.{StandsAt}
use Rattle.qls_journals.proofs.FitPools.{IsFitDisk, fit_disk, fit_pool, given_back, own_pool}
use Rattle.qls_journals.proofs.Making.{all_two, all_three}
use Rattle.qls_journals.proofs.Names.{held_of, all_at}
use Rattle.qls_journals.proofs.Others.{found_all, store_arrival, store_passing, queue_kept, IsAlive, queue_whole_kept, queue_alive_kept, written_kept, other_name, other_list, named_kept, queue_named_by, ids_kept, list_kept, list_whole_kept, list_alive_kept, list_written_kept, FilesStayWritten}
use Rattle.qls_journals.proofs.Removing.{all_remove, rises_remove, others_left, queues_remove, held_remove}
use Rattle.qls_journals.proofs.Writing.{passes_of}

-- ---- a journal that has no file left

back_filter : (test : Headed → Bool) (P : Headed → Type 0) (fs : List Headed) → AllByRecursion P (filter test fs) → AllByRecursion (λ f. test f ≡ true → P f) fs
back_filter test P [] h = tt
back_filter test P (f ∷ fs) h =
    elim (test f) as (λ b. test f ≡ b → AllByRecursion P (cond b (f ∷ filter test fs) (filter test fs)) → AllByRecursion (λ f. test f ≡ true → P f) (f ∷ fs)) [
      | true ↦ λ e k. ((λ u. k.0), back_filter test P fs k.1)
      | false ↦ λ e k. ((λ u. absurd (not_both (sym u ∙ e))), back_filter test P fs k)
    ] refl h
  where
    not_both : true ≡ false → ⊥
    not_both e = cc

back_in_use : (P : Headed → Type 0) (d : Disk) → AllByRecursion P (map headed (in_use (full d))) → AllByRecursion (λ g. is_in_use g.place ≡ true → P (headed (full_file g))) d
back_in_use P [] h = tt
back_in_use P (g ∷ d) h =
    elim (is_in_use g.place) as (λ b. is_in_use g.place ≡ b → AllByRecursion P (map headed (cond b (full_file g ∷ in_use (full d)) (in_use (full d)))) → AllByRecursion (λ g. is_in_use g.place ≡ true → P (headed (full_file g))) (g ∷ d)) [
      | true ↦ λ e k. ((λ u. k.0), back_in_use P d k.1)
      | false ↦ λ e k. ((λ u. absurd (not_both (sym u ∙ e))), back_in_use P d k)
    ] refl h
  where
    not_both : true ≡ false → ⊥
    not_both e = cc

none_own : (o : Opening) (d : Disk) (id : ℕ) (f : FileState) → files_on o d ≡ [] → file_of id d ≡ Some f → is_in_use f.place ≡ true → is_of o.kind o.name (headed (full_file f)) ≡ true → ⊥
none_own o d id f none there used own =
    let all : AllByRecursion (λ x. ⊥) (files_on o d) = subst (AllByRecursion (λ (x : Headed). ⊥)) (sym none) tt in
    let mine = back_filter (is_of o.kind o.name) (λ x. ⊥) (map headed (in_use (full d))) (by_number-back (λ x. ⊥) (filter (is_of o.kind o.name) (map headed (in_use (full d)))) all) in
    found_all (λ g. is_in_use g.place ≡ true → is_of o.kind o.name (headed (full_file g)) ≡ true → ⊥) id f d (back_in_use (λ x. is_of o.kind o.name x ≡ true → ⊥) d mine) there used own

-- ---- the greatest id stays

greatest_back : (hs : List HeadedFile) (c : Content) → greatest_id (with_backs hs c).now.disk ≡ greatest_id c.now.disk
greatest_back [] c = refl
greatest_back (h ∷ hs) c = greatest_back hs (with_back h c) ∙ greatest-change h.id _ (λ f. refl) c.now.disk

-- ---- the queue that is taken away

pub record IsDropped (s : JournalsState) (at : ℕ) (name : List ℕ) (q : LiveState) : Type 0 where
  pub place : slice_get s.queues at ≡ Some q
  pub is_name : q.queue.name ≡ name
  pub held : queue_held name s.queues ≡ Some q
  pub empty : q.queue.messages ≡ []
  pub one : length q.log.files ≡ 1

pub dropped_there : (s t : JournalsState) (same_store : s ≡ t) (name : List ℕ) (at : ℕ) (q : LiveState) → StandsAt t.queues name at → IfSome (slice_get t.queues at) (λ u. u.queue.messages ≡ []) → IfSome (slice_get t.queues at) IsReleased → q ≡ get_or s.queues at q
    → IsDropped t at name q
dropped_there s t same_store name at q w empty released is =
    let alike : w.queue ≡ q = sym (subst (λ (x : JournalsState). q ≡ get_or x.queues at q) same_store is ∙ get_or_from_slice_get t.queues at w.queue q w.there) in
    let none : q.queue.messages ≡ [] = subst (λ (u : LiveState). u.queue.messages ≡ []) alike (subst (λ (o : Option LiveState). IfSome o (λ u. u.queue.messages ≡ [])) w.there empty) in
    record {
      place = subst (λ (u : LiveState). slice_get t.queues at ≡ Some u) alike w.there;
      is_name = ap (λ (u : LiveState). u.queue.name) (sym alike) ∙ w.named;
      held = subst (λ (u : LiveState). queue_held name t.queues ≡ Some u) alike w.held;
      empty = none;
      one = subst IsReleased alike (subst (λ (o : Option LiveState). IfSome o IsReleased) w.there released) none;
    }

pub place_within : (s t : JournalsState) → s ≡ t → (name : List ℕ) (at : ℕ) → StandsAt t.queues name at → at < length s.queues
place_within s t same_store name at w = slice_get_within s.queues at w.queue (subst (λ (x : JournalsState). slice_get x.queues at ≡ Some w.queue) (sym same_store) w.there)

-- ---- the journals behind it

module _ (s : JournalsState) (store : AreJournals s) (at : ℕ) (name : List ℕ) (q : LiveState) (gone : IsDropped s at name q) where
  pub kept_queue : IsKept q
  kept_queue = all_at IsKept s.queues at q store.kept gone.place

  abbrev o : Opening
  o = q.log.opening

  same_name : o.name ≡ name
  same_name = sym kept_queue.sound.name ∙ gone.is_name

  not_list : is_own o journal.List [] ≡ false
  not_list = other_list o kept_queue.sound.kind

  pub stands_there : (a : Option Content) → IfSome a (OnDisk (Fits s)) → IfSome a (OnDisk (QueueThere q))
  stands_there None fits = tt
  stands_there (Some a) fits = all_at (λ u. QueueThere u a.now.disk) s.queues at q fits.queues gone.place

  pub leaves_so : (a b : Option Content) → Tells (QueueLeavesDead q) a b → Tells (LeavesDead s) a b
  leaves_so a b h = Tells-weaken (QueueLeavesDead q) (LeavesDead s) a b h (λ x y k quiet unmarked all. k quiet unmarked (all_at (λ u. IsQueueWhole u x.now.disk) s.queues at q all.queues gone.place))

  pub store_passes : {X : Type 0} (r : Result X QueueError) (a b : Option Content) → Tells (GoesBy (IsLogStep o) r) a b → Tells (Passes IsStoreStep) a b
  store_passes r a b h = Tells-weaken (Passes (IsLogStep o)) (Passes IsStoreStep) a b (passes_of (IsLogStep o) r a b h) (store_passing o)

  module _ (left : PoolState) where
    abbrev pub after : JournalsState
    after = record { home = s.home; pool = left; queues = remove s.queues at; list = s.list }

    pub store_after : AreJournals after
    store_after = record { home = store.home; kept = all_remove IsKept s.queues at store.kept; rising = rises_remove s.queues at store.rising; list = store.list }

    pub released_after : AreReleased s.queues → AreReleased (remove s.queues at)
    released_after h = all_remove IsReleased s.queues at h

    pub queues_after : queues_of after ≡ without_queue name (queues_of s)
    queues_after = sym (queues_remove s.queues at q store.rising gone.place) ∙ ap (λ n. without_queue n (map held_of s.queues)) gone.is_name

    found : (n : List ℕ) → queue_held n (remove s.queues at) ≡ cond (same name n) None (queue_held n s.queues)
    found n = held_remove n s.queues at q store.rising gone.place ∙ ap (λ k. cond (same k n) None (queue_held n s.queues)) gone.is_name

    pub homes_after : SameHomes (homes_of after) (with_home name None (homes_of s))
    homes_after = record { default = refl; queue = λ n. ap home_of (found n) ∙ by n (same name n); list = refl }
      where
        home_of : Option LiveState → Option Home
        home_of u = option_map (λ (u : LiveState). home_for u.log.opening) u

        by : (n : List ℕ) (b : Bool) → home_of (cond b None (queue_held n s.queues)) ≡ cond b None ((homes_of s).queue n)
        by n true = refl
        by n false = refl

    others : AllByRecursion (λ u. same o.name u.queue.name ≡ false) (remove s.queues at)
    others = subst (λ n. AllByRecursion (λ u. same n u.queue.name ≡ false) (remove s.queues at)) kept_queue.sound.name (others_left s.queues at q store.rising gone.place)

    kept_rest : AllByRecursion IsKept (remove s.queues at)
    kept_rest = all_remove IsKept s.queues at store.kept

    still_named : (d : Disk) (id : ℕ) (f : FileState) → files_on o d ≡ [] → file_of id d ≡ Some f → is_in_use f.place ≡ true → NamesJournal s.queues (headed (full_file f)).header → NamesJournal (remove s.queues at) (headed (full_file f)).header
    still_named d id f none there used (inl k) = inl (record { kind = k.kind; queue = k.queue; there = found (headed (full_file f)).header.name ∙ by (same name (headed (full_file f)).header.name) refl })
      where
        own : same name (headed (full_file f)).header.name ≡ true → is_of o.kind o.name (headed (full_file f)) ≡ true
        own e =
            ap (λ (kind : JournalKind). same_kind kind (headed (full_file f)).header.kind && same o.name (headed (full_file f)).header.name) kept_queue.sound.kind ∙ ap (λ (kind : JournalKind). same_kind Queue kind && same o.name (headed (full_file f)).header.name) k.kind
            ∙ ap (λ n. same n (headed (full_file f)).header.name) same_name ∙ e

        by : (b : Bool) → same name (headed (full_file f)).header.name ≡ b → cond b None (queue_held (headed (full_file f)).header.name s.queues) ≡ Some k.queue
        by true e = absurd (none_own o d id f none there used (own e))
        by false e = k.there
    still_named d id f none there used (inr k) = inr k

    module _ (a b : Content) (went : Arrives (IsLogStep o) a b) where
      pub fits_after : Fits s a.now.disk → files_on o b.now.disk ≡ [] → IsWholePool left b.now.disk → b ≡ with_backs q.log.files a → Fits after b.now.disk
      fits_after fits none whole back = record {
        pool = whole;
        limit = subst (λ n. n < 2 ^ 62) (fits.pool.1.greatest ∙ sym (whole.1.greatest ∙ ap (λ (c : Content). greatest_id c.now.disk) back ∙ greatest_back q.log.files a)) fits.limit;
        fit =
            fit_pool left b.now.disk whole
            (subst (λ (c : Content). IsFitDisk c.now.disk) (sym back)
            (given_back o (kept_queue.log.opening.part, kept_queue.log.opening.kib) q.log.files (own_pool o q.log.files kept_queue.log.all) a (fit_disk s.pool a.now.disk fits.pool fits.fit)));
        ids = ids_kept o a b went fits.ids;
        queues =
            all_three IsKept (λ u. same o.name u.queue.name ≡ false) (λ u. QueueThere u a.now.disk) (λ u. QueueThere u b.now.disk)
            (λ u kept other k. queue_kept o u a b kept (other_name o u kept_queue.sound.kind kept other) went whole.0 k) (remove s.queues at) kept_rest others (all_remove (λ u. QueueThere u a.now.disk) s.queues at fits.queues);
        list = list_kept o not_list a b went s.list store.list.sound whole.0 fits.list;
        own = λ id f there used.
            still_named b.now.disk id f none there used
            (named_kept s.queues o (queue_named_by s.queues o kept_queue.sound.kind q (ap (λ n. queue_held n s.queues) same_name ∙ gone.held)) a b went fits.own id f there used);
      }

      pub whole_after : IsWhole s a.now.disk → IsWhole after b.now.disk
      whole_after all = record {
        queues =
            all_three IsKept (λ u. same o.name u.queue.name ≡ false) (λ u. IsQueueWhole u a.now.disk) (λ u. IsQueueWhole u b.now.disk)
            (λ u kept other k. queue_whole_kept o u a b (other_name o u kept_queue.sound.kind kept other) went k) (remove s.queues at) kept_rest others (all_remove (λ u. IsQueueWhole u a.now.disk) s.queues at all.queues);
        list = list_whole_kept o not_list a b went s.list store.list.sound all.list;
      }

      pub queues_alive_after : AreQueuesAlive s.queues a.now.disk → AreQueuesAlive (remove s.queues at) b.now.disk
      queues_alive_after alive =
          all_three IsKept (λ u. same o.name u.queue.name ≡ false) (λ u. IsAlive u a.now.disk) (λ u. IsAlive u b.now.disk)
          (λ u kept other k. queue_alive_kept o u a b (other_name o u kept_queue.sound.kind kept other) went k) (remove s.queues at) kept_rest others (all_remove (λ u. IsAlive u a.now.disk) s.queues at alive)

    pub changes_dropped : (a b : Option Content) → IfSome a (OnDisk (Fits s)) → Tells (Arrives (IsLogStep o)) a b → Carries IsQuiet IsQuiet a b → IfSome b (OnDisk (λ d. files_on o d ≡ [])) → IfSome b (OnDisk (IsWholePool left))
        → Tells (GivesAll q.log.files (Ok tt)) a b → Tells (Changes s after) a b
    changes_dropped None None fits went quiet none whole back = tt
    changes_dropped None (Some y) fits went quiet none whole back = absurd went
    changes_dropped (Some x) None fits went quiet none whole back = absurd went
    changes_dropped (Some x) (Some y) fits went quiet none whole back = record {
      arrives = store_arrival o x y went;
      quiet = quiet;
      fits = fits_after x y went fits none whole back;
      whole = λ unmarked all. whole_after x y went all;
      alive = λ unmarked all alive. queues_alive_after x y went alive;
    }

    pub alive_dropped : (a b : Option Content) → Tells (Arrives (IsLogStep o)) a b → Carries (IsListAlive s) (IsListAlive after) a b
    alive_dropped None b went = tt
    alive_dropped (Some x) None went = absurd went
    alive_dropped (Some x) (Some y) went = λ alive. list_alive_kept o not_list x y went s.list store.list.sound alive

    pub writes_dropped : (law : FilesStayWritten) (a b : Option Content) → IfSome a (OnDisk (Fits s)) → Tells (Arrives (IsLogStep o)) a b → Tells WritesWell a b → Tells (StaysWritten {X = JournalsState} {E = Cause} (Ok after) (λ x. x) s) a b
    writes_dropped law None None fits went h = tt
    writes_dropped law None (Some y) fits went h = absurd h
    writes_dropped law (Some x) None fits went h = absurd h
    writes_dropped law (Some x) (Some y) fits went h = λ areas history is written. (
      h areas history is,
      record {
        queues =
            all_three (λ u. IsKept u × (same o.name u.queue.name ≡ false)) (λ u. QueueThere u x.now.disk) (λ u. IsWrittenTo areas history u.log) (λ u. IsWrittenTo areas (history_with history (moments_since x y)) u.log)
            (λ u kept there one.
            written_kept o u.log kept.0.log (other_name o u kept_queue.sound.kind kept.0 kept.1) areas history x y (law areas history u.log) (Passes-of (IsLogStep o) x y went) is kept.0.sound.flushed there one)
            (remove s.queues at) (all_two IsKept (λ u. same o.name u.queue.name ≡ false) (remove s.queues at) kept_rest others) (all_remove (λ u. QueueThere u x.now.disk) s.queues at fits.queues) (all_remove (λ u. IsWrittenTo areas history u.log) s.queues at written.queues);
        list = list_written_kept law o not_list areas history x y (Passes-of (IsLogStep o) x y went) is s.list store.list.sound fits.list written.list;
      },
    )

-- ---- no file comes into use

nothing_left : {A B : Type 0} (f : A → B) (xs : List A) (ys : List B) → map f xs ++ ys ≡ [] → (xs ≡ []) × (ys ≡ [])
nothing_left f [] ys e = (refl, e)
nothing_left f (x ∷ xs) ys e = absurd (no_cons (f x) (map f xs ++ ys) e)
  where
    no_cons : {B : Type 0} (y : B) (zs : List B) → y ∷ zs ≡ [] → ⊥
    no_cons y zs e = cc

untaken_step : (homes : Homes) (m n : Moment) → newly_used m n ≡ [] → TakesFromHome homes m n
untaken_step homes m n none =
    all_weaken (λ g. is_in_use g.place ≡ true → not (uses g.id m) ≡ true → ⊥) (λ g. TakesFrom homes m.disk (file_of g.id m.disk) g) (λ g k. by g (file_of g.id m.disk) refl k) n.disk
    (back_in_use (λ x. not (uses x.id m) ≡ true → ⊥) n.disk
    (back_filter (λ x. not (uses x.id m)) (λ x. ⊥) (map headed (in_use (full n.disk))) (subst (AllByRecursion (λ (x : Headed). ⊥)) (sym none) tt)))
  where
    by : (g : FileState) (o : Option FileState) → file_of g.id m.disk ≡ o → (is_in_use g.place ≡ true → not (uses g.id m) ≡ true → ⊥) → TakesFrom homes m.disk o g
    by g None e k = tt
    by g (Some f) e k = λ was used. absurd (k used (ap (λ o. not (is_file_in_use o)) e ∙ ap not was))

untaken : (homes : Homes) (m : Moment) (ms : List Moment) → serials_taken m ms ≡ [] → Chain (TakesFromHome homes) m ms
untaken homes m [] e = tt
untaken homes m (n ∷ ns) e =
    let parts = nothing_left (λ f. f.header.serial) (newly_used m n) (serials_taken n ns) e in
    (untaken_step homes m n parts.0, untaken homes n ns parts.1)

pub pools_untaken : (homes : Homes) (R : Moment → Moment → Type 0) (a b : Option Content) → Tells (Passes R) a b → Tells TakesNone a b → Tells (Passes (TakesFromHome homes)) a b
pools_untaken homes R None None went none = tt
pools_untaken homes R None (Some y) went none = absurd went
pools_untaken homes R (Some x) None went none = absurd went
pools_untaken homes R (Some x) (Some y) went none = record {
  since = went.since;
  moments = went.moments;
  chain = untaken homes x.now went.since (ap (serials_taken x.now) (sym (since_is R x y went)) ∙ none);
}

-- ---- by the answer

pub pool_there : (s t : JournalsState) → s ≡ t → (a : Option Content) → IfSome a (OnDisk (Fits t)) → IfSome a (OnDisk (IsPoolOf s.pool []))
pool_there s t same_store None fits = tt
pool_there s t same_store (Some a) fits = subst (λ (x : JournalsState). IsPoolOf x.pool [] a.now.disk) (sym same_store) fits.pool.1

pub writes_failed : (s : JournalsState) (e : Cause) (a b : Option Content) → Tells WritesWell a b → Tells (StaysWritten {X = JournalsState} {E = Cause} (Err e) (λ x. x) s) a b
writes_failed s e a b h = Tells-weaken WritesWell (StaysWritten {X = JournalsState} {E = Cause} (Err e) (λ x. x) s) a b h (λ x y k areas history is written. (k areas history is, tt))

err_is : {A B : Type 0} {x y : B} → ◌≡◌ {A = Result A B} (Err x) (Err y) → x ≡ y
err_is e = cc

-- only these two are answered
pub causes_dropped : {X : Type 0} (e : QueueError) (k : Cause) (x y : ℕ) (r : Result X QueueError) → r ≡ Err e → (e ≡ queue.Failed) ⊎ (e ≡ queue.Memory) → by_error e ≡ Err k → QueueSiteCauses x y r → SiteCauses {X = JournalsState} x y (Err k)
causes_dropped e k x y r answers (inl is) gives causes =
    let which : Failed ≡ k = err_is (sym (ap by_error is) ∙ gives) in
    record {
      kept = causes.kept;
      failed = λ _. causes.failed (answers ∙ ap Err is);
      no_draw = λ h. other k which h;
      no_end = λ h. another k which h;
    }
  where
    other : (k : Cause) → Failed ≡ k → ◌≡◌ {A = Result JournalsState Cause} (Err k) (Err Draw) → ⊥
    other k a b = cc

    another : (k : Cause) → Failed ≡ k → ◌≡◌ {A = Result JournalsState Cause} (Err k) (Err Spent) → ⊥
    another k a b = cc
causes_dropped e k x y r answers (inr is) gives causes =
    let which : Memory ≡ k = err_is (sym (ap by_error is) ∙ gives) in
    record {
      kept = causes.kept;
      failed = λ h. absurd (first k which h);
      no_draw = λ h. other k which h;
      no_end = λ h. another k which h;
    }
  where
    first : (k : Cause) → Memory ≡ k → ◌≡◌ {A = Result JournalsState Cause} (Err k) (Err Failed) → ⊥
    first k a b = cc

    other : (k : Cause) → Memory ≡ k → ◌≡◌ {A = Result JournalsState Cause} (Err k) (Err Draw) → ⊥
    other k a b = cc

    another : (k : Cause) → Memory ≡ k → ◌≡◌ {A = Result JournalsState Cause} (Err k) (Err Spent) → ⊥
    another k a b = cc

-- ---- as they are handed back

module _ (s t : JournalsState) (same_store : s ≡ t) (store : AreJournals t) (at : ℕ) (name : List ℕ) (q : LiveState) (gone : IsDropped t at name q) (left : PoolState) (qs : List LiveState) (removed : qs ≡ remove s.queues at) where
  abbrev pub handed : JournalsState
  handed = record { home = s.home; pool = left; queues = qs; list = s.list }

  handed_is : after t store at name q gone left ≡ handed
  handed_is =
      ap (λ (x : JournalsState). record { home = x.home; pool = left; queues = remove x.queues at; list = x.list }) (sym same_store)
      ∙ ap (λ (us : List LiveState). record { home = s.home; pool = left; queues = us; list = s.list }) (sym removed)

  pub handed_store : AreJournals handed
  handed_store = subst AreJournals handed_is (store_after t store at name q gone left)

  pub handed_queues : queues_of handed ≡ without_queue name (queues_of t)
  handed_queues = ap queues_of (sym handed_is) ∙ queues_after t store at name q gone left

  pub handed_homes : SameHomes (homes_of handed) (with_home name None (homes_of t))
  handed_homes = subst (λ (x : JournalsState). SameHomes (homes_of x) (with_home name None (homes_of t))) handed_is (homes_after t store at name q gone left)

  pub handed_released : AreReleased t.queues → AreReleased handed.queues
  handed_released h = subst (λ (x : JournalsState). AreReleased x.queues) handed_is (released_after t store at name q gone left h)

  pub handed_changes : (a b : Option Content) → IfSome a (OnDisk (Fits t)) → Tells (Arrives (IsLogStep q.log.opening)) a b → Carries IsQuiet IsQuiet a b → IfSome b (OnDisk (λ e. files_on q.log.opening e ≡ [])) → IfSome b (OnDisk (IsWholePool left))
      → Tells (GivesAll q.log.files (Ok tt)) a b → Tells (Changes t handed) a b
  handed_changes a b fits went quiet none whole back = subst (λ (x : JournalsState). Tells (Changes t x) a b) handed_is (changes_dropped t store at name q gone left a b fits went quiet none whole back)

  pub handed_alive : (a b : Option Content) → Tells (Arrives (IsLogStep q.log.opening)) a b → Carries (IsListAlive t) (IsListAlive handed) a b
  handed_alive a b went = subst (λ (x : JournalsState). Carries (IsListAlive t) (IsListAlive x) a b) handed_is (alive_dropped t store at name q gone left a b went)

  pub handed_writes : (law : FilesStayWritten) (a b : Option Content) → IfSome a (OnDisk (Fits t)) → Tells (Arrives (IsLogStep q.log.opening)) a b → Tells WritesWell a b
      → Tells (StaysWritten {X = JournalsState} {E = Cause} (Ok handed) (λ x. x) t) a b
  handed_writes law a b fits went h =
      subst (λ (x : JournalsState). Tells (StaysWritten {X = JournalsState} {E = Cause} (Ok x) (λ y. y) t) a b) handed_is (writes_dropped t store at name q gone left law a b fits went h)
