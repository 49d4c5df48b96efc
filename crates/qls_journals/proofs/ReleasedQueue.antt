-- Dead files of the queue at a place go back: what it did, in the words of the journals.
use Rattle.std.proofs.Common.{◌≡◌, ℕ, zero, suc, Bool, true, false, ◌+◌, ◌<◌, ◌^◌, List, [], ◌∷◌, ◌++◌, map, length, take, Option, Some, None, IfSome, Result, Ok, IsTrue, refl, sym, ap, ◌∙◌, subst}
use Rattle.std.proofs.Math.ListN.{set}
use Rattle.std.proofs.lemmas.Bool.{and_parts}
use Rattle.std.proofs.lemmas.List.{take_more_set}
use Rattle.std.specs.List.{AllByRecursion, slice_get}
use Rattle.qls_model.specs.Bytes.{same}
use Rattle.qls_model.specs.Limits.{is_queue_name}
use Rattle.qls_model.specs.declared.machine.QueueState.{QueueState}
use Rattle.qls_model.proofs.XidKeys.{same_true}
use Rattle.qls_site.specs.Disk.{IsQuiet}
use Rattle.qls_site.specs.Content.{Content, Tells}
use Rattle.qls_filehdr.specs.declared.JournalKind.{JournalKind}
use Rattle.qls_filehdr.specs.declared.JournalKind.TheVariants.{Queue, List as Listed}
use Rattle.qls_meaning.specs.Dead.{has_dead_oldest}
use Rattle.qls_meaning.specs.Journals.{same_kind}
use Rattle.qls_meaning.specs.Orderly.{journal_on}
use Rattle.qls_pool.specs.Pools.{PoolState}
use Rattle.qls_pool.specs.Files.{IsWholePool, OnDisk, Carries}
use Rattle.qls_pool.specs.Moments.{Arrives, Passes}
use Rattle.qls_pool.specs.Serials.{TakesNone}
use Rattle.qls_log.specs.declared.opening.Opening.{Opening}
use Rattle.qls_log.specs.Logs.{IsSound as IsSoundLog}
use Rattle.qls_log.specs.Steps.{IsLogStep, is_own}
use Rattle.qls_queue.specs.Live.{IsSound, LiveState, QueueThere}
use Rattle.qls_queue.specs.Moments.{GoesBy, LeavesDead as QueueLeavesDead}
use Rattle.qls_queue.specs.Releasing.{GivesDead, IsQueueClean, IsQueueWhole, StaysStill, after_release, dead_files, first_needed}
use Rattle.qls_queue.specs.declared.fault.QueueError.{QueueError}
use Rattle.qls_journals.specs.Moments.{IsStoreStep}
use Rattle.qls_journals.specs.Releasing.{AreSame, GivesBack, HasGivenBack, NextComesAlive}
use Rattle.qls_journals.specs.State.{AreJournals, AreReleased, Fits, IsKept, IsReleased, IsWhole, JournalsState, queue_held}
use Rattle.qls_journals.proofs.FitPools.{IsFitDisk, IsOfPool, all_released, given_back, legal_within, own_pool}
use Rattle.qls_journals.proofs.Names.{all_at, held_of}
use Rattle.qls_journals.proofs.Others.{IsAlive, journal_kept, store_arrival}
use Rattle.qls_journals.proofs.Releases.{unmarked_none}
use Rattle.qls_journals.proofs.Writing.{NextQueue, after, alive_after, fits_after, homes_kept, journals_pass, kept_queue, queues_alive_after, whole_after}

-- ---- the queue behind it

-- it is the same queue
pub same_queue : (q : LiveState) → IsSound q → (after_release q).queue ≡ q.queue
same_queue q sound = λ i. record { name = sym sound.name i; last = sym sound.rid i; messages = sym sound.messages i }

pub next_released : (q r : LiveState) → IsKept q → r ≡ after_release q → r.ended ≡ false → IsSound r → IsSoundLog r.log → NextQueue q r
next_released q r kept is unended sound log =
    let name : r.queue.name ≡ q.queue.name = ap (λ (u : LiveState). u.queue.name) is ∙ ap (λ (u : QueueState). u.name) (same_queue q kept.sound) in
    record {
      opening = ap (λ (u : LiveState). u.log.opening) is;
      name = name;
      kept = record { unended = unended; sound = sound; log = log; name = subst (λ n. IsTrue (is_queue_name n)) (sym name) kept.name };
    }

-- empty files stay of pools within the limits
fits_back : (q : LiveState) → IsSoundLog q.log → (x y : Content) → GivesDead q (Ok tt) x y → IsFitDisk x.now.disk → IsFitDisk y.now.disk
fits_back q sound x y back k =
    subst (λ (c : Content). IsFitDisk c.now.disk) (sym back)
    (given_back q.log.opening (legal_within q.log.opening sound.opening) (dead_files q) (all_released (IsOfPool q.log.opening) (first_needed q) q.log (own_pool q.log.opening q.log.files sound.all)) x k)

-- ---- the queues, with one changed

map_set : (qs : List LiveState) (at : ℕ) (q r : LiveState) → slice_get qs at ≡ Some q → r.queue ≡ q.queue → map held_of (set qs at r) ≡ map held_of qs
map_set [] at q r e is = absurd (cc)
map_set (u ∷ us) zero q r e is = ap (λ (x : QueueState). x ∷ map held_of us) (is ∙ ap (λ (v : LiveState). v.queue) (some_is e))
  where
    some_is : Some u ≡ Some q → q ≡ u
    some_is e = cc
map_set (u ∷ us) (suc at) q r e is = ap (λ (xs : List QueueState). u.queue ∷ xs) (map_set us at q r e is)

all_end : (P : LiveState → Type 0) (qs : List LiveState) (r : LiveState) → AllByRecursion P qs → P r → AllByRecursion P (qs ++ r ∷ [])
all_end P [] r h p = (p, tt)
all_end P (q ∷ qs) r h p = (h.0, all_end P qs r h.1 p)

all_more : (P : LiveState → Type 0) (qs : List LiveState) (at : ℕ) (r : LiveState) → at < length qs → AllByRecursion P (take at qs) → P r → AllByRecursion P (take (at + 1) (set qs at r))
all_more P qs at r within h p = subst (AllByRecursion P) (sym (take_more_set qs at r within)) (all_end P (take at qs) r h p)

all_map : (P Q : LiveState → Type 0) → ((u : LiveState) → P u → Q u) → (qs : List LiveState) → AllByRecursion P qs → AllByRecursion Q qs
all_map P Q keep [] h = tt
all_map P Q keep (q ∷ qs) h = (keep q h.0, all_map P Q keep qs h.1)

-- one more queue has one file where it is empty
pub released_more : (qs : List LiveState) (at : ℕ) (r : LiveState) → at < length qs → IsReleased r → AreReleased (take at qs) → AreReleased (take (at + 1) (set qs at r))
released_more qs at r within one h = all_more IsReleased qs at r within h one

-- ---- no oldest file dies

kind_is : (a b : JournalKind) → same_kind a b ≡ true → a ≡ b
kind_is Queue Queue e = refl
kind_is Queue Listed e = absurd (cc)
kind_is Listed Queue e = absurd (cc)
kind_is Listed Listed e = refl

still_alive : (o : Opening) (x y : Content) → Arrives (IsLogStep o) x y → has_dead_oldest (journal_on y.now.disk o.kind o.name) ≡ false → (u : LiveState) → IsAlive u x.now.disk → IsAlive u y.now.disk
still_alive o x y went own u alive = by (is_own o u.log.opening.kind u.log.opening.name) refl
  where
    by : (b : Bool) → is_own o u.log.opening.kind u.log.opening.name ≡ b → IsAlive u y.now.disk
    by true e =
        let parts = and_parts (same_kind o.kind u.log.opening.kind) (same o.name u.log.opening.name) e in
        (λ i. has_dead_oldest (journal_on y.now.disk (sym (kind_is o.kind u.log.opening.kind parts.0) i) (sym (same_true o.name u.log.opening.name parts.1) i))) ∙ own
    by false e = ap has_dead_oldest (journal_kept o x y went u.log.opening.kind u.log.opening.name e) ∙ alive

-- ---- the journals

-- what the call did
pub record QueueGivesBack (q r : LiveState) (pool left : PoolState) (a b : Option Content) : Type 0 where
  pub went : Tells (Arrives (IsLogStep q.log.opening)) a b
  pub back : Tells (GivesDead q (Ok tt)) a b
  pub quiet : Carries IsQuiet IsQuiet a b
  pub there : IfSome b (OnDisk (QueueThere r))
  pub whole : IfSome b (OnDisk (IsWholePool left))
  pub limit : pool.greatest < 2 ^ 62 → left.greatest < 2 ^ 62
  pub clean : Carries (IsQueueWhole q) (IsQueueClean r) a b
  pub still : Tells (StaysStill q) a b

module _ (s : JournalsState) (all : AreJournals s) (at : ℕ) (q : LiveState) (place : slice_get s.queues at ≡ Some q) (held : queue_held q.queue.name s.queues ≡ Some q) where
  abbrev o : Opening
  o = q.log.opening

  own_whole : (x : Content) → IsWhole s x.now.disk → IsQueueWhole q x.now.disk
  own_whole x whole = all_at (λ u. IsQueueWhole u x.now.disk) s.queues at q whole.queues place

  gives : (x y : Content) → Passes IsStoreStep x y → TakesNone x y → QueueLeavesDead q x y → GivesBack s x y
  gives x y passes none leaves = record { passes = passes; none = none; leaves = λ quiet whole. leaves quiet (unmarked_none x y none) (own_whole x whole) }

  pub told_gives : {X : Type 0} (v : Result X QueueError) (a b : Option Content) → Tells (GoesBy (IsLogStep o) v) a b → Tells TakesNone a b → Tells (QueueLeavesDead q) a b → Tells (GivesBack s) a b
  told_gives v a b went none leaves = by a b (journals_pass s all at q place held v a b went) none leaves
    where
      by : (a b : Option Content) → Tells (Passes IsStoreStep) a b → Tells TakesNone a b → Tells (QueueLeavesDead q) a b → Tells (GivesBack s) a b
      by None None went none leaves = tt
      by None (Some y) went none leaves = absurd went
      by (Some x) None went none leaves = absurd went
      by (Some x) (Some y) went none leaves = gives x y went none leaves

  module _ (r : LiveState) (left : PoolState) (next : NextQueue q r) where
    abbrev new : JournalsState
    new = after s all at q place held r left next

    pub same_after : r.queue ≡ q.queue → AreSame s new
    same_after is = record { queues = map_set s.queues at q r place is; entries = refl; rid = refl; homes = homes_kept s all at q place held r left next }

    alive_now : (y : Content) → IsQueueClean r y.now.disk → has_dead_oldest (journal_on y.now.disk o.kind o.name) ≡ false
    alive_now y clean = sym (ap (λ (p : Opening). has_dead_oldest (journal_on y.now.disk p.kind p.name)) next.opening) ∙ clean.alive

    next_alive : at < length s.queues → (x y : Content) → Arrives (IsLogStep o) x y → (IsQueueWhole q x.now.disk → IsQueueClean r y.now.disk) → NextComesAlive at s new x y
    next_alive within x y went clean = λ whole alive.
        let now : IsQueueClean r y.now.disk = clean (own_whole x whole) in (
          alive_after s all at q place held r left next x y went alive.0,
          all_more (λ u. IsAlive u y.now.disk) s.queues at r within
              (all_map (λ u. IsAlive u x.now.disk) (λ u. IsAlive u y.now.disk) (still_alive o x y went (alive_now y now)) (take at s.queues) alive.1) now.alive,
        )

    pub told_next : at < length s.queues → (a b : Option Content) → Tells (Arrives (IsLogStep o)) a b → Carries (IsQueueWhole q) (IsQueueClean r) a b → Tells (NextComesAlive at s new) a b
    told_next within None None went clean = tt
    told_next within None (Some y) went clean = absurd went
    told_next within (Some x) None went clean = absurd went
    told_next within (Some x) (Some y) went clean = next_alive within x y went clean

    done_by : (x y : Content) → Fits s x.now.disk → GivesBack s x y → Arrives (IsLogStep o) x y → GivesDead q (Ok tt) x y → (IsQuiet x.now.disk → IsQuiet y.now.disk) → QueueThere r y.now.disk → IsWholePool left y.now.disk
        → (s.pool.greatest < 2 ^ 62 → left.greatest < 2 ^ 62) → (IsQueueWhole q x.now.disk → IsQueueClean r y.now.disk) → StaysStill q x y → HasGivenBack s new x y
    done_by x y fits gave went back quiet there whole limit clean still = record {
      back = gave;
      arrives = store_arrival o x y went;
      quiet = quiet;
      fits = fits_after s all at q place held r left next x y went fits there whole limit (fits_back q (kept_queue s all at q place held).log x y back);
      whole = λ was. whole_after s all at q place held r left next x y went (clean (own_whole x was)).whole was;
      queues = λ was alive. queues_alive_after s all at q place held r left next x y went (clean (own_whole x was)).alive alive;
      list = λ was alive. alive_after s all at q place held r left next x y went alive;
      still = λ was. still (record { whole = own_whole x was.whole; alive = all_at (λ u. IsAlive u x.now.disk) s.queues at q was.queues place });
    }

    pub told_done : (a b : Option Content) → IfSome a (OnDisk (Fits s)) → Tells (GivesBack s) a b → QueueGivesBack q r s.pool left a b → Tells (HasGivenBack s new) a b
    told_done a b fits gave d = by a b fits gave d.went d.back d.quiet d.there d.whole d.clean d.still
      where
        by : (a b : Option Content) → IfSome a (OnDisk (Fits s)) → Tells (GivesBack s) a b → Tells (Arrives (IsLogStep o)) a b → Tells (GivesDead q (Ok tt)) a b → Carries IsQuiet IsQuiet a b → IfSome b (OnDisk (QueueThere r))
            → IfSome b (OnDisk (IsWholePool left)) → Carries (IsQueueWhole q) (IsQueueClean r) a b → Tells (StaysStill q) a b → Tells (HasGivenBack s new) a b
        by None None fits gave went back quiet there whole clean still = tt
        by None (Some y) fits gave went back quiet there whole clean still = absurd went
        by (Some x) None fits gave went back quiet there whole clean still = absurd went
        by (Some x) (Some y) fits gave went back quiet there whole clean still = done_by x y fits gave went back quiet there whole d.limit clean still
