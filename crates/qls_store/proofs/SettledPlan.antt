-- The ends of a plan for one queue: each is the verdict of the list's entries, and without one all that is pending is in doubt.
use Rattle.std.proofs.Common.{◌≡◌, ℕ, ◌<◌, Bool, true, false, ◌||◌, cond, List, [], ◌∷◌, map, length, take, Option, Some, None, IfSome, Result, Ok, Err, IfOk, option_map, refl, sym, ap, subst, ◌∙◌, arith}
use Rattle.std.specs.List.{AllByRecursion, slice_get}
use Rattle.std.specs.List.Sorted.{IsStrictlySortedBy}
use Rattle.std.specs.declared.cmp.Ordering.TheVariants.{Less}
use Rattle.std.specs.Ordering.{nat_cmp}
use Rattle.std.specs.Cmp.Lexicographic.{slice_cmp}
use Rattle.std.proofs.lemmas.Option.{slice_get-map}
use Rattle.qls_model.specs.Bytes.{same, is_listed}
use Rattle.qls_model.proofs.XidKeys.{same_true, same_self}
use Rattle.qls_model.specs.Machine.{change_queue}
use Rattle.qls_model.specs.Messages.{decided}
use Rattle.qls_model.specs.declared.machine.QueueState.{QueueState}
use Rattle.qls_model.specs.declared.machine.Verdict.{Verdict}
use Rattle.qls_model.specs.declared.machine.Verdict.TheVariants.{Commit, Abort, Doubt}
use Rattle.qls_site.specs.Content.{Content, Tells}
use Rattle.qls_site.proofs.Told.{Tells-weaken}
use Rattle.qls_filehdr.specs.declared.JournalKind.TheVariants as journal
use Rattle.qls_decide.specs.declared.End.{End}
use Rattle.qls_decide.specs.declared.ListEntry.{ListEntry}
use Rattle.qls_decide.specs.Ends.{end_by, end_of, planned_end}
use Rattle.qls_decide.specs.Entries.{verdict_by}
use Rattle.qls_replay.specs.Ops.{verdict_if}
use Rattle.qls_queue.specs.Answers.{is_pending}
use Rattle.qls_queue.specs.Live.{LiveState}
use Rattle.qls_queue.specs.Records.{end_records, ended_by, IsXid}
use Rattle.qls_journals.specs.declared.cause.Cause.{Cause}
use Rattle.qls_journals.specs.Deciding.{AreEndedBefore, MayCarryOut, NonePending}
use Rattle.qls_journals.specs.Ends.{StopsAtEnd}
use Rattle.qls_journals.specs.State.{JournalsState, NamesRise, names_of, queues_of}
use Rattle.qls_store.specs.Opening.{AreItsEnds, AreToWrite}
use Rattle.qls_store.specs.Settling.{IsDoubted, StopsInQueue}
use Rattle.qls_store.specs.Table.{Rises}
use Rattle.qls_store.proofs.Keys.{all_weaken, behind_differs, is_before, keyed_at}
use Rattle.qls_store.proofs.Marking.{only_found}
use Rattle.qls_store.proofs.States.{name_of, rises_by}
use Rattle.qls_store.proofs.SettledQueue.{doubted_stays, planned_leave}

-- ---- each end of a plan

own_ends : (es : List End) → IsStrictlySortedBy (slice_cmp nat_cmp) (map (λ e. e.xid) es) → AllByRecursion (λ e. end_of e.xid es ≡ Some e) es
unfolding IsStrictlySortedBy
own_ends [] h = tt
own_ends (f ∷ es) h = (ap (λ b. cond b (Some f) (end_of f.xid es)) (same_self f.xid), later es h.0 (own_ends es h.1))
  where
    later : (gs : List End) → AllByRecursion (λ y. slice_cmp nat_cmp f.xid y ≡ Less) (map (λ e. e.xid) gs) → AllByRecursion (λ e. end_of e.xid es ≡ Some e) gs → AllByRecursion (λ e. end_of e.xid (f ∷ es) ≡ Some e) gs
    later [] b i = tt
    later (e ∷ gs) b i = (ap (λ c. cond c (Some f) (end_of e.xid es)) (behind_differs e.xid f.xid (is_before f.xid e.xid b.0)) ∙ i.0, later gs b.1 i.1)

end_is : {a b : End} → Some a ≡ Some b → a ≡ b
end_is e = cc

-- it is of one that is pending, and as the entries say
module _ (es : List ListEntry) (pending : List (List ℕ)) where
  abbrev IsPlanned : End → Type 0
  IsPlanned e = (is_listed e.xid pending ≡ true) × (verdict_by es e.xid ≡ verdict_if e.commit)

  planned_one : (e : End) → Some e ≡ planned_end e.xid pending es → IsPlanned e
  planned_one e k = by (is_listed e.xid pending) refl (verdict_by es e.xid) refl k
    where
      none : Some e ≡ None → ⊥
      none i = cc

      by : (b : Bool) → is_listed e.xid pending ≡ b → (v : Verdict) → verdict_by es e.xid ≡ v → Some e ≡ cond b (end_by v e.xid) None → IsPlanned e
      by true is Commit v k = (is, v ∙ ap (λ (f : End). verdict_if f.commit) (sym (end_is k)))
      by true is Abort v k = (is, v ∙ ap (λ (f : End). verdict_if f.commit) (sym (end_is k)))
      by true is Doubt v k = absurd (none k)
      by false is v w k = absurd (none k)

  planned_all : (ends : List End) → IsStrictlySortedBy (slice_cmp nat_cmp) (map (λ e. e.xid) ends) → ((x : List ℕ) → end_of x ends ≡ planned_end x pending es) → AllByRecursion IsPlanned ends
  planned_all ends sorted each = all_weaken (λ e. end_of e.xid ends ≡ Some e) IsPlanned (λ e own. planned_one e (sym own ∙ each e.xid)) ends (own_ends ends sorted)

  pub plan_decides : (ends : List End) → IsStrictlySortedBy (slice_cmp nat_cmp) (map (λ e. e.xid) ends) → ((x : List ℕ) → end_of x ends ≡ planned_end x pending es) → MayCarryOut es ends
  plan_decides ends sorted each = all_weaken IsPlanned (λ e. verdict_by es e.xid ≡ verdict_if e.commit) (λ e k. k.1) ends (planned_all ends sorted each)

  listed_has : (P : List ℕ → Type 0) (x : List ℕ) (xs : List (List ℕ)) → AllByRecursion P xs → is_listed x xs ≡ true → P x
  listed_has P x [] h e = absurd (cc)
  listed_has P x (y ∷ xs) h e = by (same x y) refl e (listed_has P x xs h.1)
    where
      by : (b : Bool) → same x y ≡ b → (b || is_listed x xs) ≡ true → (is_listed x xs ≡ true → P x) → P x
      by true is e next = subst P (sym (same_true x y is)) h.0
      by false is e next = next e

  pub plan_xids : (ends : List End) → IsStrictlySortedBy (slice_cmp nat_cmp) (map (λ e. e.xid) ends) → ((x : List ℕ) → end_of x ends ≡ planned_end x pending es) → AllByRecursion IsXid pending → AllByRecursion (λ e. IsXid e.xid) ends
  plan_xids ends sorted each xids = all_weaken IsPlanned (λ e. IsXid e.xid) (λ e k. listed_has IsXid e.xid pending xids k.0) ends (planned_all ends sorted each)

-- where nothing is pending there is no end
pub none_planned : (es : List ListEntry) (q : QueueState) (pending : List (List ℕ)) → length pending ≡ 0 → ((x : List ℕ) → is_listed x pending ≡ is_pending x q) → AreItsEnds es q []
none_planned es q [] none listed x = ap (λ b. cond b (end_by (verdict_by es x) x) None) (listed x)
none_planned es q (y ∷ ys) none listed x = absurd (omega (arith, none))

-- ---- no end, and no doubt

doubt_is : (v : Verdict) (x : List ℕ) → None ≡ end_by v x → v ≡ Doubt
doubt_is Commit x e = absurd (cc)
doubt_is Abort x e = absurd (cc)
doubt_is Doubt x e = refl

pub without_ends : (es : List ListEntry) (q : QueueState) (ends : List End) → length ends ≡ 0 → AreItsEnds es q ends → IsDoubted (verdict_by es) q
without_ends es q [] none planned x p = doubt_is (verdict_by es x) x (planned x ∙ ap (λ b. cond b (end_by (verdict_by es x) x) None) p)
without_ends es q (e ∷ ends) none planned x p = absurd (omega (arith, none))

pub doubted_unplanned : (es : List ListEntry) (q : QueueState) (ends : List End) → 0 < length ends → AreItsEnds es q ends → IsDoubted (verdict_by es) q → ⊥
doubted_unplanned es q [] some planned doubted = omega (arith, some)
doubted_unplanned es q (e ∷ ends) some planned doubted = by (is_pending e.xid q) refl (sym (ap (λ b. cond b (Some e) (end_of e.xid ends)) (same_self e.xid)) ∙ planned e.xid)
  where
    none : Some e ≡ None → ⊥
    none i = cc

    by : (b : Bool) → is_pending e.xid q ≡ b → Some e ≡ cond b (end_by (verdict_by es e.xid) e.xid) None → ⊥
    by true is k = none (k ∙ ap (λ v. end_by v e.xid) (doubted e.xid is))
    by false is k = none k

-- ---- nothing is pending by them in the queues before

unpending : (v : Verdict) (c : Bool) → v ≡ Doubt → v ≡ verdict_if c → ⊥
unpending v true d e = clash (sym d ∙ e)
  where
    clash : Doubt ≡ Commit → ⊥
    clash e = cc
unpending v false d e = clash (sym d ∙ e)
  where
    clash : Doubt ≡ Abort → ⊥
    clash e = cc

pub ended_before : (es : List ListEntry) (ends : List End) (at : ℕ) (qs : List QueueState) → MayCarryOut es ends → AllByRecursion (IsDoubted (verdict_by es)) (take at qs) → AreEndedBefore at qs ends
ended_before es ends at qs h d =
    all_weaken (λ e. verdict_by es e.xid ≡ verdict_if e.commit) (λ e. NonePending e.xid (take at qs))
    (λ e k. all_weaken (IsDoubted (verdict_by es)) (λ q. is_pending e.xid q ≡ false) (λ q l. none e k q l (is_pending e.xid q) refl) (take at qs) d) ends h
  where
    none : (e : End) → verdict_by es e.xid ≡ verdict_if e.commit → (q : QueueState) → IsDoubted (verdict_by es) q → (b : Bool) → is_pending e.xid q ≡ b → b ≡ false
    none e k q l true p = absurd (unpending (verdict_by es e.xid) e.commit (l e.xid p) k)
    none e k q l false p = refl

-- ---- the queue at the place

if_map : {A B : Type 0} (f : A → B) (P : B → Type 0) (o : Option A) → IfSome o (λ a. P (f a)) → IfSome (option_map f o) P
if_map f P None h = tt
if_map f P (Some a) h = h

-- what holds of the live queue at a place
pub some_queue : (P : QueueState → Type 0) (s : JournalsState) (at : ℕ) → IfSome (slice_get s.queues at) (λ q. P q.queue) → IfSome (slice_get (queues_of s) at) P
some_queue P s at h = subst (λ o. IfSome o P) (sym (slice_get-map (λ (q : LiveState). q.queue) s.queues at)) (if_map (λ (q : LiveState). q.queue) P (slice_get s.queues at) h)

pub if_there : {A : Type 0} (P Q : A → Type 0) (o : Option A) → ((a : A) → o ≡ Some a → P a → Q a) → IfSome o P → IfSome o Q
if_there P Q None f h = tt
if_there P Q (Some a) f h = f a refl h

pub if_both : {A : Type 0} (P Q R : A → Type 0) (o : Option A) → ((a : A) → o ≡ Some a → P a → Q a → R a) → IfSome o P → IfSome o Q → IfSome o R
if_both P Q R None f h k = tt
if_both P Q R (Some a) f h k = f a refl h k

pub ok_so : {X E : Type 0} (P Q : X → Type 0) (r : Result X E) → ((x : X) → P x → Q x) → IfOk r P → IfOk r Q
ok_so P Q (Ok x) f h = f x h
ok_so P Q (Err e) f h = tt

pub ok_both : {X E : Type 0} (P Q R : X → Type 0) (r : Result X E) → ((x : X) → P x → Q x → R x) → IfOk r P → IfOk r Q → IfOk r R
ok_both P Q R (Ok x) f h k = f x h k
ok_both P Q R (Err e) f h k = tt

change_agree : (n : List ℕ) (f g : QueueState → QueueState) (q : QueueState) → f q ≡ g q → (qs : List QueueState) → AllByRecursion (λ r. same (name_of r) n ≡ true → r ≡ q) qs → change_queue n f qs ≡ change_queue n g qs
change_agree n f g q e [] h = refl
change_agree n f g q e (r ∷ qs) h = λ i. by (same r.name n) refl i ∷ change_agree n f g q e qs h.1 i
  where
    by : (b : Bool) → same r.name n ≡ b → cond b (f r) r ≡ cond b (g r) r
    by true is = ap f (h.0 is) ∙ e ∙ ap g (sym (h.0 is))
    by false is = refl

change_none : (n : List ℕ) (qs : List QueueState) → change_queue n (λ q. q) qs ≡ qs
change_none n [] = refl
change_none n (q ∷ qs) = λ i. by (same q.name n) i ∷ change_none n qs i
  where
    by : (b : Bool) → cond b q q ≡ q
    by true = refl
    by false = refl

module _ (s : JournalsState) (rising : NamesRise (names_of s.queues)) (at : ℕ) where
  only_one : (q : QueueState) → slice_get (queues_of s) at ≡ Some q → (f : QueueState → QueueState) → AllByRecursion (λ r. same (name_of r) q.name ≡ true → r ≡ q) (queues_of s)
  only_one q there f = only_found name_of q.name f (queues_of s) q (rises_by s.queues rising) (keyed_at name_of (queues_of s) at q (rises_by s.queues rising) there)

  pub change_so : (f g : QueueState → QueueState) (q : QueueState) → slice_get (queues_of s) at ≡ Some q → f q ≡ g q → change_queue q.name f (queues_of s) ≡ change_queue q.name g (queues_of s)
  change_so f g q there e = change_agree q.name f g q e (queues_of s) (only_one q there f)

  -- without an end all stays
  pub place_stays : (es : List ListEntry) (ends : List End) → length ends ≡ 0 → IfSome (slice_get (queues_of s) at) (λ q. AreItsEnds es q ends)
      → IfSome (slice_get (queues_of s) at) (λ q. queues_of s ≡ change_queue q.name (decided (verdict_by es)) (queues_of s))
  place_stays es ends none planned =
      if_there (λ q. AreItsEnds es q ends) (λ q. queues_of s ≡ change_queue q.name (decided (verdict_by es)) (queues_of s)) (slice_get (queues_of s) at)
      (λ q there k. sym (change_so (decided (verdict_by es)) (λ r. r) q there (doubted_stays (verdict_by es) q (without_ends es q ends none k)) ∙ change_none q.name (queues_of s))) planned

  -- and with these the queue is as decided
  pub place_ended : (es : List ListEntry) (ends : List End) (t : JournalsState) → IfSome (slice_get (queues_of s) at) (λ q. AreItsEnds es q ends)
      → IfSome (slice_get s.queues at) (λ q. queues_of t ≡ change_queue q.queue.name (ended_by ends) (queues_of s))
      → IfSome (slice_get (queues_of s) at) (λ q. queues_of t ≡ change_queue q.name (decided (verdict_by es)) (queues_of s))
  place_ended es ends t planned done =
      if_both (λ q. AreItsEnds es q ends) (λ q. queues_of t ≡ change_queue q.name (ended_by ends) (queues_of s)) (λ q. queues_of t ≡ change_queue q.name (decided (verdict_by es)) (queues_of s)) (slice_get (queues_of s) at)
      (λ q there k e. e ∙ change_so (ended_by ends) (decided (verdict_by es)) q there (planned_leave es q ends k)) planned
      (some_queue (λ q. queues_of t ≡ change_queue q.name (ended_by ends) (queues_of s)) s at done)

-- where all is in doubt there was no end
pub place_doubted : (R : Type 0) (es : List ListEntry) (ends : List End) (o : Option QueueState) → 0 < length ends → IfSome o (λ q. AreItsEnds es q ends) → IfSome o (λ q. IsDoubted (verdict_by es) q → R)
place_doubted R es ends o some planned =
    if_there (λ q. AreItsEnds es q ends) (λ q. IsDoubted (verdict_by es) q → R) o (λ q there k. λ d. absurd (doubted_unplanned es q ends some k d)) planned

-- the batch stopped there
pub place_stops : (s : JournalsState) (at : ℕ) (es : List ListEntry) → es ≡ s.list.entries → (ends : List End) → AreToWrite ends → (a b : Option Content) → IfSome (slice_get (queues_of s) at) (λ q. AreItsEnds es q ends)
    → IfSome (slice_get s.queues at) (λ q. Tells (StopsAtEnd s journal.Queue q.queue.name (end_records q.queue.last ends)) a b) → IfSome (slice_get (queues_of s) at) (λ q. Tells (StopsInQueue s q) a b)
place_stops s at es is ends written a b planned stops =
    if_both (λ q. AreItsEnds es q ends) (λ q. Tells (StopsAtEnd s journal.Queue q.name (end_records q.last ends)) a b) (λ q. Tells (StopsInQueue s q) a b) (slice_get (queues_of s) at)
    (λ q there k e.
    Tells-weaken (StopsAtEnd s journal.Queue q.name (end_records q.last ends)) (StopsInQueue s q) a b e
    (λ x y h. record { ends = ends; planned = subst (λ fs. AreItsEnds fs q ends) is k; written = written; stops = h })) planned
    (some_queue (λ q. Tells (StopsAtEnd s journal.Queue q.name (end_records q.last ends)) a b) s at stops)
