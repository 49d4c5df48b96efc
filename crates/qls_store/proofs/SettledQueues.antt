-- Queues that are settled one after another: those so far are as decided, and those to come as they were.
use Rattle.std.proofs.Common.{◌≡◌, ℕ, zero, suc, ◌+◌, ◌<◌, ◌≤◌, Bool, true, false, cond, List, [], ◌∷◌, ◌++◌, map, length, take, drop, Option, Some, None, IfSome, refl, sym, ap, subst, ◌∙◌, arith, append-nil}
use Rattle.std.specs.List.{AllByRecursion, slice_get}
use Rattle.qls_model.specs.Bytes.{same, comes_before}
use Rattle.qls_model.proofs.XidKeys.{same_self}
use Rattle.qls_model.specs.Machine.{change_queue}
use Rattle.qls_model.specs.Messages.{decided}
use Rattle.qls_model.specs.declared.machine.QueueState.{QueueState}
use Rattle.qls_model.specs.declared.machine.Verdict.{Verdict}
use Rattle.qls_record.specs.Record.{Record}
use Rattle.qls_site.specs.Disk.{Disk}
use Rattle.qls_site.specs.Content.{Content, Tells}
use Rattle.qls_site.proofs.Told.{Tells-then}
use Rattle.qls_filehdr.specs.declared.JournalKind.{JournalKind}
use Rattle.qls_filehdr.specs.declared.JournalKind.TheVariants as journal
use Rattle.qls_decide.specs.declared.ListEntry.{ListEntry}
use Rattle.qls_meaning.specs.Orderly.{journal_on}
use Rattle.qls_blocks.specs.Batching.{length_of, block_length}
use Rattle.qls_pool.proofs.Moments.{Arrives-then, Passes-of}
use Rattle.qls_queue.proofs.Then.{unmarked_front, unmarked_rest}
use Rattle.qls_queue.specs.Live.{LiveState}
use Rattle.qls_queue.specs.Records.{end_records}
use Rattle.qls_prepared.specs.Lists.{PreparedState}
use Rattle.qls_journals.specs.Ends.{StopsAtEnd, at_end_by, batch_at_end}
use Rattle.qls_journals.specs.Homes.{homes_of, SameHomes}
use Rattle.qls_journals.specs.Moments.{IsStoreStep, Changes}
use Rattle.qls_journals.specs.State.{JournalsState, queues_of}
use Rattle.qls_store.specs.Opening.{AreItsEnds}
use Rattle.qls_store.specs.Settling.{IsDoubted, StopsInQueue, StopsInQueues}
use Rattle.qls_store.specs.Table.{Rises}
use Rattle.qls_store.proofs.Keys.{all_at, lacks_behind}
use Rattle.qls_store.proofs.States.{name_of}
use Rattle.qls_store.proofs.SettledQueue.{decided_doubted, decided_twice}
use Rattle.qls_store.proofs.Together.{home_same}

-- where no queue has the name, all stay
others_stay : (n : List ℕ) (f : QueueState → QueueState) (qs : List QueueState) → AllByRecursion (λ q. same (name_of q) n ≡ false) qs → change_queue n f qs ≡ qs
others_stay n f [] h = refl
others_stay n f (q ∷ qs) h = λ i. cond (h.0 i) (f q) q ∷ others_stay n f qs h.1 i

module _ (v : List ℕ → Verdict) where
  abbrev pub settled_to : ℕ → List QueueState → List QueueState
  settled_to n qs = map (decided v) (take n qs) ++ drop n qs

  pub settled_none : (qs : List QueueState) → qs ≡ settled_to 0 qs
  settled_none qs = refl

  pub settled_all : (n : ℕ) (qs : List QueueState) → length qs ≤ n → settled_to n qs ≡ map (decided v) qs
  settled_all zero [] h = refl
  settled_all zero (q ∷ qs) h = absurd (omega (arith, h))
  settled_all (suc n) [] h = refl
  settled_all (suc n) (q ∷ qs) h = ap (λ (rs : List QueueState). decided v q ∷ rs) (settled_all n qs (omega (arith, h)))

  -- the one at the place is as it was
  pub at_settled : (n : ℕ) (qs : List QueueState) → slice_get (settled_to n qs) n ≡ slice_get qs n
  at_settled zero qs = refl
  at_settled (suc n) [] = refl
  at_settled (suc n) (q ∷ qs) = at_settled n qs

  settled_length : (n : ℕ) (qs : List QueueState) → length (settled_to n qs) ≡ length qs
  settled_length zero qs = refl
  settled_length (suc n) [] = refl
  settled_length (suc n) (q ∷ qs) = ap suc (settled_length n qs)

  -- what is pending in those before it is in doubt
  pub before_settled : (n : ℕ) (qs : List QueueState) → AllByRecursion (IsDoubted v) (take n (settled_to n qs))
  before_settled zero qs = tt
  before_settled (suc n) [] = tt
  before_settled (suc n) (q ∷ qs) = (decided_doubted v q, before_settled n qs)

  pub all_doubted : (qs : List QueueState) → AllByRecursion (IsDoubted v) (map (decided v) qs)
  all_doubted [] = tt
  all_doubted (q ∷ qs) = (decided_doubted v q, all_doubted qs)

  changed_twice : (n : List ℕ) (q : QueueState) → cond (same q.name n) (decided v (decided v q)) (decided v q) ≡ decided v q
  changed_twice n q = by (same q.name n)
    where
      by : (b : Bool) → cond b (decided v (decided v q)) (decided v q) ≡ decided v q
      by true = decided_twice v q
      by false = refl

  step : (n : ℕ) (qs : List QueueState) (q : QueueState) → Rises name_of qs → slice_get qs n ≡ Some q → change_queue q.name (decided v) (settled_to n qs) ≡ settled_to (suc n) qs
  step n [] q r e = absurd (cc)
  step zero (p ∷ qs) q r e =
      let is : p ≡ q = some_is e in
      let here : same p.name q.name ≡ true = ap (λ (s : QueueState). same s.name q.name) is ∙ same_self q.name in
      (λ i. cond (here i) (decided v p) p ∷ change_queue q.name (decided v) qs)
      ∙ ap (λ (rs : List QueueState). decided v p ∷ rs) (others_stay q.name (decided v) qs (lacks_behind name_of q.name qs (subst (λ (s : QueueState). AllByRecursion (λ r. comes_before s.name (name_of r) ≡ true) qs) is r.0)))
    where
      some_is : {A : Type 0} {a b : A} → Some a ≡ Some b → a ≡ b
      some_is e = cc
  step (suc n) (p ∷ qs) q r e = λ i. changed_twice q.name p i ∷ step n qs q r.1 e i

  -- one more
  pub settled_next : (n : ℕ) (qs : List QueueState) (q : QueueState) → Rises name_of qs → slice_get qs n ≡ Some q → change_queue q.name (decided v) (settled_to n qs) ≡ settled_to (n + 1) qs
  settled_next n qs q r e =
      let next : suc n ≡ n + 1 = omega arith in
      step n qs q r e ∙ ap (λ m. settled_to m qs) next

queue_there : (qs : List QueueState) (n : ℕ) → n < length qs → (q : QueueState) × (slice_get qs n ≡ Some q)
queue_there [] n h = absurd (omega (arith, h))
queue_there (q ∷ qs) zero h = (q, refl)
queue_there (q ∷ qs) (suc n) h = queue_there qs n (omega (arith, h))

as_many : (qs : List LiveState) → length (map (λ q. q.queue) qs) ≡ length qs
as_many [] = refl
as_many (q ∷ qs) = ap suc (as_many qs)

pub place_within : (v : List ℕ → Verdict) (was s : JournalsState) (n : ℕ) → queues_of s ≡ settled_to v n (queues_of was) → n < length was.queues → n < length s.queues
place_within v was s n e h =
    let same_count : length s.queues ≡ length was.queues = sym (as_many s.queues) ∙ ap (λ (qs : List QueueState). length qs) e ∙ settled_length v n (queues_of was) ∙ as_many was.queues in
    omega (arith, same_count, h)

pub queue_at : (was : JournalsState) (n : ℕ) → n < length was.queues → (q : QueueState) × (slice_get (queues_of was) n ≡ Some q)
queue_at was n h =
    let within : n < length (queues_of was) = omega (arith, h, as_many was.queues) in
    queue_there (queues_of was) n within

pub all_settled : (v : List ℕ → Verdict) (was s : JournalsState) (n : ℕ) → length was.queues ≤ n → queues_of s ≡ settled_to v n (queues_of was) → queues_of s ≡ map (decided v) (queues_of was)
all_settled v was s n h e =
    let within : length (queues_of was) ≤ n = omega (arith, h, as_many was.queues) in
    e ∙ settled_all v n (queues_of was) within

pub some_at : {A : Type 0} (P : A → Type 0) (o : Option A) (a : A) → o ≡ Some a → IfSome o P → P a
some_at {A} P o a e h = subst (λ (p : Option A). IfSome p P) e h

-- ---- a later batch that stopped

module _ (was mid : JournalsState) (homes : SameHomes (homes_of mid) (homes_of was)) where
  at_end_same : (kind : JournalKind) (name : List ℕ) (rs : List Record) (d : Disk) → batch_at_end (homes_of mid) kind name rs d ≡ true → batch_at_end (homes_of was) kind name rs d ≡ true
  at_end_same kind name rs d e = ap (λ h. at_end_by h d (journal_on d kind name) (block_length (length_of rs))) (sym (home_same (homes_of mid) (homes_of was) homes kind name)) ∙ e

  pub stops_later : (kind : JournalKind) (name : List ℕ) (rs : List Record) (a b c : Content) → Changes was mid a b → StopsAtEnd mid kind name rs b c → StopsAtEnd was kind name rs a c
  stops_later kind name rs a b c h k = record {
    arrives = Arrives-then IsStoreStep a b c h.arrives k.arrives;
    meets = λ u w. at_end_same kind name rs c.now.disk
        (k.meets (unmarked_rest IsStoreStep IsStoreStep a b c h.arrives (Passes-of IsStoreStep b c k.arrives) u)
        (h.whole (unmarked_front IsStoreStep IsStoreStep a b c (Passes-of IsStoreStep a b h.arrives) (Passes-of IsStoreStep b c k.arrives) u) w));
  }

  pub told_stops_later : (kind : JournalKind) (name : List ℕ) (rs : List Record) (a b c : Option Content) → Tells (Changes was mid) a b → Tells (StopsAtEnd mid kind name rs) b c → Tells (StopsAtEnd was kind name rs) a c
  told_stops_later kind name rs a b c h k = Tells-then (Changes was mid) (StopsAtEnd mid kind name rs) (StopsAtEnd was kind name rs) a b c h k (stops_later kind name rs)

  pub stops_in_one : mid.list ≡ was.list → (at : ℕ) (q : QueueState) → slice_get (queues_of was) at ≡ Some q → (a b c : Option Content) → Tells (Changes was mid) a b → Tells (StopsInQueue mid q) b c → Tells (StopsInQueues was) a c
  stops_in_one list at q there a b c h k = Tells-then (Changes was mid) (StopsInQueue mid q) (StopsInQueues was) a b c h k (λ x y z m n. record {
    at = at;
    queue = q;
    there = there;
    stops = record {
      ends = n.ends;
      planned = subst (λ (p : PreparedState). AreItsEnds p.entries q n.ends) list n.planned;
      written = n.written;
      stops = stops_later journal.Queue q.name (end_records q.last n.ends) x y z m n.stops;
    };
  })
