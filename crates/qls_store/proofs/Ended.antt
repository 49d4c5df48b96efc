-- What the end of a transaction leaves of the queues: those in which nothing is pending by it stay, and what is pending by others stays.
use Rattle.std.proofs.Common.{◌≡◌, ℕ, Bool, true, false, not, ◌||◌, cond, List, [], ◌∷◌, map, filter, Some, IsSome, is_some, refl, sym, ap, subst, ◌∙◌}
use Rattle.std.specs.List.{AllByRecursion, filter_map, cons_option, list_any}
use Rattle.qls_model.specs.Bytes.{same, is_listed}
use Rattle.qls_model.proofs.XidKeys.{same_true, same_self}
use Rattle.qls_model.specs.Messages.{left_by, after_coming, after_going, decided, only}
use Rattle.qls_model.specs.Machine.{XidState, queue_named, xid_named, without_xid}
use Rattle.qls_model.specs.declared.machine.Status.{Status}
use Rattle.qls_model.specs.declared.machine.Status.TheVariants.{Ready, Coming, Going}
use Rattle.qls_model.specs.declared.machine.Message.{Message}
use Rattle.qls_model.specs.declared.machine.QueueState.{QueueState}
use Rattle.qls_model.specs.declared.machine.Verdict.{Verdict}
use Rattle.qls_model.specs.declared.machine.Verdict.TheVariants.{Doubt}
use Rattle.qls_decide.specs.declared.End.{End}
use Rattle.qls_replay.specs.Ops.{is_moved, verdict_if}
use Rattle.qls_queue.specs.Answers.{is_pending}
use Rattle.qls_store.specs.Stores.{touched, IsKnown}
use Rattle.qls_store.specs.Calls.{ended_in}
use Rattle.qls_store.proofs.Keys.{all_weaken, all_filter}
use Rattle.qls_store.proofs.Named.{AreNamed}

false_true : false ≡ true → ⊥
false_true e = cc

module _ (x : List ℕ) (commit : Bool) where
  abbrev verdict : List ℕ → Verdict
  verdict = only x (verdict_if commit)

  abbrev left : List Message → List Message
  left ms = filter_map (λ m. left_by verdict m.status m) ms

  abbrev pub ends : QueueState → QueueState
  ends q = decided verdict q

  -- ---- twice is as once

  again_by : (m : Message) (rest : List Message) (s : Status) → m.status ≡ s → left (cons_option (left_by verdict s m) rest) ≡ cons_option (left_by verdict s m) (left rest)
  again_by m rest Ready e = ap (λ s. cons_option (left_by verdict s m) (left rest)) e
  again_by m rest (Coming y) e = by (same x y) refl commit
    where
      by : (b : Bool) → same x y ≡ b → (c : Bool) → left (cons_option (after_coming (cond b (verdict_if commit) Doubt) m) rest) ≡ cons_option (after_coming (cond b (verdict_if commit) Doubt) m) (left rest)
      by true is c = elim commit as (λ d. filter_map (λ m. left_by (only x (verdict_if commit)) m.status m) (cons_option (after_coming (verdict_if d) m) rest) ≡ cons_option (after_coming (verdict_if d) m) (left rest)) [ true ↦ refl | false ↦ refl ]
      by false is c = ap (λ s. cons_option (left_by verdict s m) (left rest)) e ∙ ap (λ b. cons_option (after_coming (cond b (verdict_if commit) Doubt) m) (left rest)) is
  again_by m rest (Going y) e = by (same x y) refl commit
    where
      by : (b : Bool) → same x y ≡ b → (c : Bool) → left (cons_option (after_going (cond b (verdict_if commit) Doubt) m) rest) ≡ cons_option (after_going (cond b (verdict_if commit) Doubt) m) (left rest)
      by true is c = elim commit as (λ d. filter_map (λ m. left_by (only x (verdict_if commit)) m.status m) (cons_option (after_going (verdict_if d) m) rest) ≡ cons_option (after_going (verdict_if d) m) (left rest)) [ true ↦ refl | false ↦ refl ]
      by false is c = ap (λ s. cons_option (left_by verdict s m) (left rest)) e ∙ ap (λ b. cons_option (after_going (cond b (verdict_if commit) Doubt) m) (left rest)) is

  left_twice : (ms : List Message) → left (left ms) ≡ left ms
  left_twice [] = refl
  left_twice (m ∷ ms) = again_by m (left ms) m.status refl ∙ ap (cons_option (left_by verdict m.status m)) (left_twice ms)

  pub ends_twice : (q : QueueState) → ends (ends q) ≡ ends q
  ends_twice q = ap (λ (ms : List Message). record q { messages = ms }) (left_twice q.messages)

  -- ---- nothing pending

  or_no : (a b : Bool) → (a || b) ≡ false → (a ≡ false) × (b ≡ false)
  or_no true b e = absurd (cc)
  or_no false b e = (refl, e)

  unmoved : (m : Message) (s : Status) → is_moved x s ≡ false → left_by verdict s m ≡ Some m
  unmoved m Ready e = refl
  unmoved m (Coming y) e = ap (λ b. after_coming (cond b (verdict_if commit) Doubt) m) e
  unmoved m (Going y) e = ap (λ b. after_going (cond b (verdict_if commit) Doubt) m) e

  left_none : (ms : List Message) → list_any (λ m. is_moved x m.status) ms ≡ false → left ms ≡ ms
  left_none [] e = refl
  left_none (m ∷ ms) e =
      let p = or_no (is_moved x m.status) (list_any (λ m. is_moved x m.status) ms) e in
      ap (λ o. cons_option o (left ms)) (unmoved m m.status p.0) ∙ ap (λ (ks : List Message). m ∷ ks) (left_none ms p.1)

  pub ends_none : (q : QueueState) → is_pending x q ≡ false → ends q ≡ q
  ends_none q e = ap (λ (ms : List Message). record q { messages = ms }) (left_none q.messages e)

  -- ---- in each queue that is named

  abbrev the_end : List End
  the_end = record { xid = x; commit = commit } ∷ []

  abbrev step : List ℕ → QueueState → QueueState
  step n q = cond (same q.name n) (ends q) q

  abbrev point : List (List ℕ) → QueueState → QueueState
  point [] q = q
  point (n ∷ ns) q = point ns (step n q)

  fused : (ns : List (List ℕ)) (n : List ℕ) (qs : List QueueState) → map (point ns) (map (step n) qs) ≡ map (point (n ∷ ns)) qs
  fused ns n [] = refl
  fused ns n (q ∷ qs) = ap (λ (rs : List QueueState). point ns (step n q) ∷ rs) (fused ns n qs)

  none_fused : (qs : List QueueState) → qs ≡ map (point []) qs
  none_fused [] = refl
  none_fused (q ∷ qs) = ap (λ (rs : List QueueState). q ∷ rs) (none_fused qs)

  pointwise_ended : (ns : List (List ℕ)) (qs : List QueueState) → ended_in ns the_end qs ≡ map (point ns) qs
  pointwise_ended [] qs = none_fused qs
  pointwise_ended (n ∷ ns) qs = pointwise_ended ns (map (step n) qs) ∙ fused ns n qs

  ended_stays : (ns : List (List ℕ)) (q : QueueState) → ends q ≡ q → point ns q ≡ q
  ended_stays [] q e = refl
  ended_stays (n ∷ ns) q e = ap (point ns) (by (same q.name n)) ∙ ended_stays ns q e
    where
      by : (b : Bool) → cond b (ends q) q ≡ q
      by true = e
      by false = refl

  listed_ends : (ns : List (List ℕ)) (q : QueueState) → is_listed q.name ns ≡ true → point ns q ≡ ends q
  listed_ends [] q e = absurd (false_true e)
  listed_ends (n ∷ ns) q e = by (same q.name n) e (listed_ends ns q)
    where
      by : (b : Bool) → (b || is_listed q.name ns) ≡ true → (is_listed q.name ns ≡ true → point ns q ≡ ends q) → point ns (cond b (ends q) q) ≡ ends q
      by true e ih = ended_stays ns (ends q) (ends_twice q)
      by false e ih = ih e

  abbrev Lists : List (List ℕ) → QueueState → Type 0
  Lists ns q = is_pending x q ≡ true → is_listed q.name ns ≡ true

  listed_more : (n : List ℕ) (ns : List (List ℕ)) (q : QueueState) → Lists ns q → Lists (n ∷ ns) q
  listed_more n ns q h p = by (same q.name n)
    where
      by : (b : Bool) → (b || is_listed q.name ns) ≡ true
      by true = refl
      by false = h p

  touched_lists : (qs : List QueueState) → AllByRecursion (Lists (touched x qs)) qs
  touched_lists [] = tt
  touched_lists (q ∷ qs) = by (is_pending x q) refl (touched_lists qs)
    where
      names : Bool → List (List ℕ)
      names b = map (λ q. q.name) (cond b (q ∷ filter (is_pending x) qs) (filter (is_pending x) qs))

      by : (b : Bool) → is_pending x q ≡ b → AllByRecursion (Lists (touched x qs)) qs
          → (is_pending x q ≡ true → is_listed q.name (map (λ q. q.name) (cond b (q ∷ filter (is_pending x) qs) (filter (is_pending x) qs))) ≡ true) × AllByRecursion (Lists (map (λ q. q.name) (cond b (q ∷ filter (is_pending x) qs) (filter (is_pending x) qs)))) qs
      by true is h = (λ p. ap (λ b. b || is_listed q.name (touched x qs)) (same_self q.name), all_weaken (Lists (touched x qs)) (Lists (q.name ∷ touched x qs)) (listed_more q.name (touched x qs)) qs h)
      by false is h = (λ p. absurd (false_true (sym is ∙ p)), h)

  point_ends : (ns : List (List ℕ)) (q : QueueState) → Lists ns q → point ns q ≡ ends q
  point_ends ns q h = by (is_pending x q) refl
    where
      by : (b : Bool) → is_pending x q ≡ b → point ns q ≡ ends q
      by true is = listed_ends ns q (h is)
      by false is = ended_stays ns q (ends_none q is) ∙ sym (ends_none q is)

  points_end : (ns : List (List ℕ)) (qs : List QueueState) → AllByRecursion (Lists ns) qs → map (point ns) qs ≡ map ends qs
  points_end ns [] h = refl
  points_end ns (q ∷ qs) h = λ i. point_ends ns q h.0 i ∷ points_end ns qs h.1 i

  -- where the names are those of the queues in which a message is pending by it, all queues end it
  pub touched_ended : (qs : List QueueState) → ended_in (touched x qs) the_end qs ≡ map ends qs
  touched_ended qs = pointwise_ended (touched x qs) qs ∙ points_end (touched x qs) qs (touched_lists qs)

  -- ---- what is pending by another

  module _ (y : List ℕ) (apart : same y x ≡ false) where
    other : (z : List ℕ) → same x z ≡ true → same y z ≡ false
    other z e = ap (same y) (sym (same_true x z e)) ∙ apart

    moved_left : (m : Message) (rest : List Message) (s : Status) → m.status ≡ s → list_any (λ m. is_moved y m.status) (cons_option (left_by verdict s m) rest) ≡ (is_moved y s || list_any (λ m. is_moved y m.status) rest)
    moved_left m rest Ready e = ap (λ s. is_moved y s || list_any (λ m. is_moved y m.status) rest) e
    moved_left m rest (Coming z) e = by (same x z) refl
      where
        by : (b : Bool) → same x z ≡ b → list_any (λ m. is_moved y m.status) (cons_option (after_coming (cond b (verdict_if commit) Doubt) m) rest) ≡ (same y z || list_any (λ m. is_moved y m.status) rest)
        by true is =
            elim commit as (λ d. list_any (λ m. is_moved y m.status) (cons_option (after_coming (verdict_if d) m) rest) ≡ list_any (λ m. is_moved y m.status) rest) [ true ↦ refl | false ↦ refl ]
            ∙ sym (ap (λ b. b || list_any (λ m. is_moved y m.status) rest) (other z is))
        by false is = ap (λ s. is_moved y s || list_any (λ m. is_moved y m.status) rest) e
    moved_left m rest (Going z) e = by (same x z) refl
      where
        by : (b : Bool) → same x z ≡ b → list_any (λ m. is_moved y m.status) (cons_option (after_going (cond b (verdict_if commit) Doubt) m) rest) ≡ (same y z || list_any (λ m. is_moved y m.status) rest)
        by true is =
            elim commit as (λ d. list_any (λ m. is_moved y m.status) (cons_option (after_going (verdict_if d) m) rest) ≡ list_any (λ m. is_moved y m.status) rest) [ true ↦ refl | false ↦ refl ]
            ∙ sym (ap (λ b. b || list_any (λ m. is_moved y m.status) rest) (other z is))
        by false is = ap (λ s. is_moved y s || list_any (λ m. is_moved y m.status) rest) e

    pending_left : (ms : List Message) → list_any (λ m. is_moved y m.status) (left ms) ≡ list_any (λ m. is_moved y m.status) ms
    pending_left [] = refl
    pending_left (m ∷ ms) = moved_left m (left ms) m.status refl ∙ ap (λ b. is_moved y m.status || b) (pending_left ms)

    pub touched_still : (qs : List QueueState) → touched y (map ends qs) ≡ touched y qs
    touched_still [] = refl
    touched_still (q ∷ qs) =
        ap (λ b. map (λ q. q.name) (cond b (ends q ∷ filter (is_pending y) (map ends qs)) (filter (is_pending y) (map ends qs)))) (pending_left q.messages)
        ∙ by (is_pending y q) (touched_still qs)
      where
        by : (b : Bool) → touched y (map ends qs) ≡ touched y qs
            → map (λ q. q.name) (cond b (ends q ∷ filter (is_pending y) (map ends qs)) (filter (is_pending y) (map ends qs))) ≡ map (λ q. q.name) (cond b (q ∷ filter (is_pending y) qs) (filter (is_pending y) qs))
        by true h = ap (λ (ns : List (List ℕ)). q.name ∷ ns) h
        by false h = h

  -- ---- messages of transactions that there still are

  module _ (xs : List XidState) where
    named_still : (y : List ℕ) → same x y ≡ false → (zs : List XidState) → xid_named y (without_xid x zs) ≡ xid_named y zs
    named_still y apart [] = refl
    named_still y apart (e ∷ zs) = by (same e.xid x) refl (named_still y apart zs)
      where
        by : (b : Bool) → same e.xid x ≡ b → xid_named y (without_xid x zs) ≡ xid_named y zs → xid_named y (cond (not b) (e ∷ without_xid x zs) (without_xid x zs)) ≡ cond (same e.xid y) (Some e) (xid_named y zs)
        by true is h = h ∙ sym (ap (λ b. cond b (Some e) (xid_named y zs)) (ap (λ z. same z y) (same_true e.xid x is) ∙ apart))
        by false is h = ap (λ o. cond (same e.xid y) (Some e) o) h

    abbrev Known : Message → Type 0
    Known m = IsKnown (without_xid x xs) m.status

    known_left : (m : Message) (rest : List Message) (s : Status) → m.status ≡ s → IsKnown xs s → AllByRecursion Known rest → AllByRecursion Known (cons_option (left_by verdict s m) rest)
    known_left m rest Ready e k h = (subst (IsKnown (without_xid x xs)) (sym e) tt, h)
    known_left m rest (Coming y) e k h = by (same x y) refl
      where
        by : (b : Bool) → same x y ≡ b → AllByRecursion Known (cons_option (after_coming (cond b (verdict_if commit) Doubt) m) rest)
        by true is = elim commit as (λ d. AllByRecursion Known (cons_option (after_coming (verdict_if d) m) rest)) [ true ↦ (tt, h) | false ↦ h ]
        by false is = (subst (IsKnown (without_xid x xs)) (sym e) (k.0, named_still y is xs ∙ k.1), h)
    known_left m rest (Going y) e k h = by (same x y) refl
      where
        by : (b : Bool) → same x y ≡ b → AllByRecursion Known (cons_option (after_going (cond b (verdict_if commit) Doubt) m) rest)
        by true is = elim commit as (λ d. AllByRecursion Known (cons_option (after_going (verdict_if d) m) rest)) [ true ↦ h | false ↦ (tt, h) ]
        by false is = (subst (IsKnown (without_xid x xs)) (sym e) (k.0, named_still y is xs ∙ k.1), h)

    known_messages : (ms : List Message) → AllByRecursion (λ m. IsKnown xs m.status) ms → AllByRecursion Known (left ms)
    known_messages [] k = tt
    known_messages (m ∷ ms) k = known_left m (left ms) m.status refl k.0 (known_messages ms k.1)

    pub known_ended : (qs : List QueueState) → AllByRecursion (λ q. AllByRecursion (λ m. IsKnown xs m.status) q.messages) qs → AllByRecursion (λ q. AllByRecursion Known q.messages) (map ends qs)
    known_ended [] k = tt
    known_ended (q ∷ qs) k = (known_messages q.messages k.0, known_ended qs k.1)

-- ---- the queues of a transaction are there

named_more : (n : List ℕ) (q : QueueState) (qs : List QueueState) → IsSome (queue_named n qs) → IsSome (queue_named n (q ∷ qs))
named_more n q qs h = by (same q.name n)
  where
    by : (b : Bool) → is_some (cond b (Some q) (queue_named n qs)) ≡ true
    by true = refl
    by false = h

each_named : (qs : List QueueState) → AllByRecursion (λ r. IsSome (queue_named r.name qs)) qs
each_named [] = tt
each_named (q ∷ qs) = (
  ap (λ b. is_some (cond b (Some q) (queue_named q.name qs))) (same_self q.name),
  all_weaken (λ r. IsSome (queue_named r.name qs)) (λ r. IsSome (queue_named r.name (q ∷ qs))) (λ r h. named_more r.name q qs h) qs (each_named qs),
)

all_map : {A B : Type 0} (P : B → Type 0) (f : A → B) (xs : List A) → AllByRecursion (λ a. P (f a)) xs → AllByRecursion P (map f xs)
all_map P f [] h = tt
all_map P f (x ∷ xs) h = (h.0, all_map P f xs h.1)

pub touched_named : (x : List ℕ) (qs : List QueueState) → AreNamed (touched x qs) qs
touched_named x qs = all_map (λ n. IsSome (queue_named n qs)) (λ q. q.name) (filter (is_pending x) qs) (all_filter (λ r. IsSome (queue_named r.name qs)) (is_pending x) qs (each_named qs))
