-- Queues in order of their names: where a name stands among them, and which queue is found by it.
use Rattle.std.proofs.Common.{◌≡◌, ℕ, zero, suc, ◌<◌, ◌≤◌, true, false, cond, List, [], ◌∷◌, map, option_map, length, take, drop, get_or, Option, Some, None, refl, ap, sym, subst, ◌∙◌, arith}
use Rattle.std.specs.List.{AllByRecursion, slice_get}
use Rattle.std.specs.declared.cmp.Ordering.TheVariants.{Less, Equal, Greater}
use Rattle.std.specs.Ordering.{nat_cmp, is_eq, is_lt, ordering_reverse}
use Rattle.std.specs.Cmp.Lexicographic.{slice_cmp}
use Rattle.std.proofs.lemmas.Cmp.{nat_list_cmp_total}
use Rattle.std.proofs.lemmas.Map.Text.{is_eq-slice_cmp}
use Rattle.std.proofs.lemmas.Option.{slice_get_read}
use Rattle.qls_model.specs.Bytes.{same, comes_before}
use Rattle.qls_model.proofs.XidKeys.{same_true, same_self}
use Rattle.qls_laws.proofs.EntryOrder.{is_less}
use Rattle.qls_queue.specs.Live.{LiveState}
use Rattle.qls_model.specs.Machine.{queue_named}
use Rattle.qls_model.specs.declared.machine.QueueState.{QueueState}
use Rattle.qls_journals.specs.State.{JournalsState, queues_of, queue_held, names_of, NamesRise}
use Rattle.qls_journals.specs.Places.{StandsAt, WouldStandAt}

-- ---- names

abbrev pub Before : List ℕ → List ℕ → Type 0
Before a b = comes_before a b ≡ true

pub is_before : (a b : List ℕ) → slice_cmp nat_cmp a b ≡ Less → Before a b
is_before a b e = ap is_lt e

pub is_behind : (a b : List ℕ) → slice_cmp nat_cmp a b ≡ Greater → Before b a
is_behind a b e = ap is_lt (nat_list_cmp_total.antisymm b a ∙ ap ordering_reverse e)

pub are_same : (a b : List ℕ) → slice_cmp nat_cmp a b ≡ Equal → a ≡ b
are_same a b e = same_true a b (sym (is_eq-slice_cmp a b) ∙ ap is_eq e)

pub before_all : (a b c : List ℕ) → Before a b → Before b c → Before a c
before_all a b c h g = ap is_lt (nat_list_cmp_total.trans a b c (is_less (slice_cmp nat_cmp a b) h) (is_less (slice_cmp nat_cmp b c) g))

-- a name that comes before another isn't that one
pub before_differs : (a b : List ℕ) → Before a b → same a b ≡ false
before_differs a b h = sym (is_eq-slice_cmp a b) ∙ ap is_eq (is_less (slice_cmp nat_cmp a b) h)

pub behind_differs : (a b : List ℕ) → Before b a → same a b ≡ false
behind_differs a b h =
    sym (is_eq-slice_cmp a b) ∙ ap is_eq (nat_list_cmp_total.antisymm a b ∙ ap ordering_reverse (is_less (slice_cmp nat_cmp b a) h))

-- ---- queues

abbrev pub AllBefore : List ℕ → List LiveState → Type 0
AllBefore name qs = AllByRecursion (λ q. comes_before q.queue.name name ≡ true) qs

abbrev pub AllBehind : List ℕ → List LiveState → Type 0
AllBehind name qs = AllByRecursion (λ q. comes_before name q.queue.name ≡ true) qs

abbrev pub Lacks : List ℕ → List LiveState → Type 0
Lacks name qs = AllByRecursion (λ q. same q.queue.name name ≡ false) qs

-- what comes before one queue comes before those that follow it
pub all_behind : (a b : List ℕ) (qs : List LiveState) → Before a b → AllByRecursion (λ m. comes_before b m ≡ true) (names_of qs) → AllBehind a qs
all_behind a b [] h r = tt
all_behind a b (q ∷ qs) h r = (before_all a b q.queue.name h r.0, all_behind a b qs h r.1)

-- a name of the list behind the first's is behind it
pub rises_to : (n : List ℕ) (qs : List LiveState) (i : ℕ) (q : LiveState) → i < length qs → q ≡ get_or qs i q → AllByRecursion (λ m. comes_before n m ≡ true) (names_of qs) → Before n q.queue.name
rises_to n [] i q h e r = absurd (omega arith)
rises_to n (p ∷ qs) zero q h e r = ap (λ (x : LiveState). comes_before n x.queue.name) e ∙ r.0
rises_to n (p ∷ qs) (suc i) q h e r = rises_to n qs i q (omega arith) e r.1

-- where the queue at a place comes before the name, so do all up to it
pub before_up_to : (name : List ℕ) (qs : List LiveState) (i : ℕ) (q : LiveState) → i < length qs → q ≡ get_or qs i q → NamesRise (names_of qs) → Before q.queue.name name → AllBefore name (take (suc i) qs)
before_up_to name [] i q h e r b = absurd (omega arith)
before_up_to name (p ∷ qs) zero q h e r b = (ap (λ (x : LiveState). comes_before x.queue.name name) (sym e) ∙ b, tt)
before_up_to name (p ∷ qs) (suc i) q h e r b =
    (before_all p.queue.name q.queue.name name (rises_to p.queue.name qs i q (omega arith) e r.0) b, before_up_to name qs i q (omega arith) e r.1 b)

-- where the name comes before the queue at a place, it does before all from there on
pub behind_from : (name : List ℕ) (qs : List LiveState) (i : ℕ) (q : LiveState) → i < length qs → q ≡ get_or qs i q → NamesRise (names_of qs) → Before name q.queue.name → AllBehind name (drop i qs)
behind_from name [] i q h e r b = absurd (omega arith)
behind_from name (p ∷ qs) zero q h e r b =
    let first : Before name p.queue.name = ap (λ (x : LiveState). comes_before name x.queue.name) (sym e) ∙ b in
    (first, all_behind name p.queue.name qs first r.0)
behind_from name (p ∷ qs) (suc i) q h e r b = behind_from name qs i q (omega arith) e r.1 b

-- a name that comes between two neighbours isn't there
pub lacks_between : (name : List ℕ) (qs : List LiveState) (i : ℕ) → AllBefore name (take i qs) → AllBehind name (drop i qs) → Lacks name qs
lacks_between name [] i b a = tt
lacks_between name (q ∷ qs) zero b a = (behind_differs q.queue.name name a.0, lacks_between name qs zero tt a.1)
lacks_between name (q ∷ qs) (suc i) b a = (before_differs q.queue.name name b.0, lacks_between name qs i b.1 a)

pub none_held : (name : List ℕ) (qs : List LiveState) → Lacks name qs → queue_held name qs ≡ None
none_held name [] h = refl
none_held name (q ∷ qs) h = ap (λ b. cond b (Some q) (queue_held name qs)) h.0 ∙ none_held name qs h.1

-- the queue at a place is the one that is found by its name
pub held_at : (qs : List LiveState) (i : ℕ) (q : LiveState) → i < length qs → q ≡ get_or qs i q → NamesRise (names_of qs) → queue_held q.queue.name qs ≡ Some q
held_at [] i q h e r = absurd (omega arith)
held_at (p ∷ qs) zero q h e r =
    ap (λ (x : LiveState). cond (same p.queue.name x.queue.name) (Some p) (queue_held x.queue.name qs)) e ∙ ap (λ b. cond b (Some p) (queue_held p.queue.name qs)) (same_self p.queue.name) ∙ ap (λ (x : LiveState). Some x) (sym e)
held_at (p ∷ qs) (suc i) q h e r =
    ap (λ b. cond b (Some p) (queue_held q.queue.name qs)) (before_differs p.queue.name q.queue.name (rises_to p.queue.name qs i q (omega arith) e r.0)) ∙ held_at qs i q (omega arith) e r.1

pub stands_at : (name : List ℕ) (qs : List LiveState) (i : ℕ) (q : LiveState) → i < length qs → q ≡ get_or qs i q → NamesRise (names_of qs) → q.queue.name ≡ name → StandsAt qs name i
stands_at name qs i q h e r is =
    record {
      queue = q;
      there = slice_get_read qs (length qs) i q refl h e;
      named = is;
      held = subst (λ n. queue_held n qs ≡ Some q) is (held_at qs i q h e r);
    }

pub would_stand_at : (name : List ℕ) (qs : List LiveState) (i : ℕ) → i ≤ length qs → AllBefore name (take i qs) → AllBehind name (drop i qs) → WouldStandAt qs name i
would_stand_at name qs i h b a = record { within = h; none = none_held name qs (lacks_between name qs i b a); before = b; behind = a }

-- ---- what is at a place

pub all_at : {A : Type 0} (P : A → Type 0) (xs : List A) (k : ℕ) (x : A) → AllByRecursion P xs → slice_get xs k ≡ Some x → P x
all_at P [] k x h e = absurd (cc)
all_at P (y ∷ ys) zero x h e = subst P (some_is y x e) h.0
  where
    some_is : {A : Type 0} (y x : A) → Some y ≡ Some x → y ≡ x
    some_is y x e = cc
all_at P (y ∷ ys) (suc k) x h e = all_at P ys k x h.1 e

-- ---- the model's queues

abbrev pub held_of : LiveState → QueueState
held_of q = q.queue

-- the model finds the queue that is held
pub named_held : (name : List ℕ) (qs : List LiveState) → queue_named name (map held_of qs) ≡ option_map held_of (queue_held name qs)
named_held name [] = refl
named_held name (q ∷ qs) =
    elim (same q.queue.name name) as (λ b. cond b (Some q.queue) (queue_named name (map held_of qs)) ≡ option_map held_of (cond b (Some q) (queue_held name qs))) [
      | true ↦ refl
      | false ↦ named_held name qs
    ]

pub named_by : (name : List ℕ) (s : JournalsState) (o : Option LiveState) → queue_held name s.queues ≡ o → queue_named name (queues_of s) ≡ option_map held_of o
named_by name s o e = named_held name s.queues ∙ ap (option_map held_of) e
