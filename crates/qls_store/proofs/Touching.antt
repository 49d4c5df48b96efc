-- Which messages come or go by a transaction, and the queues of each, after a command on one queue.
use Rattle.std.proofs.Common.{◌≡◌, ℕ, ◌<◌, ◌==◌, Bool, true, false, not, ◌||◌, cond, List, [], ◌∷◌, ◌++◌, map, Option, Some, None, refl, ap, sym, subst, ◌∙◌, arith}
use Rattle.std.proofs.lemmas.Bool.{eqb-true}
use Rattle.std.specs.List.{AllByRecursion, filter, list_any}
use Rattle.qls_model.specs.Bytes.{same, comes_before}
use Rattle.qls_model.specs.Messages.{with_message, going_if, message_at, status_of}
use Rattle.qls_model.specs.Machine.{XidState, queue_named, with_queue, without_queue, change_queue, xid_named, is_ready, put_message, taken}
use Rattle.qls_model.specs.Sound.{RisesTo}
use Rattle.qls_model.specs.declared.machine.Message.{Message}
use Rattle.qls_model.specs.declared.machine.QueueState.{QueueState}
use Rattle.qls_model.specs.declared.machine.Status.{Status}
use Rattle.qls_model.specs.declared.machine.Status.TheVariants.{Ready, Coming, Going}
use Rattle.qls_model.proofs.XidKeys.{same_true}
use Rattle.qls_replay.specs.Ops.{is_moved}
use Rattle.qls_queue.specs.Answers.{is_pending}
use Rattle.qls_store.specs.Stores.{touched, IsKnown}
use Rattle.qls_store.specs.Table.{Rises, with_name}
use Rattle.qls_store.proofs.Keys.{all_weaken, all_filter}
use Rattle.qls_store.proofs.Marking.{only_found, change_all, passing_same, passing_marked}

abbrev pub name_of : QueueState → List ℕ
name_of q = q.name

-- ---- one queue

abbrev pub touches : Option (List ℕ) → List ℕ → Bool
touches None x = false
touches (Some y) x = same x y

or_false : (b : Bool) → (b || false) ≡ b
or_false true = refl
or_false false = refl

or_assoc : (a b c : Bool) → (a || (b || c)) ≡ ((a || b) || c)
or_assoc true b c = refl
or_assoc false b c = refl

or_turn : (a b : Bool) → (a || b) ≡ (b || a)
or_turn true true = refl
or_turn true false = refl
or_turn false true = refl
or_turn false false = refl

abbrev moves : List ℕ → List Message → Bool
moves x ms = list_any (λ m. is_moved x m.status) ms

moves_end : (x : List ℕ) (ms : List Message) (m : Message) → moves x (ms ++ m ∷ []) ≡ (moves x ms || is_moved x m.status)
moves_end x [] m = or_false (is_moved x m.status)
moves_end x (k ∷ ms) m = ap (λ b. is_moved x k.status || b) (moves_end x ms m) ∙ or_assoc (is_moved x k.status) (moves x ms) (is_moved x m.status)

coming_by : (x : List ℕ) (xid : Option (List ℕ)) → is_moved x (status_of xid) ≡ touches xid x
coming_by x None = refl
coming_by x (Some y) = refl

pub pending_put : (x : List ℕ) (n : ℕ) (body : List ℕ) (xid : Option (List ℕ)) (q : QueueState) → is_pending x (with_message (put_message n body xid) q) ≡ (is_pending x q || touches xid x)
pending_put x n body xid q = moves_end x q.messages (put_message n body xid) ∙ ap (λ b. is_pending x q || b) (coming_by x xid)

-- messages behind a number don't have it
behind : (n : ℕ) (ms : List Message) → AllByRecursion (λ k. n < k.number) ms → AllByRecursion (λ k. (k.number == n) ≡ false) ms
behind n ms h = all_weaken (λ (k : Message). n < k.number) (λ (k : Message). (k.number == n) ≡ false) (λ k l. differs k.number l) ms h
  where
    differs : (m : ℕ) → n < m → (m == n) ≡ false
    differs m l = by (m == n) refl
      where
        by : (b : Bool) → (m == n) ≡ b → b ≡ false
        by true e = let is : m ≡ n = eqb-true m n e in absurd (omega arith)
        by false e = refl

filter_none : (n : ℕ) (ms : List Message) → AllByRecursion (λ k. (k.number == n) ≡ false) ms → filter (λ m. not (m.number == n)) ms ≡ ms
filter_none n [] h = refl
filter_none n (k ∷ ms) h = (λ i. cond (not (h.0 i)) (k ∷ filter (λ m. not (m.number == n)) ms) (filter (λ m. not (m.number == n)) ms)) ∙ ap (λ ks. k ∷ ks) (filter_none n ms h.1)

going_none : (n : ℕ) (y : List ℕ) (ms : List Message) → AllByRecursion (λ k. (k.number == n) ≡ false) ms → map (going_if n y) ms ≡ ms
going_none n y [] h = refl
going_none n y (k ∷ ms) h = λ i. cond (h.0 i) (record k { status = Going y }) k ∷ going_none n y ms h.1 i

unmoved : (x : List ℕ) (s : Status) → is_ready s ≡ true → is_moved x s ≡ false
unmoved x Ready e = refl
unmoved x (Coming y) e = absurd (cc)
unmoved x (Going y) e = absurd (cc)

message_is : {a b : Message} → Some a ≡ Some b → a ≡ b
message_is e = cc

module _ (x : List ℕ) (last n : ℕ) (m : Message) (ready : is_ready m.status ≡ true) where
  moves_without : (ms : List Message) → RisesTo last ms → message_at ms n ≡ Some m → moves x (filter (λ k. not (k.number == n)) ms) ≡ moves x ms
  moves_without [] r e = absurd (cc)
  moves_without (k ∷ ms) r e = by (λ l. moves_without ms r.2 l) (k.number == n) refl e
    where
      by : (message_at ms n ≡ Some m → moves x (filter (λ k. not (k.number == n)) ms) ≡ moves x ms) → (b : Bool) → (k.number == n) ≡ b → cond b (Some k) (message_at ms n) ≡ Some m
          → moves x (cond (not b) (k ∷ filter (λ k. not (k.number == n)) ms) (filter (λ k. not (k.number == n)) ms)) ≡ (is_moved x k.status || moves x ms)
      by rest true is e =
          let number : k.number ≡ n = eqb-true k.number n is in
          ap (moves x) (filter_none n ms (subst (λ i. AllByRecursion (λ l. (l.number == i) ≡ false) ms) number (behind k.number ms r.1)))
          ∙ ap (λ b. b || moves x ms) (sym (ap (λ (l : Message). is_moved x l.status) (message_is e) ∙ unmoved x m.status ready))
      by rest false is e = ap (λ b. is_moved x k.status || b) (rest e)

  moves_going : (y : List ℕ) (ms : List Message) → RisesTo last ms → message_at ms n ≡ Some m → moves x (map (going_if n y) ms) ≡ (moves x ms || same x y)
  moves_going y [] r e = absurd (cc)
  moves_going y (k ∷ ms) r e = by (λ l. moves_going y ms r.2 l) (k.number == n) refl e
    where
      by : (message_at ms n ≡ Some m → moves x (map (going_if n y) ms) ≡ (moves x ms || same x y)) → (b : Bool) → (k.number == n) ≡ b → cond b (Some k) (message_at ms n) ≡ Some m
          → moves x (cond b (record k { status = Going y }) k ∷ map (going_if n y) ms) ≡ ((is_moved x k.status || moves x ms) || same x y)
      by rest true is e =
          let number : k.number ≡ n = eqb-true k.number n is in
          ap (λ ks. same x y || moves x ks) (going_none n y ms (subst (λ i. AllByRecursion (λ l. (l.number == i) ≡ false) ms) number (behind k.number ms r.1)))
          ∙ or_turn (same x y) (moves x ms)
          ∙ ap (λ b. (b || moves x ms) || same x y) (sym (ap (λ (l : Message). is_moved x l.status) (message_is e) ∙ unmoved x m.status ready))
      by rest false is e = ap (λ b. is_moved x k.status || b) (rest e) ∙ or_assoc (is_moved x k.status) (moves x ms) (same x y)

pub pending_taken : (x : List ℕ) (n : ℕ) (xid : Option (List ℕ)) (q : QueueState) (m : Message) → RisesTo q.last q.messages → message_at q.messages n ≡ Some m → is_ready m.status ≡ true
    → is_pending x (taken n xid q) ≡ (is_pending x q || touches xid x)
pending_taken x n None q m r e ready = moves_without x q.last n m ready q.messages r e ∙ sym (or_false (is_pending x q))
pending_taken x n (Some y) q m r e ready = moves_going x q.last n m ready y q.messages r e

-- ---- messages by transactions that there are

abbrev pub KnownIn : List XidState → QueueState → Type 0
KnownIn xs q = AllByRecursion (λ m. IsKnown xs m.status) q.messages

abbrev pub IsThere : List XidState → Option (List ℕ) → Type 0
IsThere xs None = Unit {0}
IsThere xs (Some x) = (e : XidState) × (xid_named x xs ≡ Some e)

all_end : {A : Type 0} (P : A → Type 0) (xs : List A) (y : A) → AllByRecursion P xs → P y → AllByRecursion P (xs ++ y ∷ [])
all_end P [] y h k = (k, tt)
all_end P (x ∷ xs) y h k = (h.0, all_end P xs y h.1 k)

pub known_put : (xs : List XidState) (n : ℕ) (body : List ℕ) (xid : Option (List ℕ)) (q : QueueState) → IsThere xs xid → KnownIn xs q → KnownIn xs (with_message (put_message n body xid) q)
known_put xs n body xid q there h = all_end (λ m. IsKnown xs m.status) q.messages (put_message n body xid) h (by xid there)
  where
    by : (xid : Option (List ℕ)) → IsThere xs xid → IsKnown xs (status_of xid)
    by None h = tt
    by (Some x) h = h

pub known_taken : (xs : List XidState) (n : ℕ) (xid : Option (List ℕ)) (q : QueueState) → IsThere xs xid → KnownIn xs q → KnownIn xs (taken n xid q)
known_taken xs n None q there h = all_filter (λ m. IsKnown xs m.status) (λ m. not (m.number == n)) q.messages h
known_taken xs n (Some x) q there h = go q.messages h
  where
    go : (ms : List Message) → AllByRecursion (λ m. IsKnown xs m.status) ms → AllByRecursion (λ m. IsKnown xs m.status) (map (going_if n x) ms)
    go [] h = tt
    go (m ∷ ms) h = (elim (m.number == n) as (λ b. IsKnown xs (cond b (record m { status = Going x }) m).status) [ true ↦ there | false ↦ h.0 ], go ms h.1)

-- nothing comes or goes by one that there isn't
pub none_pending : (xs : List XidState) (x : List ℕ) (q : QueueState) → xid_named x xs ≡ None → KnownIn xs q → is_pending x q ≡ false
none_pending xs x q none h = go q.messages h
  where
    isnt : (y : List ℕ) → (e : XidState) × (xid_named y xs ≡ Some e) → same x y ≡ false
    isnt y e = by (same x y) refl
      where
        clash : (e : XidState) → None ≡ Some e → ⊥
        clash e k = cc

        by : (b : Bool) → same x y ≡ b → b ≡ false
        by true is = absurd (clash e.0 (sym none ∙ ap (λ z. xid_named z xs) (same_true x y is) ∙ e.1))
        by false is = refl

    moved : (s : Status) → IsKnown xs s → is_moved x s ≡ false
    moved Ready h = refl
    moved (Coming y) h = isnt y h
    moved (Going y) h = isnt y h

    go : (ms : List Message) → AllByRecursion (λ m. IsKnown xs m.status) ms → moves x ms ≡ false
    go [] h = refl
    go (m ∷ ms) h = ap (λ b. b || moves x ms) (moved m.status h.0) ∙ go ms h.1

-- ---- all queues

module _ (x : List ℕ) where
  abbrev names : List QueueState → List (List ℕ)
  names qs = map name_of qs

  pub touched_none : (qs : List QueueState) → AllByRecursion (λ q. is_pending x q ≡ false) qs → touched x qs ≡ []
  touched_none [] h = refl
  touched_none (q ∷ qs) h = ap (λ b. names (cond b (q ∷ filter (is_pending x) qs) (filter (is_pending x) qs))) h.0 ∙ touched_none qs h.1

  head : (q : QueueState) (qs : List QueueState) → touched x (q ∷ qs) ≡ cond (is_pending x q) (q.name ∷ touched x qs) (touched x qs)
  head q qs = elim (is_pending x q) as (λ b. names (cond b (q ∷ filter (is_pending x) qs) (filter (is_pending x) qs)) ≡ cond b (q.name ∷ touched x qs) (touched x qs)) [ true ↦ refl | false ↦ refl ]

  pub touched_with : (q : QueueState) (qs : List QueueState) → is_pending x q ≡ false → touched x (with_queue q qs) ≡ touched x qs
  touched_with q [] e = head q [] ∙ ap (λ b. cond b (q.name ∷ []) []) e
  touched_with q (r ∷ qs) e =
      elim (comes_before q.name r.name) as (λ b. touched x (cond b (q ∷ r ∷ qs) (r ∷ with_queue q qs)) ≡ touched x (r ∷ qs)) [
        | true ↦ head q (r ∷ qs) ∙ ap (λ b. cond b (q.name ∷ touched x (r ∷ qs)) (touched x (r ∷ qs))) e
        | false ↦ head r (with_queue q qs) ∙ ap (λ ns. cond (is_pending x r) (r.name ∷ ns) ns) (touched_with q qs e) ∙ sym (head r qs)
      ]

  pub touched_without : (name : List ℕ) (qs : List QueueState) → AllByRecursion (λ q. same q.name name ≡ true → is_pending x q ≡ false) qs → touched x (without_queue name qs) ≡ touched x qs
  touched_without name [] h = refl
  touched_without name (q ∷ qs) h = by (touched_without name qs h.1) (same q.name name) refl
    where
      by : touched x (without_queue name qs) ≡ touched x qs → (b : Bool) → same q.name name ≡ b → touched x (cond (not b) (q ∷ without_queue name qs) (without_queue name qs)) ≡ touched x (q ∷ qs)
      by rest true is = rest ∙ sym (head q qs ∙ ap (λ b. cond b (q.name ∷ touched x qs) (touched x qs)) (h.0 is))
      by rest false is = head q (without_queue name qs) ∙ ap (λ ns. cond (is_pending x q) (q.name ∷ ns) ns) rest ∙ sym (head q qs)

  -- one queue changes, by this transaction or not
  pub touched_changed : (name : List ℕ) (f : QueueState → QueueState) (qs : List QueueState) (q : QueueState) → Rises name_of qs → queue_named name qs ≡ Some q → (f q).name ≡ q.name → is_pending x (f q) ≡ true → touched x (change_queue name f qs) ≡ with_name name (touched x qs)
  touched_changed name f qs q r e named t = passing_marked name_of name f (is_pending x) qs q r e named t

  pub touched_kept : (name : List ℕ) (f : QueueState → QueueState) (qs : List QueueState) (q : QueueState) → Rises name_of qs → queue_named name qs ≡ Some q → (f q).name ≡ q.name → is_pending x (f q) ≡ is_pending x q → touched x (change_queue name f qs) ≡ touched x qs
  touched_kept name f qs q r e named k = passing_same name_of name f (is_pending x) qs q (only_found name_of name f qs q r e) named k

pub known_with : (P : QueueState → Type 0) (q : QueueState) (qs : List QueueState) → P q → AllByRecursion P qs → AllByRecursion P (with_queue q qs)
known_with P q [] h k = (h, tt)
known_with P q (r ∷ qs) h k = elim (comes_before q.name r.name) as (λ b. AllByRecursion P (cond b (q ∷ r ∷ qs) (r ∷ with_queue q qs))) [ true ↦ (h, k) | false ↦ (k.0, known_with P q qs h k.1) ]

pub known_change : (P : QueueState → Type 0) (name : List ℕ) (f : QueueState → QueueState) (qs : List QueueState) (q : QueueState) → Rises name_of qs → queue_named name qs ≡ Some q → AllByRecursion P qs → P (f q) → AllByRecursion P (change_queue name f qs)
known_change P name f qs q r e h k = change_all name_of name f P qs q (only_found name_of name f qs q r e) h k
