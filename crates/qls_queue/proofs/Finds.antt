-- A message that is found, and what a take leaves.
use Rattle.std.proofs.Common.{◌≡◌, ℕ, Bool, true, false, not, ◌||◌, ◌==◌, cond, List, [], ◌∷◌, map, Option, Some, None, Result, Ok, Err, IfOk, IfErr, IfSome, option_map, refl, sym, ap, ◌∙◌, subst, arith}
use Rattle.std.specs.List.{filter, filter_map, list_any}
use Rattle.std.specs.Result.{is_err}
use Rattle.qls_model.specs.Bytes.{is_listed}
use Rattle.qls_model.specs.Machine.{is_ready, taken}
use Rattle.qls_model.specs.Messages.{message_at, going_if}
use Rattle.qls_model.specs.declared.machine.Status.TheVariants.{Going}
use Rattle.qls_model.specs.declared.machine.Message.{Message}
use Rattle.qls_model.specs.declared.machine.QueueState.{QueueState}
use Rattle.qls_enqmap.specs.declared.Held.{Held}
use Rattle.qls_enqmap.specs.Records.{RidsRise, held_at, with_status, without}
use Rattle.qls_meaning.specs.Replay.{xid_in, left_by_take}
use Rattle.qls_replay.specs.Held.{message_of, messages_of, left_held}
use Rattle.qls_replay.specs.Ops.{is_moved, moves_by}
use Rattle.qls_replay.proofs.Steps.{left_messages, keeps_take}
use Rattle.qls_replay.proofs.Takes.{take_gone, take_going}
use Rattle.qls_queue.specs.declared.fault.QueueError.{QueueError}
use Rattle.qls_queue.specs.declared.fault.QueueError.TheVariants.{Locked}
use Rattle.qls_queue.specs.Records.{xid_of, IsXid}
use Rattle.qls_queue.specs.Faults.{is_fault}
use Rattle.qls_queue.specs.Answers.{take_answer, BodyAnswer}

-- ---- found

pub found_message : (n : ℕ) (hs : List Held) → message_at (messages_of hs) n ≡ option_map message_of (held_at n hs)
found_message n [] = refl
found_message n (h ∷ hs) =
    elim (h.rid == n) as (λ b. cond b (Some (message_of h)) (message_at (messages_of hs) n) ≡ option_map message_of (cond b (Some h) (held_at n hs))) [
      | true ↦ refl
      | false ↦ found_message n hs
    ]

pub found_body : (n : ℕ) (hs : List Held) → option_map (λ (m : Message). m.body) (message_at (messages_of hs) n) ≡ option_map (λ (h : Held). h.body) (held_at n hs)
found_body n hs = ap (option_map (λ (m : Message). m.body)) (found_message n hs) ∙ same (held_at n hs)
  where
    same : (o : Option Held) → option_map (λ (m : Message). m.body) (option_map message_of o) ≡ option_map (λ (h : Held). h.body) o
    same None = refl
    same (Some h) = refl

ready_by : (b : Bool) → ◌≡◌ {A = Result (Unit {0}) QueueError} (cond b (Ok tt) (Err Locked)) (Ok tt) → b ≡ true
ready_by true e = refl
ready_by false e = absurd (cc)

ready_found : (o : Option Held) → take_answer (option_map message_of o) ≡ Ok tt → (h : Held) × (o ≡ Some h) × (is_ready h.status ≡ true)
ready_found None e = absurd (cc)
ready_found (Some h) e = (h, refl, ready_by (is_ready h.status) e)

-- ---- taken

messages_without : (n : ℕ) (hs : List Held) → messages_of (without n hs) ≡ filter (λ m. not (m.number == n)) (messages_of hs)
messages_without n [] = refl
messages_without n (h ∷ hs) =
    elim (h.rid == n) as (λ b. messages_of (cond (not b) (h ∷ without n hs) (without n hs)) ≡ cond (not b) (message_of h ∷ filter (λ m. not (m.number == n)) (messages_of hs)) (filter (λ m. not (m.number == n)) (messages_of hs))) [
      | true ↦ messages_without n hs
      | false ↦ ap (λ (ms : List Message). message_of h ∷ ms) (messages_without n hs)
    ]

one_going : (b : Bool) (x : List ℕ) (h : Held) → message_of (cond b (record h { status = Going x }) h) ≡ cond b (record (message_of h) { status = Going x }) (message_of h)
one_going true x h = refl
one_going false x h = refl

messages_going : (n : ℕ) (x : List ℕ) (hs : List Held) → messages_of (with_status n (Going x) hs) ≡ map (going_if n x) (messages_of hs)
messages_going n x [] = refl
messages_going n x (h ∷ hs) = ap (λ (m : Message). m ∷ messages_of (with_status n (Going x) hs)) (one_going (h.rid == n) x h) ∙ ap (λ (ms : List Message). going_if n x (message_of h) ∷ ms) (messages_going n x hs)

left_taken : (n : ℕ) (o : Option (List ℕ)) (hs gs : List Held) → left_held (left_by_take n o) hs ≡ gs → filter_map (left_by_take n o) (messages_of hs) ≡ messages_of gs
left_taken n o hs gs e = sym (left_messages (left_by_take n o) (λ m. keeps_take n o m) hs) ∙ ap messages_of e

xid_is : (x : List ℕ) → IsXid x → xid_in x ≡ Some x
xid_is [] i = absurd (omega (arith, i.0))
xid_is (b ∷ x) i = refl

-- a dequeue leaves what the plain machine leaves of a ready message
pub takes : (n : ℕ) (xid : Option (List ℕ)) (hs : List Held) (q : QueueState) → q.messages ≡ messages_of hs → RidsRise hs → take_answer (message_at q.messages n) ≡ Ok tt → IfSome xid IsXid
    → ◌≡◌ {A = QueueState} (record q { messages = filter_map (left_by_take n (xid_in (xid_of xid))) q.messages }) (taken n xid q)
takes n None hs q e r a i =
    let f = ready_found (held_at n hs) (ap take_answer (sym (ap (λ ms. message_at ms n) e ∙ found_message n hs)) ∙ a) in
    ap {B = QueueState} (λ (ms : List Message). record q { messages = ms })
    (ap (filter_map (left_by_take n None)) e ∙ left_taken n None hs (without n hs) (take_gone n 0 f.0 hs r f.1 f.2) ∙ messages_without n hs ∙ ap (filter (λ m. not (m.number == n))) (sym e))
takes n (Some x) hs q e r a i =
    let f = ready_found (held_at n hs) (ap take_answer (sym (ap (λ ms. message_at ms n) e ∙ found_message n hs)) ∙ a) in
    ap {B = QueueState} (λ (ms : List Message). record q { messages = ms })
    (ap (λ (o : Option (List ℕ)). filter_map (left_by_take n o) q.messages) (xid_is x i) ∙ ap (filter_map (left_by_take n (Some x))) e
    ∙ left_taken n (Some x) hs (with_status n (Going x) hs) (take_going n 0 x f.0 hs r f.1 f.2) ∙ messages_going n x hs ∙ ap (map (going_if n x)) (sym e))

-- ---- pending

moved_messages : (x : List ℕ) (hs : List Held) → list_any (moves_by x) hs ≡ list_any (λ m. is_moved x m.status) (messages_of hs)
moved_messages x [] = refl
moved_messages x (h ∷ hs) = ap (λ b. is_moved x h.status || b) (moved_messages x hs)

pub listed_moved : {E : Type 0} (r : Result (List (List ℕ)) E) (hs : List Held) → IfOk r (λ xids. (x : List ℕ) → is_listed x xids ≡ list_any (moves_by x) hs)
    → IfOk r (λ xids. (x : List ℕ) → is_listed x xids ≡ list_any (λ m. is_moved x m.status) (messages_of hs))
listed_moved (Ok xids) hs h = λ x. h x ∙ moved_messages x hs
listed_moved (Err e) hs h = tt

pub ok_then : {E : Type 0} (r : Result (Unit {0}) E) (P Q : Type 0) → (P → Q) → IfOk r (λ _. P) → IfOk r (λ _. Q)
ok_then (Ok x) P Q f h = f h
ok_then (Err e) P Q f h = tt

-- ---- answers

-- what is found among the held records is what is found among the messages
pub answered : (ms : List Message) (hs found : List Held) (o : Option Held) (n : ℕ) (r : Result (Unit {0}) QueueError) → ms ≡ messages_of hs → found ≡ hs → o ≡ held_at n found → r ≡ take_answer (option_map message_of o)
    → take_answer (message_at ms n) ≡ r
answered ms hs found o n r e f i a =
    ap (λ xs. take_answer (message_at xs n)) e ∙ ap take_answer (found_message n hs) ∙ ap (λ gs. take_answer (option_map message_of (held_at n gs))) (sym f) ∙ ap (λ p. take_answer (option_map message_of p)) (sym i) ∙ sym a

pub bodied : (ms : List Message) (hs found : List Held) (o : Option Held) (n : ℕ) (r : Result (List ℕ) QueueError) → ms ≡ messages_of hs → found ≡ hs → o ≡ held_at n found
    → BodyAnswer (option_map (λ (h : Held). h.body) o) r → BodyAnswer (option_map (λ (m : Message). m.body) (message_at ms n)) r
bodied ms hs found o n r e f i a =
    subst (λ b. BodyAnswer b r)
    (ap (option_map (λ (h : Held). h.body)) i ∙ ap (λ gs. option_map (λ (h : Held). h.body) (held_at n gs)) f ∙ sym (found_body n hs) ∙ ap (λ xs. option_map (λ (m : Message). m.body) (message_at xs n)) (sym e)) a

pub only_by : (r s : Result (Unit {0}) QueueError) → s ≡ r → IfErr r (λ e. is_fault e ≡ false → s ≡ Err e)
only_by (Ok x) s i = tt
only_by (Err e) s i = λ _. i

pub not_ok : (r s : Result (Unit {0}) QueueError) → s ≡ r → is_err r ≡ true → s ≡ Ok tt → ⊥
not_ok (Ok x) s i t k = absurd (cc)
not_ok (Err e) s i t k = let z : ◌≡◌ {A = Result (Unit {0}) QueueError} (Err e) (Ok tt) = sym i ∙ k in absurd (cc)

pub not_err : (r s : Result (Unit {0}) QueueError) (e : QueueError) → s ≡ r → is_err r ≡ false → s ≡ Err e → ⊥
not_err (Ok x) s e i t k = let z : ◌≡◌ {A = Result (Unit {0}) QueueError} (Ok x) (Err e) = sym i ∙ k in absurd (cc)
not_err (Err f) s e i t k = absurd (cc)

pub ok_of : (r s : Result (Unit {0}) QueueError) → s ≡ r → is_err r ≡ false → s ≡ Ok tt
ok_of (Ok x) s i t = i
ok_of (Err f) s i t = absurd (cc)
