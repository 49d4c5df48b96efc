-- Messages as the verdicts leave them, one after another.
use Rattle.std.proofs.Common.{◌≡◌, ℕ, ◌+◌, ◌≤◌, true, false, cond, not, ◌==◌, List, [], ◌∷◌, ◌++◌, Option, Some, None, Result, Ok, Err, IfOk, option_map, option_to_list, slice_get, refl, ap, sym, ◌∙◌, arith, append_assoc}
use Rattle.std.specs.List.{cons_option}
use Rattle.qls_model.specs.Messages.{left_by}
use Rattle.qls_model.specs.Ends.{status_left, messages_left}
use Rattle.qls_model.specs.declared.machine.Message.{Message}
use Rattle.qls_model.specs.declared.machine.Status.{Status}
use Rattle.qls_model.specs.declared.machine.Status.TheVariants.{Ready, Coming, Going}
use Rattle.qls_model.specs.declared.machine.Verdict.{Verdict}
use Rattle.qls_model.specs.declared.machine.Verdict.TheVariants as verdict
use Rattle.qls_enqmap.specs.declared.Held.{Held}
use Rattle.qls_enqmap.specs.declared.EnqFault.{EnqFault}
use Rattle.qls_enqmap.specs.Records.{held_at, without, removed, RidsFrom, RidsRise}
use Rattle.qls_replay.specs.Held.{message_of, messages_of}

-- ---- the first of them

pub none_first : (hs : List Held) → None ≡ slice_get hs 0 → hs ≡ []
none_first [] e = refl
none_first (h ∷ hs) e = absurd (cc)

some_is : (h g : Held) → Some h ≡ Some g → h ≡ g
some_is h g e = cc

own : (n : ℕ) → (n == n) ≡ true
own n = grind arith

other : (m n : ℕ) → n + 1 ≤ m → (m == n) ≡ false
other m n l = grind arith

-- none of those behind has the first one's id
kept : (n m : ℕ) (hs : List Held) → n + 1 ≤ m → RidsFrom m hs → without n hs ≡ hs
kept n m [] l r = refl
kept n m (h ∷ hs) l r =
    ap (λ b. cond (not b) (h ∷ without n hs) (without n hs)) (other h.rid n (omega (arith, l, r.0))) ∙ ap (λ (gs : List Held). h ∷ gs) (kept n (h.rid + 1) hs (omega (arith, l, r.0)) r.1)

abbrev IsTaken : List Held → List Held → Option Held → Type 0
IsTaken hs new o = (hs ≡ option_to_list o ++ new) × (o ≡ None → new ≡ [])

taken_by : (h : Held) (hs new : List Held) (r : Result Held EnqFault) → r ≡ Ok h → IfOk r (λ _. new ≡ hs) → new ≡ hs
taken_by h hs new (Ok g) e l = l
taken_by h hs new (Err g) e l = absurd (cc)

found_first : (h : Held) (hs : List Held) → removed (held_at h.rid (h ∷ hs)) ≡ Ok h
found_first h hs = ap (λ b. removed (cond b (Some h) (held_at h.rid hs))) (own h.rid)

without_first : (h : Held) (hs : List Held) → RidsFrom (h.rid + 1) hs → without h.rid (h ∷ hs) ≡ hs
without_first h hs r = ap (λ b. cond (not b) (h ∷ without h.rid hs) (without h.rid hs)) (own h.rid) ∙ kept h.rid (h.rid + 1) hs (omega arith) r

same_front : (h g : Held) (hs new : List Held) → g ≡ h → new ≡ hs → (g ∷ hs) ≡ (h ∷ new)
same_front h g hs new e l = λ i. e i ∷ sym l i

-- what a removal of the first one's id takes
pub takes_first : (hs new : List Held) (h : Held) (r : Result Held EnqFault) → Some h ≡ slice_get hs 0 → RidsRise hs → r ≡ removed (held_at h.rid hs) → IfOk r (λ _. new ≡ without h.rid hs)
    → (r ≡ Ok h) × (hs ≡ h ∷ new)
takes_first [] new h r e rise a l = absurd (cc)
takes_first (g ∷ hs) new h r e rise a l = by h g hs new r (some_is h g e) rise a l
  where
    by : (h g : Held) (hs new : List Held) (r : Result Held EnqFault) → h ≡ g → RidsRise (g ∷ hs) → r ≡ removed (held_at h.rid (g ∷ hs)) → IfOk r (λ _. new ≡ without h.rid (g ∷ hs))
        → (r ≡ Ok h) × ((g ∷ hs) ≡ (h ∷ new))
    by h g hs new r e rise a l =
        let is : r ≡ Ok h = a ∙ ap (λ (k : Held). removed (held_at h.rid (k ∷ hs))) (sym e) ∙ found_first h hs in
        let rest : without h.rid (g ∷ hs) ≡ hs = ap (λ (k : Held). without k.rid (g ∷ hs)) e ∙ without_first g hs rise.1 in
        (is, same_front h g hs new (sym e) (taken_by h (without h.rid (g ∷ hs)) new r is l ∙ rest))

-- ---- what is left of each

left_coming : (v : Verdict) (n : ℕ) (b x : List ℕ) → left_by (λ _. v) (Coming x) (record { number = n; body = b; status = Coming x }) ≡ option_map (λ s. record { number = n; body = b; status = s }) (status_left (λ _. v) (Coming x))
left_coming verdict.Commit n b x = refl
left_coming verdict.Abort n b x = refl
left_coming verdict.Doubt n b x = refl

left_going : (v : Verdict) (n : ℕ) (b x : List ℕ) → left_by (λ _. v) (Going x) (record { number = n; body = b; status = Going x }) ≡ option_map (λ s. record { number = n; body = b; status = s }) (status_left (λ _. v) (Going x))
left_going verdict.Commit n b x = refl
left_going verdict.Abort n b x = refl
left_going verdict.Doubt n b x = refl

-- the message with the status that is left, where one is
pub left_message : (v : List ℕ → Verdict) (n : ℕ) (b : List ℕ) (s : Status) → left_by v s (record { number = n; body = b; status = s }) ≡ option_map (λ t. record { number = n; body = b; status = t }) (status_left v s)
left_message v n b Ready = refl
left_message v n b (Coming x) = left_coming (v x) n b x
left_message v n b (Going x) = left_going (v x) n b x

-- ---- all of them

one_more : (ms : List Message) (o : Option Message) (rest : List Message) → (ms ++ option_to_list o) ++ rest ≡ ms ++ cons_option o rest
one_more ms None rest = append_assoc ms [] rest
one_more ms (Some m) rest = append_assoc ms (m ∷ []) rest

-- the messages so far, and what is left of the records that are yet held
pub next_left : (v : List ℕ → Verdict) (ms more all : List Message) (h : Held) (hs rest : List Held) → hs ≡ h ∷ rest → more ≡ ms ++ option_to_list (left_by v h.status (message_of h))
    → ms ++ messages_left v (messages_of hs) ≡ all → more ++ messages_left v (messages_of rest) ≡ all
next_left v ms more all h hs rest e f g =
    ap (λ (l : List Message). l ++ messages_left v (messages_of rest)) f ∙ one_more ms (left_by v h.status (message_of h)) (messages_left v (messages_of rest)) ∙ ap (λ (l : List Held). ms ++ messages_left v (messages_of l)) (sym e) ∙ g

pub all_left : (v : List ℕ → Verdict) (ms all : List Message) (hs : List Held) → hs ≡ [] → ms ++ messages_left v (messages_of hs) ≡ all → ms ≡ all
all_left v ms all hs e g = sym (nothing ms) ∙ ap (λ (l : List Held). ms ++ messages_left v (messages_of l)) (sym e) ∙ g
  where
    nothing : (ms : List Message) → ms ++ [] ≡ ms
    nothing [] = refl
    nothing (m ∷ ms) = ap (λ (l : List Message). m ∷ l) (nothing ms)
