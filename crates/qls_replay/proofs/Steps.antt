-- One record of a queue, step by step.
use Rattle.std.proofs.Common.{◌≡◌, ℕ, ◌<◌, Bool, true, false, not, ◌&&◌, ◌==◌, cond, List, [], ◌∷◌, ◌++◌, length, Option, Some, None, Result, Ok, Err, IfOk, IfErr, refl, ap, sym, ◌∙◌, arith}
use Rattle.std.specs.List.{filter_map, cons_option}
use Rattle.std.specs.Result.{is_err}
use Rattle.qls_model.specs.Machine.{is_ready}
use Rattle.qls_model.specs.Messages.{left_by, after_coming, after_going}
use Rattle.qls_model.specs.declared.machine.Message.{Message}
use Rattle.qls_model.specs.declared.machine.Status.{Status}
use Rattle.qls_model.specs.declared.machine.Status.TheVariants.{Ready, Coming, Going}
use Rattle.qls_model.specs.declared.machine.Verdict.{Verdict}
use Rattle.qls_model.specs.declared.machine.Verdict.TheVariants as verdict
use Rattle.qls_enqmap.specs.declared.Held.{Held}
use Rattle.qls_enqmap.specs.declared.EnqFault.{EnqFault}
use Rattle.qls_enqmap.specs.Records.{AllBelow, lock_answer, without}
use Rattle.qls_meaning.specs.Replay.{xid_in, left_by_take, gone}
use Rattle.qls_replay.specs.Held.{message_of, messages_of, held_as, left_held, may_take}

-- ---- an xid that is empty

pub xid_none : (x : List ℕ) → (length x == 0) ≡ true → xid_in x ≡ None
xid_none [] e = refl
xid_none (b ∷ x) e = absurd (grind arith)

pub xid_some : (x : List ℕ) → (length x == 0) ≡ false → xid_in x ≡ Some x
xid_some [] e = absurd (grind arith)
xid_some (b ∷ x) e = refl

-- ---- a lock that was taken, or wasn't

lock_status : (s : Status) (r : Result (Unit {0}) EnqFault) (h : Held) → s ≡ h.status → r ≡ lock_answer (Some h) → may_take (Some h) ≡ not (is_err r)
lock_status s r h e a = by s h e ∙ ap (λ q. not (is_err q)) (sym a)
  where
    by : (s : Status) (h : Held) → s ≡ h.status → may_take (Some h) ≡ not (is_err (lock_answer (Some h)))
    by s h e = ap is_ready (sym e) ∙ ready s ∙ ap (λ q. not (is_err (lock_by q))) e
      where
        lock_by : Status → Result (Unit {0}) EnqFault
        lock_by q = lock_answer (Some (record h { status = q }))

        ready : (q : Status) → is_ready q ≡ not (is_err (lock_answer (Some (record h { status = q }))))
        ready Ready = refl
        ready (Coming x) = refl
        ready (Going x) = refl

pub lock_taken : (o : Option Held) (r : Result (Unit {0}) EnqFault) → r ≡ lock_answer o → may_take o ≡ not (is_err r)
lock_taken None r a = ap (λ q. not (is_err q)) (sym a)
lock_taken (Some h) r a = lock_status h.status r h refl a

pub err_then : {A E : Type 0} (r : Result A E) (P : Type 0) → is_err r ≡ true → IfErr r (λ _. P) → P
err_then (Ok a) P e h = absurd (cc)
err_then (Err x) P e h = h

pub ok_then : {A E : Type 0} (r : Result A E) (P : Type 0) → is_err r ≡ false → IfOk r (λ _. P) → P
ok_then (Ok a) P e h = h
ok_then (Err x) P e h = absurd (cc)

-- ---- a record that is put and taken out again

lower : (a n : ℕ) → a < n → (a == n) ≡ false
lower a n l = grind arith

equal : (a n : ℕ) → a ≡ n → (a == n) ≡ true
equal a n e = grind arith

pub without_last : (n : ℕ) (h : Held) (hs : List Held) → AllBelow n hs → h.rid ≡ n → without n (hs ++ h ∷ []) ≡ hs
without_last n h [] b e = ap (λ t. cond (not t) (h ∷ []) []) (equal h.rid n e)
without_last n h (g ∷ hs) b e =
    ap (λ t. cond (not t) (g ∷ without n (hs ++ h ∷ [])) (without n (hs ++ h ∷ []))) (lower g.rid n b.0) ∙ ap (λ l. g ∷ l) (without_last n h hs b.1 e)

-- ---- messages

-- all but the status stays
abbrev pub Keeps : Message → Option Message → Type 0
Keeps m None = Unit {0}
Keeps m (Some n) = n ≡ record m { status = n.status }

one_left : (h : Held) (o : Option Message) (hs : List Held) (ms : List Message) → Keeps (message_of h) o → messages_of hs ≡ ms → messages_of (cons_option (held_as h o) hs) ≡ cons_option o ms
one_left h None hs ms k e = e
one_left h (Some m) hs ms k e = ap (λ l. message_of (record h { status = m.status }) ∷ l) e ∙ ap (λ n. n ∷ ms) (sym k)

pub left_messages : (change : Message → Option Message) → ((m : Message) → Keeps m (change m)) → (hs : List Held) → messages_of (left_held change hs) ≡ filter_map change (messages_of hs)
left_messages change k [] = refl
left_messages change k (h ∷ hs) = one_left h (change (message_of h)) (left_held change hs) (filter_map change (messages_of hs)) (k (message_of h)) (left_messages change k hs)

keeps_if : (b : Bool) (x : Option (List ℕ)) (m : Message) → Keeps m (cond b (gone x m) (Some m))
keeps_if true None m = tt
keeps_if true (Some x) m = refl
keeps_if false x m = refl

pub keeps_take : (n : ℕ) (x : Option (List ℕ)) (m : Message) → Keeps m (left_by_take n x m)
keeps_take n x m = keeps_if (m.number == n && is_ready m.status) x m

keeps_coming : (v : Verdict) (m : Message) → Keeps m (after_coming v m)
keeps_coming verdict.Commit m = refl
keeps_coming verdict.Abort m = tt
keeps_coming verdict.Doubt m = refl

keeps_going : (v : Verdict) (m : Message) → Keeps m (after_going v m)
keeps_going verdict.Commit m = tt
keeps_going verdict.Abort m = refl
keeps_going verdict.Doubt m = refl

pub keeps_end : (v : List ℕ → Verdict) (s : Status) (m : Message) → Keeps m (left_by v s m)
keeps_end v Ready m = refl
keeps_end v (Coming x) m = keeps_coming (v x) m
keeps_end v (Going x) m = keeps_going (v x) m
