-- The xids by which held messages are coming or going are within their limits.
use Rattle.std.proofs.Common.{◌≡◌, ℕ, ◌≤◌, Bool, true, false, ◌||◌, ◌&&◌, ◌==◌, cond, List, [], ◌∷◌, ◌++◌, length, Option, Some, None, Result, Ok, Err, IfOk, refl, sym, ◌∙◌, subst, arith}
use Rattle.std.specs.List.{AllByRecursion, list_any, cons_option}
use Rattle.qls_model.specs.Bytes.{same, is_listed}
use Rattle.qls_model.specs.Machine.{is_ready}
use Rattle.qls_model.specs.Messages.{left_by, after_coming, after_going, only, status_of}
use Rattle.qls_model.proofs.XidKeys.{same_true, same_self}
use Rattle.qls_model.specs.declared.machine.Status.{Status}
use Rattle.qls_model.specs.declared.machine.Status.TheVariants.{Ready, Coming, Going}
use Rattle.qls_model.specs.declared.machine.Message.{Message}
use Rattle.qls_model.specs.declared.machine.Verdict.{Verdict}
use Rattle.qls_model.specs.declared.machine.Verdict.TheVariants as verdict
use Rattle.qls_record.specs.declared.Kind.{Kind}
use Rattle.qls_record.specs.declared.Kind.TheVariants.{Enqueue, Dequeue, Commit, Abort, Filler}
use Rattle.qls_enqmap.specs.declared.Held.{Held}
use Rattle.qls_meaning.specs.Reading.{Read}
use Rattle.qls_meaning.specs.Replay.{xid_in, left_by_take, gone}
use Rattle.qls_replay.specs.Held.{message_of, held_of, held_as, left_held, held_after}
use Rattle.qls_replay.specs.Ops.{is_moved, moves_by}
use Rattle.qls_queue.specs.Records.{IsXid, HasXid}

-- ---- what is left of a message

abbrev HasOne : Option Message → Type 0
HasOne None = Unit {0}
HasOne (Some m) = HasXid m.status

one_left : (h : Held) (o : Option Message) (hs : List Held) → HasOne o → AllByRecursion (λ g. HasXid g.status) hs → AllByRecursion (λ g. HasXid g.status) (cons_option (held_as h o) hs)
one_left h None hs x a = a
one_left h (Some m) hs x a = (x, a)

all_left : (change : Message → Option Message) → ((m : Message) → HasXid m.status → HasOne (change m)) → (hs : List Held) → AllByRecursion (λ g. HasXid g.status) hs → AllByRecursion (λ g. HasXid g.status) (left_held change hs)
all_left change k [] a = tt
all_left change k (h ∷ hs) a = one_left h (change (message_of h)) (left_held change hs) (k (message_of h) a.0) (all_left change k hs a.1)

coming_left : (v : Verdict) (m : Message) → HasXid m.status → HasOne (after_coming v m)
coming_left verdict.Commit m x = tt
coming_left verdict.Abort m x = tt
coming_left verdict.Doubt m x = x

going_left : (v : Verdict) (m : Message) → HasXid m.status → HasOne (after_going v m)
going_left verdict.Commit m x = tt
going_left verdict.Abort m x = tt
going_left verdict.Doubt m x = x

end_left : (v : List ℕ → Verdict) (s : Status) (m : Message) → HasXid m.status → HasOne (left_by v s m)
end_left v Ready m x = x
end_left v (Coming y) m x = coming_left (v y) m x
end_left v (Going y) m x = going_left (v y) m x

pub xids_end : (v : List ℕ → Verdict) (hs : List Held) → AllByRecursion (λ g. HasXid g.status) hs → AllByRecursion (λ g. HasXid g.status) (left_held (λ m. left_by v m.status m) hs)
xids_end v hs a = all_left (λ m. left_by v m.status m) (λ m x. end_left v m.status m x) hs a

taken_left : (b : Bool) (x : List ℕ) (m : Message) → length x ≤ 128 → HasXid m.status → HasOne (cond b (gone (xid_in x) m) (Some m))
taken_left true [] m l h = tt
taken_left true (y ∷ x) m l h = (omega arith, l)
taken_left false x m l h = h

put_status : (x : List ℕ) → length x ≤ 128 → HasXid (status_of (xid_in x))
put_status [] l = tt
put_status (y ∷ x) l = (omega arith, l)

all_end : (hs : List Held) (h : Held) → AllByRecursion (λ g. HasXid g.status) hs → HasXid h.status → AllByRecursion (λ g. HasXid g.status) (hs ++ h ∷ [])
all_end [] h a x = (x, tt)
all_end (g ∷ hs) h a x = (a.0, all_end hs h a.1 x)

pub xids_after : (k : Kind) (r : Read) (hs : List Held) → length r.what.xid ≤ 128 → AllByRecursion (λ g. HasXid g.status) hs → AllByRecursion (λ g. HasXid g.status) (held_after k r hs)
xids_after Enqueue r hs l a = all_end hs (held_of r) a (put_status r.what.xid l)
xids_after Dequeue r hs l a = all_left (left_by_take r.what.target (xid_in r.what.xid)) (λ m x. taken_left (m.number == r.what.target && is_ready m.status) r.what.xid m l x) hs a
xids_after Commit r hs l a = xids_end (only r.what.xid verdict.Commit) hs a
xids_after Abort r hs l a = xids_end (only r.what.xid verdict.Abort) hs a
xids_after Filler r hs l a = a

-- ---- pending ones

moved_xid : (x : List ℕ) (s : Status) → HasXid s → is_moved x s ≡ true → IsXid x
moved_xid x Ready h e = absurd (cc)
moved_xid x (Coming y) h e = subst IsXid (sym (same_true x y e)) h
moved_xid x (Going y) h e = subst IsXid (sym (same_true x y e)) h

or_case : (P : Type 0) (a b : Bool) → (a ≡ true → P) → (b ≡ true → P) → (a || b) ≡ true → P
or_case P true b f g e = f refl
or_case P false b f g e = g e

any_xid : (x : List ℕ) (hs : List Held) → AllByRecursion (λ g. HasXid g.status) hs → list_any (moves_by x) hs ≡ true → IsXid x
any_xid x [] a e = absurd (cc)
any_xid x (h ∷ hs) a e = or_case (IsXid x) (is_moved x h.status) (list_any (moves_by x) hs) (moved_xid x h.status a.0) (any_xid x hs a.1) e

or_left : (a b : Bool) → a ≡ true → (a || b) ≡ true
or_left true b h = refl
or_left false b h = absurd (cc)

or_right : (a b : Bool) → b ≡ true → (a || b) ≡ true
or_right true b h = refl
or_right false b h = h

all_listed : (xs : List (List ℕ)) → ((x : List ℕ) → is_listed x xs ≡ true → IsXid x) → AllByRecursion IsXid xs
all_listed [] f = tt
all_listed (y ∷ xs) f = (f y (or_left (same y y) (is_listed y xs) (same_self y)), all_listed xs (λ x h. f x (or_right (same x y) (is_listed x xs) h)))

pub pending_xids : {E : Type 0} (r : Result (List (List ℕ)) E) (hs : List Held) → AllByRecursion (λ g. HasXid g.status) hs → IfOk r (λ xids. (x : List ℕ) → is_listed x xids ≡ list_any (moves_by x) hs) → IfOk r (λ xids. AllByRecursion IsXid xids)
pending_xids (Ok xids) hs a h = all_listed xids (λ x e. any_xid x hs a (sym (h x) ∙ e))
pending_xids (Err e) hs a h = tt
