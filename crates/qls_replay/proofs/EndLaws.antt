-- Carrying out each operation of a transaction leaves what the end of the transaction leaves.
use Rattle.std.proofs.Common.{◌≡◌, ℕ, ◌+◌, ◌<◌, ◌≤◌, Bool, true, false, not, ◌||◌, ◌==◌, cond, List, [], ◌∷◌, Option, Some, None, refl, ap, sym, ◌∙◌, arith}
use Rattle.std.specs.List.{filter_map, cons_option}
use Rattle.qls_model.specs.Bytes.{same}
use Rattle.qls_model.specs.Messages.{left_by, only}
use Rattle.qls_model.specs.declared.machine.Status.{Status}
use Rattle.qls_model.specs.declared.machine.Status.TheVariants.{Ready, Coming, Going}
use Rattle.qls_model.specs.declared.machine.Verdict.TheVariants.{Doubt}
use Rattle.qls_enqmap.specs.declared.Held.{Held}
use Rattle.qls_enqmap.specs.Records.{RidsFrom, with_status, without}
use Rattle.qls_txnmap.specs.declared.Op.{Op}
use Rattle.qls_txnmap.specs.declared.Op.TheVariants.{Put, Take}
use Rattle.qls_replay.specs.Held.{message_of, held_as, ended_held}
use Rattle.qls_replay.specs.Ops.{op_by_status, op_by, ops_in, same_op, has_op, ended, ended_all, verdict_if}

-- ---- one operation, on one record

abbrev rid_of : Op → ℕ
rid_of (Put rid) = rid
rid_of (Take rid) = rid

-- whether the record stays
abbrev keeps : Bool → Op → Bool
keeps true (Put rid) = true
keeps false (Put rid) = false
keeps true (Take rid) = false
keeps false (Take rid) = true

abbrev readied : Held → Held
readied h = record h { status = Ready }

abbrev kept_if : Bool → Held → Option Held
kept_if true h = Some (readied h)
kept_if false h = None

abbrev each : Bool → Op → Held → Option Held
each c op h = cond (h.rid == rid_of op) (kept_if (keeps c op) h) (Some h)

status_each : (rid : ℕ) (b : Bool) (h : Held) (hs gs : List Held) → hs ≡ gs → cond b (readied h) h ∷ hs ≡ cons_option (cond b (Some (readied h)) (Some h)) gs
status_each rid true h hs gs e = ap (λ l. readied h ∷ l) e
status_each rid false h hs gs e = ap (λ l. h ∷ l) e

ready_each : (rid : ℕ) (hs : List Held) → with_status rid Ready hs ≡ filter_map (λ h. cond (h.rid == rid) (Some (readied h)) (Some h)) hs
ready_each rid [] = refl
ready_each rid (h ∷ hs) = status_each rid (h.rid == rid) h (with_status rid Ready hs) _ (ready_each rid hs)

none_each : (b : Bool) (h : Held) (hs gs : List Held) → hs ≡ gs → cond (not b) (h ∷ hs) hs ≡ cons_option (cond b None (Some h)) gs
none_each true h hs gs e = e
none_each false h hs gs e = ap (λ l. h ∷ l) e

without_each : (rid : ℕ) (hs : List Held) → without rid hs ≡ filter_map (λ h. cond (h.rid == rid) None (Some h)) hs
without_each rid [] = refl
without_each rid (h ∷ hs) = none_each (h.rid == rid) h (without rid hs) _ (without_each rid hs)

ended_each : (c : Bool) (op : Op) (hs : List Held) → ended c op hs ≡ filter_map (each c op) hs
ended_each true (Put rid) hs = ready_each rid hs
ended_each false (Put rid) hs = without_each rid hs
ended_each true (Take rid) hs = without_each rid hs
ended_each false (Take rid) hs = ready_each rid hs

-- ---- all operations, on one record

abbrev and_then : Option Held → (Held → Option Held) → Option Held
and_then None f = None
and_then (Some h) f = f h

abbrev each_all : Bool → List Op → Held → Option Held
each_all c [] h = Some h
each_all c (op ∷ ops) h = and_then (each c op h) (each_all c ops)

joined : (o : Option Held) (f : Held → Option Held) (hs gs : List Held) → filter_map f hs ≡ gs → filter_map f (cons_option o hs) ≡ cons_option (and_then o f) gs
joined None f hs gs e = e
joined (Some h) f hs gs e = ap (λ l. cons_option (f h) l) e

in_turn : (g f : Held → Option Held) (hs : List Held) → filter_map f (filter_map g hs) ≡ filter_map (λ h. and_then (g h) f) hs
in_turn g f [] = refl
in_turn g f (h ∷ hs) = joined (g h) f (filter_map g hs) _ (in_turn g f hs)

unchanged : (hs : List Held) → hs ≡ filter_map (λ h. Some h) hs
unchanged [] = refl
unchanged (h ∷ hs) = ap (λ l. h ∷ l) (unchanged hs)

ended_all_each : (c : Bool) (ops : List Op) (hs : List Held) → ended_all c ops hs ≡ filter_map (each_all c ops) hs
ended_all_each c [] hs = unchanged hs
ended_all_each c (op ∷ ops) hs =
    ended_all_each c ops (ended c op hs) ∙ ap (λ l. filter_map (each_all c ops) l) (ended_each c op hs) ∙ in_turn (each c op) (each_all c ops) hs

-- ---- which operations are there

same_self : (op : Op) → same_op op op ≡ true
same_self (Put a) = grind arith
same_self (Take a) = grind arith

same_eq : (a b : Op) → same_op a b ≡ true → a ≡ b
same_eq (Put a) (Put b) h = let e : a ≡ b = grind arith in ap Put e
same_eq (Put a) (Take b) h = absurd (cc)
same_eq (Take a) (Put b) h = absurd (cc)
same_eq (Take a) (Take b) h = let e : a ≡ b = grind arith in ap Take e

same_rid : (a b : Op) → same_op a b ≡ true → rid_of a ≡ rid_of b
same_rid a b h = ap rid_of (same_eq a b h)

or_right : (a b : Bool) → b ≡ true → (a || b) ≡ true
or_right true b h = refl
or_right false b h = h

has_first : (op : Op) (ops : List Op) → has_op op (op ∷ ops) ≡ true
has_first op ops = ap (λ b. b || has_op op ops) (same_self op)

has_later : (op o : Op) (ops : List Op) → has_op op ops ≡ true → has_op op (o ∷ ops) ≡ true
has_later op o ops h = or_right (same_op op o) (has_op op ops) h

-- no operation is of this record
NoneOf : ℕ → List Op → Type 0
NoneOf rid ops = (op : Op) → has_op op ops ≡ true → rid_of op ≡ rid → ⊥

-- each operation of this record is this one
OnlyOf : ℕ → Op → List Op → Type 0
OnlyOf rid o ops = (op : Op) → has_op op ops ≡ true → rid_of op ≡ rid → op ≡ o

eq_true : (a b : ℕ) → (a == b) ≡ true → b ≡ a
eq_true a b h = grind arith

skip_by : (b : Bool) (c : Bool) (op : Op) (ops : List Op) (h : Held) → b ≡ (h.rid == rid_of op) → (b ≡ true → ⊥) → each_all c ops h ≡ Some h
    → and_then (cond b (kept_if (keeps c op) h) (Some h)) (each_all c ops) ≡ Some h
skip_by true c op ops h e n i = absurd (n refl)
skip_by false c op ops h e n i = i

skip_all : (c : Bool) (ops : List Op) (h : Held) → ((op : Op) → has_op op ops ≡ true → rid_of op ≡ h.rid → ⊥) → each_all c ops h ≡ Some h
skip_all c [] h n = refl
skip_all c (op ∷ ops) h n =
    skip_by (h.rid == rid_of op) c op ops h refl (λ e. n op (has_first op ops) (eq_true h.rid (rid_of op) e))
    (skip_all c ops h (λ o m r. n o (has_later o op ops m) r))

-- once it is ready it stays so
stay_by : (b : Bool) (c : Bool) (op o : Op) (ops : List Op) (h : Held) → b ≡ (h.rid == rid_of op) → keeps c o ≡ true → (b ≡ true → op ≡ o) → each_all c ops (readied h) ≡ Some (readied h)
    → and_then (cond b (kept_if (keeps c op) (readied h)) (Some (readied h))) (each_all c ops) ≡ Some (readied h)
stay_by true c op o ops h e k s i =
    ap (λ b. and_then (kept_if b (readied h)) (each_all c ops)) (ap (keeps c) (s refl) ∙ k) ∙ i
stay_by false c op o ops h e k s i = i

stay_all : (c : Bool) (o : Op) (ops : List Op) (h : Held) → keeps c o ≡ true → ((op : Op) → has_op op ops ≡ true → rid_of op ≡ h.rid → op ≡ o) → each_all c ops (readied h) ≡ Some (readied h)
stay_all c o [] h k s = refl
stay_all c o (op ∷ ops) h k s =
    stay_by (h.rid == rid_of op) c op o ops h refl k (λ e. s op (has_first op ops) (eq_true h.rid (rid_of op) e))
    (stay_all c o ops h k (λ p m r. s p (has_later p op ops m) r))

kept_then : (k : Bool) (c : Bool) (o : Op) (ops : List Op) (h : Held) → keeps c o ≡ k → ((op : Op) → has_op op ops ≡ true → rid_of op ≡ h.rid → op ≡ o)
    → and_then (kept_if k h) (each_all c ops) ≡ kept_if k h
kept_then true c o ops h k s = stay_all c o ops h k s
kept_then false c o ops h k s = refl

not_same : (a b : Bool) → (a ≡ true → ⊥) → (a || b) ≡ true → b ≡ true
not_same true b n h = absurd (n refl)
not_same false b n h = h

some_by : (b : Bool) (c : Bool) (op o : Op) (ops : List Op) (h : Held) → b ≡ (h.rid == rid_of op) → rid_of o ≡ h.rid → (b ≡ true → op ≡ o)
    → ((p : Op) → has_op p ops ≡ true → rid_of p ≡ h.rid → p ≡ o) → has_op o (op ∷ ops) ≡ true
    → (has_op o ops ≡ true → each_all c ops h ≡ kept_if (keeps c o) h)
    → and_then (cond b (kept_if (keeps c op) h) (Some h)) (each_all c ops) ≡ kept_if (keeps c o) h
some_by true c op o ops h e r s t m i =
    ap (λ k. and_then (kept_if k h) (each_all c ops)) (ap (keeps c) (s refl)) ∙ kept_then (keeps c o) c o ops h refl t
some_by false c op o ops h e r s t m i =
    i (not_same (same_op o op) (has_op o ops) (λ q. let d : (h.rid == rid_of op) ≡ true = eq_back h.rid (rid_of op) (sym r ∙ same_rid o op q) in absurd (cc)) m)
  where
    eq_back : (a b : ℕ) → a ≡ b → (a == b) ≡ true
    eq_back a b h = grind arith

some_all : (c : Bool) (o : Op) (ops : List Op) (h : Held) → rid_of o ≡ h.rid → ((op : Op) → has_op op ops ≡ true → rid_of op ≡ h.rid → op ≡ o) → has_op o ops ≡ true
    → each_all c ops h ≡ kept_if (keeps c o) h
some_all c o [] h r s m = absurd (cc)
some_all c o (op ∷ ops) h r s m =
    some_by (h.rid == rid_of op) c op o ops h refl r (λ e. s op (has_first op ops) (eq_true h.rid (rid_of op) e)) (λ p n q. s p (has_later p op ops n) q) m
    (λ n. some_all c o ops h r (λ p k q. s p (has_later p op ops k) q) n)

-- ---- what the end leaves of one record

OnlyBy : List ℕ → Held → List Op → Type 0
OnlyBy x h ops = (op : Op) → has_op op ops ≡ true → rid_of op ≡ h.rid → op_by x h ≡ Some op

untouched : (c : Bool) (x : List ℕ) (ops : List Op) (h : Held) → None ≡ op_by x h → ((op : Op) → has_op op ops ≡ true → rid_of op ≡ h.rid → op_by x h ≡ Some op) → each_all c ops h ≡ Some h
untouched c x ops h n only = skip_all c ops h (λ op m r. let e : None ≡ Some op = n ∙ only op m r in absurd (cc))

touched : (c : Bool) (x : List ℕ) (o : Op) (ops : List Op) (h : Held) → Some o ≡ op_by x h → rid_of o ≡ h.rid
    → ((op : Op) → has_op op ops ≡ true → rid_of op ≡ h.rid → op_by x h ≡ Some op) → ((op : Op) → op_by x h ≡ Some op → has_op op ops ≡ true)
    → each_all c ops h ≡ kept_if (keeps c o) h
touched c x o ops h e r only all =
    some_all c o ops h r (λ op m q. let f : Some o ≡ Some op = e ∙ only op m q in let g : op ≡ o = (cc) in g) (all o (sym e))

coming_by : (b c : Bool) (x y : List ℕ) (ops : List Op) (h : Held) → cond b (Some (Put h.rid)) None ≡ op_by x h
    → ((op : Op) → has_op op ops ≡ true → rid_of op ≡ h.rid → op_by x h ≡ Some op) → ((op : Op) → op_by x h ≡ Some op → has_op op ops ≡ true)
    → each_all c ops h ≡ held_as h (left_by (λ z. cond b (verdict_if c) Doubt) (Coming y) (message_of h))
coming_by true true x y ops h e only all = touched true x (Put h.rid) ops h e refl only all
coming_by true false x y ops h e only all = touched false x (Put h.rid) ops h e refl only all
coming_by false c x y ops h e only all = untouched c x ops h e only

going_by : (b c : Bool) (x y : List ℕ) (ops : List Op) (h : Held) → cond b (Some (Take h.rid)) None ≡ op_by x h
    → ((op : Op) → has_op op ops ≡ true → rid_of op ≡ h.rid → op_by x h ≡ Some op) → ((op : Op) → op_by x h ≡ Some op → has_op op ops ≡ true)
    → each_all c ops h ≡ held_as h (left_by (λ z. cond b (verdict_if c) Doubt) (Going y) (message_of h))
going_by true true x y ops h e only all = touched true x (Take h.rid) ops h e refl only all
going_by true false x y ops h e only all = touched false x (Take h.rid) ops h e refl only all
going_by false c x y ops h e only all = untouched c x ops h e only

status_by : (s : Status) (c : Bool) (x : List ℕ) (ops : List Op) (h : Held) → op_by_status x h.rid s ≡ op_by x h
    → ((op : Op) → has_op op ops ≡ true → rid_of op ≡ h.rid → op_by x h ≡ Some op) → ((op : Op) → op_by x h ≡ Some op → has_op op ops ≡ true)
    → each_all c ops h ≡ held_as h (left_by (only x (verdict_if c)) s (message_of h))
status_by Ready c x ops h e o a = untouched c x ops h e o
status_by (Coming y) c x ops h e o a = coming_by (same x y) c x y ops h e o a
status_by (Going y) c x ops h e o a = going_by (same x y) c x y ops h e o a

-- ---- the operations that records show

op_rid_by : (x : List ℕ) (rid : ℕ) (s : Status) (o : Op) → op_by_status x rid s ≡ Some o → rid_of o ≡ rid
op_rid_by x rid Ready o e = absurd (cc)
op_rid_by x rid (Coming y) o e = put_rid (same x y) rid o e
  where
    put_rid : (b : Bool) (rid : ℕ) (o : Op) → cond b (Some (Put rid)) None ≡ Some o → rid_of o ≡ rid
    put_rid true rid o e = let f : Put rid ≡ o = (cc) in sym (ap rid_of f)
    put_rid false rid o e = absurd (cc)
op_rid_by x rid (Going y) o e = take_rid (same x y) rid o e
  where
    take_rid : (b : Bool) (rid : ℕ) (o : Op) → cond b (Some (Take rid)) None ≡ Some o → rid_of o ≡ rid
    take_rid true rid o e = let f : Take rid ≡ o = (cc) in sym (ap rid_of f)
    take_rid false rid o e = absurd (cc)

other_by : (b : Bool) (op o : Op) → b ≡ same_op op o → (rid_of op ≡ rid_of o → ⊥) → same_op op o ≡ false
other_by true op o e n = absurd (n (same_rid op o (sym e)))
other_by false op o e n = sym e

other_op : (op o : Op) → (rid_of op ≡ rid_of o → ⊥) → same_op op o ≡ false
other_op op o n = other_by (same_op op o) op o refl n

skip_some : (v : Option Op) (op : Op) (rest : List Op) (rid : ℕ) → ((o : Op) → v ≡ Some o → rid_of o ≡ rid) → (rid_of op ≡ rid → ⊥) → has_op op (cons_option v rest) ≡ has_op op rest
skip_some None op rest rid f n = refl
skip_some (Some o) op rest rid f n = ap (λ b. b || has_op op rest) (other_op op o (λ e. n (e ∙ f o refl)))

pub skip_op : (x : List ℕ) (h : Held) (op : Op) (rest : List Op) → (rid_of op ≡ h.rid → ⊥) → has_op op (cons_option (op_by x h) rest) ≡ has_op op rest
skip_op x h op rest n = skip_some (op_by x h) op rest h.rid (λ o e. op_rid_by x h.rid h.status o e) n

pub none_in : (x : List ℕ) (n : ℕ) (op : Op) (hs : List Held) → RidsFrom n hs → rid_of op < n → has_op op (ops_in x hs) ≡ false
none_in x n op [] r l = refl
none_in x n op (h ∷ hs) r l =
    skip_op x h op (ops_in x hs) (λ e. absurd (omega (arith, r.0))) ∙ none_in x (h.rid + 1) op hs r.1 (omega (arith, r.0))

only_by : (v : Option Op) (op : Op) (rest : List Op) → has_op op (cons_option v rest) ≡ true → has_op op rest ≡ false → v ≡ Some op
only_by None op rest h n = let e : true ≡ false = sym h ∙ n in absurd (cc)
only_by (Some o) op rest h n = some_same (same_op op o) op o rest refl h n
  where
    some_same : (b : Bool) (op o : Op) (rest : List Op) → b ≡ same_op op o → (b || has_op op rest) ≡ true → has_op op rest ≡ false → Some o ≡ Some op
    some_same true op o rest e h n = ap Some (sym (same_eq op o (sym e)))
    some_same false op o rest e h n = let f : true ≡ false = sym h ∙ n in absurd (cc)

all_by : (v : Option Op) (op : Op) (rest : List Op) → v ≡ Some op → has_op op (cons_option v rest) ≡ true
all_by v op rest e = ap (λ o. has_op op (cons_option o rest)) e ∙ has_first op rest

-- ---- the end of a transaction

two : (u v : Option Held) (hs gs : List Held) → u ≡ v → hs ≡ gs → cons_option u hs ≡ cons_option v gs
two u v hs gs e f = ap (λ o. cons_option o hs) e ∙ ap (λ l. cons_option v l) f

end_from : (c : Bool) (x : List ℕ) (ops : List Op) (n : ℕ) (hs : List Held) → RidsFrom n hs → ((op : Op) → n ≤ rid_of op → has_op op ops ≡ has_op op (ops_in x hs))
    → filter_map (each_all c ops) hs ≡ ended_held x (verdict_if c) hs
end_from c x ops n [] r a = refl
end_from c x ops n (h ∷ hs) r a =
    two (each_all c ops h) (held_as h (left_by (only x (verdict_if c)) h.status (message_of h))) (filter_map (each_all c ops) hs) (ended_held x (verdict_if c) hs)
    (status_by h.status c x ops h refl
    (λ op m q. only_by (op_by x h) op (ops_in x hs) (sym (a op (omega (arith, r.0))) ∙ m) (none_in x (h.rid + 1) op hs r.1 (omega arith)))
    (λ op e. a op (let q = op_rid_by x h.rid h.status op e in omega (arith, r.0)) ∙ all_by (op_by x h) op (ops_in x hs) e))
    (end_from c x ops (h.rid + 1) hs r.1 (λ op l. a op (omega (arith, r.0)) ∙ skip_op x h op (ops_in x hs) (λ e. absurd (omega arith))))

-- each operation that the records show by x, carried out, leaves what the end of x leaves
pub all_ended : (c : Bool) (x : List ℕ) (ops : List Op) (hs : List Held) → RidsFrom 0 hs → ((op : Op) → has_op op ops ≡ has_op op (ops_in x hs))
    → ended_all c ops hs ≡ ended_held x (verdict_if c) hs
all_ended c x ops hs r a = ended_all_each c ops hs ∙ end_from c x ops 0 hs r (λ op l. a op)
