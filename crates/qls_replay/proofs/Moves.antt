-- Which transactions the held records show as pending.
use Rattle.std.proofs.Common.{◌≡◌, ℕ, Bool, true, false, ◌||◌, cond, List, [], ◌∷◌, Some, None, refl, ap, sym, ◌∙◌, arith}
use Rattle.std.specs.List.{list_any, cons_option}
use Rattle.qls_model.specs.Bytes.{same}
use Rattle.qls_model.specs.declared.machine.Status.{Status}
use Rattle.qls_model.specs.declared.machine.Status.TheVariants.{Ready, Coming, Going}
use Rattle.qls_enqmap.specs.declared.Held.{Held}
use Rattle.qls_txnmap.specs.declared.Op.{Op}
use Rattle.qls_txnmap.specs.declared.Op.TheVariants.{Put, Take}
use Rattle.qls_txnmap.specs.Pending.{Table, ops_of, is_any, is_pending}
use Rattle.qls_replay.specs.Ops.{op_by_status, ops_in, same_op, has_op, is_moved, moves_by, Agrees}

own_op : (op : Op) → same_op op op ≡ true
own_op (Put n) = grind arith
own_op (Take n) = grind arith

none_any : (op : Op) (ops : List Op) → is_any ops ≡ false → has_op op ops ≡ false
none_any op [] e = refl
none_any op (o ∷ ops) e = absurd (cc)

or_true : (a b : Bool) → a ≡ true → (a || b) ≡ true
or_true true b e = refl
or_true false b e = absurd (cc)

-- lists with the same operations both have one, or neither has
same_any : (xs ys : List Op) → ((op : Op) → has_op op xs ≡ has_op op ys) → is_any xs ≡ is_any ys
same_any [] [] h = refl
same_any [] (y ∷ ys) h = h y ∙ or_true (same_op y y) (has_op y ys) (own_op y)
same_any (x ∷ xs) [] h = sym (or_true (same_op x x) (has_op x xs) (own_op x)) ∙ h x
same_any (x ∷ xs) (y ∷ ys) h = refl

some_op : (b : Bool) (op : Op) (ops : List Op) → is_any (cons_option (cond b (Some op) None) ops) ≡ (b || is_any ops)
some_op true op ops = refl
some_op false op ops = refl

one_moved : (x : List ℕ) (rid : ℕ) (s : Status) (ops : List Op) → is_any (cons_option (op_by_status x rid s) ops) ≡ (is_moved x s || is_any ops)
one_moved x rid Ready ops = refl
one_moved x rid (Coming y) ops = some_op (same x y) (Put rid) ops
one_moved x rid (Going y) ops = some_op (same x y) (Take rid) ops

any_moved : (x : List ℕ) (hs : List Held) → is_any (ops_in x hs) ≡ list_any (moves_by x) hs
any_moved x [] = refl
any_moved x (h ∷ hs) = one_moved x h.rid h.status (ops_in x hs) ∙ ap (λ b. is_moved x h.status || b) (any_moved x hs)

pub pending_moved : (x : List ℕ) (hs : List Held) (t : Table) → Agrees hs t → is_pending x t ≡ list_any (moves_by x) hs
pending_moved x hs t a = same_any (ops_of x t) (ops_in x hs) (a x) ∙ any_moved x hs
