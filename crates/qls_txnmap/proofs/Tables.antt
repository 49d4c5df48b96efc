-- What a look-up finds after the table changed.
use Rattle.std.proofs.Common.{◌≡◌, ℕ, zero, suc, ◌+◌, ◌<◌, Bool, true, false, ◌||◌, cond, is_some, length, take, get_or, slice_get, arith, List, [], ◌∷◌, ◌++◌, Option, Some, None, IsSome, Result, Ok, Err, IfOk, IfErr, refl, ap, sym, subst, ◌∙◌}
use Rattle.std.specs.Map.{lookup, set_value, keys_of}
use Rattle.std.proofs.lemmas.List.Folds.{list_any_more}
use Rattle.std.specs.Cmp.Lexicographic.{nat_list_eq_equiv}
use Rattle.std.proofs.lemmas.Map.{lookup-set_value}
use Rattle.qls_model.specs.Bytes.{same, is_listed}
use Rattle.qls_model.proofs.XidKeys.{xid_eq, xid_eq_is, same_true}
use Rattle.qls_txnmap.specs.declared.Op.{Op}
use Rattle.qls_txnmap.specs.Pending.{Table, ops_of, ops_with, ops_without, all_of, if_any, is_any, is_pending, NoneEmpty}

-- ---- look-ups

-- the table is as before, but for what x has
abbrev pub Changes : List ℕ → Option (List Op) → Table → Table → Type 0
Changes k w t u = (x : List ℕ) → lookup (same x) u ≡ cond (same k x) w (lookup (same x) t)

-- keys that compare as derived
pub as_bytes : (k : List ℕ) (w : Option (List Op)) (t u : Table) → ((q : List ℕ) → lookup (xid_eq q) u ≡ cond (xid_eq k q) w (lookup (xid_eq q) t)) → Changes k w t u
as_bytes k w t u h = subst (λ f. (q : List ℕ) → lookup (f q) u ≡ cond (f k q) w (lookup (f q) t)) xid_eq_is h

pub looked_up_as : (k : List ℕ) (t : Table) → lookup (xid_eq k) t ≡ lookup (same k) t
looked_up_as k t = ap (λ f. lookup (f k) t) xid_eq_is

same_key : (k x y : List ℕ) → same k x ≡ true → same k y ≡ same x y
same_key k x y h = ap (λ z. same z y) (same_true k x h)

written_same : (k : List ℕ) (w : List Op) (t : Table) → IsSome (lookup (same k) t) → Changes k (Some w) t (set_value (same k) t w)
written_same k w t h = λ x. lookup-set_value nat_list_eq_equiv (same k) (same_key k) x w t h

-- a write to what was found
written : (k : List ℕ) (w old : List Op) (t : Table) → Some old ≡ lookup (xid_eq k) t → Changes k (Some w) t (set_value (xid_eq k) t w)
written k w old t h =
    subst (λ f. Some old ≡ lookup (f k) t → Changes k (Some w) t (set_value (f k) t w)) (sym xid_eq_is)
    (λ e. written_same k w t (subst (λ o. IsSome o) e refl)) h

pub written_to : (k : List ℕ) (w old : List Op) (t u : Table) → u ≡ set_value (xid_eq k) t w → Some old ≡ lookup (xid_eq k) t → Changes k (Some w) t u
written_to k w old t u e h = λ x. ap (λ l. lookup (same x) l) e ∙ written k w old t h x

-- ---- operations

with_by : (b : Bool) (x k : List ℕ) (op : Op) (w : List Op) (t : Table) → b ≡ same k x → w ≡ ops_of k t ++ op ∷ []
    → all_of (cond b (Some w) (lookup (same x) t)) ≡ cond b (ops_of x t ++ op ∷ []) (ops_of x t)
with_by true x k op w t h e = e ∙ ap (λ z. ops_of z t ++ op ∷ []) (same_true k x (sym h))
with_by false x k op w t h e = refl

pub ops_added : (k : List ℕ) (op : Op) (w : List Op) (t u : Table) → w ≡ ops_of k t ++ op ∷ [] → Changes k (Some w) t u → (x : List ℕ) → ops_of x u ≡ ops_with k op t x
ops_added k op w t u e h x = ap all_of (h x) ∙ with_by (same k x) x k op w t refl e

without_by : (b : Bool) (x : List ℕ) (t : Table) → all_of (cond b None (lookup (same x) t)) ≡ cond b [] (ops_of x t)
without_by true x t = refl
without_by false x t = refl

pub ops_removed : (k : List ℕ) (t u : Table) → Changes k None t u → (x : List ℕ) → ops_of x u ≡ ops_without k t x
ops_removed k t u h x = ap all_of (h x) ∙ without_by (same k x) x t

-- ---- no entry is empty

AnyIn : Option (List Op) → Type 0
AnyIn o = (ops : List Op) → o ≡ Some ops → is_any ops ≡ true

any_by : (b : Bool) (w : List Op) (o : Option (List Op)) → is_any w ≡ true → ((ops : List Op) → o ≡ Some ops → is_any ops ≡ true) → (ops : List Op) → cond b (Some w) o ≡ Some ops → is_any ops ≡ true
any_by true w o a h ops e = let f : w ≡ ops = (cc) in ap is_any (sym f) ∙ a
any_by false w o a h ops e = h ops e

pub none_empty_added : (k : List ℕ) (w : List Op) (t u : Table) → is_any w ≡ true → NoneEmpty t → Changes k (Some w) t u → NoneEmpty u
none_empty_added k w t u a h c x ops e = any_by (same k x) w (lookup (same x) t) a (h x) ops (sym (c x) ∙ e)

any_without : (b : Bool) (o : Option (List Op)) → ((ops : List Op) → o ≡ Some ops → is_any ops ≡ true) → (ops : List Op) → cond b None o ≡ Some ops → is_any ops ≡ true
any_without true o h ops e = absurd (cc)
any_without false o h ops e = h ops e

pub none_empty_removed : (k : List ℕ) (t u : Table) → NoneEmpty t → Changes k None t u → NoneEmpty u
none_empty_removed k t u h c x ops e = any_without (same k x) (lookup (same x) t) (h x) ops (sym (c x) ∙ e)

pub any_more : (ops : List Op) (op : Op) → is_any (ops ++ op ∷ []) ≡ true
any_more [] op = refl
any_more (o ∷ ops) op = refl

given_by : (ops : List Op) → is_any ops ≡ true → Some ops ≡ if_any ops
given_by [] h = absurd (cc)
given_by (o ∷ ops) h = refl

handed_by : (o : Option (List Op)) → ((ops : List Op) → o ≡ Some ops → is_any ops ≡ true) → o ≡ if_any (all_of o)
handed_by None h = refl
handed_by (Some ops) h = given_by ops (h ops refl)

-- what is found is handed out
pub handed : (k : List ℕ) (t : Table) → NoneEmpty t → lookup (same k) t ≡ if_any (ops_of k t)
handed k t h = handed_by (lookup (same k) t) (h k)

-- ---- results

pub if_ok_then : {E : Type 0} (r : Result (Unit {0}) E) (P Q : Type 0) → (P → Q) → IfOk r (λ _. P) → IfOk r (λ _. Q)
if_ok_then (Ok x) P Q f h = f h
if_ok_then (Err e) P Q f h = tt

pub if_err_then : {E : Type 0} (r : Result (Unit {0}) E) (P Q : Type 0) → (P → Q) → IfErr r (λ _. P) → IfErr r (λ _. Q)
if_err_then (Ok x) P Q f h = tt
if_err_then (Err e) P Q f h = f h

pub either_then : {E : Type 0} (r : Result (Unit {0}) E) (P Q R : Type 0) → (P → R) → (Q → R) → IfOk r (λ _. P) → IfErr r (λ _. Q) → R
either_then (Ok x) P Q R f g h k = f h
either_then (Err e) P Q R f g h k = g k

-- ---- the keys

key_is : (es : Table) (i : ℕ) (k : List ℕ) (v : List Op) → slice_get es i ≡ Some (k, v) → get_or (keys_of es) i k ≡ k
key_is [] i k v h = absurd (cc)
key_is (e ∷ es) zero k v h = let f : e ≡ (k, v) = (cc) in ap (λ p. p.0) f
key_is (e ∷ es) (suc i) k v h = key_is es i k v h

key_within : (es : Table) (i : ℕ) (k : List ℕ) (v : List Op) → slice_get es i ≡ Some (k, v) → i < length (keys_of es)
key_within [] i k v h = absurd (cc)
key_within (e ∷ es) zero k v h = omega arith
key_within (e ∷ es) (suc i) k v h = omega (arith, key_within es i k v h)

-- one more key
pub more_keys : (x : List ℕ) (es : Table) (i : ℕ) (k : List ℕ) (v : List Op) → slice_get es i ≡ Some (k, v)
    → is_listed x (take (i + 1) (keys_of es)) ≡ (is_listed x (take i (keys_of es)) || same x k)
more_keys x es i k v h =
    list_any_more (λ y. same x y) (keys_of es) i k (key_within es i k v h) ∙ ap (λ z. is_listed x (take i (keys_of es)) || same x z) (key_is es i k v h)

some_by : (o : Option (List Op)) → ((ops : List Op) → o ≡ Some ops → is_any ops ≡ true) → is_any (all_of o) ≡ is_some o
some_by None h = refl
some_by (Some ops) h = h ops refl

found_by : (b : Bool) (x k : List ℕ) (v : List Op) (es : Table) → is_listed x (keys_of es) ≡ is_some (lookup (same x) es) → (b || is_listed x (keys_of es)) ≡ is_some (cond b (Some v) (lookup (same x) es))
found_by true x k v es h = refl
found_by false x k v es h = h

key_found : (x : List ℕ) (es : Table) → is_listed x (keys_of es) ≡ is_some (lookup (same x) es)
key_found x [] = refl
key_found x (e ∷ es) = found_by (same x e.0) x e.0 e.1 es (key_found x es)

-- the keys are what is pending
pub pending_keys : (x : List ℕ) (es : Table) → NoneEmpty es → is_listed x (keys_of es) ≡ is_pending x es
pending_keys x es h = key_found x es ∙ sym (some_by (lookup (same x) es) (h x))

pub if_ok_then_of : {A E : Type 0} (r : Result A E) (P Q : A → Type 0) → ((a : A) → P a → Q a) → IfOk r P → IfOk r Q
if_ok_then_of (Ok x) P Q f h = f x h
if_ok_then_of (Err e) P Q f h = tt
