-- Xids as keys: they are the same where the bytes are, and in byte order.
use Rattle.std.proofs.Common.{◌≡◌, ℕ, ◌-◌, Bool, true, false, ◌&&◌, ◌||◌, nat_eq, List, [], ◌∷◌, ◌++◌, length, replicate, cond, Option, refl, ap, sym, subst, ◌∙◌}
use Rattle.std.specs.declared.cmp.Ordering.{Ordering}
use Rattle.std.specs.declared.cmp.Ordering.TheVariants.{Less, Equal, Greater}
use Rattle.std.specs.Ordering.{nat_cmp, ordering_then, is_eq, match_ordering}
use Rattle.std.specs.Cmp.Lexicographic.{slice_cmp, pointwise, bytes_decides}
use Rattle.std.specs.BTreeSet.{insert_key}
use Rattle.std.specs.HashMap.{HashMap, Updates, get_by, get as looked_up}
use Rattle.std.proofs.lemmas.Map.Text.{is_eq-slice_cmp}
use Rattle.qls_model.specs.Bytes.{same, is_listed}
use Rattle.qls_model.proofs.XidOrder.{order_is_bytes, equality_is_bytes}

-- how the derived comparisons compare
abbrev pub xid_cmp : List ℕ → List ℕ → Ordering
xid_cmp a b = ordering_then (slice_cmp nat_cmp (a ++ replicate (128 - length a) 0) (b ++ replicate (128 - length b) 0)) (nat_cmp (length a) (length b))

abbrev pub xid_eq : List ℕ → List ℕ → Bool
xid_eq a b = pointwise nat_eq (a ++ replicate (128 - length a) 0) (b ++ replicate (128 - length b) 0) && nat_eq (length a) (length b)

pub xid_cmp_is : xid_cmp ≡ slice_cmp nat_cmp
xid_cmp_is = order_is_bytes 128

pub xid_eq_is : xid_eq ≡ same
xid_eq_is = equality_is_bytes 128

-- the bytes are the same where the test says so
pub same_true : (a b : List ℕ) → same a b ≡ true → a ≡ b
same_true a b h = (bytes_decides a b).0 h

pub same_self : (a : List ℕ) → same a a ≡ true
same_self a = (bytes_decides a a).1 refl

-- an equal key is there already
equal_keys : (k y : List ℕ) → Equal ≡ slice_cmp nat_cmp k y → k ≡ y
equal_keys k y h = same_true k y (sym (is_eq-slice_cmp k y) ∙ ap is_eq (sym h))

or_twice : (a b : Bool) → (a || b) ≡ (a || (a || b))
or_twice true b = refl
or_twice false b = refl

or_turn : (a b c : Bool) → (a || (b || c)) ≡ (b || (a || c))
or_turn true true c = refl
or_turn true false c = refl
or_turn false true c = refl
or_turn false false c = refl

listed_by : (x k y : List ℕ) (ks : List (List ℕ)) (c : Ordering) → c ≡ slice_cmp nat_cmp k y
    → (is_listed x (insert_key (slice_cmp nat_cmp) ks k) ≡ (same x k || is_listed x ks))
    → is_listed x (match_ordering c (k ∷ y ∷ ks) (y ∷ ks) (y ∷ insert_key (slice_cmp nat_cmp) ks k)) ≡ (same x k || is_listed x (y ∷ ks))
listed_by x k y ks Less e h = refl
listed_by x k y ks Equal e h = or_twice (same x y) (is_listed x ks) ∙ ap (λ z. same x z || is_listed x (y ∷ ks)) (sym (equal_keys k y e))
listed_by x k y ks Greater e h = ap (λ b. same x y || b) h ∙ or_turn (same x y) (same x k) (is_listed x ks)

-- a key put into a set is listed, and all others are as before
pub listed-insert : (x k : List ℕ) (ks : List (List ℕ)) → is_listed x (insert_key (slice_cmp nat_cmp) ks k) ≡ (same x k || is_listed x ks)
listed-insert x k [] = refl
listed-insert x k (y ∷ ks) = listed_by x k y ks (slice_cmp nat_cmp k y) refl (listed-insert x k ks)

-- ---- look-ups by xid

-- an insert into a map whose xids compare as derived
pub looked_up-insert : {X S : Type 0} (m n : HashMap (List ℕ) X S) (k : List ℕ) (w : Option X) → Updates xid_eq m n k w → (q : List ℕ) → looked_up same n q ≡ cond (same k q) w (looked_up same m q)
looked_up-insert m n k w u = subst (λ f. (q : List ℕ) → looked_up f n q ≡ cond (f k q) w (looked_up f m q)) xid_eq_is u.0

pub looked_up-as : {X S : Type 0} (m : HashMap (List ℕ) X S) (k : List ℕ) → get_by (xid_eq k) m ≡ looked_up same m k
looked_up-as m k = ap (λ f. looked_up f m k) xid_eq_is
