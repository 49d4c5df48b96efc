-- Keys in byte order, and lists in order of a key: where a key stands, and what is found by it.
use Rattle.std.proofs.Common.{◌≡◌, ℕ, zero, suc, ◌<◌, Bool, true, false, cond, List, [], ◌∷◌, length, take, drop, get_or, Option, Some, None, refl, ap, sym, subst, ◌∙◌, arith}
use Rattle.std.specs.List.{AllByRecursion, slice_get, find, filter}
use Rattle.std.specs.declared.cmp.Ordering.TheVariants.{Less, Equal, Greater}
use Rattle.std.specs.declared.cmp.Ordering.{Ordering}
use Rattle.std.specs.Ordering.{nat_cmp, is_eq, is_lt, ordering_reverse}
use Rattle.std.specs.Cmp.Lexicographic.{slice_cmp}
use Rattle.std.proofs.lemmas.Cmp.{nat_list_cmp_total}
use Rattle.std.proofs.lemmas.Map.Text.{is_eq-slice_cmp}
use Rattle.std.proofs.lemmas.Option.{slice_get_read, slice_get_within, get_or_from_slice_get}
use Rattle.qls_model.specs.Bytes.{same, comes_before}
use Rattle.qls_model.proofs.XidKeys.{same_true, same_self}
use Rattle.qls_store.specs.Table.{Rises, StandsAt, WouldStandAt}

-- ---- two keys

abbrev pub Before : List ℕ → List ℕ → Type 0
Before a b = comes_before a b ≡ true

is_less : (c : Ordering) → is_lt c ≡ true → c ≡ Less
is_less Less h = refl
is_less Equal h = absurd (cc)
is_less Greater h = absurd (cc)

pub is_before : (a b : List ℕ) → slice_cmp nat_cmp a b ≡ Less → Before a b
is_before a b e = ap is_lt e

pub is_behind : (a b : List ℕ) → slice_cmp nat_cmp a b ≡ Greater → Before b a
is_behind a b e = ap is_lt (nat_list_cmp_total.antisymm b a ∙ ap ordering_reverse e)

pub are_same : (a b : List ℕ) → slice_cmp nat_cmp a b ≡ Equal → a ≡ b
are_same a b e = same_true a b (sym (is_eq-slice_cmp a b) ∙ ap is_eq e)

pub before_all : (a b c : List ℕ) → Before a b → Before b c → Before a c
before_all a b c h g = ap is_lt (nat_list_cmp_total.trans a b c (is_less (slice_cmp nat_cmp a b) h) (is_less (slice_cmp nat_cmp b c) g))

-- a key that comes before another isn't that one
pub before_differs : (a b : List ℕ) → Before a b → same a b ≡ false
before_differs a b h = sym (is_eq-slice_cmp a b) ∙ ap is_eq (is_less (slice_cmp nat_cmp a b) h)

pub behind_differs : (a b : List ℕ) → Before b a → same a b ≡ false
behind_differs a b h =
    sym (is_eq-slice_cmp a b) ∙ ap is_eq (nat_list_cmp_total.antisymm a b ∙ ap ordering_reverse (is_less (slice_cmp nat_cmp b a) h))

-- nor does the other come before it
pub not_before : (a b : List ℕ) → Before b a → comes_before a b ≡ false
not_before a b h = ap is_lt (nat_list_cmp_total.antisymm a b ∙ ap ordering_reverse (is_less (slice_cmp nat_cmp b a) h))

pub not_both : true ≡ false → ⊥
not_both e = cc

-- what is one key isn't another
pub apart : (a b n : List ℕ) → same a n ≡ true → same b n ≡ false → same b a ≡ false
apart a b n is other = ap (same b) (same_true a n is) ∙ other

-- ---- lists

pub all_weaken : {A : Type 0} (P Q : A → Type 0) → ((a : A) → P a → Q a) → (xs : List A) → AllByRecursion P xs → AllByRecursion Q xs
all_weaken P Q f [] h = tt
all_weaken P Q f (x ∷ xs) h = (f x h.0, all_weaken P Q f xs h.1)

pub all_filter : {A : Type 0} (P : A → Type 0) (t : A → Bool) (xs : List A) → AllByRecursion P xs → AllByRecursion P (filter t xs)
all_filter P t [] h = tt
all_filter P t (x ∷ xs) h =
    elim (t x) as (λ b. AllByRecursion P (cond b (x ∷ filter t xs) (filter t xs))) [ true ↦ (h.0, all_filter P t xs h.1) | false ↦ all_filter P t xs h.1 ]

pub all_at : {A : Type 0} (P : A → Type 0) (xs : List A) (k : ℕ) (x : A) → AllByRecursion P xs → slice_get xs k ≡ Some x → P x
all_at P [] k x h e = absurd (cc)
all_at P (y ∷ ys) zero x h e = subst P (some_is y x e) h.0
  where
    some_is : {A : Type 0} (y x : A) → Some y ≡ Some x → y ≡ x
    some_is y x e = cc
all_at P (y ∷ ys) (suc k) x h e = all_at P ys k x h.1 e

-- ---- lists in order of a key

module _ {A : Type 0} (key : A → List ℕ) where
  abbrev pub AllBefore : List ℕ → List A → Type 0
  AllBefore k xs = AllByRecursion (λ a. comes_before (key a) k ≡ true) xs

  abbrev pub AllBehind : List ℕ → List A → Type 0
  AllBehind k xs = AllByRecursion (λ a. comes_before k (key a) ≡ true) xs

  abbrev pub Lacks : List ℕ → List A → Type 0
  Lacks k xs = AllByRecursion (λ a. same (key a) k ≡ false) xs

  abbrev pub keyed : List ℕ → List A → Option A
  keyed k xs = find (λ a. same (key a) k) xs

  pub rises_filter : (t : A → Bool) (xs : List A) → Rises key xs → Rises key (filter t xs)
  rises_filter t [] h = tt
  rises_filter t (x ∷ xs) h =
      elim (t x) as (λ b. Rises key (cond b (x ∷ filter t xs) (filter t xs))) [
        | true ↦ (all_filter (λ a. comes_before (key x) (key a) ≡ true) t xs h.0, rises_filter t xs h.1)
        | false ↦ rises_filter t xs h.1
      ]

  -- what comes before one comes before those that follow it
  pub all_behind : (a b : List ℕ) (xs : List A) → Before a b → AllBehind b xs → AllBehind a xs
  all_behind a b xs h r = all_weaken (λ x. comes_before b (key x) ≡ true) (λ x. comes_before a (key x) ≡ true) (λ x g. before_all a b (key x) h g) xs r

  pub lacks_behind : (k : List ℕ) (xs : List A) → AllBehind k xs → Lacks k xs
  lacks_behind k xs h = all_weaken (λ x. comes_before k (key x) ≡ true) (λ x. same (key x) k ≡ false) (λ x g. behind_differs (key x) k g) xs h

  rises_to : (k : List ℕ) (xs : List A) (i : ℕ) (x : A) → i < length xs → x ≡ get_or xs i x → AllBehind k xs → Before k (key x)
  rises_to k [] i x h e r = absurd (omega arith)
  rises_to k (y ∷ xs) zero x h e r = ap (λ a. comes_before k (key a)) e ∙ r.0
  rises_to k (y ∷ xs) (suc i) x h e r = rises_to k xs i x (omega arith) e r.1

  -- where the one at a place comes before the key, so do all up to it
  pub before_up_to : (k : List ℕ) (xs : List A) (i : ℕ) (x : A) → i < length xs → x ≡ get_or xs i x → Rises key xs → Before (key x) k → AllBefore k (take (suc i) xs)
  before_up_to k [] i x h e r b = absurd (omega arith)
  before_up_to k (y ∷ xs) zero x h e r b = (ap (λ a. comes_before (key a) k) (sym e) ∙ b, tt)
  before_up_to k (y ∷ xs) (suc i) x h e r b = (before_all (key y) (key x) k (rises_to (key y) xs i x (omega arith) e r.0) b, before_up_to k xs i x (omega arith) e r.1 b)

  -- where the key comes before the one at a place, it does before all from there on
  pub behind_from : (k : List ℕ) (xs : List A) (i : ℕ) (x : A) → i < length xs → x ≡ get_or xs i x → Rises key xs → Before k (key x) → AllBehind k (drop i xs)
  behind_from k [] i x h e r b = absurd (omega arith)
  behind_from k (y ∷ xs) zero x h e r b =
      let first : Before k (key y) = ap (λ a. comes_before k (key a)) (sym e) ∙ b in
      (first, all_behind k (key y) xs first r.0)
  behind_from k (y ∷ xs) (suc i) x h e r b = behind_from k xs i x (omega arith) e r.1 b

  -- a key that comes between two neighbours isn't there
  pub lacks_between : (k : List ℕ) (xs : List A) (i : ℕ) → AllBefore k (take i xs) → AllBehind k (drop i xs) → Lacks k xs
  lacks_between k [] i b a = tt
  lacks_between k (x ∷ xs) zero b a = (behind_differs (key x) k a.0, lacks_between k xs zero tt a.1)
  lacks_between k (x ∷ xs) (suc i) b a = (before_differs (key x) k b.0, lacks_between k xs i b.1 a)

  pub none_keyed : (k : List ℕ) (xs : List A) → Lacks k xs → keyed k xs ≡ None
  none_keyed k [] h = refl
  none_keyed k (x ∷ xs) h = ap (λ b. cond b (Some x) (keyed k xs)) h.0 ∙ none_keyed k xs h.1

  -- the one at a place is found by its key
  pub keyed_at : (xs : List A) (i : ℕ) (x : A) → Rises key xs → slice_get xs i ≡ Some x → keyed (key x) xs ≡ Some x
  keyed_at [] i x r e = absurd (cc)
  keyed_at (y ∷ xs) zero x r e =
      let is : y ≡ x = some_is e in
      ap (λ b. cond b (Some y) (keyed (key x) xs)) (ap (λ a. same (key y) (key a)) (sym is) ∙ same_self (key y)) ∙ e
    where
      some_is : {B : Type 0} {a b : B} → Some a ≡ Some b → a ≡ b
      some_is e = cc
  keyed_at (y ∷ xs) (suc i) x r e =
      ap (λ b. cond b (Some y) (keyed (key x) xs)) (before_differs (key y) (key x) (all_at (λ a. comes_before (key y) (key a) ≡ true) xs i x r.0 e)) ∙ keyed_at xs i x r.1 e

  pub stands_at : (k : List ℕ) (xs : List A) (i : ℕ) (x : A) → i < length xs → x ≡ get_or xs i x → key x ≡ k → StandsAt key xs k i
  stands_at k xs i x h e is = record { item = x; there = slice_get_read xs (length xs) i x refl h e; keyed = is }

  pub found_at : (k : List ℕ) (xs : List A) (i : ℕ) → Rises key xs → (w : StandsAt key xs k i) → keyed k xs ≡ Some w.item
  found_at k xs i r w = subst (λ n. keyed n xs ≡ Some w.item) w.keyed (keyed_at xs i w.item r w.there)

  pub none_at : (k : List ℕ) (xs : List A) (i : ℕ) → WouldStandAt key xs k i → keyed k xs ≡ None
  none_at k xs i w = none_keyed k xs (lacks_between k xs i w.before w.behind)

  pub at_is : (k : List ℕ) (xs : List A) (i : ℕ) (x : A) → (w : StandsAt key xs k i) → x ≡ get_or xs i x → x ≡ w.item
  at_is k xs i x w e = e ∙ get_or_from_slice_get xs i w.item x w.there

  pub at_within : (k : List ℕ) (xs : List A) (i : ℕ) → StandsAt key xs k i → i < length xs
  at_within k xs i w = slice_get_within xs i w.item w.there
