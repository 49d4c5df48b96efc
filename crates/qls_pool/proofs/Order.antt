-- The order of the empty files, and the least of a pool.
use Rattle.std.proofs.Common.{◌≡◌, ◌⊎◌, inl, inr, ℕ, ◌<◌, ◌≤◌, Bool, true, false, not, cond, ◌&&◌, ◌||◌, ◌==◌, List, [], ◌∷◌, Option, Some, None, refl, sym, ap, ◌∙◌, subst, arith, nat_lt, min}
use Rattle.std.proofs.lemmas.Bool.Decides.{nat_tests}
use Rattle.std.specs.List.{list_any}
use Rattle.std.specs.declared.cmp.Ordering.{Ordering}
use Rattle.std.specs.declared.cmp.Ordering.TheVariants.{Less, Equal, Greater}
use Rattle.std.specs.Ordering.{is_eq, is_gt, nat_cmp, ordering_then, match_ordering}
use Rattle.std.specs.Cmp.{unsigned_tied}
use Rattle.std.specs.BTreeSet.{BTreeSet, IsKeyRangeOf, Updates, contains, insert_key}
use Rattle.std.specs.Set.{remove_key}
use Rattle.std.specs.declared.ops.Bound.TheVariants.{Included, Unbounded}
use Rattle.std.proofs.Common.{IsTrue}
use Rattle.qls_model.specs.declared.machine.PoolId.{PoolId}
use Rattle.qls_pool.specs.declared.pooled.PooledFile.{PooledFile}
use Rattle.qls_pool.specs.Pools.{is_in, is_file, has, lesser, least_id}

abbrev pub order : PooledFile → PooledFile → Ordering
order a b = ordering_then (nat_cmp a.part b.part) (ordering_then (nat_cmp a.kib b.kib) (nat_cmp a.id b.id))

is_eq_then : (a b : Ordering) → is_eq (ordering_then a b) ≡ (is_eq a && is_eq b)
is_eq_then Less b = refl
is_eq_then Equal b = refl
is_eq_then Greater b = refl

and_three : (a b c : Bool) → (a && (b && c)) ≡ ((a && b) && c)
and_three true b c = refl
and_three false b c = refl

-- two files are equal in the order where partition, KiB and id are
pub equal_file : (a b : PooledFile) → is_eq (order a b) ≡ is_file a.part a.kib a.id b
equal_file a b =
    is_eq_then (nat_cmp a.part b.part) (ordering_then (nat_cmp a.kib b.kib) (nat_cmp a.id b.id))
    ∙ ap (λ t. is_eq (nat_cmp a.part b.part) && t) (is_eq_then (nat_cmp a.kib b.kib) (nat_cmp a.id b.id))
    ∙ ap (λ t. t && (is_eq (nat_cmp a.kib b.kib) && is_eq (nat_cmp a.id b.id))) (unsigned_tied a.part b.part)
    ∙ ap (λ t. (a.part == b.part) && (t && is_eq (nat_cmp a.id b.id))) (unsigned_tied a.kib b.kib)
    ∙ ap (λ t. (a.part == b.part) && ((a.kib == b.kib) && t)) (unsigned_tied a.id b.id)
    ∙ and_three (a.part == b.part) (a.kib == b.kib) (a.id == b.id)

pub same_tests : {A : Type 0} (p q : A → Bool) → ((x : A) → p x ≡ q x) → (xs : List A) → list_any p xs ≡ list_any q xs
same_tests p q e [] = refl
same_tests p q e (x ∷ xs) = ap (λ b. b || list_any p xs) (e x) ∙ ap (λ b. q x || b) (same_tests p q e xs)

-- what the order finds is there
pub found_there : (a : PooledFile) (files : List PooledFile) → list_any (λ f. is_eq (order a f)) files ≡ has a.part a.kib a.id files
found_there a files = same_tests (λ f. is_eq (order a f)) (is_file a.part a.kib a.id) (equal_file a) files

eqb_turned : (m n : ℕ) → (m == n) ≡ (n == m)
eqb_turned m n = grind (arith, nat_tests)

pub file_turned : (a b : PooledFile) → is_file a.part a.kib a.id b ≡ is_file b.part b.kib b.id a
file_turned a b =
    ap (λ t. (t && a.kib == b.kib) && a.id == b.id) (eqb_turned a.part b.part)
    ∙ ap (λ t. (b.part == a.part && t) && a.id == b.id) (eqb_turned a.kib b.kib)
    ∙ ap (λ t. (b.part == a.part && b.kib == a.kib) && t) (eqb_turned a.id b.id)

-- ---- what comes first

le_cases : (m n : ℕ) (o : Ordering) → is_gt (ordering_then (nat_cmp m n) o) ≡ false → (m < n) ⊎ ((m ≡ n) × (is_gt o ≡ false))
le_cases m n o h =
    elim (nat_lt m n) as (λ b. (nat_lt m n ≡ b) → is_gt (ordering_then (cond b Less (cond (m == n) Equal Greater)) o) ≡ false → (m < n) ⊎ ((m ≡ n) × (is_gt o ≡ false))) [
      | true ↦ λ e k. inl (grind (arith, nat_tests, e))
      | false ↦ λ e k. at_equal (m == n) refl k
    ] refl h
  where
    at_equal : (b : Bool) → ((m == n) ≡ b) → is_gt (ordering_then (cond b Equal Greater) o) ≡ false → (m < n) ⊎ ((m ≡ n) × (is_gt o ≡ false))
    at_equal true e k = inr (grind (arith, nat_tests, e), k)
    at_equal false e k = absurd (cc)

last_le : (m n : ℕ) → is_gt (nat_cmp m n) ≡ false → m ≤ n
last_le m n h = grind (arith, nat_tests, h)

pub le_zero : (n : ℕ) → is_gt (nat_cmp 0 n) ≡ false
le_zero n = grind (arith, nat_tests)

self_then : (n : ℕ) (o : Ordering) → ordering_then (nat_cmp n n) o ≡ o
self_then n o = ap (λ c. ordering_then c o) (self n)
  where
    self : (n : ℕ) → nat_cmp n n ≡ Equal
    self n = grind (arith, nat_tests)

-- the front of a pool comes before each of its files
pub front_first : (part kib id : ℕ) → is_gt (order (record { part = part; kib = kib; id = 0 }) (record { part = part; kib = kib; id = id })) ≡ false
front_first part kib id =
    ap is_gt (self_then part (ordering_then (nat_cmp kib kib) (nat_cmp 0 id)) ∙ self_then kib (nat_cmp 0 id)) ∙ le_zero id

-- between files of one pool only its files stand, and by id
pub between : (part kib m n : ℕ) (f : PooledFile) → is_gt (order (record { part = part; kib = kib; id = m }) f) ≡ false
    → is_gt (order f (record { part = part; kib = kib; id = n })) ≡ false → (f.part ≡ part) × (f.kib ≡ kib) × (f.id ≤ n)
between part kib m n f low high =
    elim (le_cases part f.part (ordering_then (nat_cmp kib f.kib) (nat_cmp m f.id)) low) [
      | inl less ↦ elim (le_cases f.part part (ordering_then (nat_cmp f.kib kib) (nat_cmp f.id n)) high) [ inl more ↦ absurd (omega (arith, less, more)) | inr (e, k) ↦ absurd (omega (arith, less, e)) ]
      | inr (e, k) ↦ elim (le_cases f.part part (ordering_then (nat_cmp f.kib kib) (nat_cmp f.id n)) high) [
        | inl more ↦ absurd (omega (arith, e, more))
        | inr (e2, k2) ↦ elim (le_cases kib f.kib (nat_cmp m f.id) k) [
          | inl less ↦ elim (le_cases f.kib kib (nat_cmp f.id n) k2) [ inl more ↦ absurd (omega (arith, less, more)) | inr (e3, k3) ↦ absurd (omega (arith, less, e3)) ]
          | inr (e3, k3) ↦ elim (le_cases f.kib kib (nat_cmp f.id n) k2) [ inl more ↦ absurd (omega (arith, e3, more)) | inr (e4, k4) ↦ (e2, e4, last_le f.id n k4) ]
        ]
      ]
    ]

-- ---- the least of a pool

-- m is the least that passes the test, or none does
abbrev pub IsLeastOf : (ℕ → Bool) → Option ℕ → Type 0
IsLeastOf h None = (j : ℕ) → h j ≡ false
IsLeastOf h (Some m) = (h m ≡ true) × ((j : ℕ) → h j ≡ true → m ≤ j)

-- one more that passes
with_one : (n : ℕ) (h : ℕ → Bool) (o : Option ℕ) → IsLeastOf h o → IsLeastOf (λ j. (j == n) || h j) (lesser n o)
with_one n h None p = (grind (arith, nat_tests), λ j e. grind (arith, nat_tests, e, p j))
with_one n h (Some m) p = elim (le_total n m) [
  | inl k ↦ subst (λ x. IsLeastOf (λ j. (j == n) || h j) (Some x)) (sym (min_left n m k)) (grind (arith, nat_tests), λ j e. grind (arith, nat_tests, e, k, p.1 j))
  | inr k ↦ subst (λ x. IsLeastOf (λ j. (j == n) || h j) (Some x)) (sym (min_right n m k)) (or_true (m == n) (h m) p.0, λ j e. grind (arith, nat_tests, e, k, p.1 j))
]
  where
    le_total : (a b : ℕ) → (a ≤ b) ⊎ (b ≤ a)
    le_total a b = grind arith

    min_left : (a b : ℕ) → a ≤ b → min a b ≡ a
    min_left a b k = grind (arith, k)

    min_right : (a b : ℕ) → b ≤ a → min a b ≡ b
    min_right a b k = grind (arith, k)

    or_true : (a b : Bool) → b ≡ true → (a || b) ≡ true
    or_true true b e = refl
    or_true false b e = e

least_step : (b : Bool) (n : ℕ) (h : ℕ → Bool) (o : Option ℕ) → IsLeastOf h o → IsLeastOf (λ j. (b && j == n) || h j) (cond b (lesser n o) o)
least_step true n h o p = with_one n h o p
least_step false n h o p = p

pub least_is : (home : PoolId) (files : List PooledFile) → IsLeastOf (λ j. has home.part home.kib j files) (least_id home files)
least_is home [] = λ j. refl
least_is home (f ∷ fs) = least_step (is_in home.part home.kib f) f.id (λ j. has home.part home.kib j fs) (least_id home fs) (least_is home fs)

-- there is one least
pub only_least : (h : ℕ → Bool) (o p : Option ℕ) → IsLeastOf h o → IsLeastOf h p → o ≡ p
only_least h None None a b = refl
only_least h None (Some n) a b = absurd (ne (h n) (a n) b.0)
  where
    ne : (b : Bool) → b ≡ false → b ≡ true → ⊥
    ne b e k = cc
only_least h (Some m) None a b = absurd (ne (h m) (b m) a.0)
  where
    ne : (b : Bool) → b ≡ false → b ≡ true → ⊥
    ne b e k = cc
only_least h (Some m) (Some n) a b = ap Some (le_both m n (a.1 n b.0) (b.1 m a.0))
  where
    le_both : (m n : ℕ) → m ≤ n → n ≤ m → m ≡ n
    le_both m n h k = omega (arith, h, k)

-- ---- the first file from the front of a pool on

abbrev front : PoolId → PooledFile
front home = record { part = home.part; kib = home.kib; id = 0 }

abbrev pub FromFront : PoolId → BTreeSet PooledFile → List PooledFile → Type 0
FromFront home files found = IsKeyRangeOf order (Included (front home)) Unbounded files found

is_there : (home : PoolId) (j : ℕ) (files : BTreeSet PooledFile) → has home.part home.kib j files.keys ≡ true → IsTrue (contains order files (record { part = home.part; kib = home.kib; id = j }))
is_there home j files e = found_there (record { part = home.part; kib = home.kib; id = j }) files.keys ∙ e

pub none_found : (home : PoolId) (files : BTreeSet PooledFile) (found : List PooledFile) → FromFront home files found → found ≡ [] → None ≡ least_id home files.keys
none_found home files found range e =
    only_least (λ j. has home.part home.kib j files.keys) None (least_id home files.keys)
    (λ j. sym (found_there (record { part = home.part; kib = home.kib; id = j }) files.keys) ∙ range.5 e (record { part = home.part; kib = home.kib; id = j }) (front_first home.part home.kib j, tt))
    (least_is home files.keys)

first_le : (home : PoolId) (files : BTreeSet PooledFile) (k : PooledFile) (t : List PooledFile) → FromFront home files (k ∷ t) → (j : ℕ) → has home.part home.kib j files.keys ≡ true
    → (k.part ≡ home.part) × (k.kib ≡ home.kib) × (k.id ≤ j)
first_le home files k t range j e =
    between home.part home.kib 0 j k range.1.0.0 (range.2 (record { part = home.part; kib = home.kib; id = j }) (front_first home.part home.kib j, tt) (is_there home j files e))

in_home : (a b c d : ℕ) → ((a == b) && (c == d)) ≡ true → (a ≡ b) × (c ≡ d)
in_home a b c d e = (grind (arith, nat_tests, e), grind (arith, nat_tests, e))

pub first_found : (home : PoolId) (files : BTreeSet PooledFile) (found : List PooledFile) (k : PooledFile) (t : List PooledFile) → FromFront home files found → found ≡ k ∷ t → is_in home.part home.kib k ≡ true
    → Some k.id ≡ least_id home files.keys
first_found home files found k t range e home_is =
    let here : FromFront home files (k ∷ t) = subst (FromFront home files) e range in
    let own : (home.part ≡ k.part) × (home.kib ≡ k.kib) = in_home home.part k.part home.kib k.kib home_is in
    only_least (λ j. has home.part home.kib j files.keys) (Some k.id) (least_id home files.keys)
    (subst (λ p. has p home.kib k.id files.keys ≡ true) (sym own.0) (subst (λ q. has k.part q k.id files.keys ≡ true) (sym own.1) (sym (found_there k files.keys) ∙ here.1.1)), λ j h. (first_le home files k t here j h).2)
    (least_is home files.keys)

not_home : (home : PoolId) (files : BTreeSet PooledFile) (k : PooledFile) (t : List PooledFile) → FromFront home files (k ∷ t) → is_in home.part home.kib k ≡ false → (j : ℕ) (b : Bool) → has home.part home.kib j files.keys ≡ b → b ≡ false
not_home home files k t range away j false e = refl
not_home home files k t range away j true e =
    let at : (k.part ≡ home.part) × (k.kib ≡ home.kib) × (k.id ≤ j) = first_le home files k t range j e in
    absurd (apart home.part k.part home.kib k.kib at.0 at.1 away)
  where
    apart : (a b c d : ℕ) → b ≡ a → d ≡ c → ((a == b) && (c == d)) ≡ false → ⊥
    apart a b c d p q e = grind (arith, nat_tests, p, q, e)

pub other_found : (home : PoolId) (files : BTreeSet PooledFile) (found : List PooledFile) (k : PooledFile) (t : List PooledFile) → FromFront home files found → found ≡ k ∷ t → is_in home.part home.kib k ≡ false
    → None ≡ least_id home files.keys
other_found home files found k t range e away =
    only_least (λ j. has home.part home.kib j files.keys) None (least_id home files.keys)
    (λ j. not_home home files k t (subst (FromFront home files) e range) away j (has home.part home.kib j files.keys) refl)
    (least_is home files.keys)

-- ---- one more, one less

pub one_more : (a : PooledFile) (old new : BTreeSet PooledFile) → Updates order old new a true → (part kib id : ℕ) → has part kib id new.keys ≡ (has part kib id old.keys || is_file part kib id a)
one_more a old new up part kib id =
    let q : PooledFile = record { part = part; kib = kib; id = id } in
    sym (found_there q new.keys) ∙ up.0 q ∙ ap (λ b. cond b true (contains order old q)) (equal_file a q ∙ file_turned a q)
    ∙ ap (λ b. cond (is_file part kib id a) true b) (found_there q old.keys) ∙ turned (is_file part kib id a) (has part kib id old.keys)
  where
    turned : (b c : Bool) → cond b true c ≡ (c || b)
    turned true true = refl
    turned true false = refl
    turned false true = refl
    turned false false = refl

pub one_less : (a : PooledFile) (old new : BTreeSet PooledFile) → Updates order old new a false → (part kib id : ℕ) → has part kib id new.keys ≡ (has part kib id old.keys && not (is_file part kib id a))
one_less a old new up part kib id =
    let q : PooledFile = record { part = part; kib = kib; id = id } in
    sym (found_there q new.keys) ∙ up.0 q ∙ ap (λ b. cond b false (contains order old q)) (equal_file a q ∙ file_turned a q)
    ∙ ap (λ b. cond (is_file part kib id a) false b) (found_there q old.keys) ∙ turned (is_file part kib id a) (has part kib id old.keys)
  where
    turned : (b c : Bool) → cond b false c ≡ (c && not b)
    turned true true = refl
    turned true false = refl
    turned false true = refl
    turned false false = refl

pub same_removed : (a : PooledFile) (files : List PooledFile) → remove_key (λ f. is_eq (order a f)) files ≡ remove_key (is_file a.part a.kib a.id) files
same_removed a [] = refl
same_removed a (f ∷ fs) = ap (λ b. cond b fs (f ∷ remove_key (λ g. is_eq (order a g)) fs)) (equal_file a f) ∙ ap (λ (r : List PooledFile). cond (is_file a.part a.kib a.id f) fs (f ∷ r)) (same_removed a fs)

own_file : (a : PooledFile) → is_eq (order a a) ≡ true
own_file a = equal_file a a ∙ own (a.part == a.part) (a.kib == a.kib) (a.id == a.id) (eqb_own a.part) (eqb_own a.kib) (eqb_own a.id)
  where
    own : (x y z : Bool) → x ≡ true → y ≡ true → z ≡ true → ((x && y) && z) ≡ true
    own x y z p q r = cc

    eqb_own : (n : ℕ) → (n == n) ≡ true
    eqb_own n = grind (arith, nat_tests)

put_step : (a f : PooledFile) (fs : List PooledFile) → (list_any (λ g. is_eq (order a g)) fs ≡ false → remove_key (λ g. is_eq (order a g)) (insert_key order fs a) ≡ fs)
    → (o : Ordering) → order a f ≡ o → (is_eq o || list_any (λ g. is_eq (order a g)) fs) ≡ false
    → remove_key (λ g. is_eq (order a g)) (match_ordering o (a ∷ f ∷ fs) (f ∷ fs) (f ∷ insert_key order fs a)) ≡ f ∷ fs
put_step a f fs rest Less e h = ap (λ b. cond b (f ∷ fs) (a ∷ remove_key (λ g. is_eq (order a g)) (f ∷ fs))) (own_file a)
put_step a f fs rest Equal e h = absurd (cc)
put_step a f fs rest Greater e h =
    ap (λ o. cond (is_eq o) (insert_key order fs a) (f ∷ remove_key (λ g. is_eq (order a g)) (insert_key order fs a))) e ∙ ap (λ (r : List PooledFile). f ∷ r) (rest h)

-- what is put in and taken out again leaves the others
put_and_taken : (a : PooledFile) (files : List PooledFile) → list_any (λ g. is_eq (order a g)) files ≡ false → remove_key (λ g. is_eq (order a g)) (insert_key order files a) ≡ files
put_and_taken a [] h = ap (λ b. cond b [] (a ∷ [])) (own_file a)
put_and_taken a (f ∷ fs) h = put_step a f fs (put_and_taken a fs) (order a f) refl h

pub undone : (a : PooledFile) (old : List PooledFile) (new : List PooledFile) → new ≡ insert_key order old a → list_any (λ g. is_eq (order a g)) old ≡ false → remove_key (is_file a.part a.kib a.id) new ≡ old
undone a old new e h = sym (same_removed a new) ∙ ap (remove_key (λ g. is_eq (order a g))) e ∙ put_and_taken a old h
