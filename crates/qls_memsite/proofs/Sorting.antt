-- Files sorted by id: there is one order.
use Rattle.std.proofs.Common.{◌≡◌, ℕ, zero, suc, ◌+◌, ◌<◌, ◌≤◌, Bool, true, false, cond, [], ◌∷◌, length, get_or, eqb, ltb, Option, Some, None, is_some, refl, sym, ap, ◌∙◌, subst, arith}
use Rattle.std.specs.List.{sum_by, list_any, Contains}
use Rattle.std.specs.List.Sorted.{IsPermutation, IsNonDecreasingBy}
use Rattle.std.proofs.lemmas.List.Sorted.{sum_by-IsPermutation, list_any-IsPermutation, Contains-permutation}
use Rattle.std.proofs.lemmas.List.Sums.{sum_by-cons}
use Rattle.std.proofs.lemmas.Bool.Decides.{nat_tests}
use Rattle.qls_site.specs.declared.site.ImageFile.{ImageFile}
use Rattle.qls_site.specs.Disk.{Image}
use Rattle.qls_memsite.specs.Seen.{seen_of, with_seen, AllAbove, IdsRise, IdsDiffer, by_id}
use Rattle.qls_memsite.proofs.Seen.{id_at, above_at, above_none, rise_with}

-- ---- what is seen after a sort by insertion

seen_with : (id : ℕ) (f : ImageFile) (i : Image) → seen_of f.id i ≡ None → seen_of id (with_seen f i) ≡ cond (eqb f.id id) (Some f) (seen_of id i)
seen_with id f [] none = refl
seen_with id f (g ∷ i) none = at_test (seen_with id f i) (ltb f.id g.id)
  where
    other : eqb g.id id ≡ true → eqb f.id id ≡ true → ⊥
    other = λ a b. grind (arith, nat_tests, a, b, none)

    swapped : (a b : Bool) → (a ≡ true → b ≡ true → ⊥) → (o : Option ImageFile) → cond a (Some g) (cond b (Some f) o) ≡ cond b (Some f) (cond a (Some g) o)
    swapped true true h o = absurd (h refl refl)
    swapped true false h o = refl
    swapped false true h o = refl
    swapped false false h o = refl

    at_test : (seen_of f.id i ≡ None → seen_of id (with_seen f i) ≡ cond (eqb f.id id) (Some f) (seen_of id i)) → (b : Bool)
        → seen_of id (cond b (f ∷ g ∷ i) (g ∷ with_seen f i)) ≡ cond (eqb f.id id) (Some f) (seen_of id (g ∷ i))
    at_test rest true = refl
    at_test rest false = ap (cond (eqb g.id id) (Some g)) (rest (grind (arith, nat_tests, none))) ∙ swapped (eqb g.id id) (eqb f.id id) other (seen_of id i)

pub seen_by_id : (id : ℕ) (i : Image) → IdsDiffer i → seen_of id (by_id i) ≡ seen_of id i
seen_by_id id [] h = refl
seen_by_id id (f ∷ i) h = seen_with id f (by_id i) (seen_by_id f.id i h.1 ∙ h.0) ∙ ap (cond (eqb f.id id) (Some f)) (seen_by_id id i h.1)

pub rise_by_id : (i : Image) → IdsDiffer i → IdsRise (by_id i)
rise_by_id [] h = tt
rise_by_id (f ∷ i) h = rise_with f (by_id i) (seen_by_id f.id i h.1 ∙ h.0) (rise_by_id i h.1)

-- ---- what rises is told by what is seen

same_head : (f g : ImageFile) → Some f ≡ Some g → f ≡ g
same_head f g e = cc

tail_seen : (id : ℕ) (f : ImageFile) (i j : Image) → AllAbove f.id i → AllAbove f.id j → seen_of id (f ∷ i) ≡ seen_of id (f ∷ j) → seen_of id i ≡ seen_of id j
tail_seen id f i j hi hj e = elim (eqb f.id id) as (λ b. eqb f.id id ≡ b → cond b (Some f) (seen_of id i) ≡ cond b (Some f) (seen_of id j) → seen_of id i ≡ seen_of id j) [
  | true ↦ λ same e. let at : id ≤ f.id = grind (arith, nat_tests, same) in above_none id f.id i hi at ∙ sym (above_none id f.id j hj at)
  | false ↦ λ same e. e
] refl e

pub same_rising : (i j : Image) → IdsRise i → IdsRise j → ((id : ℕ) → seen_of id i ≡ seen_of id j) → i ≡ j
same_rising [] [] hi hj e = refl
same_rising [] (g ∷ j) hi hj e = absurd (grind (arith, nat_tests, e g.id))
same_rising (f ∷ i) [] hi hj e = absurd (grind (arith, nat_tests, e f.id))
same_rising (f ∷ i) (g ∷ j) hi hj e =
    let not_less : f.id < g.id → ⊥ = λ l. grind (arith, nat_tests, e f.id, above_none f.id g.id j hj.0 (omega (arith, l))) in
    let not_more : g.id < f.id → ⊥ = λ l. grind (arith, nat_tests, e g.id, above_none g.id f.id i hi.0 (omega (arith, l))) in
    let same : f.id ≡ g.id = grind (arith, not_less, not_more) in
    let head : f ≡ g = same_head f g (grind (arith, nat_tests, e f.id, same)) in
    subst (λ h. f ∷ i ≡ h ∷ j) head (ap (λ k. f ∷ k) (same_rising i j hi.1 (subst (λ h. IdsRise j) head hj.1)
    (λ id. tail_seen id f i j hi.0 (subst (λ n. AllAbove n j) (sym same) hj.0) (e id ∙ ap (λ h. seen_of id (h ∷ j)) (sym head)))))

-- ---- a permutation without ties rises

abbrev pub counts_id : ℕ → ImageFile → ℕ
counts_id id f = cond (eqb f.id id) 1 0

-- how many files have the id
abbrev pub count : ℕ → Image → ℕ
count id [] = 0
count id (f ∷ i) = counts_id id f + count id i

count_is : (id : ℕ) (i : Image) → sum_by (counts_id id) i ≡ count id i
count_is id [] = refl
count_is id (f ∷ i) = sum_by-cons (counts_id id) f i ∙ ap (λ n. counts_id id f + n) (count_is id i)

none_counted : (id : ℕ) (i : Image) → seen_of id i ≡ None → count id i ≡ 0
none_counted id [] none = refl
none_counted id (f ∷ i) none = elim (eqb f.id id) as (λ b. cond b (Some f) (seen_of id i) ≡ None → cond b 1 0 + count id i ≡ 0) [
  | true ↦ λ e. absurd (cc)
  | false ↦ λ e. omega (arith, none_counted id i e)
] none

at_most_one : (id : ℕ) (i : Image) → IdsDiffer i → count id i ≤ 1
at_most_one id [] h = omega arith
at_most_one id (f ∷ i) h = elim (eqb f.id id) as (λ b. eqb f.id id ≡ b → cond b 1 0 + count id i ≤ 1) [
  | true ↦ λ e. let same : f.id ≡ id = grind (arith, nat_tests, e) in omega (arith, none_counted id i (subst (λ n. seen_of n i ≡ None) same h.0))
  | false ↦ λ e. omega (arith, at_most_one id i h.1)
] refl

all_above : (own : ℕ) (i : Image) → ((k : ℕ) (d : ImageFile) → k < length i → own ≤ id_at i k d) → count own i ≡ 0 → AllAbove own i
all_above own [] from none = tt
all_above own (f ∷ i) from none = elim (eqb f.id own) as (λ b. eqb f.id own ≡ b → cond b 1 0 + count own i ≡ 0 → AllAbove own (f ∷ i)) [
  | true ↦ λ e n. absurd (omega (arith, n))
  | false ↦ λ e n. (grind (arith, nat_tests, e, from 0 f (omega arith)), all_above own i (λ k d w. from (suc k) d (omega (arith, w))) (omega (arith, n)))
] refl none

pub rise_sorted : (i : Image) → ((id : ℕ) → count id i ≤ 1) → IsNonDecreasingBy (λ (f : ImageFile). f.id) i → IdsRise i
rise_sorted [] once up = tt
rise_sorted (f ∷ i) once up =
    let alone : count f.id i ≡ 0 = grind (arith, nat_tests, once f.id) in (
      all_above f.id i (λ k d w. up 0 (suc k) d (omega arith) (omega (arith, w))) alone,
      rise_sorted i (λ id. omega (arith, once id)) (λ a b d le w. up (suc a) (suc b) d (omega (arith, le)) (omega (arith, w))),
    )

-- ---- what is seen after a permutation

found_place : (id : ℕ) (i : Image) (f : ImageFile) → seen_of id i ≡ Some f → (f.id ≡ id) × Contains i f
found_place id [] f e = absurd (cc)
found_place id (g ∷ i) f e = elim (eqb g.id id) as (λ b. eqb g.id id ≡ b → cond b (Some g) (seen_of id i) ≡ Some f → (f.id ≡ id) × Contains (g ∷ i) f) [
  | true ↦ λ t s. (ap (λ (h : ImageFile). h.id) (sym (same_head g f s)) ∙ grind (arith, nat_tests, t), (0, omega arith, same_head g f s))
  | false ↦ λ t s. let rest = found_place id i f s in (rest.0, (suc rest.1.0, omega (arith, rest.1.1), rest.1.2))
] refl e

seen_inside : (i : Image) (k : ℕ) (f : ImageFile) → IdsRise i → k < length i → get_or i k f ≡ f → seen_of f.id i ≡ Some f
seen_inside [] k f h w e = absurd (omega arith)
seen_inside (g ∷ i) zero f h w e = grind (arith, nat_tests, e)
seen_inside (g ∷ i) (suc k) f h w e = grind (arith, nat_tests, above_at g.id i k f h.0 (omega (arith, w)), ap (λ (x : ImageFile). x.id) e, seen_inside i k f h.1 (omega (arith, w)) e)

is_there : (id : ℕ) (i : Image) → is_some (seen_of id i) ≡ list_any (λ f. eqb f.id id) i
is_there id [] = refl
is_there id (f ∷ i) = grind (arith, nat_tests, is_there id i)

none_of : (o : Option ImageFile) → is_some o ≡ false → o ≡ None
none_of None e = refl
none_of (Some f) e = absurd (cc)

pub seen_permuted : (id : ℕ) (i j : Image) → IsPermutation i j → IdsRise j → seen_of id j ≡ seen_of id i
seen_permuted id i j p rise = at_seen (seen_of id i) refl
  where
    at_seen : (o : Option ImageFile) → seen_of id i ≡ o → seen_of id j ≡ o
    at_seen None e = none_of (seen_of id j) (is_there id j ∙ sym (list_any-IsPermutation (λ (f : ImageFile). eqb f.id id) i j p) ∙ (sym (is_there id i) ∙ ap is_some e))
    at_seen (Some f) e =
        let place = found_place id i f e in
        let moved = Contains-permutation i j f p place.1 in
        subst (λ n. seen_of n j ≡ Some f) place.0 (seen_inside j moved.0 f rise moved.1 moved.2)

pub sorted_is : (i j : Image) → IdsDiffer i → IsPermutation i j → IsNonDecreasingBy (λ (f : ImageFile). f.id) j → j ≡ by_id i
sorted_is i j differ p up =
    let rise = rise_sorted j (λ id. omega (arith, count_is id i, count_is id j, sum_by-IsPermutation (counts_id id) i j p, at_most_one id i differ)) up in
    same_rising j (by_id i) rise (rise_by_id i differ) (λ id. seen_permuted id i j p rise ∙ sym (seen_by_id id i differ))
