-- The files of a journal by number, without the first or the last of them.
use Rattle.std.proofs.Common.{◌≡◌, ℕ, ◌+◌, ◌<◌, ◌≤◌, Bool, true, false, cond, ◌&&◌, ◌||◌, List, [], ◌∷◌, ◌++◌, drop, Ok, refl, sym, ap, ap₂, ◌∙◌, subst, arith, eqb, ltb}
use Rattle.std.proofs.lemmas.Bool.Decides.{nat_tests}
use Rattle.std.specs.List.{AllByRecursion}
use Rattle.qls_meaning.specs.Journals.{Headed, with_numbered, by_number}
use Rattle.qls_meaning.specs.Damage.{next_claims, chain_claims}
use Rattle.qls_laws.proofs.Claimed.{next_ok}
use Rattle.qls_laws.proofs.Returned.{AllAbove, numbers_rise}
use Rattle.qls_epochs.proofs.Alls.{all_by, all_both, all_two, all_but}
use Rattle.qls_epochs.proofs.Trimmed.{same_last}

-- ---- how many have a number

abbrev counted : ℕ → List Headed → ℕ
counted n [] = 0
counted n (f ∷ fs) = cond (eqb f.header.number n) 1 0 + counted n fs

counted_with : (n : ℕ) (f : Headed) (fs : List Headed) → counted n (with_numbered f fs) ≡ cond (eqb f.header.number n) 1 0 + counted n fs
counted_with n f [] = refl
counted_with n f (g ∷ fs) =
    elim (ltb f.header.number g.header.number || (eqb f.header.number g.header.number && ltb f.id g.id)) as (λ b. counted n (cond b (f ∷ g ∷ fs) (g ∷ with_numbered f fs)) ≡ cond (eqb f.header.number n) 1 0 + (cond (eqb g.header.number n) 1 0 + counted n fs)) [
      | true ↦ refl
      | false ↦ let rest = counted_with n f fs in omega (arith, rest)
    ]

counted_sorted : (n : ℕ) (fs : List Headed) → counted n (by_number fs) ≡ counted n fs
counted_sorted n [] = refl
counted_sorted n (f ∷ fs) = counted_with n f (by_number fs) ∙ ap (λ k. cond (eqb f.header.number n) 1 0 + k) (counted_sorted n fs)

counted_both : (n : ℕ) (xs ys : List Headed) → counted n (xs ++ ys) ≡ counted n xs + counted n ys
counted_both n [] ys = omega arith
counted_both n (x ∷ xs) ys = let rest = counted_both n xs ys in omega (arith, rest)

abbrev Others : ℕ → List Headed → Type 0
Others n fs = AllByRecursion (λ f. f.header.number ≡ n → ⊥) fs

not_equal_to : (m n : ℕ) → (m ≡ n → ⊥) → eqb m n ≡ false
not_equal_to m n h = by (eqb m n) refl
  where
    is : (m n : ℕ) → eqb m n ≡ true → m ≡ n
    is m n e = grind (arith, nat_tests)

    by : (b : Bool) → eqb m n ≡ b → eqb m n ≡ false
    by true e = absurd (h (is m n e))
    by false e = e

none_counted : (n : ℕ) (fs : List Headed) → Others n fs → counted n fs ≡ 0
none_counted n [] a = refl
none_counted n (f ∷ fs) a = ap (λ b. cond b 1 0 + counted n fs) (not_equal_to f.header.number n a.0) ∙ (let rest = none_counted n fs a.1 in omega (arith, rest))

others_if : (n : ℕ) (fs : List Headed) → counted n fs ≡ 0 → Others n fs
others_if n [] c = tt
others_if n (f ∷ fs) c = (λ e. absurd (one (eqb f.header.number n) (same f.header.number n e) c), others_if n fs (rest (eqb f.header.number n) c))
  where
    same : (m n : ℕ) → m ≡ n → eqb m n ≡ true
    same m n e = grind (arith, nat_tests)

    one : (b : Bool) → b ≡ true → cond b 1 0 + counted n fs ≡ 0 → ⊥
    one true e c = omega (arith, c)
    one false e c = absurd (cc)

    rest : (b : Bool) → cond b 1 0 + counted n fs ≡ 0 → counted n fs ≡ 0
    rest true c = absurd (omega (arith, c))
    rest false c = omega (arith, c)

-- ---- what holds of all, in any order

numbered_back : (P : Headed → Type 0) (f : Headed) (fs : List Headed) → AllByRecursion P (with_numbered f fs) → P f × AllByRecursion P fs
numbered_back P f [] h = (h.0, tt)
numbered_back P f (g ∷ fs) h = by (ltb f.header.number g.header.number || (eqb f.header.number g.header.number && ltb f.id g.id)) h (numbered_back P f fs)
  where
    by : (b : Bool) → AllByRecursion P (cond b (f ∷ g ∷ fs) (g ∷ with_numbered f fs)) → (AllByRecursion P (with_numbered f fs) → P f × AllByRecursion P fs) → P f × AllByRecursion P (g ∷ fs)
    by true k rest = k
    by false k rest = let r = rest k.1 in (r.0, (k.0, r.1))

sorted_back : (P : Headed → Type 0) (fs : List Headed) → AllByRecursion P (by_number fs) → AllByRecursion P fs
sorted_back P [] h = tt
sorted_back P (f ∷ fs) h = let both = numbered_back P f (by_number fs) h in (both.0, sorted_back P fs both.1)

numbered_all : (P : Headed → Type 0) (f : Headed) (fs : List Headed) → P f → AllByRecursion P fs → AllByRecursion P (with_numbered f fs)
numbered_all P f [] p h = (p, tt)
numbered_all P f (g ∷ fs) p h =
    elim (ltb f.header.number g.header.number || (eqb f.header.number g.header.number && ltb f.id g.id)) as (λ b. AllByRecursion P (cond b (f ∷ g ∷ fs) (g ∷ with_numbered f fs))) [ true ↦ (p, h) | false ↦ (h.0, numbered_all P f fs p h.1) ]

sorted_all : (P : Headed → Type 0) (fs : List Headed) → AllByRecursion P fs → AllByRecursion P (by_number fs)
sorted_all P [] h = tt
sorted_all P (f ∷ fs) h = numbered_all P f (by_number fs) h.0 (sorted_all P fs h.1)

-- one of them alone has its number
only_one_has : (xs : List Headed) (h : Headed) (ys low high : List Headed) → by_number (xs ++ h ∷ ys) ≡ low ++ h ∷ high → Others h.header.number low → Others h.header.number high → Others h.header.number (xs ++ ys)
only_one_has xs h ys low high e a b =
    let n : ℕ = h.header.number in
    let one : (gs : List Headed) → counted n (h ∷ gs) ≡ 1 + counted n gs = λ gs. ap (λ t. cond t 1 0 + counted n gs) (own n) in
    let sorted : counted n (xs ++ h ∷ ys) ≡ counted n (low ++ h ∷ high) = sym (counted_sorted n (xs ++ h ∷ ys)) ∙ ap (counted n) e in
    let there = counted_both n low (h ∷ high) in
    let here = counted_both n xs (h ∷ ys) in
    let parts = counted_both n xs ys in
    let none = none_counted n low a in
    let nor = none_counted n high b in
    let first = one high in
    let second = one ys in
    others_if n (xs ++ ys) (omega (arith, sorted, there, here, parts, none, nor, first, second))
  where
    own : (n : ℕ) → eqb n n ≡ true
    own n = grind (arith, nat_tests)

-- ---- the first

less : (m n : ℕ) → m < n → ltb m n ≡ true
less m n h = grind (arith, nat_tests)

not_less : (m n : ℕ) → n < m → ltb m n ≡ false
not_less m n h = grind (arith, nat_tests)

not_equal : (m n : ℕ) → n < m → eqb m n ≡ false
not_equal m n h = grind (arith, nat_tests)

first_with : (h : Headed) (fs : List Headed) → AllAbove h.header.number fs → with_numbered h fs ≡ h ∷ fs
first_with h [] a = refl
first_with h (f ∷ fs) a = ap (λ b. cond (b || (eqb h.header.number f.header.number && ltb h.id f.id)) (h ∷ f ∷ fs) (f ∷ with_numbered h fs)) (less h.header.number f.header.number a.0)

behind_first : (x h : Headed) (fs : List Headed) → h.header.number < x.header.number → with_numbered x (h ∷ fs) ≡ h ∷ with_numbered x fs
behind_first x h fs l =
    ap₂ (λ b c. cond (b || (c && ltb x.id h.id)) (x ∷ h ∷ fs) (h ∷ with_numbered x fs)) (not_less x.header.number h.header.number l) (not_equal x.header.number h.header.number l)

first_sorted : (xs : List Headed) (h : Headed) (ys : List Headed) → AllAbove h.header.number (xs ++ ys) → by_number (xs ++ h ∷ ys) ≡ h ∷ by_number (xs ++ ys)
first_sorted [] h ys a = first_with h (by_number ys) (sorted_all (λ f. h.header.number < f.header.number) ys a)
first_sorted (x ∷ xs) h ys a = ap (with_numbered x) (first_sorted xs h ys a.1) ∙ behind_first x h (by_number (xs ++ ys)) a.0

pub first_of : (xs : List Headed) (h : Headed) (ys rest : List Headed) → by_number (xs ++ h ∷ ys) ≡ h ∷ rest → chain_claims (h ∷ rest) ≡ Ok tt → by_number (xs ++ ys) ≡ rest
first_of xs h ys rest e chain =
    let n : ℕ = h.header.number in
    let above : AllAbove n rest = numbers_rise h rest chain in
    let others : Others n (xs ++ ys) = only_one_has xs h ys [] rest e tt (all_by (λ f. n < f.header.number) (λ f. f.header.number ≡ n → ⊥) (λ f l k. omega (arith, l, k)) rest above) in
    let low : AllByRecursion (λ f. n ≤ f.header.number) (xs ++ h ∷ ys) =
    sorted_back (λ f. n ≤ f.header.number) (xs ++ h ∷ ys)
    (subst (AllByRecursion (λ f. n ≤ f.header.number)) (sym e) (omega arith, all_by (λ f. n < f.header.number) (λ f. n ≤ f.header.number) (λ f l. omega (arith, l)) rest above)) in
    let all : AllAbove n (xs ++ ys) =
    all_two (λ f. n ≤ f.header.number) (λ f. f.header.number ≡ n → ⊥) (λ f. n < f.header.number) (λ f l d. more f.header.number n l d) (xs ++ ys) (all_but (λ f. n ≤ f.header.number) xs h ys low) others in
    ap (drop 1) (sym (first_sorted xs h ys all) ∙ e)
  where
    more : (m n : ℕ) → n ≤ m → (m ≡ n → ⊥) → n < m
    more m n l d = omega (arith, l, d)

-- ---- the last

abbrev AllBelow : ℕ → List Headed → Type 0
AllBelow n fs = AllByRecursion (λ f. f.header.number < n) fs

last_with : (h : Headed) (fs : List Headed) → AllBelow h.header.number fs → with_numbered h fs ≡ fs ++ h ∷ []
last_with h [] a = refl
last_with h (f ∷ fs) a =
    ap₂ (λ b c. cond (b || (c && ltb h.id f.id)) (h ∷ f ∷ fs) (f ∷ with_numbered h fs)) (not_less h.header.number f.header.number a.0) (not_equal h.header.number f.header.number a.0)
    ∙ ap (λ (gs : List Headed). f ∷ gs) (last_with h fs a.1)

before_last : (x h : Headed) (fs : List Headed) → x.header.number < h.header.number → with_numbered x (fs ++ h ∷ []) ≡ with_numbered x fs ++ h ∷ []
before_last x h [] l = ap (λ b. cond (b || (eqb x.header.number h.header.number && ltb x.id h.id)) (x ∷ h ∷ []) (h ∷ x ∷ [])) (less x.header.number h.header.number l)
before_last x h (f ∷ fs) l =
    elim (ltb x.header.number f.header.number || (eqb x.header.number f.header.number && ltb x.id f.id)) as (λ b. cond b (x ∷ f ∷ (fs ++ h ∷ [])) (f ∷ with_numbered x (fs ++ h ∷ [])) ≡ cond b (x ∷ f ∷ fs) (f ∷ with_numbered x fs) ++ h ∷ []) [
      | true ↦ refl
      | false ↦ ap (λ (gs : List Headed). f ∷ gs) (before_last x h fs l)
    ]

last_sorted : (xs : List Headed) (h : Headed) (ys : List Headed) → AllBelow h.header.number (xs ++ ys) → by_number (xs ++ h ∷ ys) ≡ by_number (xs ++ ys) ++ h ∷ []
last_sorted [] h ys a = last_with h (by_number ys) (sorted_all (λ f. f.header.number < h.header.number) ys a)
last_sorted (x ∷ xs) h ys a = ap (with_numbered x) (last_sorted xs h ys a.1) ∙ before_last x h (by_number (xs ++ ys)) a.0

all_last : (P : Headed → Type 0) (fs : List Headed) (h : Headed) → AllByRecursion P (fs ++ h ∷ []) → P h
all_last P [] h a = a.0
all_last P (f ∷ fs) h a = all_last P fs h a.1

tail_chain : (f : Headed) (fs : List Headed) → chain_claims (f ∷ fs) ≡ Ok tt → chain_claims fs ≡ Ok tt
tail_chain f [] h = refl
tail_chain f (g ∷ fs) h = (next_ok (next_claims f g) (chain_claims (g ∷ fs)) h).1

below_last : (fs : List Headed) (h : Headed) → chain_claims (fs ++ h ∷ []) ≡ Ok tt → AllBelow h.header.number fs
below_last [] h c = tt
below_last (f ∷ fs) h c = (all_last (λ g. f.header.number < g.header.number) fs h (numbers_rise f (fs ++ h ∷ []) c), below_last fs h (tail_chain f (fs ++ h ∷ []) c))

pub last_of : (xs : List Headed) (h : Headed) (ys rest : List Headed) → by_number (xs ++ h ∷ ys) ≡ rest ++ h ∷ [] → chain_claims (rest ++ h ∷ []) ≡ Ok tt → by_number (xs ++ ys) ≡ rest
last_of xs h ys rest e chain =
    let n : ℕ = h.header.number in
    let below : AllBelow n rest = below_last rest h chain in
    let others : Others n (xs ++ ys) = only_one_has xs h ys rest [] e (all_by (λ f. f.header.number < n) (λ f. f.header.number ≡ n → ⊥) (λ f l k. omega (arith, l, k)) rest below) tt in
    let high : AllByRecursion (λ f. f.header.number ≤ n) (xs ++ h ∷ ys) =
    sorted_back (λ f. f.header.number ≤ n) (xs ++ h ∷ ys)
    (subst (AllByRecursion (λ f. f.header.number ≤ n)) (sym e)
    (all_both (λ f. f.header.number ≤ n) rest (h ∷ []) (all_by (λ f. f.header.number < n) (λ f. f.header.number ≤ n) (λ f l. omega (arith, l)) rest below) (omega arith, tt))) in
    let all : AllBelow n (xs ++ ys) =
    all_two (λ f. f.header.number ≤ n) (λ f. f.header.number ≡ n → ⊥) (λ f. f.header.number < n) (λ f l d. fewer f.header.number n l d) (xs ++ ys) (all_but (λ f. f.header.number ≤ n) xs h ys high) others in
    (same_last (by_number (xs ++ ys)) rest h h (sym (last_sorted xs h ys all) ∙ e)).0
  where
    fewer : (m n : ℕ) → m ≤ n → (m ≡ n → ⊥) → m < n
    fewer m n l d = omega (arith, l, d)
