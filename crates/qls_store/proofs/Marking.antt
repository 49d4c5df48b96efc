-- A list in order of a key, in which the one of a key changes: who of it passes a test.
use Rattle.std.proofs.Common.{◌≡◌, ℕ, Bool, true, false, cond, List, [], ◌∷◌, map, Some, refl, ap, sym, subst, ◌∙◌}
use Rattle.std.specs.List.{AllByRecursion, filter}
use Rattle.qls_model.specs.Bytes.{same, comes_before}
use Rattle.qls_model.proofs.XidKeys.{same_true}
use Rattle.qls_store.specs.Table.{Rises, with_name}
use Rattle.qls_store.proofs.Keys.{Before, AllBehind, Lacks, keyed, lacks_behind, before_differs, behind_differs, not_before, not_both, all_weaken}

module _ {A : Type 0} (key : A → List ℕ) (n : List ℕ) (f : A → A) where
  abbrev pub change : List A → List A
  change xs = map (λ a. cond (same (key a) n) (f a) a) xs

  -- where one is found by the key, no other has it
  pub only_found : (xs : List A) (x : A) → Rises key xs → keyed key n xs ≡ Some x → AllByRecursion (λ a. same (key a) n ≡ true → a ≡ x) xs
  only_found [] x r e = tt
  only_found (y ∷ xs) x r e = by (λ k. only_found xs x r.1 k) (same (key y) n) refl e
    where
      some_is : {B : Type 0} {a b : B} → Some a ≡ Some b → a ≡ b
      some_is e = cc

      by : (keyed key n xs ≡ Some x → AllByRecursion (λ a. same (key a) n ≡ true → a ≡ x) xs) → (b : Bool) → same (key y) n ≡ b → cond b (Some y) (keyed key n xs) ≡ Some x → AllByRecursion (λ a. same (key a) n ≡ true → a ≡ x) (y ∷ xs)
      by rest true is e =
          let behind : Lacks key n xs = subst (λ k. Lacks key k xs) (same_true (key y) n is) (lacks_behind key (key y) xs r.0) in
          (λ k. some_is e, all_weaken (λ a. same (key a) n ≡ false) (λ a. same (key a) n ≡ true → a ≡ x) (λ a l k. absurd (not_both (sym k ∙ l))) xs behind)
      by rest false is e = (λ k. absurd (not_both (sym k ∙ is)), rest e)

  -- what is of the one found, or of any
  pub change_all : (P : A → Type 0) (xs : List A) (x : A) → AllByRecursion (λ a. same (key a) n ≡ true → a ≡ x) xs → AllByRecursion P xs → P (f x) → AllByRecursion P (change xs)
  change_all P [] x only h k = tt
  change_all P (y ∷ xs) x only h k = (by (same (key y) n) refl, change_all P xs x only.1 h.1 k)
    where
      by : (b : Bool) → same (key y) n ≡ b → P (cond b (f y) y)
      by true is = subst (λ a. P (f a)) (sym (only.0 is)) k
      by false is = h.0

  change_none : (xs : List A) → Lacks key n xs → change xs ≡ xs
  change_none [] h = refl
  change_none (y ∷ xs) h = λ i. cond (h.0 i) (f y) y ∷ change_none xs h.1 i

  -- the one that is found has the key, and what all have
  pub found_has : (P : A → Type 0) (xs : List A) (x : A) → AllByRecursion P xs → keyed key n xs ≡ Some x → P x × (key x ≡ n)
  found_has P [] x h e = absurd (cc)
  found_has P (y ∷ xs) x h e = by (λ k. found_has P xs x h.1 k) (same (key y) n) refl e
    where
      some_is : {B : Type 0} {a b : B} → Some a ≡ Some b → a ≡ b
      some_is e = cc

      by : (keyed key n xs ≡ Some x → P x × (key x ≡ n)) → (b : Bool) → same (key y) n ≡ b → cond b (Some y) (keyed key n xs) ≡ Some x → P x × (key x ≡ n)
      by rest true is e = (subst P (some_is e) h.0, ap key (sym (some_is e)) ∙ same_true (key y) n is)
      by rest false is e = rest e

  module _ (p : A → Bool) where
    abbrev pub passing : List A → List (List ℕ)
    passing xs = map key (filter p xs)

    abbrev ahead : Bool → List ℕ → List (List ℕ) → List (List ℕ)
    ahead b m ms = cond b (m ∷ ms) ms

    head : (y : A) (xs : List A) → passing (y ∷ xs) ≡ ahead (p y) (key y) (passing xs)
    head y xs = elim (p y) as (λ b. map key (cond b (y ∷ filter p xs) (filter p xs)) ≡ ahead b (key y) (passing xs)) [ true ↦ refl | false ↦ refl ]

    -- where the one that changes passes as before, all do
    pub passing_same : (xs : List A) (x : A) → AllByRecursion (λ a. same (key a) n ≡ true → a ≡ x) xs → key (f x) ≡ key x → p (f x) ≡ p x → passing (change xs) ≡ passing xs
    passing_same [] x only k e = refl
    passing_same (y ∷ xs) x only k e =
        let ih : passing (change xs) ≡ passing xs = passing_same xs x only.1 k e in
        let here : (key (cond (same (key y) n) (f y) y) ≡ key y) × (p (cond (same (key y) n) (f y) y) ≡ p y) = by (same (key y) n) refl in
        head (cond (same (key y) n) (f y) y) (change xs) ∙ (λ i. ahead (here.1 i) (here.0 i) (ih i)) ∙ sym (head y xs)
      where
        by : (b : Bool) → same (key y) n ≡ b → (key (cond b (f y) y) ≡ key y) × (p (cond b (f y) y) ≡ p y)
        by true is = subst (λ a. (key (f a) ≡ key a) × (p (f a) ≡ p a)) (sym (only.0 is)) (k, e)
        by false is = (refl, refl)

    all_passing : (k : List ℕ) (xs : List A) → AllBehind key k xs → AllByRecursion (λ m. comes_before k m ≡ true) (passing xs)
    all_passing k [] h = tt
    all_passing k (y ∷ xs) h =
        elim (p y) as (λ b. AllByRecursion (λ m. comes_before k m ≡ true) (map key (cond b (y ∷ filter p xs) (filter p xs)))) [ true ↦ (h.0, all_passing k xs h.1) | false ↦ all_passing k xs h.1 ]

    front : (ms : List (List ℕ)) → AllByRecursion (λ m. comes_before n m ≡ true) ms → with_name n ms ≡ n ∷ ms
    front [] h = refl
    front (m ∷ ms) h = λ j. cond (behind_differs m n h.0 j) (m ∷ ms) (cond (h.0 j) (n ∷ m ∷ ms) (m ∷ with_name n ms))

    named_ahead : (b : Bool) (m : List ℕ) (ms : List (List ℕ)) → Before m n → with_name n (ahead b m ms) ≡ ahead b m (with_name n ms)
    named_ahead true m ms h = λ j. cond (before_differs m n h j) (m ∷ ms) (cond (not_before n m h j) (n ∷ m ∷ ms) (m ∷ with_name n ms))
    named_ahead false m ms h = refl

    named_first : (b : Bool) (m : List ℕ) (ms : List (List ℕ)) → same m n ≡ true → AllByRecursion (λ k. comes_before n k ≡ true) ms → with_name n (ahead b m ms) ≡ n ∷ ms
    named_first true m ms is h = (λ j. cond (is j) (m ∷ ms) (cond (comes_before n m) (n ∷ m ∷ ms) (m ∷ with_name n ms))) ∙ ap (λ k. k ∷ ms) (same_true m n is)
    named_first false m ms is h = front ms h

    -- where the one that changes passes then, its key is among those that pass
    pub passing_marked : (xs : List A) (x : A) → Rises key xs → keyed key n xs ≡ Some x → key (f x) ≡ key x → p (f x) ≡ true → passing (change xs) ≡ with_name n (passing xs)
    passing_marked [] x r e k t = absurd (cc)
    passing_marked (y ∷ xs) x r e k t = by (λ l. passing_marked xs x r.1 l k t) (same (key y) n) refl e
      where
        some_is : {B : Type 0} {a b : B} → Some a ≡ Some b → a ≡ b
        some_is e = cc

        by : (keyed key n xs ≡ Some x → passing (change xs) ≡ with_name n (passing xs)) → (b : Bool) → same (key y) n ≡ b → cond b (Some y) (keyed key n xs) ≡ Some x → passing (cond b (f y) y ∷ change xs) ≡ with_name n (passing (y ∷ xs))
        by rest true is e =
            let here : y ≡ x = some_is e in
            let there : key y ≡ n = same_true (key y) n is in
            let lacks : Lacks key n xs = subst (λ m. Lacks key m xs) there (lacks_behind key (key y) xs r.0) in
            let behind : AllByRecursion (λ m. comes_before n m ≡ true) (passing xs) = subst (λ m. AllByRecursion (λ l. comes_before m l ≡ true) (passing xs)) there (all_passing (key y) xs r.0) in
            let passes : p (f y) ≡ true = ap (λ a. p (f a)) here ∙ t in
            let named : key (f y) ≡ n = ap (λ a. key (f a)) here ∙ k ∙ sym (ap key here) ∙ there in
            head (f y) (change xs) ∙ (λ i. ahead (passes i) (named i) (passing (change_none xs lacks i)))
            ∙ sym (ap (with_name n) (head y xs) ∙ named_first (p y) (key y) (passing xs) is behind)
        by rest false is e =
            let b = found_has (λ a. comes_before (key y) (key a) ≡ true) xs x r.0 e in
            let before : Before (key y) n = subst (λ m. comes_before (key y) m ≡ true) b.1 b.0 in
            head y (change xs) ∙ ap (ahead (p y) (key y)) (rest e)
            ∙ sym (ap (with_name n) (head y xs) ∙ named_ahead (p y) (key y) (passing xs) before)
