-- A list whose items are changed one after the other.
use Rattle.std.proofs.Common.{◌≡◌, ℕ, zero, suc, ◌+◌, ◌<◌, List, [], ◌∷◌, ◌++◌, length, map, take, drop, get_or, set, refl, sym, ap, ◌∙◌, add-one, arith}

module _ {A : Type 0} (f : A → A) where
  -- the first i are changed
  abbrev pub first_mapped : ℕ → List A → List A
  first_mapped i xs = map f (take i xs) ++ drop i xs

  next : (xs : List A) (i : ℕ) (d : A) → i < length xs → set (first_mapped i xs) i (f (get_or (first_mapped i xs) i d)) ≡ first_mapped (suc i) xs
  next [] i d within = absurd (omega arith)
  next (x ∷ xs) zero d within = refl
  next (x ∷ xs) (suc i) d within = ap (λ ys. f x ∷ ys) (next xs i d (omega arith))

  pub next_mapped : (xs ys : List A) (i : ℕ) (v d : A) → i < length xs → ys ≡ first_mapped i xs → v ≡ f (get_or ys i d) → set ys i v ≡ first_mapped (i + 1) xs
  next_mapped xs ys i v d within is to =
      ap (λ zs. set zs i v) is ∙ ap (set (first_mapped i xs) i) (to ∙ ap (λ zs. f (get_or zs i d)) is)
      ∙ next xs i d within ∙ ap (λ n. first_mapped n xs) (sym (add-one i))
