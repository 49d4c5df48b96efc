-- Bytes with zeros behind them, and then their lengths, compare as the bytes do: names and xids are in byte order.
use Rattle.std.proofs.Common.{◌≡◌, ℕ, zero, suc, ◌-◌, Bool, true, false, ◌&&◌, nat_eq, List, [], ◌∷◌, ◌++◌, length, replicate, refl, ap, ◌∙◌, arith}
use Rattle.std.specs.declared.cmp.Ordering.{Ordering}
use Rattle.std.specs.declared.cmp.Ordering.TheVariants.{Less, Equal, Greater}
use Rattle.std.specs.Ordering.{nat_cmp, ordering_then}
use Rattle.std.specs.Cmp.Lexicographic.{slice_cmp, pointwise}
use Rattle.std.proofs.lemmas.Grind.{common_steps}

-- the bytes in n places, with zeros behind them
abbrev filled : ℕ → List ℕ → List ℕ
filled n [] = replicate n 0
filled zero (x ∷ a) = x ∷ a
filled (suc n) (x ∷ a) = x ∷ filled n a

filled_is : (n : ℕ) (a : List ℕ) → a ++ replicate (n - length a) 0 ≡ filled n a
filled_is n [] = grind (arith, common_steps)
filled_is zero (x ∷ a) = grind (arith, common_steps)
filled_is (suc n) (x ∷ a) = grind (arith, common_steps, filled_is n a)

then_assoc : (a b c : Ordering) → ordering_then (ordering_then a b) c ≡ ordering_then a (ordering_then b c)
then_assoc Less b c = refl
then_assoc Equal b c = refl
then_assoc Greater b c = refl

cmp_self : (x : ℕ) → nat_cmp x x ≡ Equal
cmp_self x = grind arith

cmp_suc : (m n : ℕ) → nat_cmp (suc m) (suc n) ≡ nat_cmp m n
cmp_suc m n = grind arith

zero_first : (y : ℕ) (c : Ordering) → c ≡ Less → ordering_then (nat_cmp 0 y) c ≡ Less
zero_first y c h = grind arith

last_if_more : (y : ℕ) (c : Ordering) → c ≡ Greater → ordering_then (nat_cmp y 0) c ≡ Greater
last_if_more y c h = grind arith

-- zeros come first
zeros_first : (n : ℕ) (b : List ℕ) → ordering_then (slice_cmp nat_cmp (replicate n 0) (filled n b)) Less ≡ Less
zeros_first zero [] = refl
zeros_first zero (y ∷ b) = refl
zeros_first (suc n) [] = then_assoc (nat_cmp 0 0) (slice_cmp nat_cmp (replicate n 0) (replicate n 0)) Less ∙ zero_first 0 _ (zeros_first n [])
zeros_first (suc n) (y ∷ b) = then_assoc (nat_cmp 0 y) (slice_cmp nat_cmp (replicate n 0) (filled n b)) Less ∙ zero_first y _ (zeros_first n b)

zeros_last : (n : ℕ) (b : List ℕ) → ordering_then (slice_cmp nat_cmp (filled n b) (replicate n 0)) Greater ≡ Greater
zeros_last zero [] = refl
zeros_last zero (y ∷ b) = refl
zeros_last (suc n) [] = then_assoc (nat_cmp 0 0) (slice_cmp nat_cmp (replicate n 0) (replicate n 0)) Greater ∙ last_if_more 0 _ (zeros_last n [])
zeros_last (suc n) (y ∷ b) = then_assoc (nat_cmp y 0) (slice_cmp nat_cmp (filled n b) (replicate n 0)) Greater ∙ last_if_more y _ (zeros_last n b)

zeros_same : (n : ℕ) → slice_cmp nat_cmp (replicate n 0) (replicate n 0) ≡ Equal
zeros_same zero = refl
zeros_same (suc n) = ap (λ c. ordering_then c (slice_cmp nat_cmp (replicate n 0) (replicate n 0))) (cmp_self 0) ∙ zeros_same n

zero_less : (n : ℕ) → nat_cmp 0 (suc n) ≡ Less
zero_less n = grind arith

more_than_zero : (n : ℕ) → nat_cmp (suc n) 0 ≡ Greater
more_than_zero n = grind arith

-- by the bytes, and then by length
by_length : (a b : List ℕ) → ordering_then (slice_cmp nat_cmp a b) (nat_cmp (length a) (length b)) ≡ slice_cmp nat_cmp a b
by_length [] [] = cmp_self 0
by_length [] (y ∷ b) = refl
by_length (x ∷ a) [] = refl
by_length (x ∷ a) (y ∷ b) =
    then_assoc (nat_cmp x y) (slice_cmp nat_cmp a b) (nat_cmp (suc (length a)) (suc (length b)))
    ∙ ap (λ c. ordering_then (nat_cmp x y) c) (ap (λ c. ordering_then (slice_cmp nat_cmp a b) c) (cmp_suc (length a) (length b)) ∙ by_length a b)

-- filled with zeros, and then by length
by_fill : (n : ℕ) (a b : List ℕ) → ordering_then (slice_cmp nat_cmp (filled n a) (filled n b)) (nat_cmp (length a) (length b)) ≡ slice_cmp nat_cmp a b
by_fill n [] [] = ap (λ c. ordering_then c (nat_cmp 0 0)) (zeros_same n) ∙ cmp_self 0
by_fill n [] (y ∷ b) = ap (λ c. ordering_then (slice_cmp nat_cmp (replicate n 0) (filled n (y ∷ b))) c) (zero_less (length b)) ∙ zeros_first n (y ∷ b)
by_fill n (x ∷ a) [] = ap (λ c. ordering_then (slice_cmp nat_cmp (filled n (x ∷ a)) (replicate n 0)) c) (more_than_zero (length a)) ∙ zeros_last n (x ∷ a)
by_fill zero (x ∷ a) (y ∷ b) =
    then_assoc (nat_cmp x y) (slice_cmp nat_cmp a b) (nat_cmp (suc (length a)) (suc (length b)))
    ∙ ap (λ c. ordering_then (nat_cmp x y) c) (ap (λ c. ordering_then (slice_cmp nat_cmp a b) c) (cmp_suc (length a) (length b)) ∙ by_length a b)
by_fill (suc n) (x ∷ a) (y ∷ b) =
    then_assoc (nat_cmp x y) (slice_cmp nat_cmp (filled n a) (filled n b)) (nat_cmp (suc (length a)) (suc (length b)))
    ∙ ap (λ c. ordering_then (nat_cmp x y) c) (ap (λ c. ordering_then (slice_cmp nat_cmp (filled n a) (filled n b)) c) (cmp_suc (length a) (length b)) ∙ by_fill n a b)

-- as an order of names and of xids is derived, it is byte order
pub by_bytes : (n : ℕ) (a b : List ℕ) → ordering_then (slice_cmp nat_cmp (a ++ replicate (n - length a) 0) (b ++ replicate (n - length b) 0)) (nat_cmp (length a) (length b)) ≡ slice_cmp nat_cmp a b
by_bytes n a b =
    ap (λ c. ordering_then (slice_cmp nat_cmp c (b ++ replicate (n - length b) 0)) (nat_cmp (length a) (length b))) (filled_is n a)
    ∙ ap (λ c. ordering_then (slice_cmp nat_cmp (filled n a) c) (nat_cmp (length a) (length b))) (filled_is n b) ∙ by_fill n a b

-- ---- the same for equality

and_assoc : (a b c : Bool) → ((a && b) && c) ≡ (a && (b && c))
and_assoc true b c = refl
and_assoc false b c = refl

and_false : (a : Bool) → (a && false) ≡ false
and_false true = refl
and_false false = refl

eq_suc : (m n : ℕ) → nat_eq (suc m) (suc n) ≡ nat_eq m n
eq_suc m n = grind arith

zero_differs : (n : ℕ) → nat_eq 0 (suc n) ≡ false
zero_differs n = grind arith

differs_from_zero : (n : ℕ) → nat_eq (suc n) 0 ≡ false
differs_from_zero n = grind arith

zeros_equal : (n : ℕ) → pointwise nat_eq (replicate n 0) (replicate n 0) ≡ true
zeros_equal zero = refl
zeros_equal (suc n) = zeros_equal n

equal_length : (a b : List ℕ) → (pointwise nat_eq a b && nat_eq (length a) (length b)) ≡ pointwise nat_eq a b
equal_length [] [] = refl
equal_length [] (y ∷ b) = refl
equal_length (x ∷ a) [] = refl
equal_length (x ∷ a) (y ∷ b) =
    and_assoc (nat_eq x y) (pointwise nat_eq a b) (nat_eq (suc (length a)) (suc (length b)))
    ∙ ap (λ c. nat_eq x y && c) (ap (λ c. pointwise nat_eq a b && c) (eq_suc (length a) (length b)) ∙ equal_length a b)

equal_fill : (n : ℕ) (a b : List ℕ) → (pointwise nat_eq (filled n a) (filled n b) && nat_eq (length a) (length b)) ≡ pointwise nat_eq a b
equal_fill n [] [] = ap (λ c. c && nat_eq 0 0) (zeros_equal n)
equal_fill n [] (y ∷ b) = ap (λ c. pointwise nat_eq (replicate n 0) (filled n (y ∷ b)) && c) (zero_differs (length b)) ∙ and_false (pointwise nat_eq (replicate n 0) (filled n (y ∷ b)))
equal_fill n (x ∷ a) [] = ap (λ c. pointwise nat_eq (filled n (x ∷ a)) (replicate n 0) && c) (differs_from_zero (length a)) ∙ and_false (pointwise nat_eq (filled n (x ∷ a)) (replicate n 0))
equal_fill zero (x ∷ a) (y ∷ b) =
    and_assoc (nat_eq x y) (pointwise nat_eq a b) (nat_eq (suc (length a)) (suc (length b)))
    ∙ ap (λ c. nat_eq x y && c) (ap (λ c. pointwise nat_eq a b && c) (eq_suc (length a) (length b)) ∙ equal_length a b)
equal_fill (suc n) (x ∷ a) (y ∷ b) =
    and_assoc (nat_eq x y) (pointwise nat_eq (filled n a) (filled n b)) (nat_eq (suc (length a)) (suc (length b)))
    ∙ ap (λ c. nat_eq x y && c) (ap (λ c. pointwise nat_eq (filled n a) (filled n b) && c) (eq_suc (length a) (length b)) ∙ equal_fill n a b)

-- as equality of names and of xids is derived, it is that of the bytes
pub equal_bytes : (n : ℕ) (a b : List ℕ) → (pointwise nat_eq (a ++ replicate (n - length a) 0) (b ++ replicate (n - length b) 0) && nat_eq (length a) (length b)) ≡ pointwise nat_eq a b
equal_bytes n a b =
    ap (λ c. pointwise nat_eq c (b ++ replicate (n - length b) 0) && nat_eq (length a) (length b)) (filled_is n a)
    ∙ ap (λ c. pointwise nat_eq (filled n a) c && nat_eq (length a) (length b)) (filled_is n b) ∙ equal_fill n a b

-- as functions
pub order_is_bytes : (n : ℕ) → (λ (a b : List ℕ). ordering_then (slice_cmp nat_cmp (a ++ replicate (n - length a) 0) (b ++ replicate (n - length b) 0)) (nat_cmp (length a) (length b))) ≡ slice_cmp nat_cmp
order_is_bytes n = λ i a b. by_bytes n a b i

pub equality_is_bytes : (n : ℕ) → (λ (a b : List ℕ). pointwise nat_eq (a ++ replicate (n - length a) 0) (b ++ replicate (n - length b) 0) && nat_eq (length a) (length b)) ≡ pointwise nat_eq
equality_is_bytes n = λ i a b. equal_bytes n a b i
