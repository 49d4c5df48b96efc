-- Numbers of decimal digits.
use Rattle.std.proofs.Common.{◌≡◌, ℕ, suc, ◌+◌, ◌-◌, ◌*◌, ◌^◌, ◌<◌, ◌≤◌, Bool, true, false, ◌&&◌, ◌==◌, nat_lt, List, [], ◌∷◌, length, refl, ap, sym, ◌∙◌, arith, get_or, lit<, subst, None, inl, inr, rules, mul-le-mul_right, mul_assoc, mul_comm}
use Rattle.std.proofs.lemmas.Bool.{cases_eq}
use Rattle.std.proofs.lemmas.Grind.{pow_more}
use Rattle.std.proofs.lemmas.Str.Parse.{IsNumeralModel, numerals_by_fold, tells_all_ascii_digits, digits_value_short}
use Rattle.std.proofs.lemmas.Fmt.{decimal-digits_value, decimal_is_IsNumeral_wide, first_decimal, decimal_digit}
use Rattle.std.proofs.lemmas.Slice.Eq.{bytes_eq-Decides}
use Rattle.std.specs.List.{fold}
use Rattle.std.specs.Fmt.{decimal}
use Rattle.std.specs.Str.{all_ascii_digits}
use Rattle.std.proofs.Math.Nat.{pow-le-pow_right, pow-suc}
use Rattle.qls_model.specs.Bytes.{same}
use Rattle.qls_command.specs.Lines.{digits_value, number_of_word, where_true}

-- one more digit
abbrev pub with_digit : ℕ → ℕ → ℕ
with_digit n b = 10 * n + (b - 48)

pub with_digit-below : (n d i : ℕ) → n < 10 ^ i → d < 10 → 10 * n + d < 10 ^ (i + 1)
with_digit-below n d i h g = let e : 10 ^ (i + 1) ≡ 10 ^ i * 10 = pow_more 10 i in omega arith

-- one more digit before the twentieth fits
pub with_digit-fits : (n d i : ℕ) → n < 10 ^ i → d < 10 → i < 19 → 10 * n + d < 10 ^ 19
with_digit-fits n d i h g few =
    let room : i + 1 ≤ 19 = omega arith in
    let k : 10 ^ (i + 1) ≤ 10 ^ 19 = pow-le-pow_right (lit< tt) room in
    let below = with_digit-below n d i h g in
    omega arith

own : IsNumeralModel (λ ds. all_ascii_digits ds ≡ true) digits_value
own = numerals_by_fold _ tells_all_ascii_digits (fold with_digit) (search rules)

abbrev pub AllBytes : List ℕ → Type 0
AllBytes w = (i : ℕ) → get_or w i 0 < 256

widened : (n d p q : ℕ) → d < 256 → q ≡ p * 1000 → (10 * n + d + 1) * p ≤ (n + 1) * q
widened n d p q h e =
    let step : (10 * n + d + 1) * p ≤ ((n + 1) * 1000) * p = mul-le-mul_right p (omega arith) in
    let regroup : ((n + 1) * 1000) * p ≡ (n + 1) * q = mul_assoc (n + 1) 1000 p ∙ ap (λ k. (n + 1) * k) (mul_comm 1000 p ∙ sym e) in
    omega (arith, step, regroup)

-- the digits' value, whatever the bytes are
fold-below : (w : List ℕ) (n : ℕ) → AllBytes w → fold with_digit n w < (n + 1) * 1000 ^ length w
fold-below [] n h = omega arith
fold-below (b ∷ w) n h =
    let first : b < 256 = h 0 in
    let rest = fold-below w (with_digit n b) (λ i. h (suc i)) in
    let step = widened n (b - 48) (1000 ^ length w) (1000 ^ suc (length w)) (omega arith) (pow-suc 1000 (length w)) in
    omega (arith, rest, step)

value-below : (w : List ℕ) → AllBytes w → length w < 20 → digits_value w < 10 ^ 64
value-below w h few =
    let room : length w ≤ 19 = omega arith in
    let k : 1000 ^ length w ≤ 1000 ^ 19 = pow-le-pow_right (lit< tt) room in
    let below = fold-below w 0 h in
    omega arith

equal_tests : (a b : Bool) → (a ≡ true → b ≡ true) → (b ≡ true → a ≡ true) → a ≡ b
equal_tests true true h g = refl
equal_tests true false h g = sym (h refl)
equal_tests false true h g = g refl
equal_tests false false h g = refl

-- the decimal text of a word's value is the word only where it is digits
only_digits : (w : List ℕ) → AllBytes w → length w < 20 → same w (decimal (digits_value w)) ≡ true → all_ascii_digits w ≡ true
only_digits w h few e =
    let is : w ≡ decimal (digits_value w) = (bytes_eq-Decides w (decimal (digits_value w))).0 e in
    let numeral = decimal_is_IsNumeral_wide (digits_value w) (value-below w h few) in
    let P : List ℕ → Type 0 = λ v. all_ascii_digits v ≡ true in
    subst P (sym is) (own.from (decimal (digits_value w)) numeral.0.1)

digits_below : (w : List ℕ) → length w < 20 → all_ascii_digits w ≡ true → digits_value w < 2 ^ 64
digits_below w few digits = let k = digits_value_short own w 19 digits (omega arith) in omega arith

-- which words are numbers
pub number_test : (w : List ℕ) → AllBytes w → 0 < length w → length w < 20 → (get_or w 0 0 ≡ 48 → length w ≡ 1)
    → same w (decimal (digits_value w)) ≡ all_ascii_digits w
number_test w h some few lead =
    equal_tests _ _ (only_digits w h few)
    (λ digits. (bytes_eq-Decides w (decimal (digits_value w))).1 (sym (decimal-digits_value own w digits some lead (digits_below w few digits))))

-- a zero stands before other digits
abbrev pub leads_with_zero : List ℕ → Bool
leads_with_zero w = nat_lt 1 (length w) && get_or w 0 0 == 48

zero_alone : (w : List ℕ) → 0 < length w → leads_with_zero w ≡ false → get_or w 0 0 ≡ 48 → length w ≡ 1
zero_alone w some none zero = grind arith

pub number-digits : (w : List ℕ) → AllBytes w → 0 < length w → length w < 20 → leads_with_zero w ≡ false
    → where_true (all_ascii_digits w) (digits_value w) ≡ number_of_word w
number-digits w h some few none = let e = number_test w h some few (zero_alone w some none) in grind (arith, e)

pub number-long : (w : List ℕ) → 19 < length w → number_of_word w ≡ None
number-long w long = grind arith

false_by : (b : Bool) → (b ≡ true → ⊥) → b ≡ false
false_by true h = absurd (h refl)
false_by false h = refl

pub number-empty : (w : List ℕ) → length w ≡ 0 → number_of_word w ≡ None
number-empty [] h = let e : decimal 0 ≡ 48 ∷ [] = decimal_digit 0 (lit< tt) in rw e refl
number-empty (b ∷ w) h = absurd (omega arith)

-- a leading zero
zero_first : (w : List ℕ) → AllBytes w → length w < 20 → get_or w 0 0 ≡ 48 → 1 < length w → same w (decimal (digits_value w)) ≡ true → ⊥
zero_first w h few lead long e =
    let is : w ≡ decimal (digits_value w) = (bytes_eq-Decides w (decimal (digits_value w))).0 e in
    let below = digits_below w few (only_digits w h few e) in
    elim (cases_eq (digits_value w) 0) [
      | inl none ↦
          let k : decimal 0 ≡ 48 ∷ [] = decimal_digit 0 (lit< tt) in
          let one : w ≡ 48 ∷ [] = cc in
          omega (arith, ap length one)
      | inr more ↦
          let first = first_decimal (digits_value w) (omega arith) below in
          let same_first : get_or (decimal (digits_value w)) 0 0 ≡ 48 = cc in
          omega arith
    ]

leads : (w : List ℕ) → leads_with_zero w ≡ true → (get_or w 0 0 ≡ 48) × (1 < length w)
leads w h = (grind arith, grind arith)

pub number-zero_first : (w : List ℕ) → AllBytes w → length w < 20 → leads_with_zero w ≡ true → number_of_word w ≡ None
number-zero_first w h few both =
    let lead = (leads w both).0 in
    let long = (leads w both).1 in
    let k : same w (decimal (digits_value w)) ≡ false = false_by (same w (decimal (digits_value w))) (zero_first w h few lead long) in
    grind (arith, k)
