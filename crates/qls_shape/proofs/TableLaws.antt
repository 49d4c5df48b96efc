-- What a table's fields have, by index, and one more number got or put.
use Rattle.std.proofs.Common.{◌≡◌, ℕ, zero, suc, ◌+◌, ◌<◌, ◌≤◌, ◌^◌, true, ◌-◌, List, [], ◌∷◌, ◌++◌, length, take, drop, map, append-nil, append_assoc, take_all, get_or, set, sym, ap, ap₂, ◌∙◌, arith, leb, leb→le, T, subst, drop-drop, length-drop}
use Rattle.std.proofs.lemmas.Bool.{and_parts}
use Rattle.std.proofs.lemmas.List.{map-append, take_more, take_more_set, drop_all}
use Rattle.std.specs.Int.{to_le_bytes}
use Rattle.qls_shape.specs.declared.layout.Field.{Field}
use Rattle.qls_shape.specs.Tables.{is_width, width_of, are_in_order, Fit, with_number, numbers_of, number_in}

most_of : (m n : ℕ) → leb m n ≡ true → m ≤ n
most_of m n h = leb→le m n (subst T (sym h) tt)

-- a field that follows: its width, its place and its end
pub record Follows (from total : ℕ) (f : Field) : Type 0 where
  pub width : is_width f.width ≡ true
  pub after : from ≤ f.at
  pub within : f.at + f.width ≤ total

pub first_follows : (from total : ℕ) (f : Field) (fs : List Field) → are_in_order from total (f ∷ fs) ≡ true → Follows from total f × (are_in_order (f.at + f.width) total fs ≡ true)
first_follows from total f fs h =
    let a = and_parts _ _ h in
    let b = and_parts _ _ a.0 in
    let c = and_parts _ _ b.0 in
    (record { width = c.0; after = most_of from f.at c.1; within = most_of (f.at + f.width) total b.1 }, a.1)

-- each field has a width, and lies within the total
pub field_width : (from total : ℕ) (fields : List Field) (i : ℕ) (d : Field) → are_in_order from total fields ≡ true → i < length fields → is_width (get_or fields i d).width ≡ true
field_width from total [] i d h within = absurd (omega (arith, within))
field_width from total (f ∷ fs) zero d h within = (first_follows from total f fs h).0.width
field_width from total (f ∷ fs) (suc i) d h within = field_width (f.at + f.width) total fs i d (first_follows from total f fs h).1 (omega (arith, within))

pub field_within : (from total : ℕ) (fields : List Field) (i : ℕ) (d : Field) → are_in_order from total fields ≡ true → i < length fields → (get_or fields i d).at + (get_or fields i d).width ≤ total
field_within from total [] i d h within = absurd (omega (arith, within))
field_within from total (f ∷ fs) zero d h within = (first_follows from total f fs h).0.within
field_within from total (f ∷ fs) (suc i) d h within = field_within (f.at + f.width) total fs i d (first_follows from total f fs h).1 (omega (arith, within))

-- each number fits its field
pub number_fits : (fields : List Field) (numbers : List ℕ) (i : ℕ) (d : Field) → Fit fields numbers → i < length fields → i < length numbers → get_or numbers i 0 < 256 ^ (get_or fields i d).width
number_fits [] numbers i d fit a b = absurd (omega (arith, a))
number_fits (f ∷ fs) [] i d fit a b = absurd (omega (arith, b))
number_fits (f ∷ fs) (n ∷ numbers) zero d fit a b = fit.0
number_fits (f ∷ fs) (n ∷ numbers) (suc i) d fit a b = number_fits fs numbers i d fit.1 (omega (arith, a)) (omega (arith, b))

-- one more number that was got
pub got_more : (numbers : List ℕ) (fields : List Field) (bytes : List ℕ) (i x : ℕ) (d : Field) → i < length numbers → i < length fields → take i numbers ≡ numbers_of (take i fields) bytes → x ≡ number_in bytes (get_or fields i d)
    → take (i + 1) (set numbers i x) ≡ numbers_of (take (i + 1) fields) bytes
got_more numbers fields bytes i x d a b so_far is =
    take_more_set numbers i x a
    ∙ ap₂ (λ l y. l ++ y ∷ []) so_far is
    ∙ sym (map-append (number_in bytes) (take i fields) (get_or fields i d ∷ []))
    ∙ ap (map (number_in bytes)) (sym (take_more fields i d b))

-- a number's bytes written over what stands there
pub written : (f : Field) (n w : ℕ) (bytes part : List ℕ) → f.width ≡ w → f.at + f.width ≤ length bytes
    → part ≡ to_le_bytes (width_of w) n ++ drop w (take (length bytes - f.at) (drop f.at bytes))
    → take f.at bytes ++ (part ++ drop (length bytes - f.at) (drop f.at bytes)) ≡ with_number f n bytes
written f n w bytes part width room is =
    let tail : List ℕ = drop f.at bytes in
    let size : length tail ≡ length bytes - f.at = length-drop f.at bytes in
    let whole : take (length bytes - f.at) tail ≡ tail = take_all (length bytes - f.at) tail (omega (arith, size)) in
    let none : drop (length bytes - f.at) tail ≡ [] = drop_all (length bytes - f.at) tail (omega (arith, size)) in
    let front : part ≡ to_le_bytes (width_of w) n ++ drop (f.at + w) bytes = is ∙ ap (λ l. to_le_bytes (width_of w) n ++ l) (ap (drop w) whole ∙ drop-drop w f.at bytes) in
    ap₂ (λ p l. take f.at bytes ++ (p ++ l)) front none
    ∙ ap (λ l. take f.at bytes ++ l) (append-nil _)
    ∙ sym (append_assoc (take f.at bytes) (to_le_bytes (width_of w) n) (drop (f.at + w) bytes))
    ∙ ap (λ k. take f.at bytes ++ to_le_bytes (width_of k) n ++ drop (f.at + k) bytes) (sym width)
