-- What stands after numbers and parts are put one behind another.
use Rattle.std.proofs.Common.{◌≡◌, ℕ, ◌+◌, List, [], ◌∷◌, ◌++◌, map, length, take, drop, refl, sym, ap, ◌∙◌, append_assoc, append-nil, arith, length-append, drop-drop}
use Rattle.std.proofs.Math.Seq.{take-append_seam, drop-append-add}
use Rattle.std.specs.Int.{Width, w8, w16, w32, w64, w128, byte_len, to_le_bytes}
use Rattle.qls_shape.specs.declared.layout.Field.{Field}
use Rattle.qls_shape.specs.Tables.{width_of, with_number, with_numbers}
use Rattle.qls_record.proofs.Stands.{HasField, AllHaveFields, joined, widths}

-- fields of these widths one behind another, from a place on
abbrev pub fields_from : ℕ → List (Width × ℕ) → List Field
fields_from at [] = []
fields_from at (f ∷ fs) = record { at = at; width = byte_len f.0 } ∷ fields_from (at + byte_len f.0) fs

abbrev pub numbers_in : List (Width × ℕ) → List ℕ
numbers_in fs = map (λ f. f.1) fs

-- a part put behind what stands so far
pub put_behind : (F R b : List ℕ) (a : ℕ) → length F ≡ a → take a (F ++ R) ++ b ++ drop (a + length b) (F ++ R) ≡ (F ++ b) ++ drop (length b) R
put_behind F R b a e =
    ap (λ k. take k (F ++ R) ++ b ++ drop (k + length b) (F ++ R)) (sym e)
    ∙ ap (λ f. f ++ b ++ drop (length F + length b) (F ++ R)) (take-append_seam F R)
    ∙ ap (λ r. F ++ b ++ r) (drop-append-add F R (length b))

width_back : (w : Width) (n : ℕ) → HasField w n → width_of (byte_len w) ≡ w
width_back w8 n h = absurd h
width_back w16 n h = refl
width_back w32 n h = refl
width_back w64 n h = refl
width_back w128 n h = absurd h

field_long : (w : Width) (n : ℕ) → length (to_le_bytes w n) ≡ byte_len w
field_long w8 n = refl
field_long w16 n = refl
field_long w32 n = refl
field_long w64 n = refl
field_long w128 n = refl

number_behind : (w : Width) (n : ℕ) (F R : List ℕ) (at : ℕ) → HasField w n → length F ≡ at
    → with_number (record { at = at; width = byte_len w }) n (F ++ R) ≡ (F ++ to_le_bytes w n) ++ drop (byte_len w) R
number_behind w n F R at h e =
    ap (λ v. take at (F ++ R) ++ to_le_bytes v n ++ drop (at + byte_len w) (F ++ R)) (width_back w n h)
    ∙ ap (λ k. take at (F ++ R) ++ to_le_bytes w n ++ drop (at + k) (F ++ R)) (sym (field_long w n))
    ∙ put_behind F R (to_le_bytes w n) at e
    ∙ ap (λ k. (F ++ to_le_bytes w n) ++ drop k R) (field_long w n)

pub numbers_behind : (fs : List (Width × ℕ)) (F R : List ℕ) (at : ℕ) → AllHaveFields fs → length F ≡ at
    → with_numbers (fields_from at fs) (numbers_in fs) (F ++ R) ≡ (F ++ joined fs) ++ drop (widths fs) R
numbers_behind [] F R at h e = ap (λ f. f ++ R) (sym (append-nil F))
numbers_behind (f ∷ fs) F R at h e =
    let long : length (F ++ to_le_bytes f.0 f.1) ≡ at + byte_len f.0 = omega (arith, e, length-append F (to_le_bytes f.0 f.1), field_long f.0 f.1) in
    ap (with_numbers (fields_from (at + byte_len f.0) fs) (numbers_in fs)) (number_behind f.0 f.1 F R at h.0 e)
    ∙ numbers_behind fs (F ++ to_le_bytes f.0 f.1) (drop (byte_len f.0) R) (at + byte_len f.0) h.1 long
    ∙ ap (λ g. g ++ drop (widths fs) (drop (byte_len f.0) R)) (append_assoc F (to_le_bytes f.0 f.1) (joined fs))
    ∙ ap (λ r. (F ++ (to_le_bytes f.0 f.1 ++ joined fs)) ++ r) (drop-drop (widths fs) (byte_len f.0) R)

-- the numbers of a table put at the front
pub numbers_put : (fs : List (Width × ℕ)) (bytes : List ℕ) → AllHaveFields fs → with_numbers (fields_from 0 fs) (numbers_in fs) bytes ≡ joined fs ++ drop (widths fs) bytes
numbers_put fs bytes h = numbers_behind fs [] bytes 0 h refl
