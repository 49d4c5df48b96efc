-- What stands at the front of some bytes: parts one behind another, and numbers field by field.
use Rattle.std.proofs.Common.{◌≡◌, ℕ, ◌+◌, ◌^◌, ◌<◌, ◌≤◌, Bool, true, false, ◌&&◌, List, [], ◌∷◌, ◌++◌, length, take, drop, get_or, refl, sym, ap, ◌∙◌, arith, eqb, nat_eq, length-append, length-drop, length-take, drop-drop, get_or-drop, get_or-take, eq-eqb, eqb-true, inl, inr, ◌⊎◌}
use Rattle.std.proofs.lemmas.Nat.{from_le_bytes-to_le_bytes_2, from_le_bytes-to_le_bytes_4, from_le_bytes-to_le_bytes_8, le_bytes_2, le_bytes_4, le_bytes_8}
use Rattle.std.proofs.lemmas.Bool.{cases_lt}
use Rattle.std.proofs.lemmas.List.{get_or_past}
use Rattle.std.specs.List.{starts_with}
use Rattle.std.specs.Cmp.Lexicographic.{bytes_decides, pointwise}
use Rattle.std.specs.Int.{w8, w16, w32, w64, w128, Width, byte_len, to_le_bytes, from_le_bytes}
use Rattle.qls_shape.specs.Fields.{number_at}

-- each is a byte
pub record AreBytes (bs : List ℕ) : Type 0 where
  pub small : (i : ℕ) → get_or bs i 0 < 256

-- two tests that hold together
pub same_test : (a b : Bool) → (a ≡ true → b ≡ true) → (b ≡ true → a ≡ true) → a ≡ b
same_test true b f g = sym (f refl)
same_test false true f g = g refl
same_test false false f g = refl

-- ---- parts one behind another

pub stands-append : (xs a b : List ℕ) → starts_with nat_eq xs (a ++ b) ≡ (starts_with nat_eq xs a && starts_with nat_eq (drop (length a) xs) b)
stands-append xs [] b = refl
stands-append [] (x ∷ a) b = refl
stands-append (y ∷ xs) (x ∷ a) b =
    elim (eqb x y) as (λ t. (t && pointwise eqb (a ++ b) (take (length (a ++ b)) xs)) ≡ ((t && pointwise eqb a (take (length a) xs)) && starts_with nat_eq (drop (length a) xs) b)) [
      | true ↦ stands-append xs a b
      | false ↦ refl
    ]

pub too_short : (xs needle : List ℕ) → length xs < length needle → starts_with nat_eq xs needle ≡ false
too_short [] (x ∷ needle) h = refl
too_short (y ∷ xs) (x ∷ needle) h =
    elim (eqb x y) as (λ t. (t && pointwise eqb needle (take (length needle) xs)) ≡ false) [
      | true ↦ too_short xs needle (omega arith)
      | false ↦ refl
    ]
too_short xs [] h = absurd (omega arith)

-- ---- numbers

piece : (k at : ℕ) (xs : List ℕ) → AreBytes xs → (i : ℕ) → get_or (take k (drop at xs)) i 0 < 256
piece k at xs h i = pick (cases_lt i k)
  where
    pick : (i < k) ⊎ (k ≤ i) → get_or (take k (drop at xs)) i 0 < 256
    pick (inl l) = let s = h.small (at + i) in omega (arith, get_or-take k (drop at xs) i 0 l, get_or-drop at xs i 0)
    pick (inr l) = let e = get_or_past (take k (drop at xs)) i 0 (omega (arith, length-take k (drop at xs))) in omega arith

module _ (w : Width) (most : ℕ)
    (back : (n : ℕ) → n < most → from_le_bytes w (to_le_bytes w n) ≡ n)
    (again : (bs : List ℕ) (n : ℕ) → length bs ≡ byte_len w → ((i : ℕ) → get_or bs i 0 < 256) → n ≡ from_le_bytes w bs → to_le_bytes w n ≡ bs)
    (long : (n : ℕ) → length (to_le_bytes w n) ≡ byte_len w) where
  pub bytes_there : (xs : List ℕ) (at : ℕ) → AreBytes xs → at + byte_len w ≤ length xs → to_le_bytes w (number_at w at xs) ≡ take (byte_len w) (drop at xs)
  bytes_there xs at h fits =
      again (take (byte_len w) (drop at xs)) (number_at w at xs) (omega (arith, length-take (byte_len w) (drop at xs), length-drop at xs)) (piece (byte_len w) at xs h) refl

  there : (xs : List ℕ) (n at : ℕ) → n < most → pointwise eqb (to_le_bytes w n) (take (byte_len w) (drop at xs)) ≡ true → eqb (number_at w at xs) n ≡ true
  there xs n at small e =
      let same : to_le_bytes w n ≡ take (byte_len w) (drop at xs) = (bytes_decides (to_le_bytes w n) (take (byte_len w) (drop at xs))).0 e in
      eq-eqb (number_at w at xs) n (ap (from_le_bytes w) (sym same) ∙ back n small)

  stands : (xs : List ℕ) (n at : ℕ) → AreBytes xs → at + byte_len w ≤ length xs → eqb (number_at w at xs) n ≡ true → pointwise eqb (to_le_bytes w n) (take (byte_len w) (drop at xs)) ≡ true
  stands xs n at h fits e =
      (bytes_decides (to_le_bytes w n) (take (byte_len w) (drop at xs))).1 (ap (to_le_bytes w) (sym (eqb-true (number_at w at xs) n e)) ∙ bytes_there xs at h fits)

  pub number_stands : (xs : List ℕ) (n at : ℕ) → AreBytes xs → n < most → at + byte_len w ≤ length xs
      → starts_with nat_eq (drop at xs) (to_le_bytes w n) ≡ eqb (number_at w at xs) n
  number_stands xs n at h small fits =
      ap (λ k. pointwise eqb (to_le_bytes w n) (take k (drop at xs))) (long n)
      ∙ same_test (pointwise eqb (to_le_bytes w n) (take (byte_len w) (drop at xs))) (eqb (number_at w at xs) n) (there xs n at small) (stands xs n at h fits)

pub stands_16 : (xs : List ℕ) (n at : ℕ) → AreBytes xs → n < 2 ^ 16 → at + 2 ≤ length xs → starts_with nat_eq (drop at xs) (to_le_bytes w16 n) ≡ eqb (number_at w16 at xs) n
stands_16 = number_stands w16 (2 ^ 16) from_le_bytes-to_le_bytes_2 le_bytes_2 (λ _. refl)

pub stands_32 : (xs : List ℕ) (n at : ℕ) → AreBytes xs → n < 2 ^ 32 → at + 4 ≤ length xs → starts_with nat_eq (drop at xs) (to_le_bytes w32 n) ≡ eqb (number_at w32 at xs) n
stands_32 = number_stands w32 (2 ^ 32) from_le_bytes-to_le_bytes_4 le_bytes_4 (λ _. refl)

pub stands_64 : (xs : List ℕ) (n at : ℕ) → AreBytes xs → n < 2 ^ 64 → at + 8 ≤ length xs → starts_with nat_eq (drop at xs) (to_le_bytes w64 n) ≡ eqb (number_at w64 at xs) n
stands_64 = number_stands w64 (2 ^ 64) from_le_bytes-to_le_bytes_8 le_bytes_8 (λ _. refl)

-- ---- fields one behind another

-- the number has a field of this width
abbrev pub HasField : Width → ℕ → Type 0
HasField w8 n = ⊥
HasField w16 n = n < 2 ^ 16
HasField w32 n = n < 2 ^ 32
HasField w64 n = n < 2 ^ 64
HasField w128 n = ⊥

field_stands : (w : Width) (xs : List ℕ) (n at : ℕ) → AreBytes xs → HasField w n → at + byte_len w ≤ length xs
    → starts_with nat_eq (drop at xs) (to_le_bytes w n) ≡ eqb (number_at w at xs) n
field_stands w8 xs n at h small fits = absurd small
field_stands w16 xs n at h small fits = stands_16 xs n at h small fits
field_stands w32 xs n at h small fits = stands_32 xs n at h small fits
field_stands w64 xs n at h small fits = stands_64 xs n at h small fits
field_stands w128 xs n at h small fits = absurd small

length-field : (w : Width) (n : ℕ) → length (to_le_bytes w n) ≡ byte_len w
length-field w8 n = refl
length-field w16 n = refl
length-field w32 n = refl
length-field w64 n = refl
length-field w128 n = refl

-- the bytes of numbers of these widths, one behind another
abbrev pub joined : List (Width × ℕ) → List ℕ
joined [] = []
joined (f ∷ fs) = to_le_bytes f.0 f.1 ++ joined fs

abbrev pub widths : List (Width × ℕ) → ℕ
widths [] = 0
widths (f ∷ fs) = byte_len f.0 + widths fs

abbrev pub AllHaveFields : List (Width × ℕ) → Type 0
AllHaveFields [] = Unit {0}
AllHaveFields (f ∷ fs) = HasField f.0 f.1 × AllHaveFields fs

-- each of the numbers stands at its place from this one on
abbrev pub all_there : ℕ → List ℕ → List (Width × ℕ) → Bool
all_there at xs [] = true
all_there at xs (f ∷ fs) = eqb (number_at f.0 at xs) f.1 && all_there (at + byte_len f.0) xs fs

pub length-joined : (fs : List (Width × ℕ)) → length (joined fs) ≡ widths fs
length-joined [] = refl
length-joined (f ∷ fs) = omega (arith, length-append (to_le_bytes f.0 f.1) (joined fs), length-field f.0 f.1, length-joined fs)

pub fields_stand : (fs : List (Width × ℕ)) (at : ℕ) (xs : List ℕ) → AreBytes xs → AllHaveFields fs → at + widths fs ≤ length xs
    → starts_with nat_eq (drop at xs) (joined fs) ≡ all_there at xs fs
fields_stand [] at xs h small fits = refl
fields_stand (f ∷ fs) at xs h small fits =
    let first = field_stands f.0 xs f.1 at h small.0 (omega arith) in
    let others = fields_stand fs (at + byte_len f.0) xs h small.1 (omega arith) in
    let place : drop (length (to_le_bytes f.0 f.1)) (drop at xs) ≡ drop (at + byte_len f.0) xs =
    drop-drop (length (to_le_bytes f.0 f.1)) at xs ∙ ap (λ k. drop (at + k) xs) (length-field f.0 f.1) in
    stands-append (drop at xs) (to_le_bytes f.0 f.1) (joined fs)
    ∙ ap (λ b. b && starts_with nat_eq (drop (length (to_le_bytes f.0 f.1)) (drop at xs)) (joined fs)) first
    ∙ ap (λ ys. eqb (number_at f.0 at xs) f.1 && starts_with nat_eq ys (joined fs)) place
    ∙ ap (λ b. eqb (number_at f.0 at xs) f.1 && b) others

-- ---- what is read as a number has a field

pub has_64 : (at : ℕ) (xs : List ℕ) → AreBytes xs → number_at w64 at xs < 2 ^ 64
has_64 at xs h =
    let p0 = piece 8 at xs h 0 in
    let p1 = piece 8 at xs h 1 in
    let p2 = piece 8 at xs h 2 in
    let p3 = piece 8 at xs h 3 in
    let p4 = piece 8 at xs h 4 in
    let p5 = piece 8 at xs h 5 in
    let p6 = piece 8 at xs h 6 in
    let p7 = piece 8 at xs h 7 in
    omega arith

pub has_32 : (at : ℕ) (xs : List ℕ) → AreBytes xs → number_at w32 at xs < 2 ^ 32
has_32 at xs h =
    let p0 = piece 4 at xs h 0 in
    let p1 = piece 4 at xs h 1 in
    let p2 = piece 4 at xs h 2 in
    let p3 = piece 4 at xs h 3 in
    omega arith

pub bytes_there_32 : (xs : List ℕ) (at : ℕ) → AreBytes xs → at + 4 ≤ length xs → to_le_bytes w32 (number_at w32 at xs) ≡ take 4 (drop at xs)
bytes_there_32 = bytes_there w32 (2 ^ 32) from_le_bytes-to_le_bytes_4 le_bytes_4 (λ _. refl)
