-- What `byteorder` reads is the number that stands there.
use Rattle.std.proofs.Common.{◌≡◌, ℕ, ◌-◌, List, length, take, drop, ap, ◌∙◌, arith, lit<}
use Rattle.std.proofs.lemmas.List.{get_or-take, take_rest}
use Rattle.std.specs.Int.{w16, w32, w64, from_le_bytes}
use Rattle.byteorder.specs.Endian.{little_number}
use Rattle.qls_shape.specs.Fields.{number_at}

two : (ys : List ℕ) → little_number 2 ys ≡ from_le_bytes w16 (take 2 ys)
two ys = omega (arith, get_or-take 2 ys 0 0 (lit< tt), get_or-take 2 ys 1 0 (lit< tt))

four : (ys : List ℕ) → little_number 4 ys ≡ from_le_bytes w32 (take 4 ys)
four ys = omega (arith, get_or-take 4 ys 0 0 (lit< tt), get_or-take 4 ys 1 0 (lit< tt), get_or-take 4 ys 2 0 (lit< tt), get_or-take 4 ys 3 0 (lit< tt))

eight : (ys : List ℕ) → little_number 8 ys ≡ from_le_bytes w64 (take 8 ys)
eight ys =
    omega (
      arith,
      get_or-take 8 ys 0 0 (lit< tt),
      get_or-take 8 ys 1 0 (lit< tt),
      get_or-take 8 ys 2 0 (lit< tt),
      get_or-take 8 ys 3 0 (lit< tt),
      get_or-take 8 ys 4 0 (lit< tt),
      get_or-take 8 ys 5 0 (lit< tt),
      get_or-take 8 ys 6 0 (lit< tt),
      get_or-take 8 ys 7 0 (lit< tt),
    )

-- read from a part `&bytes[at..]`
pub number_read_2 : (bytes : List ℕ) (at : ℕ) → little_number 2 (take (length bytes - at) (drop at bytes)) ≡ number_at w16 at bytes
number_read_2 bytes at = ap (little_number 2) (take_rest bytes at) ∙ two (drop at bytes)

pub number_read_4 : (bytes : List ℕ) (at : ℕ) → little_number 4 (take (length bytes - at) (drop at bytes)) ≡ number_at w32 at bytes
number_read_4 bytes at = ap (little_number 4) (take_rest bytes at) ∙ four (drop at bytes)

pub number_read_8 : (bytes : List ℕ) (at : ℕ) → little_number 8 (take (length bytes - at) (drop at bytes)) ≡ number_at w64 at bytes
number_read_8 bytes at = ap (little_number 8) (take_rest bytes at) ∙ eight (drop at bytes)
