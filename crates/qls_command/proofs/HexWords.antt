-- Words of hex.
use Rattle.std.proofs.Common.{◌≡◌, ℕ, ◌/◌, ◌<◌, ◌≤◌, Bool, true, false, List, length, refl, arith, Option, Some, None, Result, Ok, Err, nat_le, codes}
use Rattle.hex.specs.Hex.{decode_of}
use Rattle.hex.specs.declared.error.FromHexError.{FromHexError}
use Rattle.hex.proofs.HexLemmas.{decode_of-ok}
use Rattle.qls_model.specs.Bytes.{same}
use Rattle.qls_command.specs.Lines.{◌>>=◌, where_true, decoded, bytes_of_word, body_of_word}

-- the bytes of a word of hex, if there are at most so many
abbrev pub within : ℕ → List ℕ → Option (List ℕ)
within limit w = bytes_of_word w >>= λ x. where_true (nat_le (length x) limit) x

long_bytes : (limit : ℕ) (r : Result (List ℕ) FromHexError) → ((bytes : List ℕ) → r ≡ Ok bytes → limit < length bytes)
    → (decoded r >>= λ x. where_true (nat_le (length x) limit) x) ≡ None
long_bytes limit (Ok bytes) h = let k : limit < length bytes = h bytes refl in grind arith
long_bytes limit (Err e) h = refl

behind_test : (b : Bool) (limit : ℕ) (w : List ℕ)
    → (decoded (decode_of w) >>= λ x. where_true (nat_le (length x) limit) x) ≡ None
    → ((where_true b w >>= λ v. decoded (decode_of v)) >>= λ x. where_true (nat_le (length x) limit) x) ≡ None
behind_test true limit w h = h
behind_test false limit w h = refl

-- a word of fewer than two digits
pub within-short : (limit : ℕ) (w : List ℕ) → length w / 2 < 1 → within limit w ≡ None
within-short limit w h = let k : length w < 2 = omega arith in grind arith

-- a word of too many digits
pub within-long : (limit : ℕ) (w : List ℕ) → limit < length w / 2 → within limit w ≡ None
within-long limit w h =
    behind_test (nat_le 2 (length w)) limit w (long_bytes limit (decode_of w) (λ bytes e. let k = decode_of-ok w bytes e in omega (arith, k.2)))

-- a word of hex of a size within the limits
pub within-some : (limit : ℕ) (w bytes : List ℕ) → decode_of w ≡ Ok bytes → 1 ≤ length w / 2 → length w / 2 ≤ limit → within limit w ≡ Some bytes
within-some limit w bytes e low high =
    let k = decode_of-ok w bytes e in
    let two : 2 ≤ length w = omega arith in
    let few : length bytes ≤ limit = omega (arith, k.2) in
    grind (arith, e)

-- a word that is no hex
pub within-none : (limit : ℕ) (w : List ℕ) (f : FromHexError) → decode_of w ≡ Err f → within limit w ≡ None
within-none limit w f e = behind_test (nat_le 2 (length w)) limit w (rw e refl)

-- a word that is no dash is hex or nothing
pub body_of_word-hex : (w : List ℕ) (r : Option (List ℕ)) → same w (codes "-") ≡ false → within 1048576 w ≡ r → body_of_word w ≡ r
body_of_word-hex w r dash h = rw dash h
