-- What `{:019}` writes of a number.
use Rattle.std.specs.Prelude.{◌≡◌, ℕ, ◌-◌, ◌^◌, false, [], ◌++◌, length, decimal, replicate}
use native.Mathlib.Numerals.{unary_clauses}
use Rattle.std.proofs.Common.{ap, append-nil}
use Rattle.std.specs.Fmt.{padded_integral, format_spec, char_count}
use Rattle.qls_hostsite.specs.Places.{id_digits}

pub zeros_lead : (id : ℕ) → padded_integral (format_spec 32 0 4 19 (2 ^ 64 - 1)) false [] (decimal id) ≡ id_digits id
unfolding padded_integral char_count
zeros_lead id = simp unary_clauses (ap (λ t. replicate (19 - length (decimal id)) 48 ++ t) (append-nil (decimal id)))
