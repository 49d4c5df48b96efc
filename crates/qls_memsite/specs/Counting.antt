-- Numbers that are drawn by counting.
use Rattle.std.specs.Prelude.{ℕ, zero, suc, ◌+◌, ◌-◌, ◌^◌, ◌%◌, List, [], ◌∷◌, ◌++◌, Option, Some, None, if◌then◌else◌, nat_lt}

-- so many numbers from the first on, below 2 ^ 64
abbrev pub counted_from : ℕ → ℕ → List ℕ
counted_from first zero = []
counted_from first (suc n) = counted_from first n ++ ((first + n) % 2 ^ 64) ∷ []

-- they are told while they are fewer than the count can say
abbrev pub told_from : ℕ → ℕ → Option (List ℕ)
told_from first n = if nat_lt n (2 ^ 64 - 1) then Some (counted_from first n) else None
