-- Serials by counting: what they tell, and which draw fails.
use Rattle.std.specs.Prelude.{◌≡◌, ◌≢◌, ℕ, ◌+◌, ◌-◌, ◌^◌, ◌%◌, true, List, Option, Result, Ok, Err}
use Rattle.qls_memsite.specs.Counting.{told_from}
use Rattle.qls_memsite.specs.Failures.{faults_after}
use Rattle.qls_memsite.specs.declared.serials.MemSerials.{MemSerials}

abbrev pub drawn_of : MemSerials → Option (List ℕ)
drawn_of s = told_from s.first s.count

-- the number that the next draw gives, where it doesn't fail
abbrev pub next_of : MemSerials → ℕ
next_of s = s.next

-- which draw from now is set to fail, 0 where none is
abbrev pub failing_of : MemSerials → ℕ
failing_of s = s.failing

abbrev pub faults_of : MemSerials → ℕ
faults_of s = s.faults

-- a draw that is set to fail is the one that does
abbrev pub DrawsAsSet : {E : Type 0} → MemSerials → MemSerials → Result ℕ E → Type 0
DrawsAsSet old new (Ok n) = (failing_of old ≢ 1) × (n ≡ next_of old) × (next_of new ≡ (n + 1) % 2 ^ 64) × (failing_of new ≡ failing_of old - 1) × (faults_of new ≡ faults_of old)
DrawsAsSet old new (Err e) = (failing_of old ≡ 1) × (next_of new ≡ next_of old) × (failing_of new ≡ 0) × (faults_of new ≡ faults_after true (faults_of old))
