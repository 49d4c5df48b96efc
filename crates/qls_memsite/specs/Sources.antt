-- A script in memory: what is left of it, and which read fails.
use Rattle.std.specs.Prelude.{◌≡◌, ◌≢◌, ℕ, ◌-◌, true, List, length, drop, min, Option, Some, Result, Ok, Err}
use Rattle.qls_memsite.specs.Failures.{faults_after}
use Rattle.qls_memsite.specs.declared.source.MemSource.{MemSource}

abbrev pub bytes_left : MemSource → List ℕ
bytes_left s = drop s.taken s.bytes

abbrev pub left_of : MemSource → Option (List ℕ)
left_of s = Some (bytes_left s)

-- how many bytes a read gives at most
abbrev pub piece_of : MemSource → ℕ
piece_of s = s.piece

-- which read from now is set to fail, 0 where none is
abbrev pub failing_of : MemSource → ℕ
failing_of s = s.failing

abbrev pub faults_of : MemSource → ℕ
faults_of s = s.faults

-- a read that is set to fail is the one that does; another gives all that is left, as far as a piece and the room go
abbrev pub ReadsAsSet : {E : Type 0} → MemSource → MemSource → ℕ → Result ℕ E → Type 0
ReadsAsSet old new room (Ok n) = (failing_of old ≢ 1) × (n ≡ min (min (length (bytes_left old)) (piece_of old)) room) × (failing_of new ≡ failing_of old - 1) × (piece_of new ≡ piece_of old) × (faults_of new ≡ faults_of old)
ReadsAsSet old new room (Err e) = (failing_of old ≡ 1) × (failing_of new ≡ 0) × (piece_of new ≡ piece_of old) × (faults_of new ≡ faults_after true (faults_of old))
