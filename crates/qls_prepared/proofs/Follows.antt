-- The batches that the list writes: their record ids, and their length.
use Rattle.std.proofs.Common.{◌≡◌, ℕ, ◌+◌, ◌^◌, ◌<◌, ◌≤◌, Bool, true, false, List, [], ◌∷◌, length, Option, Some, None, refl, arith}
use Rattle.qls_record.specs.Record.{record_length}
use Rattle.qls_shape.specs.Lengths.{padded_length}
use Rattle.qls_shape.specs.declared.Version.TheVariants.{Two}
use Rattle.qls_blocks.specs.Batching.{length_of, last_rid}
use Rattle.qls_log.specs.Logs.{LogState}
use Rattle.qls_log.specs.Appending.{FollowRids}
use Rattle.qls_prepared.specs.Lists.{IsXid}
use Rattle.qls_prepared.specs.Records.{enqueue_of, decision_of, entry_records, end_records}
use Rattle.qls_prepared.specs.Writing.{FitsFirst}

-- ---- a transaction that enters

pub entry_follows : (rid : ℕ) (x : List ℕ) (one_phase : Bool) → rid + 1 < 2 ^ 62 → FollowRids rid (entry_records rid x one_phase)
entry_follows rid x true l = (refl, l, (refl, l, tt))
entry_follows rid x false l = (refl, l, tt)

pub entry_some : (rid : ℕ) (x : List ℕ) (one_phase : Bool) → 0 < length (entry_records rid x one_phase)
entry_some rid x true = omega arith
entry_some rid x false = omega arith

pub entry_last : (rid : ℕ) (x : List ℕ) (one_phase : Bool) → last_rid rid (entry_records rid x one_phase) ≡ rid + 1
entry_last rid x true = refl
entry_last rid x false = refl

padded : (n m : ℕ) → n ≤ m → padded_length n ≤ m + 128
padded n m h = omega (arith, h)

enqueue_short : (rid : ℕ) (x : List ℕ) (one_phase : Bool) → length x ≤ 128 → record_length Two (enqueue_of rid x one_phase) ≤ 512
enqueue_short rid x one_phase h = omega (arith, h)

decision_short : (rid target : ℕ) (x : List ℕ) (commit : Bool) → length x ≤ 128 → record_length Two (decision_of rid target x commit) ≤ 512
decision_short rid target x commit h = omega (arith, h)

entry_short : (rid : ℕ) (x : List ℕ) (one_phase : Bool) → length x ≤ 128 → length_of (entry_records rid x one_phase) ≤ 4096
entry_short rid x true h = omega (arith, enqueue_short (rid + 1) x true h, decision_short (rid + 1) (rid + 1) x true h)
entry_short rid x false h = omega (arith, enqueue_short (rid + 1) x false h)

pub entry_first : (log : Option LogState) (rid : ℕ) (x : List ℕ) (one_phase : Bool) → IsXid x → FitsFirst log (entry_records rid x one_phase)
entry_first None rid x one_phase h = entry_short rid x one_phase h.1
entry_first (Some l) rid x one_phase h = tt

-- ---- ends

pub ends_follow : (rid : ℕ) (xs : List (List ℕ)) → rid < 2 ^ 62 → FollowRids rid (end_records rid xs)
ends_follow rid [] l = tt
ends_follow rid (x ∷ xs) l = (refl, l, ends_follow rid xs l)

pub ends_last : (rid : ℕ) (xs : List (List ℕ)) → last_rid rid (end_records rid xs) ≡ rid
ends_last rid [] = refl
ends_last rid (x ∷ xs) = ends_last rid xs

pub ends_some : (rid : ℕ) (xs : List (List ℕ)) → 0 < length xs → 0 < length (end_records rid xs)
ends_some rid [] l = l
ends_some rid (x ∷ xs) l = omega arith
