-- The rules on readings, on small journals: what is whole, and the first rule that fails.
use Rattle.std.proofs.Common.{◌≡◌, ℕ, List, [], ◌∷◌, ◌++◌, Ok, Err, refl, take, drop}
use Rattle.qls_filehdr.specs.declared.Rule.TheVariants as rule
use Rattle.qls_meaning.specs.Journals.{Headed}
use Rattle.qls_meaning.specs.Damage.{reading_claims, chain_claims}
use Rattle.qls_meaning.proofs.Small.{put, filler, long_put, longer_put, spelled, blank, queue_file, queue}

-- ---- first places

-- the oldest file's first place is where the reading begins, also where nothing stands there
abbrev oldest_behind : List Headed
oldest_behind = queue_file 4 1 7 5 4224 (blank 256) ∷ []

oldest_is_believed : reading_claims (queue oldest_behind) ≡ Ok tt
oldest_is_believed = refl

-- files before it are passed over, and have the oldest file's rid
abbrev passed_over : ℕ → List Headed
passed_over rid =
    queue_file 4 1 7 5 0 (blank 128)
    ∷ queue_file 5 1 8 rid 4224 (blank 128 ++ spelled 8 (put 6))
    ∷ []

passed_over_is_whole : reading_claims (queue (passed_over 5)) ≡ Ok tt
passed_over_is_whole = refl

passed_over_fails : reading_claims (queue (passed_over 6)) ≡ Err (5, rule.Rid)
passed_over_fails = refl

-- an oldest epoch of which nothing is read is whole, and the next one begins with its rid
abbrev all_passed_over : ℕ → List Headed
all_passed_over rid =
    queue_file 4 1 7 5 0 (blank 128)
    ∷ queue_file 5 1 8 5 0 (blank 128)
    ∷ queue_file 6 2 9 rid 4096 (spelled 9 (put 6))
    ∷ []

all_passed_over_is_whole : reading_claims (queue (all_passed_over 5)) ≡ Ok tt
all_passed_over_is_whole = refl

all_passed_over_fails : reading_claims (queue (all_passed_over 4)) ≡ Err (6, rule.Rid)
all_passed_over_fails = refl

-- a later file's first place is that of the first record that starts in it
abbrev across : ℕ → List Headed
across first =
    queue_file 1 1 7 0 4096 (spelled 7 (put 1) ++ take 128 (spelled 7 (long_put 2)))
    ∷ queue_file 2 1 8 2 first (drop 128 (spelled 7 (long_put 2)) ++ spelled 8 (filler 2))
    ∷ []

across_is_whole : reading_claims (queue (across 4224)) ≡ Ok tt
across_is_whole = refl

across_fails : reading_claims (queue (across 4096)) ≡ Err (2, rule.First)
across_fails = refl

-- 0 in a file that one record covers, also the last one
abbrev over_three : ℕ → ℕ → List Headed
over_three second third =
    queue_file 1 1 7 0 4096 (take 128 (spelled 7 (longer_put 1)))
    ∷ queue_file 2 1 8 1 second (take 128 (drop 128 (spelled 7 (longer_put 1))))
    ∷ queue_file 3 1 9 1 third (drop 256 (spelled 7 (longer_put 1)))
    ∷ []

covered_is_whole : reading_claims (queue (over_three 0 0)) ≡ Ok tt
covered_is_whole = refl

covered_fails : reading_claims (queue (over_three 4096 0)) ≡ Err (2, rule.First)
covered_fails = refl

last_covered_fails : reading_claims (queue (over_three 0 4096)) ≡ Err (3, rule.First)
last_covered_fails = refl

-- ---- the end of a reading counts as a place

-- A batch ended inside a fresh file in which none of its records starts: the first place planned is where the batch ends, and there
-- the next one begins
abbrev planned : List Headed
planned =
    queue_file 1 1 7 0 4096 (spelled 7 (put 1) ++ take 128 (spelled 7 (long_put 2)))
    ∷ queue_file 2 1 8 2 4224 (drop 128 (spelled 7 (long_put 2)) ++ blank 128)
    ∷ []

planned_is_whole : reading_claims (queue planned) ≡ Ok tt
planned_is_whole = refl

-- the end at a file's data area is the place 4096 of that file
abbrev ends_at_the_seam : ℕ → List Headed
ends_at_the_seam first = queue_file 1 1 7 0 4096 (spelled 7 (put 1)) ∷ queue_file 2 1 8 1 first (blank 128) ∷ []

seam_is_whole : reading_claims (queue (ends_at_the_seam 4096)) ≡ Ok tt
seam_is_whole = refl

seam_fails : reading_claims (queue (ends_at_the_seam 0)) ≡ Err (2, rule.First)
seam_fails = refl

-- files past the end aren't tested
abbrev past_the_end : List Headed
past_the_end = queue_file 1 1 7 0 4096 (spelled 7 (put 1) ++ blank 128) ∷ queue_file 2 1 8 9 0 (blank 128) ∷ []

past_is_not_tested : reading_claims (queue past_the_end) ≡ Ok tt
past_is_not_tested = refl

-- ---- but an epoch that isn't the last is read to its last file

abbrev closed_early : List Headed
closed_early =
    queue_file 1 1 7 0 4096 (blank 128)
    ∷ queue_file 2 1 8 0 4096 (blank 128)
    ∷ queue_file 3 2 9 0 4096 (spelled 9 (put 1))
    ∷ []

closed_early_fails : reading_claims (queue closed_early) ≡ Err (1, rule.End)
closed_early_fails = refl

-- ---- rids

-- an enqueue has one more than the rid in force, and every other record has the rid in force
abbrev in_order : ℕ → ℕ → List Headed
in_order second after = queue_file 1 1 7 3 4096 (spelled 7 (filler 3) ++ spelled 7 (put 4) ++ spelled 7 (put second) ++ spelled 7 (filler after)) ∷ []

order_is_whole : reading_claims (queue (in_order 5 5)) ≡ Ok tt
order_is_whole = refl

order_fails : reading_claims (queue (in_order 6 6)) ≡ Err (1, rule.Order)
order_fails = refl

filler_order_fails : reading_claims (queue (in_order 5 6)) ≡ Err (1, rule.Order)
filler_order_fails = refl

-- ---- the files in a row: number before epoch before home, one file before the next

abbrev in_a_row : ℕ → ℕ → List Headed
in_a_row number epoch = queue_file 1 2 7 0 4096 [] ∷ queue_file number epoch 8 0 4096 [] ∷ []

row_is_whole : chain_claims (in_a_row 2 2) ≡ Ok tt
row_is_whole = refl

number_first : chain_claims (in_a_row 3 1) ≡ Err (3, rule.Number)
number_first = refl

epoch_falls : chain_claims (in_a_row 2 1) ≡ Err (2, rule.Epoch)
epoch_falls = refl
