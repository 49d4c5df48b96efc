-- What a reading's files say, and the rules that are left to test behind some of its records.
use Rattle.std.specs.Prelude.{◌≡◌, ℕ, zero, suc, ◌+◌, ◌*◌, ◌^◌, Bool, ◌&&◌, ◌||◌, not, List, [], ◌∷◌, ◌++◌, map, length, drop, Result, Ok, Err, ◌==◌, nat_lt, nat_le}
use Rattle.std.specs.List.{filter, AllByRecursion}
use Rattle.qls_shape.specs.Claims.{claim, each, of_file, ◌>>=◌, ◌>>◌}
use Rattle.qls_site.specs.Disk.{Disk, bytes_at, file_of}
use Rattle.qls_site.specs.Content.{Content}
use Rattle.qls_record.specs.Record.{is_filler, rid_given}
use Rattle.qls_filehdr.specs.declared.Rule.TheVariants as rule
use Rattle.qls_meaning.specs.Journals.{Headed}
use Rattle.qls_meaning.specs.Reading.{Placed, Read, begin_place, epoch_reading, epoch_end, located, read_of, reads_of}
use Rattle.qls_meaning.specs.Damage.{Checked, Spread, spread, rid_before, first_in, ends_in, epoch_claims, epochs_claims}
use Rattle.qls_meaning.specs.Dead.{after_end, past_in}
use Rattle.qls_meaning.specs.Spent.{rid_of_reads}
use Rattle.qls_scan.specs.declared.answers.HeadedFile.{HeadedFile}
use Rattle.qls_reader.specs.Spots.{HasSize}
use Rattle.qls_reading.specs.declared.fault.LogFault.{LogFault}
use Rattle.qls_reading.specs.declared.fault.LogFault.TheVariants.{Failed, Memory, Damaged}
use Rattle.qls_reading.specs.declared.rules.Course.{Course}
use Rattle.qls_reading.specs.declared.tally.Tally.{Tally}

-- ---- the files with their bytes

abbrev pub file_on : Disk → HeadedFile → Headed
file_on d f = record { id = f.id; header = f.header; area = drop 4096 (bytes_at f.id d) }

abbrev pub files_on : Disk → List HeadedFile → List Headed
files_on d fs = map (file_on d) fs

-- each file is there, with the size that its header tells
abbrev pub AreOnSite : List HeadedFile → Content → Type 0
AreOnSite fs c = AllByRecursion (λ f. HasSize (4096 + 1024 * f.header.kib) (file_of f.id c.now.disk)) fs

-- ---- the rules behind some records

module _ (oldest : Bool) (begin end : ℕ) where
  -- the rule on one of the records that are left, with the rid that is in force before them
  abbrev pub order_left : ℕ → ℕ → List Placed → Placed → Checked
  order_left id rid rs r =
      of_file id (claim (r.what.rid == rid_given (rid_before rid rs r.at) r.what.kind && nat_lt r.what.rid (2 ^ 62)) rule.Order)

  -- the rules on a file that the reading hasn't come to
  abbrev pub file_left : ℕ → List Placed → Spread → Checked
  file_left rid rs s = do
    of_file s.file.id (claim (nat_lt end s.start || (oldest && nat_le s.start begin)
        || s.file.header.first == first_in s.start (length s.file.area) (map (λ r. r.at) rs ++ end ∷ [])) rule.First)
    of_file s.file.id (claim (nat_lt end s.start || (oldest && s.start == 0) || s.file.header.rid == rid_before rid rs s.start) rule.Rid)
    each (order_left s.file.id rid rs) (filter (λ r. nat_le s.start r.at && nat_lt r.at (s.start + length s.file.area)) rs)

  -- the records of the last file that it came to, up to where these others start, and then they
  abbrev pub left : ℕ → ℕ → ℕ → List Placed → List Headed → Checked
  left id start rid rs fs =
      each (order_left id rid rs) (filter (λ r. nat_lt r.at start) rs) >>= λ _. each (file_left rid rs) (spread start fs)

-- where the data area of the file at this index starts
abbrev pub start_at : ℕ → List Headed → ℕ
start_at n [] = 0
start_at zero (f ∷ fs) = 0
start_at (suc n) (f ∷ fs) = length f.area + start_at n fs

-- ---- by the files' bytes

-- these reads were taken
pub record AreTallied (rs : List Read) (old new : Tally) : Type 0 where
  pub reads : map read_of new.reads ≡ map read_of old.reads ++ filter (λ r. not (is_filler r.what.kind)) rs
  pub rid : new.rid ≡ rid_of_reads old.rid rs
  pub fillers : new.fillers ≡ old.fillers + length (filter (λ r. is_filler r.what.kind) rs)

-- the id of the file in which a reading ends
abbrev pub end_id : ℕ → List Headed → ℕ
end_id p [] = 0
end_id p (f ∷ fs) = (ends_in p f fs).id

module _ (fs : List Headed) (from : Course) (rid : ℕ) where
  abbrev pub claims_left : Checked
  claims_left =
      left from.given (begin_place from.given fs) (epoch_end from.given fs) from.id (start_at from.came fs) rid (epoch_reading from.given fs) (drop from.came fs)

-- the reading was taken to its end
pub record IsReadOn (fs : List Headed) (from to : Course) (old new : Tally) : Type 0 where
  pub claims : claims_left fs from old.rid ≡ Ok tt
  pub tallied : AreTallied (map (located fs) (epoch_reading from.given fs)) old new
  pub past : drop to.came fs ≡ after_end (epoch_end from.given fs) fs
  pub id : to.id ≡ end_id (epoch_end from.given fs) fs

abbrev pub ReadsOn : List Headed → Course → Tally → Tally → Result Course LogFault → Type 0
ReadsOn fs from old new (Ok to) = IsReadOn fs from to old new
ReadsOn fs from old new (Err Failed) = Unit {0}
ReadsOn fs from old new (Err Memory) = Unit {0}
ReadsOn fs from old new (Err (Damaged file rule)) = claims_left fs from old.rid ≡ Err (file, rule)

pub record IsEpochRead (oldest last : Bool) (fs : List Headed) (old new : Tally) (count : ℕ) : Type 0 where
  pub claims : epoch_claims oldest last old.rid fs (epoch_reading oldest fs) ≡ Ok tt
  pub tallied : AreTallied (map (located fs) (epoch_reading oldest fs)) old new
  pub past : count ≡ length (after_end (epoch_end oldest fs) fs)

abbrev pub ReadsEpoch : Bool → Bool → List Headed → Tally → Tally → Result ℕ LogFault → Type 0
ReadsEpoch oldest last fs old new (Ok past) = IsEpochRead oldest last fs old new past
ReadsEpoch oldest last fs old new (Err Failed) = Unit {0}
ReadsEpoch oldest last fs old new (Err Memory) = Unit {0}
ReadsEpoch oldest last fs old new (Err (Damaged file rule)) = epoch_claims oldest last old.rid fs (epoch_reading oldest fs) ≡ Err (file, rule)

pub record AreEpochsRead (oldest : Bool) (es : List (List Headed)) (old new : Tally) (count : ℕ) : Type 0 where
  pub claims : epochs_claims oldest old.rid es ≡ Ok tt
  pub tallied : AreTallied (reads_of oldest es) old new
  pub past : count ≡ length (past_in oldest es)

abbrev pub ReadsEpochs : Bool → List (List Headed) → Tally → Tally → Result ℕ LogFault → Type 0
ReadsEpochs oldest es old new (Ok past) = AreEpochsRead oldest es old new past
ReadsEpochs oldest es old new (Err Failed) = Unit {0}
ReadsEpochs oldest es old new (Err Memory) = Unit {0}
ReadsEpochs oldest es old new (Err (Damaged file rule)) = epochs_claims oldest old.rid es ≡ Err (file, rule)
