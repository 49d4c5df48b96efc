-- The damage rules, in the order in which they are tested: the first that fails is the damage, with the id of its file.
-- Rules of one file come before those of files in a row, and these before those of readings.
use Rattle.std.specs.Prelude.{ℕ, ◌+◌, ◌-◌, ◌^◌, Bool, true, false, ◌&&◌, ◌||◌, List, [], ◌∷◌, ◌++◌, map, length, take, Result, Ok, if◌then◌else◌, ◌==◌, nat_lt, nat_le}
use Rattle.std.specs.List.{filter}
use Rattle.qls_shape.specs.Claims.{claim, each, of_file, ◌>>=◌, ◌>>◌}
use Rattle.qls_site.specs.declared.site.Place.{Place}
use Rattle.qls_site.specs.declared.site.Place.TheVariants.{InUse, Empty}
use Rattle.qls_site.specs.declared.site.ImageFile.{ImageFile}
use Rattle.qls_site.specs.Disk.{Image}
use Rattle.qls_record.specs.Record.{rid_given, is_enqueue}
use Rattle.qls_filehdr.specs.declared.Rule.{Rule}
use Rattle.qls_filehdr.specs.declared.Rule.TheVariants as rule
use Rattle.qls_model.specs.Limits.{is_partition, is_kib, file_size}
use Rattle.qls_filehdr.specs.Limits.{is_counter}
use Rattle.qls_filehdr.specs.Header.{header_of}
use Rattle.qls_meaning.specs.Journals.{Headed, Journal, in_use, empties, journals_of, epochs}
use Rattle.qls_meaning.specs.Reading.{Placed, begin_place, epoch_reading, end_from}

-- the id of a file, and the rule that fails there
abbrev pub Damage : Type 0
Damage = ℕ × Rule

-- nothing fails, or the first that does
abbrev pub Checked : Type 0
Checked = Result (Unit {0}) Damage

-- ---- each file for itself: ids first, then empty files, then headers

abbrev pub id_claim : ImageFile → Checked
id_claim f = of_file f.id (claim (is_counter f.id) rule.Id)

abbrev pub is_pool : ℕ → Place → Bool
is_pool size InUse = true
is_pool size (Empty part kib) = is_partition part && is_kib kib && size == file_size kib

abbrev pub pool_claim : ImageFile → Checked
pool_claim f = of_file f.id (claim (is_pool (length f.bytes) f.place) rule.Pool)

-- a file in use: room for a header, the header's own rules, and the size that the header tells
abbrev pub header_claims : ImageFile → Checked
header_claims f = of_file f.id (do
  claim (nat_le 4096 (length f.bytes)) rule.Short
  h ← header_of (take 4096 f.bytes)
  claim (length f.bytes == file_size h.kib) rule.Size)

-- ---- the files of a journal, each after the one before it

abbrev pub next_claims : Headed → Headed → Checked
next_claims f g = of_file g.id (do
  claim (g.header.number == f.header.number + 1) rule.Number
  claim (nat_le f.header.epoch g.header.epoch) rule.Epoch
  claim (g.header.part == f.header.part && g.header.kib == f.header.kib) rule.Home)

abbrev pub chain_claims : List Headed → Checked
chain_claims [] = Ok tt
chain_claims (f ∷ []) = Ok tt
chain_claims (f ∷ g ∷ fs) = next_claims f g >>= λ _. chain_claims (g ∷ fs)

-- ---- the readings

-- the rid in force at a place: that of the last enqueue that begins before it, or what was in force as the epoch began
abbrev pub rid_before : ℕ → List Placed → ℕ → ℕ
rid_before rid [] p = rid
rid_before rid (r ∷ rs) p = rid_before (if is_enqueue r.what.kind && nat_lt r.at p then r.what.rid else rid) rs p

-- the rid in force as the epoch ends
abbrev pub rid_at_end : ℕ → List Placed → ℕ
rid_at_end rid [] = rid
rid_at_end rid (r ∷ rs) = rid_at_end (if is_enqueue r.what.kind then r.what.rid else rid) rs

-- the first of these places of the stream that lies in a file with this start and size, as a place in that file; 0 where none does
abbrev pub first_in : ℕ → ℕ → List ℕ → ℕ
first_in start size [] = 0
first_in start size (p ∷ ps) =
    if nat_lt p start then first_in start size ps else (if nat_lt p (start + size) then 4096 + (p - start) else 0)

-- each file with the place of the stream where its data area starts
pub record Spread : Type 0 where
  pub file : Headed
  pub start : ℕ

abbrev pub spread : ℕ → List Headed → List Spread
spread start [] = []
spread start (f ∷ fs) = record { file = f; start = start } ∷ spread (start + length f.area) fs

-- the file in which a reading ends that ends at p: the one that holds p, and the last one at the end of the stream
abbrev pub ends_in : ℕ → Headed → List Headed → Headed
ends_in p f [] = f
ends_in p f (g ∷ fs) = if nat_lt p (length f.area) then f else ends_in (p - length f.area) g fs

-- where the data area of the last file starts
abbrev pub last_start : List Headed → ℕ
last_start [] = 0
last_start (f ∷ []) = 0
last_start (f ∷ g ∷ fs) = length f.area + last_start (g ∷ fs)

module _ (oldest last : Bool) (rid : ℕ) (E : List Headed) (reads : List Placed) where
  abbrev pub begin : ℕ
  begin = begin_place oldest E

  abbrev pub end : ℕ
  end = end_from begin reads

  -- in the oldest epoch the reading begins in this file or in a later one, so the first place of this one is what it begins with
  abbrev pub first_is_given : ℕ → Bool
  first_is_given start = oldest && nat_le start begin

  abbrev pub starts_in : Spread → Placed → Bool
  starts_in s r = nat_le s.start r.at && nat_lt r.at (s.start + length s.file.area)

  abbrev pub order_claim : Spread → Placed → Checked
  order_claim s r = of_file s.file.id
      (claim (r.what.rid == rid_given (rid_before rid reads r.at) r.what.kind && nat_lt r.what.rid (2 ^ 62)) rule.Order)

  -- A file's first place and rid as the reading has them, and then the records that start in it. The places of a reading are where its
  -- records start, and its end, where the next record would. Files past the end have neither; the journal's oldest file sets the rid
  abbrev pub file_claims : Spread → Checked
  file_claims s = do
    of_file s.file.id (claim (nat_lt end s.start || first_is_given s.start
        || s.file.header.first == first_in s.start (length s.file.area) (map (λ r. r.at) reads ++ end ∷ [])) rule.First)
    of_file s.file.id (claim (nat_lt end s.start || (oldest && s.start == 0) || s.file.header.rid == rid_before rid reads s.start) rule.Rid)
    each (order_claim s) (filter (starts_in s) reads)

  abbrev pub end_claim : List Headed → Checked
  end_claim [] = Ok tt
  end_claim (f ∷ fs) = of_file (ends_in end f fs).id (claim (last || nat_le (last_start (f ∷ fs)) end) rule.End)

  abbrev pub epoch_claims : Checked
  epoch_claims = each file_claims (spread 0 E) >>= λ _. end_claim E

-- the epochs in turn, from the rid in force: the first is the journal's oldest, or isn't
abbrev pub epochs_claims : Bool → ℕ → List (List Headed) → Checked
epochs_claims oldest rid [] = Ok tt
epochs_claims oldest rid (e ∷ []) = epoch_claims oldest true rid e (epoch_reading oldest e)
epochs_claims oldest rid (e ∷ f ∷ es) =
    let reads = epoch_reading oldest e in
    epoch_claims oldest false rid e reads >>= λ _. epochs_claims false (rid_at_end rid reads) (f ∷ es)

-- the rid in the header of the oldest file, with which the rids of a journal begin
abbrev pub oldest_rid : List Headed → ℕ
oldest_rid [] = 0
oldest_rid (f ∷ fs) = f.header.rid

abbrev pub reading_claims : Journal → Checked
reading_claims j = epochs_claims true (oldest_rid j.files) (epochs j.files)

-- ---- the first that fails

-- all that is seen without reading a record, and the journals where nothing fails
abbrev pub scanned : Image → Result (List Journal) Damage
scanned i = do
  each id_claim i
  each pool_claim (empties i)
  each header_claims (in_use i)
  each (λ j. chain_claims j.files) (journals_of i)
  Ok (journals_of i)

-- and the readings too: no damage, or the first
abbrev pub undamaged : Image → Result (List Journal) Damage
undamaged i = do
  js ← scanned i
  each reading_claims js
  Ok js
