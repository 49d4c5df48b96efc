-- The words of the laws on readings.
use Rattle.std.specs.Prelude.{◌≡◌, ℕ, suc, ◌+◌, ◌<◌, ◌≤◌, Bool, false, List, [], ◌∷◌, ◌++◌, map, length, take, drop, Option, Some, None, IsTrue}
use Rattle.std.specs.List.{AllByRecursion}
use Rattle.qls_record.specs.Record.{Record, is_legal}
use Rattle.qls_record.specs.Spelling.{Spells}
use Rattle.qls_meaning.specs.Journals.{Headed, version_in}
use Rattle.qls_meaning.specs.Reading.{Holder, holder, Placed, stream, record_in, held_record, length_in, records_from, spelled_from, end_from}
use Rattle.qls_meaning.specs.History.{History, FreeArea}
use Rattle.qls_meaning.specs.Chance.{WrittenAt}

-- ---- what a reading is

-- the record's spelling, for the version and the serial of the file that holds the place, stands at the front of the bytes
abbrev pub IsSpelledFor : Option Holder → List ℕ → Record → Type 0
IsSpelledFor None bytes r = ⊥
IsSpelledFor (Some h) bytes r = Spells (version_in h.file) h.file.header.serial bytes r

abbrev pub IsSpelledAt : List Headed → ℕ → Record → Type 0
IsSpelledAt fs p r = IsSpelledFor (holder fs p) (drop p (stream fs)) r

-- from p on each record is spelled where the one before it ends, and none is spelled where the last one ends
abbrev pub IsReading : List Headed → ℕ → List Placed → Type 0
IsReading fs p [] = (r : Record) → IsSpelledAt fs p r → ⊥
IsReading fs p (r ∷ rs) = (r.at ≡ p) × IsSpelledAt fs p r.what × (r.after ≡ p + length_in fs p r.what) × IsReading fs r.after rs

-- ---- in the middle of a batch

-- the places that a run of records comes to
abbrev pub places_from : ℕ → List Placed → List ℕ
places_from p rs = map (λ r. r.at) rs ++ end_from p rs ∷ []

-- a record that stands at the place ends before the limit, or at it
abbrev pub SpellsWithin : ℕ → List Headed → ℕ → Type 0
SpellsWithin limit fs p = (r : Record) → record_in fs p ≡ Some r → p + length_in fs p r ≤ limit

-- every record of the batch is legal where it is spelled
abbrev pub held_legal : Option Holder → Record → Bool
held_legal None r = false
held_legal (Some h) r = is_legal (version_in h.file) r

abbrev pub LegalFrom : List Headed → ℕ → List Record → Type 0
LegalFrom fs p [] = Unit {0}
LegalFrom fs p (r ∷ rs) = IsTrue (held_legal (holder fs p) r) × LegalFrom fs (p + length_in fs p r) rs

-- of a batch at p the first w bytes are written, and none of the n records read there ends past them
pub record IsBegun (fs : List Headed) (n p w : ℕ) (rs : List Record) : Type 0 where
  pub legal : LegalFrom fs p rs
  pub part : w ≤ length (spelled_from fs p rs)
  pub front : take w (drop p (stream fs)) ≡ take w (spelled_from fs p rs)
  pub within : AllByRecursion (SpellsWithin (p + w) fs) (places_from p (records_from fs n p))

-- each byte of the stream from the limit on lies in an unwritten sector
abbrev pub UnwrittenFrom : List FreeArea → History → List Headed → ℕ → Type 0
UnwrittenFrom areas h fs limit = (q : ℕ) → limit ≤ q → q < length (stream fs) → WrittenAt areas h (holder fs q) → ⊥

-- ---- the same records in other streams

-- the records stand in the stream, one behind the other
abbrev pub Stand : List Headed → ℕ → List Placed → Type 0
Stand fs p [] = Unit {0}
Stand fs p (r ∷ rs) = (r.at ≡ p) × (record_in fs p ≡ Some r.what) × (r.after ≡ p + length_in fs p r.what) × Stand fs r.after rs

-- n more records than these
abbrev pub fuel : List Placed → ℕ → ℕ
fuel [] n = n
fuel (r ∷ rs) n = suc (fuel rs n)

-- up to the limit both hold the same places for the same spellings, and have the same bytes
pub record AgreeUpTo (limit : ℕ) (fs gs : List Headed) : Type 0 where
  pub records : (p : ℕ) (bytes : List ℕ) → p < limit → held_record bytes (holder gs p) ≡ held_record bytes (holder fs p)
  pub lengths : (p : ℕ) (r : Record) → p < limit → length_in gs p r ≡ length_in fs p r
  pub front : take limit (stream gs) ≡ take limit (stream fs)
