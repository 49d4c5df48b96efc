-- A batch: records one behind another, and fillers up to the next block's end.
use Rattle.std.specs.Prelude.{ℕ, ◌+◌, ◌-◌, ◌*◌, ◌/◌, false, List, [], ◌∷◌, ◌++◌, replicate}
use Rattle.qls_shape.specs.declared.Version.TheVariants.{Two}
use Rattle.qls_record.specs.declared.Kind.TheVariants.{Filler}
use Rattle.qls_record.specs.Record.{Record, record_length}
use Rattle.qls_meaning.specs.Reading.{Placed}

-- how many bytes the records take
abbrev pub length_of : List Record → ℕ
length_of [] = 0
length_of (r ∷ rs) = record_length Two r + length_of rs

-- the least multiple of 4,096 that isn't below n
abbrev pub block_length : ℕ → ℕ
block_length n = (n + 4095) / 4096 * 4096

-- fillers of 128 bytes each up to the block's end
abbrev pub filler_count : List Record → ℕ
filler_count rs = (block_length (length_of rs) - length_of rs) / 128

abbrev pub filler_of : ℕ → Record
filler_of rid = record { kind = Filler; flagged = false; rid = rid; target = 0; xid = []; props = []; body = [] }

-- the rid of the last record, which is the rid in force behind it
abbrev pub last_rid : ℕ → List Record → ℕ
last_rid rid [] = rid
last_rid rid (r ∷ rs) = last_rid r.rid rs

abbrev pub with_fillers : List Record → List Record
with_fillers rs = rs ++ replicate (filler_count rs) (filler_of (last_rid 0 rs))

-- the records from a place on, each where the one before it ends
abbrev pub laid_from : ℕ → List Record → List Placed
laid_from p [] = []
laid_from p (r ∷ rs) = let after = p + record_length Two r in record { what = r; at = p; after = after } ∷ laid_from after rs

-- where each of them starts, and where the last one ends: there the next batch will start
abbrev pub places_from : ℕ → List Record → List ℕ
places_from p [] = p ∷ []
places_from p (r ∷ rs) = p ∷ places_from (p + record_length Two r) rs
