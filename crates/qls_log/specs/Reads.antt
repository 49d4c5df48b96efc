-- What is read of a log's journal, and what a batch adds to it.
use Rattle.std.specs.Prelude.{◌≡◌, ℕ, ◌+◌, ◌*◌, List, [], ◌++◌, map, drop, ◌==◌}
use Rattle.qls_record.specs.Record.{Record}
use Rattle.qls_site.specs.Disk.{Disk}
use Rattle.qls_site.specs.Content.{Content, moments_since}
use Rattle.qls_meaning.specs.Reading.{Placed, Read, epoch_end, journal_reading}
use Rattle.qls_meaning.specs.History.{AllUnmarked}
use Rattle.qls_meaning.specs.Orderly.{journal_on}
use Rattle.qls_blocks.specs.Batching.{with_fillers, laid_from}
use Rattle.qls_log.specs.Logs.{LogState, capacity_in}
use Rattle.qls_log.specs.Spots.{spot_of}
use Rattle.qls_log.specs.Standing.{IsUnmarkedBehind, files_on, end_of}

-- This is what is read of the journal on the disk. The reading of the files of this opening ends where the next batch goes, and what lies
-- behind that is unmarked. Without such a file the batch goes behind the older ones
pub record IsRead (l : LogState) (reads : List Read) (d : Disk) : Type 0 where
  pub reading : journal_reading (journal_on d l.opening.kind l.opening.name) ≡ reads
  pub ends : l.older * capacity_in l.opening + epoch_end (l.older == 0) (drop l.older (files_on l.opening d)) ≡ end_of l
  pub behind : IsUnmarkedBehind l d

-- a record, read at its spot
abbrev pub read_in : ℕ → ℕ → Placed → Read
read_in capacity present r = let s = spot_of capacity present r in record { what = r.what; file = s.file; at = s.at; end_file = s.end_file }

-- the records of a batch, fillers included, where the log lays them
abbrev pub batch_reads : LogState → List Record → List Read
batch_reads l rs = map (read_in (capacity_in l.opening) l.newest) (laid_from l.used (with_fillers rs))

-- where every file that came into use was unmarked, nothing is read of the new log
abbrev pub BeginsReading : LogState → Content → Content → Type 0
BeginsReading l a b = AllUnmarked a.now (moments_since a b) → IsRead l [] b.now.disk

-- where every file that came into use was unmarked, what was read before is read behind the batch, and then the batch; moments are only
-- added
pub record ReadsOn (rs : List Record) (old new : LogState) (a b : Content) : Type 0 where
  pub batch : map (λ r. r.what) (batch_reads old rs) ≡ with_fillers rs
  pub adds : b.moments ≡ a.moments ++ moments_since a b
  pub read : AllUnmarked a.now (moments_since a b) → (reads : List Read) → IsRead old reads a.now.disk → IsRead new (reads ++ batch_reads old rs) b.now.disk
