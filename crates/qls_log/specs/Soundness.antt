-- A log's journal breaks no damage rule, from its first call on, and a disk of such journals has no damage.
use Rattle.std.specs.Prelude.{◌≡◌, true, List, [], length, Ok}
use Rattle.std.specs.List.{AllByRecursion}
use Rattle.qls_site.specs.declared.site.ImageFile.{ImageFile}
use Rattle.qls_site.specs.Disk.{Disk, full}
use Rattle.qls_site.specs.Content.{Content, moments_since}
use Rattle.qls_filehdr.specs.Limits.{is_counter}
use Rattle.qls_meaning.specs.Journals.{is_of, in_use, empties, headed}
use Rattle.qls_meaning.specs.Reading.{Read, journal_reading}
use Rattle.qls_meaning.specs.History.{AllUnmarked}
use Rattle.qls_meaning.specs.Damage.{is_pool, chain_claims, reading_claims, oldest_rid}
use Rattle.qls_meaning.specs.Dead.{past_files}
use Rattle.qls_meaning.specs.Spent.{rid_of_reads}
use Rattle.qls_meaning.specs.Orderly.{journal_on}
use Rattle.qls_log.specs.Logs.{LogState, IsSound, without_first}
use Rattle.qls_log.specs.Standing.{files_on, LogThere}
use Rattle.qls_log.specs.Reads.{IsRead}

-- No rule on files in a row fails in the journal on the disk, and none on its reading, and none of its files lies past that; the rid in
-- force where the reading ends is the log's, so that the next batch goes on from it
pub record IsUndamaged (l : LogState) (d : Disk) : Type 0 where
  pub chain : chain_claims (files_on l.opening d) ≡ Ok tt
  pub reading : reading_claims (journal_on d l.opening.kind l.opening.name) ≡ Ok tt
  pub past : past_files (journal_on d l.opening.kind l.opening.name) ≡ []
  pub rid : rid_of_reads (oldest_rid (files_on l.opening d)) (journal_reading (journal_on d l.opening.kind l.opening.name)) ≡ l.rid

-- where every file that came into use was unmarked, the new log's journal breaks no rule
abbrev pub BeginsUndamaged : LogState → Content → Content → Type 0
BeginsUndamaged l a b = AllUnmarked a.now (moments_since a b) → IsUndamaged l b.now.disk

-- where every file that came into use was unmarked, and the journal was read up to where the batch goes, it breaks no rule if it broke
-- none before
abbrev pub StaysUndamaged : LogState → LogState → Content → Content → Type 0
StaysUndamaged old new a b =
    AllUnmarked a.now (moments_since a b) → (reads : List Read) → IsRead old reads a.now.disk → IsUndamaged old a.now.disk → IsUndamaged new b.now.disk

-- ---- a disk of such journals

-- the file belongs to the journal of a log that isn't ended, that stands on the disk and breaks no rule
pub record BelongsToLog (d : Disk) (f : ImageFile) : Type 0 where
  pub log : LogState
  pub sound : IsSound log
  pub there : LogThere log d
  pub undamaged : IsUndamaged log d
  pub own : is_of log.opening.kind log.opening.name (headed f) ≡ true

-- so does every file in use; ids are counters, and empty files have the size and the limits of their pool
pub record AllBelongToLogs (d : Disk) : Type 0 where
  pub ids : AllByRecursion (λ f. is_counter f.id ≡ true) (full d)
  pub pools : AllByRecursion (λ f. is_pool (length f.bytes) f.place ≡ true) (empties (full d))
  pub files : AllByRecursion (BelongsToLog d) (in_use (full d))

-- ---- without the oldest file

abbrev pub log_without_oldest : LogState → LogState
log_without_oldest l = without_first 1 l

-- on a disk where the journal is without its oldest file, the log without it breaks no rule and these records are read
pub record IsKeptWithout (l : LogState) (reads : List Read) (d : Disk) : Type 0 where
  pub undamaged : IsUndamaged (log_without_oldest l) d
  pub read : IsRead (log_without_oldest l) reads d
