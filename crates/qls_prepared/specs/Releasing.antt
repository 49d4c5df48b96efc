-- Files that no entry holds any more go back.
use Rattle.std.specs.Prelude.{◌≡◌, ℕ, false, List, Option, Some, None}
use Rattle.qls_site.specs.Disk.{Disk}
use Rattle.qls_decide.specs.declared.ListEntry.{ListEntry}
use Rattle.qls_enqmap.specs.declared.Held.{Held}
use Rattle.qls_enqmap.specs.Records.{least_file}
use Rattle.qls_meaning.specs.Dead.{has_dead_oldest}
use Rattle.qls_meaning.specs.Orderly.{journal_on}
use Rattle.qls_pool.specs.Files.{HeadedFile}
use Rattle.qls_log.specs.Logs.{LogState}
use Rattle.qls_log.specs.Returning.{released}
use Rattle.qls_prepared.specs.Lists.{IsReadSo}

abbrev pub file_or : ℕ → Option ℕ → ℕ
file_or newest None = newest
file_or newest (Some file) = file

-- the least file in which an entry's enqueue starts, and the newest where there is none
abbrev pub first_needed : LogState → List Held → ℕ
first_needed l hs = file_or l.newest (least_file hs)

-- the oldest files before that one
abbrev pub dead_files : LogState → List Held → List HeadedFile
dead_files l hs = released (first_needed l hs) l

-- the journal says the entries, and its oldest file isn't dead
pub record IsReadClean (l : LogState) (es : List ListEntry) (hs : List Held) (d : Disk) : Type 0 where
  pub whole : IsReadSo l es hs d
  pub alive : has_dead_oldest (journal_on d l.opening.kind l.opening.name) ≡ false
