-- Journals that were read, how they stand on a disk, and the open journals over them.
use Rattle.std.specs.Prelude.{◌≡◌, ◌<◌, List, [], map, Result, Ok, Err, IfOk}
use Rattle.std.specs.List.{AllByRecursion}
use Rattle.qls_shape.specs.Claims.{each}
use Rattle.qls_record.specs.declared.Got.{Got}
use Rattle.qls_site.specs.Disk.{Disk, IsQuiet, full}
use Rattle.qls_site.specs.Content.{Content, moments_since}
use Rattle.qls_meaning.specs.Journals.{Journal, journals_of}
use Rattle.qls_meaning.specs.Damage.{reading_claims, scanned}
use Rattle.qls_meaning.specs.History.{History}
use Rattle.qls_meaning.specs.Meaning.{entries_of, queues_of as queues_in}
use Rattle.qls_meaning.specs.Spent.{list_rid}
use Rattle.qls_scan.specs.declared.answers.JournalFiles.{JournalFiles}
use Rattle.qls_scan.specs.Found.{files_of}
use Rattle.qls_reading.specs.declared.fault.LogFault.{LogFault}
use Rattle.qls_reading.specs.declared.fault.LogFault.TheVariants.{Failed, Memory, Damaged}
use Rattle.qls_reading.specs.ReadLogs.{ReadLogState, IsGiven, IsSoundLog, StandsAsRead, ReadsAs}
use Rattle.qls_pool.specs.Pools.{PoolState}
use Rattle.qls_pool.specs.Files.{IsWholePool}
use Rattle.qls_pool.specs.Moments.{Arrives}
use Rattle.qls_log.specs.Leaving.{WritesInOrder}
use Rattle.qls_log.specs.Unwritten.{history_with}
use Rattle.qls_prepared.specs.Lists.{rid_of}
use Rattle.qls_journals.specs.State.{JournalsState, queues_of, Fits, IsWhole}
use Rattle.qls_journals.specs.Homes.{SameHomes, homes_of, homes_on}
use Rattle.qls_journals.specs.Moments.{IsStoreStep, AreWritten}

-- a journal that was read whole, and its records
pub record ReadingState : Type 0 where
  pub log : ReadLogState
  pub records : List Got

-- what holds of it, told or not: its files are in order, and its records carry the record ids that follow
pub record IsReading (r : ReadingState) : Type 0 where
  pub log : IsSoundLog r.log
  pub given : IsGiven r.log.journal r.log r.records

abbrev pub journals_in : List ReadingState → List JournalFiles
journals_in rs = map (λ r. r.log.journal) rs

-- each stands on the disk as it was read
pub record StandsSo (d : Disk) (r : ReadingState) : Type 0 where
  pub log : StandsAsRead r.log d
  pub records : ReadsAs r.log r.records d

abbrev pub StandAsRead : List ReadingState → Disk → Type 0
StandAsRead rs d = AllByRecursion (StandsSo d) rs

-- no rule on the readings of these journals fails, or this is the first that does
abbrev pub ReadsAll : {X : Type 0} → List Journal → Result X LogFault → Type 0
ReadsAll js (Ok x) = each reading_claims js ≡ Ok tt
ReadsAll js (Err Failed) = Unit {0}
ReadsAll js (Err Memory) = Unit {0}
ReadsAll js (Err (Damaged file rule)) = each reading_claims js ≡ Err (file, rule)

-- These are all journals of the disk, and stand as they were read; no rule fails that is seen without reading a record. Nothing is
-- pending, ids are counters, and the pool is the site's
pub record MayOpen (handed : PoolState) (rs : List ReadingState) (d : Disk) : Type 0 where
  pub pool : IsWholePool handed d
  pub scanned : scanned (full d) ≡ Ok (journals_of (full d))
  pub ids : AllByRecursion (λ f. 0 < f.id) d
  pub quiet : IsQuiet d
  pub journals : journals_in rs ≡ map files_of (journals_of (full d))
  pub stand : StandAsRead rs d

-- The journals that were opened have the queues, the entries, the record id and the homes that the disk before the call gives, and fit the
-- site as whole journals
pub record Opens (s : JournalsState) (old new : Content) : Type 0 where
  pub arrives : Arrives IsStoreStep old new
  pub quiet : IsQuiet new.now.disk
  pub fits : Fits s new.now.disk
  pub whole : IsWhole s new.now.disk
  pub queues : queues_of s ≡ queues_in (journals_of (full old.now.disk))
  pub entries : s.list.entries ≡ entries_of (journals_of (full old.now.disk))
  pub rid : rid_of s.list ≡ list_rid old.now.disk
  pub homes : SameHomes (homes_of s) (homes_on s.home old.now.disk)

-- from the first moment on, writes are as the discipline has them; at Ok the files of the journals count as written
abbrev pub begun_at : Content → History
begun_at c = record { start = c.now; since = [] }

abbrev pub OpensWritten : {X E : Type 0} → Result X E → (X → JournalsState) → Content → Content → Type 0
OpensWritten r after old new =
    WritesInOrder [] (begun_at old) (moments_since old new) × IfOk r (λ x. AreWritten [] (history_with (begun_at old) (moments_since old new)) (after x))
