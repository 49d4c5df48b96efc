-- A journal that was read whole: what its headers and its records tell.
use Rattle.std.specs.Prelude.{◌≡◌, ℕ, ◌*◌, ◌<◌, ◌≤◌, ◌^◌, not, List, [], ◌∷◌, map, length, Result, Ok, Err}
use Rattle.std.specs.List.{filter, AllByRecursion}
use Rattle.qls_model.specs.declared.machine.PoolId.{PoolId}
use Rattle.qls_record.specs.declared.Got.{Got}
use Rattle.qls_record.specs.Record.{is_filler, rid_given}
use Rattle.qls_site.specs.Disk.{Disk, Image, IdsRise, full}
use Rattle.qls_site.specs.Content.{Content, Rose}
use Rattle.qls_meaning.specs.Journals.{Journal, headed, in_use, journal}
use Rattle.qls_meaning.specs.Reading.{read_of, journal_reading}
use Rattle.qls_meaning.specs.Damage.{oldest_rid, reading_claims}
use Rattle.qls_meaning.specs.Dead.{past_files}
use Rattle.qls_meaning.specs.Spent.{rid_of_reads}
use Rattle.qls_meaning.specs.Orderly.{journal_on}
use Rattle.qls_laws.specs.Undamaged.{BreaksNoRule}
use Rattle.qls_scan.specs.declared.answers.JournalFiles.{JournalFiles}
use Rattle.qls_scan.specs.declared.answers.HeadedFile.{HeadedFile}
use Rattle.qls_scan.specs.Found.{files_of, IsInOrder, AreSpelledOn}
use Rattle.qls_pool.specs.Files.{HeadedFile as LinkedFile}
use Rattle.qls_log.specs.declared.opening.Opening.{Opening}
use Rattle.qls_log.specs.Standing.{HasFiles, RestsBut, files_on}
use Rattle.qls_log.specs.Trimming.{opened_behind}
use Rattle.qls_reading.specs.declared.fault.LogFault.{LogFault}
use Rattle.qls_reading.specs.declared.fault.LogFault.TheVariants.{Failed, Memory, Damaged}
use Rattle.qls_reading.specs.Groups.{last_run}

-- the journal of these files as an image has it
abbrev pub journal_in : Image → JournalFiles → Journal
journal_in i j = journal (map headed (in_use i)) j.kind j.name

-- ids rise; these are all files of the journal with their headers, and each has the size that its header tells
pub record IsThere (j : JournalFiles) (c : Content) : Type 0 where
  pub rising : IdsRise (full c.now.disk)
  pub files : files_of (journal_in (full c.now.disk) j) ≡ j
  pub sizes : AllByRecursion (λ f. length f.area ≡ 1024 * f.header.kib) (journal_in (full c.now.disk) j).files

-- the files as they were found, the rid in force behind all records, how many fillers were read, and how many files lie past the reading
pub record ReadLogState : Type 0 where
  pub journal : JournalFiles
  pub rid : ℕ
  pub fillers : ℕ
  pub past : ℕ

-- what holds of every journal that was read: its files are in order, at least the first file of its newest epoch was come to, and the
-- rid in force is within its limit
pub record IsSoundLog (log : ReadLogState) : Type 0 where
  pub order : IsInOrder log.journal
  pub within : log.past < length (last_run log.journal.files)
  pub rid : log.rid < 2 ^ 62

-- ---- by the files' bytes

-- no rule on the reading fails; these are its records without the fillers
pub record IsReadWhole (j : Journal) (log : ReadLogState) (records : List Got) : Type 0 where
  pub rules : reading_claims j ≡ Ok tt
  pub reads : map read_of records ≡ filter (λ r. not (is_filler r.what.kind)) (journal_reading j)
  pub rid : log.rid ≡ rid_of_reads (oldest_rid j.files) (journal_reading j)
  pub fillers : log.fillers ≡ length (filter (λ r. is_filler r.what.kind) (journal_reading j))
  pub past : log.past ≡ length (past_files j)

-- the journal read whole, or the first rule that fails and its file
abbrev pub Says : Journal → Result (ReadLogState × List Got) LogFault → Type 0
Says j (Ok r) = IsReadWhole j r.0 r.1
Says j (Err Failed) = Unit {0}
Says j (Err Memory) = Unit {0}
Says j (Err (Damaged file rule)) = reading_claims j ≡ Err (file, rule)

-- ---- by the answer alone

-- each record carries the rid that follows from the one in force, below 2 ^ 62
abbrev pub AreGiven : ℕ → List Got → Type 0
AreGiven rid [] = Unit {0}
AreGiven rid (g ∷ gs) = (g.head.rid ≡ rid_given rid g.head.kind) × (g.head.rid < 2 ^ 62) × AreGiven g.head.rid gs

-- the rid in force behind these records
abbrev pub rid_behind : ℕ → List Got → ℕ
rid_behind rid [] = rid
rid_behind rid (g ∷ gs) = rid_behind g.head.rid gs

-- the rid in the oldest file's header
abbrev pub first_rid : List HeadedFile → ℕ
first_rid [] = 0
first_rid (f ∷ fs) = f.header.rid

pub record IsGiven (j : JournalFiles) (log : ReadLogState) (reads : List Got) : Type 0 where
  pub files : log.journal ≡ j
  pub rids : AreGiven (first_rid j.files) reads
  pub rid : log.rid ≡ rid_behind (first_rid j.files) reads

-- the count of faults doesn't fall, and Failed is answered only where it rose
pub record LogCauses {X : Type 0} (before now : ℕ) (result : Result X LogFault) : Type 0 where
  pub kept : before ≤ now
  pub failed : result ≡ Err Failed → Rose before now

-- ---- on a disk

-- the file as one that was put into use before
abbrev pub linked : HeadedFile → LinkedFile
linked f = record { id = f.id; header = f.header }

abbrev pub linked_files : JournalFiles → List LinkedFile
linked_files j = map linked j.files

-- the pool that the first file's header names
abbrev pub first_home : List HeadedFile → PoolId
first_home [] = record { part = 0; kib = 0 }
first_home (f ∷ fs) = record { part = f.header.part; kib = f.header.kib }

-- what the files have in common that are taken behind those that were found: they are of the pool of the first, and their epoch is the one
-- after that of the last
abbrev pub opening_behind : JournalFiles → Opening
opening_behind j = opened_behind j.kind j.name (first_home j.files) (linked_files j)

-- in front of each file stands the one spelling of its header, as a scan finds it
abbrev pub AreSpelled : JournalFiles → Disk → Type 0
AreSpelled j d = AreSpelledOn d j

-- its files are those on the disk, with nothing pending; it breaks no rule, and reads as it was read
pub record StandsAsRead (log : ReadLogState) (d : Disk) : Type 0 where
  pub there : HasFiles (opening_behind log.journal) (linked_files log.journal) d
  pub rests : RestsBut [] (linked_files log.journal) d
  pub rules : BreaksNoRule (journal_on d log.journal.kind log.journal.name)
  pub past : length (past_files (journal_on d log.journal.kind log.journal.name)) ≡ log.past
  pub rid : rid_of_reads (oldest_rid (files_on (opening_behind log.journal) d)) (journal_reading (journal_on d log.journal.kind log.journal.name)) ≡ log.rid

-- and these are its records, without the fillers
abbrev pub ReadsAs : ReadLogState → List Got → Disk → Type 0
ReadsAs log records d = map read_of records ≡ filter (λ r. not (is_filler r.what.kind)) (journal_reading (journal_on d log.journal.kind log.journal.name))
