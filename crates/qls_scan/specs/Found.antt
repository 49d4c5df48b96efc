-- What a scan finds, and what it answers where a rule fails.
use Rattle.std.specs.Prelude.{◌≡◌, ℕ, ◌≤◌, ◌<◌, ◌^◌, Bool, true, false, max, List, [], ◌∷◌, map, length, take, Result, Ok, Err, IsTrue}
use Rattle.std.specs.List.{AllByRecursion}
use Rattle.qls_model.specs.Bytes.{comes_before}
use Rattle.qls_site.specs.declared.site.SiteError.{SiteError}
use Rattle.qls_site.specs.declared.site.SiteError.TheVariants as site
use Rattle.qls_site.specs.declared.site.FileAt.{FileAt}
use Rattle.qls_site.specs.declared.site.ImageFile.{ImageFile}
use Rattle.qls_site.specs.Disk.{Disk, Image, bytes_at}
use Rattle.qls_site.specs.Content.{Rose}
use Rattle.qls_filehdr.specs.declared.JournalKind.{JournalKind}
use Rattle.qls_filehdr.specs.declared.JournalKind.TheVariants.{Queue, List as Listed}
use Rattle.qls_filehdr.specs.Limits.{is_legal_header}
use Rattle.qls_filehdr.specs.Header.{header_spelling}
use Rattle.qls_meaning.specs.Journals.{Headed, Journal, empties, journals_of}
use Rattle.qls_meaning.specs.Damage.{scanned, is_pool, chain_claims}
use Rattle.qls_scan.specs.declared.answers.HeadedFile.{HeadedFile}
use Rattle.qls_scan.specs.declared.answers.JournalFiles.{JournalFiles}
use Rattle.qls_scan.specs.declared.answers.Found.{Found}
use Rattle.qls_scan.specs.declared.answers.ScanFault.{ScanFault}
use Rattle.qls_scan.specs.declared.answers.ScanFault.TheVariants.{Failed, Memory, Damaged}

-- a file as the listing shows it
abbrev pub listed_as : ImageFile → FileAt
listed_as f = record { id = f.id; place = f.place; size = length f.bytes }

-- what is kept of a file in use: all but its data area
abbrev pub head_of : Headed → HeadedFile
head_of f = record { id = f.id; header = f.header }

-- the file again, with no data area
abbrev pub with_no_area : HeadedFile → Headed
with_no_area f = record { id = f.id; header = f.header; area = [] }

abbrev pub files_of : Journal → JournalFiles
files_of j = record { kind = j.kind; name = j.name; files = map head_of j.files }

-- the greatest of these, 0 where there is none
abbrev pub greatest : List ℕ → ℕ
greatest [] = 0
greatest (n ∷ ns) = max n (greatest ns)

-- no rule fails that is seen without reading a record, and these are the journals, the empty files and the greatest id
pub record IsFound (i : Image) (found : Found) : Type 0 where
  pub undamaged : scanned i ≡ Ok (journals_of i)
  pub journals : found.journals ≡ map files_of (journals_of i)
  pub empties : found.empties ≡ map listed_as (empties i)
  pub greatest : found.greatest ≡ greatest (map (λ f. f.id) i)

-- where it is damaged that is the first rule that fails, and its file
abbrev pub IsFirstDamage : Image → Result Found ScanFault → Type 0
IsFirstDamage i (Ok found) = Unit {0}
IsFirstDamage i (Err Failed) = Unit {0}
IsFirstDamage i (Err Memory) = Unit {0}
IsFirstDamage i (Err (Damaged file rule)) = scanned i ≡ Err (file, rule)

-- in front of the file stands the one spelling of its header
abbrev pub IsSpelledOn : Disk → HeadedFile → Type 0
IsSpelledOn d f = take 4096 (bytes_at f.id d) ≡ header_spelling f.header

abbrev pub AreSpelledOn : Disk → JournalFiles → Type 0
AreSpelledOn d j = AllByRecursion (IsSpelledOn d) j.files

-- ---- what holds of each answer, told or not

-- the count doesn't fall, and Failed is answered only where it rose
pub record HasCause {X : Type 0} (before now : ℕ) (result : Result X ScanFault) : Type 0 where
  pub kept : before ≤ now
  pub failed : result ≡ Err Failed → Rose before now

abbrev pub fault_of : SiteError → ScanFault
fault_of site.Failed = Failed
fault_of site.Memory = Memory

-- the file has a header within the limits, of that journal
pub record IsFileOf (j : JournalFiles) (f : HeadedFile) : Type 0 where
  pub legal : IsTrue (is_legal_header f.header)
  pub kind : f.header.kind ≡ j.kind
  pub name : f.header.name ≡ j.name

-- the journal has files, all are its own, and each follows the one before it by number, epoch and pool
pub record IsInOrder (j : JournalFiles) : Type 0 where
  pub some : 0 < length j.files
  pub own : AllByRecursion (IsFileOf j) j.files
  pub chain : chain_claims (map with_no_area j.files) ≡ Ok tt

-- the prepared list goes before every queue, and a queue before those whose names come later in byte order
abbrev pub kind_before : JournalKind → JournalKind → List ℕ → List ℕ → Bool
kind_before Queue Queue m n = comes_before m n
kind_before Queue Listed m n = false
kind_before Listed Queue m n = true
kind_before Listed Listed m n = false

abbrev pub goes_before : JournalFiles → JournalFiles → Bool
goes_before j k = kind_before j.kind k.kind j.name k.name

-- each journal goes before all later ones
abbrev pub JournalsRise : List JournalFiles → Type 0
JournalsRise [] = Unit {0}
JournalsRise (j ∷ js) = AllByRecursion (λ k. goes_before j k ≡ true) js × JournalsRise js

-- the journals rise and each is in order, each empty file is of a pool within the limits, and the greatest id is below 2 ^ 62
pub record IsSound (found : Found) : Type 0 where
  pub rise : JournalsRise found.journals
  pub journals : AllByRecursion IsInOrder found.journals
  pub empties : AllByRecursion (λ f. is_pool f.size f.place ≡ true) found.empties
  pub greatest : found.greatest < 2 ^ 62
