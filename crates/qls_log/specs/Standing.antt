-- How a log stands on a disk.
use Rattle.std.specs.Prelude.{◌≡◌, ℕ, ◌+◌, ◌-◌, ◌*◌, true, false, List, [], ◌∷◌, length, take}
use Rattle.std.specs.List.{AllByRecursion}
use Rattle.qls_site.specs.Disk.{Disk, bytes_at}
use Rattle.qls_laws.specs.Areas.{IsUnmarkedFrom}
use Rattle.qls_filehdr.specs.Header.{header_spelling}
use Rattle.qls_log.specs.Writing.{AreInUse}
use Rattle.qls_meaning.specs.Journals.{Headed}
use Rattle.qls_meaning.specs.Reading.{Placed, begin_place, end_from}
use Rattle.qls_laws.specs.Readings.{Stand}
use Rattle.qls_meaning.specs.Orderly.{journal_on}
use Rattle.qls_pool.specs.Files.{HeadedFile, LinkedThere, RestsThere, IdsDiffer, is_among}
use Rattle.qls_log.specs.declared.opening.Opening.{Opening}
use Rattle.qls_log.specs.Logs.{LogState, capacity_in}

-- the files of the journal on the disk, by number
abbrev pub files_on : Opening → Disk → List Headed
files_on o d = (journal_on d o.kind o.name).files

-- the file on the disk has this header, and a data area of so many bytes
pub record IsThatFile (capacity : ℕ) (h : HeadedFile) (f : Headed) : Type 0 where
  pub id : f.id ≡ h.id
  pub header : f.header ≡ h.header
  pub area : length f.area ≡ capacity

-- one for one
abbrev pub AreThoseFiles : ℕ → List HeadedFile → List Headed → Type 0
AreThoseFiles capacity [] [] = Unit {0}
AreThoseFiles capacity [] (f ∷ fs) = ⊥
AreThoseFiles capacity (h ∷ hs) [] = ⊥
AreThoseFiles capacity (h ∷ hs) (f ∷ fs) = IsThatFile capacity h f × AreThoseFiles capacity hs fs

-- no two of the files have the same id
abbrev pub AreApart : List HeadedFile → Type 0
AreApart [] = Unit {0}
AreApart (h ∷ hs) = AllByRecursion (λ g. (g.id ≡ h.id) → ⊥) hs × AreApart hs

-- these are the journal's files, in use with their headers stable
pub record HasFiles (o : Opening) (hs : List HeadedFile) (d : Disk) : Type 0 where
  pub differ : IdsDiffer d
  pub apart : AreApart hs
  pub linked : AllByRecursion (λ h. LinkedThere h d) hs
  pub headers : AllByRecursion (λ h. take 4096 (bytes_at h.id d) ≡ header_spelling h.header) hs
  pub files : AreThoseFiles (capacity_in o) hs (files_on o d)

-- ---- what is pending

-- what is not pending for this log's next flush is stable
abbrev pub RestsBut : List ℕ → List HeadedFile → Disk → Type 0
RestsBut unsynced hs d = AllByRecursion (λ h. is_among h.id unsynced ≡ false → RestsThere h d) hs

-- ---- the log

-- the log's files are those of its journal, and only those of its last batch have pending writes, past their headers
pub record LogThere (l : LogState) (d : Disk) : Type 0 where
  pub waiting : AreInUse l.unsynced d
  pub there : HasFiles l.opening l.files d
  pub rests : RestsBut l.unsynced l.files d

-- ---- records

-- where the next batch goes, in the joined data areas
abbrev pub end_of : LogState → ℕ
end_of l = (length l.files - 1) * capacity_in l.opening + l.used

-- these records stand in the journal from its first data area on, one behind the other, up to where the next batch goes
pub record StandsWith (l : LogState) (kept : List Placed) (d : Disk) : Type 0 where
  pub begins : begin_place true (files_on l.opening d) ≡ 0
  pub stand : Stand (files_on l.opening d) 0 kept
  pub ends : end_from 0 kept ≡ end_of l

-- the serial of the newest file stands at byte 8 of no unit behind what is written, pending writes applied
abbrev pub LastIsUnmarked : ℕ → List Headed → Type 0
LastIsUnmarked used [] = Unit {0}
LastIsUnmarked used (f ∷ []) = IsUnmarkedFrom f.header.serial used f.area
LastIsUnmarked used (f ∷ g ∷ fs) = LastIsUnmarked used (g ∷ fs)

abbrev pub IsUnmarkedBehind : LogState → Disk → Type 0
IsUnmarkedBehind l d = LastIsUnmarked l.used (files_on l.opening d)
