-- The words of the laws on clean areas: files that came into use over old bytes, and what is read of them.
use Rattle.std.specs.Prelude.{◌≡◌, ◌≢◌, ℕ, ◌+◌, ◌*◌, ◌<◌, ◌≤◌, ◌^◌, List, map, length, drop, Option, Some, None, if◌then◌else◌, ◌==◌, IsTrue}
use Rattle.std.specs.List.{flat_map, AllByRecursion}
use Rattle.std.specs.Int.{w64}
use Rattle.qls_shape.specs.declared.Version.TheVariants.{Two}
use Rattle.qls_shape.specs.Fields.{u64, bytes_from, number_at}
use Rattle.qls_record.specs.Record.{Record, is_legal}
use Rattle.qls_record.specs.Spelling.{spelling}
use Rattle.qls_site.specs.Disk.{Disk, file_of}
use Rattle.qls_meaning.specs.Journals.{Headed}
use Rattle.qls_meaning.specs.Reading.{Holder, holder, stream}
use Rattle.qls_meaning.specs.History.{FreeArea}

-- from this offset on the serial stands at byte 8 of no unit of 128 bytes
abbrev pub IsUnmarkedFrom : ℕ → ℕ → List ℕ → Type 0
IsUnmarkedFrom serial from bytes = (unit : ℕ) → from ≤ 128 * unit → 128 * unit + 128 ≤ length bytes → number_at w64 (128 * unit + 8) bytes ≢ serial

-- ---- an open value

-- its files are on the one disk as on the other
abbrev pub HasSameFiles : List FreeArea → Disk → Disk → Type 0
HasSameFiles areas d e = AllByRecursion (λ a. file_of a.id e ≡ file_of a.id d) areas

-- the file of this id is free from another offset on, and the others as before
abbrev pub freed_from : ℕ → ℕ → FreeArea → FreeArea
freed_from id from a = if a.id == id then record a { from = from } else a

abbrev pub with_free_from : ℕ → ℕ → List FreeArea → List FreeArea
with_free_from id from areas = map (freed_from id from) areas

-- ---- where no record stands

-- at the place the serial of the file that holds it stands at byte 8, and a unit at least is left
pub record IsMarkedAt (fs : List Headed) (p : ℕ) : Type 0 where
  pub at : Holder
  pub is : holder fs p ≡ Some at
  pub bytes : bytes_from 8 8 (drop p (stream fs)) ≡ u64 at.file.header.serial
  pub serial : at.file.header.serial < 2 ^ 64 → number_at w64 8 (drop p (stream fs)) ≡ at.file.header.serial
  pub room : p + 128 ≤ length (stream fs)

-- the serial of the file that holds the place doesn't stand at byte 8 there, or less than a unit is left
abbrev pub UnmarkedFor : Option Holder → List ℕ → Type 0
UnmarkedFor None bytes = Unit {0}
UnmarkedFor (Some h) bytes = (h.file.header.serial < 2 ^ 64) × (128 ≤ length bytes → number_at w64 8 bytes ≢ h.file.header.serial)

abbrev pub IsUnmarkedAt : List Headed → ℕ → Type 0
IsUnmarkedAt fs p = UnmarkedFor (holder fs p) (drop p (stream fs))

-- ---- the records of one file

abbrev pub AllLegal : List Record → Type 0
AllLegal rs = AllByRecursion (λ r. IsTrue (is_legal Two r)) rs

-- the spellings of the records, one behind the other
abbrev pub spelled : ℕ → List Record → List ℕ
spelled serial rs = flat_map (spelling Two serial) rs
