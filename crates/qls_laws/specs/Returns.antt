-- The words of the laws on files that go back to their pool: a journal without its oldest file.
use Rattle.std.specs.Prelude.{◌≡◌, ◌⊎◌, ℕ, ◌-◌, ◌<◌, ◌≤◌, Bool, true, not, List, [], ◌∷◌, ◌++◌, map, length, drop, ◌==◌}
use Rattle.std.specs.List.{AllByRecursion}
use Rattle.qls_site.specs.declared.site.Place.{Place}
use Rattle.qls_site.specs.declared.site.ImageFile.{ImageFile}
use Rattle.qls_site.specs.Disk.{Image}
use Rattle.qls_meaning.specs.Journals.{Headed, Journal, in_use, headed}
use Rattle.qls_meaning.specs.Reading.{Read}
use Rattle.qls_meaning.specs.Dead.{past_files, has_dead_oldest}
use Rattle.qls_laws.specs.Undamaged.{FilesBreakNoRule, BreaksNoRule, journal_with, JournalsBreakNoRule}

abbrev pub without_oldest : Journal → Journal
without_oldest j = record j { files = drop 1 j.files }

-- the record starts in another file than the one of this number
abbrev pub starts_elsewhere : ℕ → Read → Bool
starts_elsewhere n r = not (r.file == n)

-- a file has a data area, in which its first place lies, if it has one
pub record HasPlaces (f : Headed) : Type 0 where
  pub some : 0 < length f.area
  pub first : (f.header.first ≡ 0) ⊎ ((4096 ≤ f.header.first) × (f.header.first - 4096 < length f.area))

-- a journal of one epoch that breaks no rule, none of whose files lies past the reading
pub record IsWholeRun (j : Journal) : Type 0 where
  pub epoch : ℕ
  pub one : AllByRecursion (λ f. f.header.epoch ≡ epoch) j.files
  pub places : AllByRecursion HasPlaces j.files
  pub rules : BreaksNoRule j
  pub past : past_files j ≡ []

-- ---- a file of an image

-- the image with a file at a place, between others
abbrev pub with_between : Image → ImageFile → Place → Image → Image
with_between before f place after = before ++ record f { place = place } ∷ after

-- the file is the oldest of its journal among these, and dead; the journal is such a run
pub record MayGo (i : Image) (f : Headed) : Type 0 where
  pub rest : List Headed
  pub oldest : (journal_with (map headed (in_use i)) f).files ≡ f ∷ rest
  pub dead : has_dead_oldest (journal_with (map headed (in_use i)) f) ≡ true
  pub run : IsWholeRun (journal_with (map headed (in_use i)) f)

-- neither a file for itself nor the journal of a file in use breaks a rule
abbrev pub KeepsAllRules : Image → Type 0
KeepsAllRules i = FilesBreakNoRule i × JournalsBreakNoRule i
