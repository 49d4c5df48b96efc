-- The words of the laws on journals of any number of epochs.
use Rattle.std.specs.Prelude.{◌≡◌, true, List, [], ◌∷◌, map}
use Rattle.std.specs.List.{AllByRecursion}
use Rattle.qls_site.specs.Disk.{Image}
use Rattle.qls_meaning.specs.Journals.{Headed, Journal, in_use, headed}
use Rattle.qls_meaning.specs.Dead.{past_files, has_dead_oldest}
use Rattle.qls_laws.specs.Undamaged.{BreaksNoRule, journal_with}
use Rattle.qls_laws.specs.Returns.{HasPlaces}

-- a journal that breaks no rule, none of whose files lies past the reading
pub record IsWhole (j : Journal) : Type 0 where
  pub places : AllByRecursion HasPlaces j.files
  pub rules : BreaksNoRule j
  pub past : past_files j ≡ []

-- the file is the oldest of its journal among these, and dead; the journal is whole
pub record MayGoBack (i : Image) (f : Headed) : Type 0 where
  pub rest : List Headed
  pub oldest : (journal_with (map headed (in_use i)) f).files ≡ f ∷ rest
  pub dead : has_dead_oldest (journal_with (map headed (in_use i)) f) ≡ true
  pub whole : IsWhole (journal_with (map headed (in_use i)) f)
