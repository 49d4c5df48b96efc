-- The words of the laws on damage: files and journals that break no rule.
use Rattle.std.specs.Prelude.{◌≡◌, true, List, map, length, Ok}
use Rattle.std.specs.List.{AllByRecursion}
use Rattle.qls_site.specs.Disk.{Image}
use Rattle.qls_filehdr.specs.Limits.{is_counter}
use Rattle.qls_meaning.specs.Journals.{Headed, Journal, in_use, empties, headed, journal}
use Rattle.qls_meaning.specs.Damage.{is_pool, header_claims, chain_claims, reading_claims}

-- no file breaks a rule for itself: ids are counters, empty files have their pool's size and limits, headers are legal
pub record FilesBreakNoRule (i : Image) : Type 0 where
  pub ids : AllByRecursion (λ f. is_counter f.id ≡ true) i
  pub pools : AllByRecursion (λ f. is_pool (length f.bytes) f.place ≡ true) (empties i)
  pub headers : AllByRecursion (λ f. header_claims f ≡ Ok tt) (in_use i)

-- no rule on its files in a row fails, and none on its reading
pub record BreaksNoRule (j : Journal) : Type 0 where
  pub chain : chain_claims j.files ≡ Ok tt
  pub reading : reading_claims j ≡ Ok tt

-- the journal to which a file belongs, among these files
abbrev pub journal_with : List Headed → Headed → Journal
journal_with fs f = journal fs f.header.kind f.header.name

-- the journal of each file in use breaks no rule
abbrev pub JournalsBreakNoRule : Image → Type 0
JournalsBreakNoRule i = let fs = map headed (in_use i) in AllByRecursion (λ f. BreaksNoRule (journal_with fs f)) fs
