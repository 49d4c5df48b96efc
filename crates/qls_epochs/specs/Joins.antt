-- The words of the laws on a journal that goes on in a later epoch.
use Rattle.std.specs.Prelude.{◌≡◌, ℕ, ◌<◌, List, [], ◌∷◌, ◌++◌, Ok}
use Rattle.std.specs.List.{AllByRecursion}
use Rattle.qls_meaning.specs.Journals.{Headed, Journal}
use Rattle.qls_meaning.specs.Reading.{journal_reading}
use Rattle.qls_meaning.specs.Damage.{next_claims, oldest_rid}
use Rattle.qls_meaning.specs.Spent.{rid_of_reads}
use Rattle.qls_laws.specs.Undamaged.{BreaksNoRule}
use Rattle.qls_laws.specs.Returns.{HasPlaces}

-- the journal with these files behind its own
abbrev pub joined : Journal → List Headed → Journal
joined j fs = record j { files = j.files ++ fs }

-- these files alone, as a journal of that kind and name
abbrev pub alone : Journal → List Headed → Journal
alone j fs = record j { files = fs }

-- the file comes next behind the last of these: its number is one more, and its home is theirs
abbrev pub ComesNext : List Headed → Headed → Type 0
ComesNext [] g = Unit {0}
ComesNext (f ∷ []) g = next_claims f g ≡ Ok tt
ComesNext (f ∷ h ∷ fs) g = ComesNext (h ∷ fs) g

-- the file comes next in the journal, its records begin with its data area, and it has the rid in force behind what is read of the journal
pub record Begins (j : Journal) (g : Headed) : Type 0 where
  pub next : ComesNext j.files g
  pub first : g.header.first ≡ 4096
  pub rid : g.header.rid ≡ rid_of_reads (oldest_rid j.files) (journal_reading j)

abbrev pub FirstBegins : Journal → List Headed → Type 0
FirstBegins j [] = Unit {0}
FirstBegins j (g ∷ gs) = Begins j g

-- the files of one epoch above those of the journal, which alone break no rule; the first of them, if any, begins there
pub record IsNextEpoch (j : Journal) (own : List Headed) : Type 0 where
  pub epoch : ℕ
  pub one : AllByRecursion (λ f. f.header.epoch ≡ epoch) own
  pub above : AllByRecursion (λ f. f.header.epoch < epoch) j.files
  pub places : AllByRecursion HasPlaces own
  pub rules : BreaksNoRule (alone j own)
  pub begins : FirstBegins j own
