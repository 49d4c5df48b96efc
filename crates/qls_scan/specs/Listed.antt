-- The rules that a listing shows.
use Rattle.std.specs.Prelude.{ℕ, ◌<◌, not, List, [], ◌∷◌}
use Rattle.std.specs.List.{filter}
use Rattle.qls_shape.specs.Claims.{claim, each, of_file, ◌>>◌}
use Rattle.qls_site.specs.declared.site.FileAt.{FileAt}
use Rattle.qls_filehdr.specs.Limits.{is_counter}
use Rattle.qls_filehdr.specs.declared.Rule.TheVariants as rule
use Rattle.qls_meaning.specs.Journals.{is_in_use}
use Rattle.qls_meaning.specs.Damage.{Checked, is_pool}

abbrev pub listed_id_claim : FileAt → Checked
listed_id_claim f = of_file f.id (claim (is_counter f.id) rule.Id)

abbrev pub listed_pool_claim : FileAt → Checked
listed_pool_claim f = of_file f.id (claim (is_pool f.size f.place) rule.Pool)

-- each id is less than those of all later files
abbrev pub ListedAbove : ℕ → List FileAt → Type 0
ListedAbove id [] = Unit {0}
ListedAbove id (f ∷ fs) = (id < f.id) × ListedAbove id fs

abbrev pub ListedRise : List FileAt → Type 0
ListedRise [] = Unit {0}
ListedRise (f ∷ fs) = ListedAbove f.id fs × ListedRise fs

-- the rule `id` of all files, and then the rule `pool` of all empty files
abbrev pub listed_claims : List FileAt → Checked
listed_claims fs = each listed_id_claim fs >> each listed_pool_claim (filter (λ f. not (is_in_use f.place)) fs)
