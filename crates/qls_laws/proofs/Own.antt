-- An image spells no other records than it does itself.
use Rattle.std.proofs.Common.{◌≡◌, ℕ, Bool, true, false, List, [], ◌∷◌, map, refl, sym, ap, ◌∙◌}
use Rattle.std.specs.List.{AllByRecursion}
use Rattle.qls_site.specs.Disk.{Image}
use Rattle.qls_meaning.specs.Journals.{Headed, in_use, headed, journals_of, epochs}
use Rattle.qls_meaning.specs.Reading.{record_in}
use Rattle.qls_meaning.specs.Chance.{seen_in, places, SpellsNoOther, EachPlace, EachPlaceOf}
use Rattle.qls_meaning.specs.Kept.{ids_of, Differ}
use Rattle.qls_laws.proofs.Seen.{All-epochs, All-journals}
use Rattle.qls_laws.proofs.CrashReading.{finds_own, IsFoundIn, found_in_use}

pub All-of : {A : Type 0} (P : A → Type 0) → ((x : A) → P x) → (xs : List A) → AllByRecursion P xs
All-of P f [] = tt
All-of P f (x ∷ xs) = (f x, All-of P f xs)

All-by : {A : Type 0} (P Q : A → Type 0) → ((x : A) → P x → Q x) → (xs : List A) → AllByRecursion P xs → AllByRecursion Q xs
All-by P Q f [] h = tt
All-by P Q f (x ∷ xs) h = (f x h.0, All-by P Q f xs h.1)

module _ (i : Image) where
  -- files with the data areas that the image has look the same in it
  seen_found : (e : List Headed) → AllByRecursion (IsFoundIn i) e → map (seen_in i) e ≡ e
  seen_found [] found = refl
  seen_found (f ∷ e) found = λ k. record f { area = sym found.0 k } ∷ seen_found e found.1 k

  own_place : (e : List Headed) → AllByRecursion (IsFoundIn i) e → (p : ℕ) → SpellsNoOther i e p
  own_place e found p r is = ap (λ fs. record_in fs p) (sym (seen_found e found)) ∙ is

  own_places : (oldest : Bool) (es : List (List Headed)) → AllByRecursion (AllByRecursion (IsFoundIn i)) es → EachPlace (SpellsNoOther i) oldest es
  own_places oldest [] found = tt
  own_places oldest (e ∷ es) found = (All-of (SpellsNoOther i e) (own_place e found.0) (places oldest e), own_places false es found.1)

  pub spells_its_own : Differ (ids_of i) → EachPlaceOf (SpellsNoOther i) i
  spells_its_own differ =
      All-by (λ j. AllByRecursion (IsFoundIn i) j.files) (λ j. EachPlace (SpellsNoOther i) true (epochs j.files))
      (λ j found. own_places true (epochs j.files) (All-epochs (IsFoundIn i) j.files found))
      (journals_of i) (All-journals (IsFoundIn i) (map headed (in_use i)) (found_in_use i i (finds_own i differ)))
