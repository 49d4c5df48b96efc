-- What a listing shows of a site.
use Rattle.std.proofs.Common.{◌≡◌, ℕ, ◌<◌, Bool, true, false, List, [], ◌∷◌, map, Ok, refl, sym, ap, subst, arith}
use Rattle.std.proofs.lemmas.Bool.Decides.{nat_tests}
use Rattle.qls_shape.specs.Claims.{each, claim, of_file, ◌>>=◌}
use Rattle.qls_site.specs.declared.site.FileAt.{FileAt}
use Rattle.qls_site.specs.Disk.{Disk, Image, full, listed, listing, AllAbove, IdsRise}
use Rattle.qls_filehdr.specs.Limits.{is_counter}
use Rattle.qls_filehdr.specs.declared.Rule.TheVariants as rule
use Rattle.qls_meaning.specs.Damage.{Checked}
use Rattle.qls_scan.specs.Found.{listed_as}
use Rattle.qls_scan.specs.Listed.{listed_id_claim, ListedAbove, ListedRise}

pub listing_is : (d : Disk) → listing d ≡ map listed_as (full d)
listing_is [] = refl
listing_is (f ∷ d) = ap (λ fs. listed f ∷ fs) (listing_is d)

-- ---- the ids

above_listed : (id : ℕ) (i : Image) → AllAbove id i → ListedAbove id (map listed_as i)
above_listed id [] h = tt
above_listed id (f ∷ i) h = (h.0, above_listed id i h.1)

pub rise_listed : (i : Image) → IdsRise i → ListedRise (map listed_as i)
rise_listed [] h = tt
rise_listed (f ∷ i) h = (above_listed f.id i h.0, rise_listed i h.1)

counted : (id : ℕ) (b : Bool) → is_counter id ≡ b → (rest : Checked) → (of_file id (claim b rule.Id) >>= λ _. rest) ≡ Ok tt → (0 < id) × (rest ≡ Ok tt)
counted id true e rest h = (grind (arith, nat_tests, e), h)
counted id false e rest h = absurd (cc)

-- ids that keep their rule are above 0
pub ids_above : (fs : List FileAt) → each listed_id_claim fs ≡ Ok tt → ListedAbove 0 fs
ids_above [] h = tt
ids_above (f ∷ fs) h = let both = counted f.id (is_counter f.id) refl (each listed_id_claim fs) h in (both.0, ids_above fs both.1)

pub above_more : (low id : ℕ) (fs : List FileAt) → low < id → ListedAbove id fs → ListedAbove low fs
above_more low id [] l h = tt
above_more low id (f ∷ fs) l h = (omega (arith, l, h.0), above_more low id fs l h.1)

-- one more file in the order
pub order_more : (all fs rest : List FileAt) (f : FileAt) (last : ℕ) → last < f.id → fs ≡ f ∷ rest
    → (ListedAbove last fs × ListedRise fs → ListedRise all) → ListedAbove f.id rest × ListedRise rest → ListedRise all
order_more all fs rest f last l e up h =
    up (subst (λ gs. ListedAbove last gs × ListedRise gs) (sym e) ((l, above_more last f.id rest l h.0), h))

pub order_less : (fs rest : List FileAt) (f : FileAt) (last : ℕ) → fs ≡ f ∷ rest → ListedAbove last fs × ListedRise fs → ListedAbove f.id rest × ListedRise rest
order_less fs rest f last e h = (subst (λ gs. ListedAbove last gs × ListedRise gs) e h).1
