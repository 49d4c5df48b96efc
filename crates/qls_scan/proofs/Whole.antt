-- The scan as a whole, where the site tells its content.
use Rattle.std.proofs.Common.{◌≡◌, true, false, cond, not, List, [], ◌∷◌, map, Option, Some, None, IfSome, Result, Ok, Err, refl, sym, ap, ◌∙◌, subst}
use Rattle.std.specs.List.{filter}
use Rattle.qls_shape.specs.Claims.{each, ◌>>=◌, ◌>>◌}
use Rattle.qls_site.specs.declared.site.FileAt.{FileAt}
use Rattle.qls_site.specs.Disk.{Image, full, IdsRise}
use Rattle.qls_site.specs.Content.{Content, Moment, IsListed, Tells, OnlyLooks}
use Rattle.qls_meaning.specs.Journals.{headed, in_use, is_in_use, empties, journals, journals_of}
use Rattle.qls_meaning.specs.Damage.{Damage, Checked, id_claim, pool_claim, header_claims, chain_claims, scanned}
use Rattle.qls_scan.specs.declared.answers.HeadedFile.{HeadedFile}
use Rattle.qls_scan.specs.declared.answers.JournalFiles.{JournalFiles}
use Rattle.qls_scan.specs.declared.answers.ScanFault.{ScanFault}
use Rattle.qls_scan.specs.declared.answers.ScanFault.TheVariants.{Failed, Memory, Damaged}
use Rattle.qls_scan.specs.Found.{listed_as, head_of, with_no_area, files_of, greatest, IsFound, IsFirstDamage}
use Rattle.qls_scan.specs.Listed.{listed_id_claim, listed_pool_claim, listed_claims, ListedRise}
use Rattle.qls_scan.specs.Heads.{AreHeadsOf, HeadsAreRead}
use Rattle.qls_scan.proofs.HeadSteps.{IsTheListing}
use Rattle.qls_scan.proofs.Listings.{listing_is, rise_listed}
use Rattle.qls_scan.proofs.Blank.{same_journals, same_chains}

-- ---- the listing shows what the image has

ids_agree : (i : Image) → each listed_id_claim (map listed_as i) ≡ each id_claim i
ids_agree [] = refl
ids_agree (f ∷ i) = ap (λ (c : Checked). id_claim f >>= λ _. c) (ids_agree i)

empties_agree : (i : Image) → filter (λ f. not (is_in_use f.place)) (map listed_as i) ≡ map listed_as (empties i)
empties_agree [] = refl
empties_agree (f ∷ i) = elim (is_in_use f.place) as (λ b.
    cond (not b) (listed_as f ∷ filter (λ f. not (is_in_use f.place)) (map listed_as i)) (filter (λ f. not (is_in_use f.place)) (map listed_as i))
    ≡ map listed_as (cond (not b) (f ∷ empties i) (empties i))) [
      | true ↦ empties_agree i
      | false ↦ ap (λ r. listed_as f ∷ r) (empties_agree i)
    ]

pools_agree : (i : Image) → each listed_pool_claim (map listed_as i) ≡ each pool_claim i
pools_agree [] = refl
pools_agree (f ∷ i) = ap (λ (c : Checked). pool_claim f >>= λ _. c) (pools_agree i)

listed_agree : (i : Image) → listed_claims (map listed_as i) ≡ (each id_claim i >> each pool_claim (empties i))
listed_agree i = λ k. ids_agree i k >> (ap (each listed_pool_claim) (empties_agree i) ∙ pools_agree (empties i)) k

ids_of_listed : (i : Image) → map (λ (f : FileAt). f.id) (map listed_as i) ≡ map (λ f. f.id) i
ids_of_listed [] = refl
ids_of_listed (f ∷ i) = ap (λ ns. f.id ∷ ns) (ids_of_listed i)

-- ---- rules in their order

first_two : {A : Type 0} (a b : Checked) (r : Result A Damage) (x : Damage) → (a >> b) ≡ Err x → (a >> (b >> r)) ≡ Err x
first_two (Ok u) (Ok v) r x e = absurd (cc)
first_two (Ok u) (Err y) r x e = cc
first_two (Err y) b r x e = cc

pub both_kept : (a b : Checked) → (a >> b) ≡ Ok tt → (a ≡ Ok tt) × (b ≡ Ok tt)
both_kept (Ok u) b e = (refl, e)
both_kept (Err y) b e = absurd (cc)

module _ (i : Image) where
  abbrev chains : Checked
  chains = each (λ j. chain_claims j.files) (journals_of i)

  damaged_listing : (x : Damage) → listed_claims (map listed_as i) ≡ Err x → scanned i ≡ Err x
  damaged_listing x e = first_two (each id_claim i) (each pool_claim (empties i)) (each header_claims (in_use i) >> (chains >> Ok (journals_of i))) x (sym (listed_agree i) ∙ e)

  module _ (kept : listed_claims (map listed_as i) ≡ Ok tt) where
    own : (each id_claim i ≡ Ok tt) × (each pool_claim (empties i) ≡ Ok tt)
    own = both_kept (each id_claim i) (each pool_claim (empties i)) (sym (listed_agree i) ∙ kept)

    damaged_head : (x : Damage) → each header_claims (in_use i) ≡ Err x → scanned i ≡ Err x
    damaged_head x e = λ k. own.0 k >> (own.1 k >> (e k >> (chains >> Ok (journals_of i))))

    damaged_chain : (x : Damage) → each header_claims (in_use i) ≡ Ok tt → chains ≡ Err x → scanned i ≡ Err x
    damaged_chain x h e = λ k. own.0 k >> (own.1 k >> (h k >> (e k >> Ok (journals_of i))))

    undamaged : each header_claims (in_use i) ≡ Ok tt → chains ≡ Ok tt → scanned i ≡ Ok (journals_of i)
    undamaged h e = λ k. own.0 k >> (own.1 k >> (h k >> (e k >> Ok (journals_of i))))

-- ---- where the site tells

pub listing_rises : (o : Option Content) (files : List FileAt) → IfSome o (IsTheListing files) → IfSome o (λ c. ListedRise files)
listing_rises None files h = tt
listing_rises (Some c) files h = subst ListedRise (sym (h.0 ∙ listing_is c.now.disk)) (rise_listed (full c.now.disk) h.1)

module _ (files : List FileAt) (x : Damage) where
  pub listing_damaged : (o : Option Content) → IfSome o (IsTheListing files) → (ListedRise files → Err x ≡ listed_claims files) → IfSome o (λ c. IsFirstDamage (full c.now.disk) (Err (Damaged x.0 x.1)))
  listing_damaged None h e = tt
  listing_damaged (Some c) h e =
      let i = full c.now.disk in
      let shown = h.0 ∙ listing_is c.now.disk in
      damaged_listing i x (ap listed_claims (sym shown) ∙ sym (e (subst ListedRise (sym shown) (rise_listed i h.1))))

module _ (files : List FileAt) (kept : listed_claims files ≡ Ok tt) where
  at_image : (c : Content) → IsTheListing files c → listed_claims (map listed_as (full c.now.disk)) ≡ Ok tt
  at_image c h = ap listed_claims (sym (h.0 ∙ listing_is c.now.disk)) ∙ kept

  pub heads_damaged : (o : Option Content) (fault : ScanFault) → IfSome o (IsTheListing files) → HeadsAreRead o (Err fault) → IfSome o (λ c. IsFirstDamage (full c.now.disk) (Err fault))
  heads_damaged None fault h r = tt
  heads_damaged (Some c) Failed h r = tt
  heads_damaged (Some c) Memory h r = tt
  heads_damaged (Some c) (Damaged file rule) h r = damaged_head (full c.now.disk) (at_image c h) (file, rule) r

  module _ (heads : List HeadedFile) (found : List JournalFiles) (grouped : found ≡ map files_of (journals (map with_no_area heads))) where
    journals_are : (i : Image) → heads ≡ map head_of (map headed (in_use i)) → found ≡ map files_of (journals_of i)
    journals_are i e = grouped ∙ ap (λ hs. map files_of (journals (map with_no_area hs))) e ∙ same_journals (map headed (in_use i))

    chains_are : (i : Image) → heads ≡ map head_of (map headed (in_use i)) → each (λ j. chain_claims (map with_no_area j.files)) found ≡ chains i
    chains_are i e = ap (each (λ j. chain_claims (map with_no_area j.files))) (journals_are i e) ∙ same_chains (journals_of i)

    pub chain_damaged : (o : Option Content) (x : Damage) → IfSome o (IsTheListing files) → HeadsAreRead o (Ok heads) → Err x ≡ each (λ j. chain_claims (map with_no_area j.files)) found
        → IfSome o (λ c. IsFirstDamage (full c.now.disk) (Err (Damaged x.0 x.1)))
    chain_damaged None x h r e = tt
    chain_damaged (Some c) x h r e = let i = full c.now.disk in damaged_chain i (at_image c h) x r.0 (sym (chains_are i r.1) ∙ sym e)

    pub all_found : (o : Option Content) (empty : List FileAt) → IfSome o (IsTheListing files) → HeadsAreRead o (Ok heads) → each (λ j. chain_claims (map with_no_area j.files)) found ≡ Ok tt
        → empty ≡ filter (λ f. not (is_in_use f.place)) files
        → IfSome o (λ c. IsFound (full c.now.disk) (record { greatest = greatest (map (λ f. f.id) files); empties = empty; journals = found }))
    all_found None empty h r e none = tt
    all_found (Some c) empty h r e none =
        let i = full c.now.disk in
        let shown = h.0 ∙ listing_is c.now.disk in
        record {
          undamaged = undamaged i (at_image c h) r.0 (sym (chains_are i r.1) ∙ e);
          journals = journals_are i r.1;
          empties = none ∙ ap (filter (λ f. not (is_in_use f.place))) shown ∙ empties_agree i;
          greatest = ap (λ fs. greatest (map (λ f. f.id) fs)) shown ∙ ap greatest (ids_of_listed i);
        }

-- the listing that was answered is that of the disk before the call
pub listing_told : (o : Option Content) (shown files : List FileAt) → IsListed o (Ok shown) → IfSome o (λ c. IdsRise (full c.now.disk)) → files ≡ shown → IfSome o (IsTheListing files)
listing_told None shown files l rise e = tt
listing_told (Some c) shown files l rise e = (e ∙ l, rise)

pub heads_back : (o n : Option Content) (r : Result (List HeadedFile) ScanFault) → Tells OnlyLooks o n → HeadsAreRead n r → HeadsAreRead o r
heads_back None n r t h = tt
heads_back (Some a) None r t h = absurd t
heads_back (Some a) (Some b) r t h = subst (λ (m : Moment). AreHeadsOf (full m.disk) r) t.now h
