-- Where a file stands, as a search finds it.
use Rattle.std.proofs.Common.{◌≡◌, ◌≢◌, ℕ, ◌+◌, ◌<◌, ◌≤◌, [], ◌∷◌, length, get_or, set, Some, None, refl, sym, ap, ◌∙◌, subst, arith}
use Rattle.std.proofs.lemmas.List.{get_or_default}
use Rattle.std.proofs.lemmas.Bool.Decides.{nat_tests}
use Rattle.qls_site.specs.declared.site.ImageFile.{ImageFile}
use Rattle.qls_site.specs.declared.site.Place.TheVariants.{InUse}
use Rattle.qls_site.specs.Disk.{Image}
use Rattle.qls_memsite.specs.Seen.{seen_of, change_seen, before, IdsRise, StandsAt}
use Rattle.qls_memsite.proofs.Seen.{id_at, below_place, at_place_or_behind, seen_at, seen_none, changed_at}

own_id : (i : Image) (k : ℕ) (v d : ImageFile) → k < length i → v ≡ get_or i k v → id_at i k d ≡ v.id
own_id i k v d within is = ap (λ (f : ImageFile). f.id) (get_or_default i k d v within ∙ sym is)

pub below : (i : Image) (id k : ℕ) (v : ImageFile) → IdsRise i → k < length i → v ≡ get_or i k v → v.id < id → k + 1 ≤ before id i
below i id k v rise within is less = let own = own_id i k v v within is in omega (arith, below_place i id k v rise within (omega (arith, own, less)))

pub behind : (i : Image) (id k : ℕ) (v : ImageFile) → IdsRise i → k < length i → v ≡ get_or i k v → id ≤ v.id → before id i ≤ k
behind i id k v rise within is more = let own = own_id i k v v within is in at_place_or_behind i id k v rise within (omega (arith, own, more))

pub stands : (i : Image) (id k : ℕ) (v : ImageFile) → IdsRise i → k ≡ before id i → k < length i → v ≡ get_or i k v → v.id ≡ id → StandsAt i id k
stands i id k v rise place within is same = record {
  within = within;
  own = λ d. own_id i k v d within is ∙ same;
  seen = λ d.
      let here : before id i < length i = subst (λ n. n < length i) place within in
      let own : id_at i (before id i) d ≡ id = ap (λ n. id_at i n d) (sym place) ∙ own_id i k v d within is ∙ same in
      seen_there d here own ∙ ap (λ n. Some (get_or i n d)) (sym place);
}
  where
    seen_there : (d : ImageFile) → before id i < length i → id_at i (before id i) d ≡ id → seen_of id i ≡ Some (get_or i (before id i) d)
    seen_there d here own = seen_at i id d rise here own

pub none_at_end : (i : Image) (id k : ℕ) → IdsRise i → k ≡ before id i → length i ≤ k → seen_of id i ≡ None
none_at_end i id k rise place end = seen_none i id (record { id = 0; place = InUse; bytes = [] }) rise (λ w. absurd (omega arith))

pub none_at : (i : Image) (id k : ℕ) (v : ImageFile) → IdsRise i → k ≡ before id i → k < length i → v ≡ get_or i k v → v.id ≢ id → seen_of id i ≡ None
none_at i id k v rise place within is other = seen_none i id v rise (λ w same. other (sym (own_id i k v v within is) ∙ ap (λ n. id_at i n v) place ∙ same))

pub within : (i : Image) (id k : ℕ) → StandsAt i id k → k < length i
within i id k s = s.within

pub changed_there : (i : Image) (id k : ℕ) (g : ImageFile → ImageFile) (v x : ImageFile) → IdsRise i → StandsAt i id k → x ≡ get_or i k x → v ≡ g x → set i k v ≡ change_seen id g i
changed_there i id k g v x rise s is to = changed_at i id k g v rise s.within (s.own v) (to ∙ ap g (is ∙ get_or_default i k x v s.within))

pub change_none : (i : Image) (id : ℕ) (g : ImageFile → ImageFile) → seen_of id i ≡ None → change_seen id g i ≡ i
change_none [] id g none = refl
change_none (f ∷ i) id g none = grind (arith, nat_tests, change_none i id g)
