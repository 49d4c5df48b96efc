-- What the tests of an opening rest on: the pools of a site that was scanned are within the limits.
use Rattle.std.proofs.Common.{◌≡◌, ℕ, Bool, true, false, ◌&&◌, ◌||◌, ◌==◌, List, [], ◌∷◌, refl, sym, ap, ◌∙◌}
use Rattle.std.proofs.lemmas.Bool.{and_parts}
use Rattle.std.specs.List.{AllByRecursion, list_any}
use Rattle.qls_model.specs.Limits.{file_size, is_kib, is_partition}
use Rattle.qls_site.specs.declared.site.FileAt.{FileAt}
use Rattle.qls_site.specs.declared.site.Place.{Place}
use Rattle.qls_site.specs.declared.site.Place.TheVariants.{InUse, Empty}
use Rattle.qls_meaning.specs.Damage.{is_pool}
use Rattle.qls_meaning.specs.Spent.{is_pool_place}
use Rattle.qls_pool.specs.Pools.{Opens, PoolState, is_listed_in}
use Rattle.qls_pool.proofs.Disks.{eqb_is}
use Rattle.qls_prepared.specs.Ends.{IsFitPool}

abbrev IsWithin : ℕ → ℕ → Type 0
IsWithin part kib = (is_partition part ≡ true) × (is_kib kib ≡ true)

place_within : (size : ℕ) (p : Place) (part kib : ℕ) → is_pool size p ≡ true → is_pool_place part kib p ≡ true → IsWithin part kib
place_within size InUse part kib h e = absurd (cc)
place_within size (Empty p k) part kib h e =
    let own = and_parts (p == part) (k == kib) e in
    let fits = and_parts (is_partition p) (is_kib k) (and_parts (is_partition p && is_kib k) (size == file_size k) h).0 in
    (ap is_partition (sym (eqb_is p part own.0)) ∙ fits.0, ap is_kib (sym (eqb_is k kib own.1)) ∙ fits.1)

listed_within : (part kib id : ℕ) (fs : List FileAt) → AllByRecursion (λ f. is_pool f.size f.place ≡ true) fs → list_any (is_listed_in part kib id) fs ≡ true → IsWithin part kib
listed_within part kib id [] h e = absurd (cc)
listed_within part kib id (f ∷ fs) h e = by (is_listed_in part kib id f) refl (listed_within part kib id fs h.1) e
  where
    by : (b : Bool) → is_listed_in part kib id f ≡ b → (list_any (is_listed_in part kib id) fs ≡ true → IsWithin part kib) → (b || list_any (is_listed_in part kib id) fs) ≡ true → IsWithin part kib
    by true is later k = place_within f.size f.place part kib h.0 (and_parts (is_pool_place part kib f.place) (f.id == id) is).0
    by false is later k = later k

pub found_fits : (most : ℕ) (listed : List FileAt) (pool : PoolState) → Opens most listed pool → AllByRecursion (λ f. is_pool f.size f.place ≡ true) listed → IsFitPool pool
found_fits most listed pool opens h = λ part kib id e. listed_within part kib id listed h (sym (opens.files part kib id) ∙ e)
