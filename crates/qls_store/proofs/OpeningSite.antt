-- A site that was scanned: its pool, its ids, and that its journals may be opened.
use Rattle.std.proofs.Common.{◌≡◌, ℕ, Bool, true, false, cond, not, ◌==◌, ◌&&◌, ◌||◌, ◌<◌, ◌^◌, max, nat_le, nat_lt, nat_eq, List, [], ◌∷◌, map, Option, Some, None, IfSome, Result, Ok, Err, refl, sym, ap, ◌∙◌, subst, arith}
use Rattle.std.specs.List.{filter, list_any, AllByRecursion}
use Rattle.std.proofs.lemmas.Bool.{and_parts, eqb-true, leb-true}
use Rattle.std.proofs.lemmas.Bool.Decides.{nat_tests}
use Rattle.qls_model.specs.Limits.{file_size, is_partition, is_kib}
use Rattle.qls_shape.specs.Claims.{claim, each, of_file, ◌>>◌, ◌>>=◌}
use Rattle.qls_site.specs.declared.site.Place.{Place}
use Rattle.qls_site.specs.declared.site.Place.TheVariants.{InUse, Empty}
use Rattle.qls_site.specs.declared.site.FileAt.{FileAt}
use Rattle.qls_site.specs.declared.site.ImageFile.{ImageFile}
use Rattle.qls_site.specs.Content.{Content, Moment, OnlyLooks, Tells}
use Rattle.qls_site.specs.Disk.{AllAbove, Disk, FileState, IdsRise, Image, IsQuiet, file_of, full, full_file, listed, listing, size_of}
use Rattle.qls_filehdr.specs.declared.Rule.{Rule}
use Rattle.qls_filehdr.specs.declared.Rule.TheVariants as rule
use Rattle.qls_filehdr.specs.Limits.{is_counter}
use Rattle.qls_meaning.specs.Journals.{Journal, empties, in_use, is_in_use, journals_of}
use Rattle.qls_meaning.specs.Damage.{Damage, Checked, chain_claims, header_claims, id_claim, is_pool, pool_claim, scanned}
use Rattle.qls_meaning.specs.Kept.{Differ, ids_of}
use Rattle.qls_meaning.specs.Spent.{greatest_id, is_pool_place}
use Rattle.qls_pool.specs.Files.{FitsPlace, IsListingOf, IsPoolOf, IsSized, OnDisk, is_listed_empty}
use Rattle.qls_pool.specs.Pools.{PoolState, Opens, has, is_listed_in}
use Rattle.qls_prepared.specs.Ends.{IsFitPool}
use Rattle.qls_scan.specs.declared.answers.Found.{Found}
use Rattle.qls_scan.specs.declared.answers.JournalFiles.{JournalFiles}
use Rattle.qls_scan.specs.Found.{AreSpelledOn, IsFound, greatest, listed_as}
use Rattle.qls_journals.specs.Opening.{MayOpen, ReadingState, StandAsRead, journals_in}

-- ---- the rules that hold of it

then_first : {A B : Type 0} (r : Result A Damage) (s : Result B Damage) (y : B) → (r >> s) ≡ Ok y → (x : A) × (r ≡ Ok x)
then_first (Ok a) s y e = (a, refl)
then_first (Err d) s y e = absurd (cc)

unit_ok : (r : Checked) → ((x : Unit {0}) × (r ≡ Ok x)) → r ≡ Ok tt
unit_ok r (x, e) = e

module _ (i : Image) (js : List Journal) (e : scanned i ≡ Ok js) where
  abbrev later_claims : Result (List Journal) Damage
  later_claims = each header_claims (in_use i) >> (each (λ j. chain_claims j.files) (journals_of i) >> Ok (journals_of i))

  ids_ok : each id_claim i ≡ Ok tt
  ids_ok = unit_ok (each id_claim i) (then_first (each id_claim i) (each pool_claim (empties i) >> later_claims) js e)

  pools_ok : each pool_claim (empties i) ≡ Ok tt
  pools_ok =
      unit_ok (each pool_claim (empties i))
      (then_first (each pool_claim (empties i)) later_claims js (sym (ap (λ (r : Checked). r >> (each pool_claim (empties i) >> later_claims)) ids_ok) ∙ e))

claim_true : (b : Bool) (broken : Rule) (file : ℕ) → of_file file (claim b broken) ≡ Ok tt → b ≡ true
claim_true true broken file e = refl
claim_true false broken file e = absurd (cc)

each_first : {A : Type 0} (check : A → Checked) (x : A) (xs : List A) → each check (x ∷ xs) ≡ Ok tt → (check x ≡ Ok tt) × (each check xs ≡ Ok tt)
each_first check x xs e = from (check x) refl e
  where
    from : (r : Checked) → check x ≡ r → (r >>= λ _. each check xs) ≡ Ok tt → (check x ≡ Ok tt) × (each check xs ≡ Ok tt)
    from (Ok tt) k e = (k, e)
    from (Err d) k e = absurd (cc)

-- ---- ids

above_all : (n : ℕ) (i : Image) → AllAbove n i → AllByRecursion (λ id. nat_eq n id ≡ false) (ids_of i)
above_all n [] h = tt
above_all n (f ∷ i) h = (less n f.id h.0, above_all n i h.1)
  where
    less : (m n : ℕ) → m < n → nat_eq m n ≡ false
    less m n h = grind (arith, nat_tests)

pub differ_of : (i : Image) → IdsRise i → Differ (ids_of i)
differ_of [] h = tt
differ_of (f ∷ i) h = (above_all f.id i h.0, differ_of i h.1)

ids_above : (d : Disk) → each id_claim (full d) ≡ Ok tt → AllByRecursion (λ f. 0 < f.id) d
ids_above [] e = tt
ids_above (f ∷ d) e =
    let both = each_first id_claim (full_file f) (full d) e in
    let counter = and_parts (nat_le 1 f.id) (nat_lt f.id (2 ^ 62)) (claim_true (is_counter f.id) rule.Id f.id both.0) in
    (leb-true 1 f.id counter.0, ids_above d both.1)

greatest_is : (d : Disk) → greatest (map (λ f. f.id) (full d)) ≡ greatest_id d
greatest_is [] = refl
greatest_is (f ∷ d) = ap (max f.id) (greatest_is d)

-- ---- the empty files

-- those of the listing are those that the scan hands out
listed_empties : (d : Disk) → filter is_listed_empty (map listed_as (empties (full d))) ≡ filter is_listed_empty (listing d)
listed_empties [] = refl
listed_empties (f ∷ d) =
    elim (is_in_use f.place) as (λ b. is_in_use f.place ≡ b
    → filter is_listed_empty (map listed_as (cond (not b) (full_file f ∷ empties (full d)) (empties (full d)))) ≡ cond (not b) (listed f ∷ filter is_listed_empty (listing d)) (filter is_listed_empty (listing d))) [
      | true ↦ λ e. listed_empties d
      | false ↦ λ e.
          ap (λ b. cond (not b) (listed f ∷ filter is_listed_empty (map listed_as (empties (full d)))) (filter is_listed_empty (map listed_as (empties (full d))))) e
          ∙ ap (λ (fs : List FileAt). listed f ∷ fs) (listed_empties d)
    ] refl

-- one that keeps its rule has the size of its pool
sized : (place : Place) (size : ℕ) → is_pool size place ≡ true → FitsPlace place size
sized InUse size e = tt
sized (Empty part kib) size e = eqb-true size (file_size kib) (and_parts (is_partition part && is_kib kib) (size == file_size kib) e).1

in_use_fits : (p : Place) (size : ℕ) → is_in_use p ≡ true → FitsPlace p size
in_use_fits InUse size h = tt
in_use_fits (Empty part kib) size h = absurd (cc)

sizes_with : (f : FileState) (rest : List ImageFile) (d : Disk) (b : Bool) → is_in_use f.place ≡ b → each pool_claim (cond (not b) (full_file f ∷ rest) rest) ≡ Ok tt
    → (each pool_claim rest ≡ Ok tt → AllByRecursion (λ f. FitsPlace f.place (size_of f)) d) → AllByRecursion (λ f. FitsPlace f.place (size_of f)) (f ∷ d)
sizes_with f rest d true k e later = (in_use_fits f.place (size_of f) k, later e)
sizes_with f rest d false k e later =
    let both = each_first pool_claim (full_file f) rest e in
    (sized f.place (size_of f) (claim_true (is_pool (size_of f) f.place) rule.Pool f.id both.0), later both.1)

sizes_of : (d : Disk) → each pool_claim (empties (full d)) ≡ Ok tt → AllByRecursion (λ f. FitsPlace f.place (size_of f)) d
sizes_of [] e = tt
sizes_of (f ∷ d) e = sizes_with f (empties (full d)) d (is_in_use f.place) refl e (sizes_of d)

found_sized : (id : ℕ) (d : Disk) → AllByRecursion (λ f. FitsPlace f.place (size_of f)) d → IsSized (file_of id d)
found_sized id [] h = tt
found_sized id (f ∷ d) h = elim (f.id == id) as (λ b. IsSized (cond b (Some f) (file_of id d))) [ true ↦ h.0 | false ↦ found_sized id d h.1 ]

-- the scan's empty files are the listing that a pool is opened with
listing_of : (d : Disk) (found : Found) → IdsRise (full d) → IsFound (full d) found → IsListingOf found.greatest found.empties d
listing_of d found rise is = record {
  fits = record {
    greatest = is.greatest ∙ greatest_is d;
    differ = differ_of (full d) rise;
    sizes = λ id. found_sized id d (sizes_of d (pools_ok (full d) (journals_of (full d)) is.undamaged));
  };
  empties = ap (filter is_listed_empty) is.empties ∙ listed_empties d;
}

-- ---- the pool

within : (part kib : ℕ) (p : Place) (size : ℕ) → is_pool size p ≡ true → is_pool_place part kib p ≡ true → (is_partition part ≡ true) × (is_kib kib ≡ true)
within part kib InUse size h e = absurd (cc)
within part kib (Empty p k) size h e =
    let outer = and_parts (is_partition p && is_kib k) (size == file_size k) h in
    let legal = and_parts (is_partition p) (is_kib k) outer.0 in
    let parts = and_parts (p == part) (k == kib) e in
    (subst (λ n. is_partition n ≡ true) (eqb-true p part parts.0) legal.0, subst (λ n. is_kib n ≡ true) (eqb-true k kib parts.1) legal.1)

listed_within : (part kib id : ℕ) (fs : List FileAt) → AllByRecursion (λ f. is_pool f.size f.place ≡ true) fs → list_any (is_listed_in part kib id) fs ≡ true → (is_partition part ≡ true) × (is_kib kib ≡ true)
listed_within part kib id [] h e = absurd (cc)
listed_within part kib id (f ∷ fs) h e = by (is_listed_in part kib id f) refl e (listed_within part kib id fs h.1)
  where
    by : (b : Bool) → is_listed_in part kib id f ≡ b → (b || list_any (is_listed_in part kib id) fs) ≡ true → (list_any (is_listed_in part kib id) fs ≡ true → (is_partition part ≡ true) × (is_kib kib ≡ true))
        → (is_partition part ≡ true) × (is_kib kib ≡ true)
    by true is e next = within part kib f.place f.size h.0 (and_parts (is_pool_place part kib f.place) (f.id == id) is).0
    by false is e next = next e

-- each empty file is of a pool within the limits
pub fit_pool : (most : ℕ) (fs : List FileAt) (pool : PoolState) → AllByRecursion (λ f. is_pool f.size f.place ≡ true) fs → Opens most fs pool → IsFitPool pool
fit_pool most fs pool h opens part kib id e = listed_within part kib id fs h (sym (opens.files part kib id) ∙ e)

-- ---- the journals may be opened

module _ (found : Found) (handed : PoolState) (rs : List ReadingState) (pooled : (d : Disk) → IsListingOf found.greatest found.empties d → IsPoolOf handed [] d) (all : journals_in rs ≡ found.journals) where
  may_on : (d : Disk) → IdsRise (full d) → IsFound (full d) found → IsQuiet d → StandAsRead rs d → MayOpen handed rs d
  may_on d rise is quiet stand = record {
    pool = (differ_of (full d) rise, pooled d (listing_of d found rise is));
    scanned = is.undamaged;
    ids = ids_above d (ids_ok (full d) (journals_of (full d)) is.undamaged);
    quiet = quiet;
    journals = all ∙ is.journals;
    stand = stand;
  }

  may_in : (a b c : Content) → OnlyLooks a b → OnlyLooks b c → IdsRise (full a.now.disk) → IsFound (full a.now.disk) found → IsQuiet a.now.disk → AllByRecursion (AreSpelledOn a.now.disk) found.journals
      → (IsQuiet b.now.disk → AllByRecursion (AreSpelledOn b.now.disk) found.journals → StandAsRead rs b.now.disk) → MayOpen handed rs c.now.disk
  may_in a b c h k rise is quiet spelled stand =
      let first : StandAsRead rs a.now.disk = subst (λ (m : Moment). IsQuiet m.disk → AllByRecursion (AreSpelledOn m.disk) found.journals → StandAsRead rs m.disk) h.now stand quiet spelled in
      subst (λ (m : Moment). MayOpen handed rs m.disk) (sym (k.now ∙ h.now)) (may_on a.now.disk rise is quiet first)

  pub told_may_open : (a b c : Option Content) → Tells OnlyLooks a b → Tells OnlyLooks b c → IfSome a (λ x. IdsRise (full x.now.disk)) → IfSome a (λ x. IsFound (full x.now.disk) found) → IfSome a (OnDisk IsQuiet)
      → IfSome a (λ x. AllByRecursion (AreSpelledOn x.now.disk) found.journals) → IfSome b (OnDisk (λ d. IsQuiet d → AllByRecursion (AreSpelledOn d) found.journals → StandAsRead rs d)) → IfSome c (OnDisk (MayOpen handed rs))
  told_may_open a b None h k rise is quiet spelled stand = tt
  told_may_open a None (Some z) h k rise is quiet spelled stand = absurd k
  told_may_open None (Some y) (Some z) h k rise is quiet spelled stand = absurd h
  told_may_open (Some x) (Some y) (Some z) h k rise is quiet spelled stand = may_in x y z h k rise is quiet spelled stand
