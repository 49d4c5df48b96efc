-- What taking a blank file, giving a file back and opening a pool leave.
use Rattle.std.proofs.Common.{◌≡◌, ℕ, ◌≤◌, ◌+◌, ◌*◌, Bool, true, false, not, cond, ◌&&◌, ◌||◌, ◌==◌, List, [], ◌∷◌, filter, replicate, Option, Some, None, Result, Ok, Err, IfSome, IfOk, IsErr, refl, sym, ap, ◌∙◌, subst, arith, max}
use Rattle.std.proofs.lemmas.Bool.Decides.{nat_tests}
use Rattle.std.proofs.Math.ListN.{length-replicate}
use Rattle.std.specs.List.{list_any, AllByRecursion}
use Rattle.qls_model.specs.declared.machine.PoolId.{PoolId}
use Rattle.qls_model.specs.Limits.{file_size}
use Rattle.qls_site.specs.declared.site.SiteError.{SiteError}
use Rattle.qls_site.specs.declared.site.SiteError.TheVariants as site
use Rattle.qls_site.specs.declared.site.FileAt.{FileAt}
use Rattle.qls_site.specs.declared.site.Place.{Place}
use Rattle.qls_site.specs.declared.site.Place.TheVariants.{InUse, Empty}
use Rattle.qls_site.specs.Disk.{Disk, FileState, file_of, full, listing, listed, size_of, create_at, relocate_at}
use Rattle.qls_site.specs.Content.{Moment, Content, Tells, Acts, MayAct, Leads, LacksFile}
use Rattle.qls_site.proofs.Told.{file_of-change_file, file_of-with_file}
use Rattle.qls_meaning.specs.Journals.{is_in_use}
use Rattle.qls_meaning.specs.Kept.{Differ, ids_of}
use Rattle.qls_meaning.specs.Spent.{greatest_id, is_pool_place}
use Rattle.qls_pool.specs.declared.fault.TakeFault.{TakeFault}
use Rattle.qls_pool.specs.declared.fault.TakeFault.TheVariants.{Failed, Draw, Spent, Memory}
use Rattle.qls_pool.specs.declared.pooled.PooledFile.{PooledFile}
use Rattle.qls_pool.specs.Pools.{PoolState, is_file, has, least_id, first_or, greatest_with, HandsOut, TakesBack, is_listed_in, Opens}
use Rattle.qls_pool.specs.Files.{BlankFile, HeadedFile, IsBlank, IsLinked, BlankThere, LinkedThere, OnDisk, Carries, IsPoolOf, HasPool, IdsDiffer, IsWholePool, is_at, is_among, FitsPlace, IsSized, is_listed_empty, IsListingOf}
use Rattle.qls_pool.specs.Taking.{created, Obtains, Obtained, TakesBlank, put_back}
use Rattle.qls_pool.specs.Discipline.{IsLeastOnDisk, AddsPoolSteps, EndsPoolSteps, StepsBy, Orderly, IsPoolStep}
use Rattle.qls_pool.proofs.Calls.{orderly_of, by_err, carries_of, carries_with}
use Rattle.qls_pool.proofs.Order.{IsLeastOf, least_is}
use Rattle.qls_pool.proofs.Disks.{eqb_is, eqb_own, greatest-change, greatest-with, lacks_above, other-with, at_change}
use Rattle.qls_pool.proofs.Steps.{differ_create, moved_ids, apart, all_weaken, all_with, all_found, step_create, adds_none, ends_none, ends_one, adds_may}

-- ---- tests

both_true : (a b : Bool) → (a && b) ≡ true → (a ≡ true) × (b ≡ true)
both_true true b e = (refl, e)
both_true false b e = absurd (cc)

and_true : (a : Bool) → (a && true) ≡ a
and_true true = refl
and_true false = refl

and_false : (a : Bool) → (a && false) ≡ false
and_false true = refl
and_false false = refl

place_is : (part kib : ℕ) (p : Place) → is_pool_place part kib p ≡ true → p ≡ Empty part kib
place_is part kib InUse e = absurd (cc)
place_is part kib (Empty p k) e =
    let both : ((p == part) ≡ true) × ((k == kib) ≡ true) = both_true (p == part) (k == kib) e in
    ap (λ q. Empty q k) (eqb_is p part both.0) ∙ ap (λ q. Empty part q) (eqb_is k kib both.1)

place_own : (part kib : ℕ) → is_pool_place part kib (Empty part kib) ≡ true
place_own part kib = ap (λ b. b && (kib == kib)) (eqb_own part) ∙ eqb_own kib

-- an empty file that is found is blank
blank_at : (b : BlankFile) (o : Option FileState) → is_at b.home.part b.home.kib o ≡ true → IsSized o → IsBlank b o
blank_at b None e s = absurd (cc)
blank_at b (Some f) e s =
    let place : f.place ≡ Empty b.home.part b.home.kib = place_is b.home.part b.home.kib f.place e in
    (place, subst (λ p. FitsPlace p (size_of f)) place s)

-- ---- the file that a pool hands out

-- the least file of a pool is there, and nobody names it
least_there : (home : PoolId) (pool : PoolState) (out : List ℕ) (d : Disk) (n : ℕ) → IsPoolOf pool out d → IsLeastOf (λ j. has home.part home.kib j pool.files) (Some n)
    → (is_at home.part home.kib (file_of n d) ≡ true) × (not (is_among n out) ≡ true)
least_there home pool out d n p least = both_true (is_at home.part home.kib (file_of n d)) (not (is_among n out)) (sym (p.files home.part home.kib n) ∙ least.0)

abbrev new_file : PoolId → ℕ → FileState
new_file home n = record { id = n; place = Empty home.part home.kib; stable = replicate (4096 + 1024 * home.kib) 0; pending = [] }

new_lacking : (n : ℕ) (d : Disk) → n ≡ greatest_id d + 1 → file_of n d ≡ None
new_lacking n d e = lacks_above n d (omega (arith, e))

next_of : (pool : PoolState) (out : List ℕ) (d : Disk) → IsPoolOf pool out d → pool.greatest + 1 ≡ greatest_id d + 1
next_of pool out d p = ap (λ n. n + 1) p.greatest

pub lacks_next : (pool : PoolState) (d : Disk) → HasPool pool d → file_of (pool.greatest + 1) d ≡ None
lacks_next pool d (out, p) = new_lacking (pool.greatest + 1) d (next_of pool out d p)

there_by : (home : PoolId) (pool : PoolState) (b : BlankFile) (out : List ℕ) (x y : Content) → b.home ≡ home → IsPoolOf pool out x.now.disk → (o : Option ℕ) → IsLeastOf (λ j. has home.part home.kib j pool.files) o
    → b.id ≡ first_or o (pool.greatest + 1) → Obtains home pool.greatest o x y → BlankThere b y.now.disk
there_by home pool b out x y at p (Some n) least id e =
    let here : BlankThere b x.now.disk =
    blank_at b (file_of b.id x.now.disk)
    (subst (λ (h : PoolId). is_at h.part h.kib (file_of b.id x.now.disk) ≡ true) (sym at) (ap (λ i. is_at home.part home.kib (file_of i x.now.disk)) id ∙ (least_there home pool out x.now.disk n p least).0)) (p.sizes b.id)
    in
    subst (λ (c : Content). BlankThere b c.now.disk) (sym e) here
there_by home pool b out x y at p None least id e =
    let n : ℕ = pool.greatest + 1 in
    let found : file_of n (create_at n home.part home.kib x.now.disk) ≡ Some (new_file home n) = file_of-with_file (new_file home n) x.now.disk (new_lacking n x.now.disk (next_of pool out x.now.disk p)) in
    subst (λ (c : Content). BlankThere b c.now.disk) (sym e)
    (subst (IsBlank b) (sym (ap (λ i. file_of i (create_at n home.part home.kib x.now.disk)) id ∙ found))
    (ap (λ (h : PoolId). Empty h.part h.kib) (sym at), length-replicate {A = ℕ} (4096 + 1024 * home.kib) 0 ∙ ap (λ (h : PoolId). file_size h.kib) (sym at)))

pub blank_there : (home : PoolId) (pool new : PoolState) (b : BlankFile) (out : List ℕ) (x y : Content) → b.home ≡ home → HandsOut home pool new b.id → Obtains home pool.greatest (least_id home pool.files) x y
    → IsPoolOf pool out x.now.disk → BlankThere b y.now.disk
blank_there home pool new b out x y at h e p = there_by home pool b out x y at p (least_id home pool.files) (least_is home pool.files) h.id e

-- ---- the pool's condition after that

-- a file at one pool's place is at no other's
same_place : (home : PoolId) (part kib : ℕ) (o : Option FileState) → is_at home.part home.kib o ≡ true → is_at part kib o ≡ true → (part == home.part && kib == home.kib) ≡ true
same_place home part kib None e f = absurd (cc)
same_place home part kib (Some g) e f =
    let both : ((home.part == part) ≡ true) × ((home.kib == kib) ≡ true) = both_true (home.part == part) (home.kib == kib) (subst (λ q. is_pool_place part kib q ≡ true) (place_is home.part home.kib g.place e) f) in
    ap (λ b. b && (kib == home.kib)) (ap (λ n. part == n) (eqb_is home.part part both.0) ∙ eqb_own part) ∙ ap (λ n. kib == n) (eqb_is home.kib kib both.1) ∙ eqb_own kib

taken_bits : (a b h : Bool) → (a ≡ true → h ≡ true) → ((a && not b) && not h) ≡ (a && false)
taken_bits true true h k = refl
taken_bits true false h k = ap not (k refl)
taken_bits false b h k = refl

turned : (m n : ℕ) (b : Bool) → (m == n) ≡ b → (n == m) ≡ b
turned m n b e = turn (n == m) e
  where
    turn : (c : Bool) → (m == n) ≡ b → (n == m) ≡ b
    turn c e = grind (arith, nat_tests, e)

or_false : (a : Bool) → (a || false) ≡ a
or_false true = refl
or_false false = refl

-- a file that nobody took before is out now
taken_files : (home : PoolId) (pool : PoolState) (out : List ℕ) (d : Disk) (n : ℕ) → IsPoolOf pool out d → is_at home.part home.kib (file_of n d) ≡ true → (part kib i : ℕ)
    → (has part kib i pool.files && not ((part == home.part && kib == home.kib) && (i == n))) ≡ (is_at part kib (file_of i d) && not ((n == i) || is_among i out))
taken_files home pool out d n p at part kib i =
    ap (λ b. b && not ((part == home.part && kib == home.kib) && (i == n))) (p.files part kib i)
    ∙ elim (i == n) as (λ b. (i == n) ≡ b → ((is_at part kib (file_of i d) && not (is_among i out)) && not ((part == home.part && kib == home.kib) && b)) ≡ (is_at part kib (file_of i d) && not ((n == i) || is_among i out))) [
      | true ↦ λ e.
          ap (λ h. (is_at part kib (file_of i d) && not (is_among i out)) && not h) (and_true (part == home.part && kib == home.kib))
          ∙ taken_bits (is_at part kib (file_of i d)) (is_among i out) (part == home.part && kib == home.kib)
          (λ k. same_place home part kib (file_of n d) at (ap (λ j. is_at part kib (file_of j d)) (sym (eqb_is i n e)) ∙ k))
          ∙ ap (λ b. is_at part kib (file_of i d) && not (b || is_among i out)) (sym (turned i n true e))
      | false ↦ λ e.
          ap (λ h. (is_at part kib (file_of i d) && not (is_among i out)) && not h) (and_false (part == home.part && kib == home.kib))
          ∙ and_true (is_at part kib (file_of i d) && not (is_among i out))
          ∙ ap (λ b. is_at part kib (file_of i d) && not (b || is_among i out)) (sym (turned i n false e))
    ] refl

-- the new file is out, and the others are as they were
made_files : (home : PoolId) (pool : PoolState) (out : List ℕ) (d : Disk) (n : ℕ) → IsPoolOf pool out d → n ≡ greatest_id d + 1 → (part kib i : ℕ)
    → (has part kib i pool.files && not ((part == home.part && kib == home.kib) && (i == n))) ≡ (is_at part kib (file_of i (create_at n home.part home.kib d)) && not ((n == i) || is_among i out))
made_files home pool out d n p next part kib i =
    ap (λ b. b && not ((part == home.part && kib == home.kib) && (i == n))) (p.files part kib i)
    ∙ elim (i == n) as (λ b. (i == n) ≡ b → ((is_at part kib (file_of i d) && not (is_among i out)) && not ((part == home.part && kib == home.kib) && b))
    ≡ (is_at part kib (file_of i (create_at n home.part home.kib d)) && not ((n == i) || is_among i out))) [
      | true ↦ λ e.
          ap (λ (o : Option FileState). (is_at part kib o && not (is_among i out)) && not ((part == home.part && kib == home.kib) && true)) (ap (λ j. file_of j d) (eqb_is i n e) ∙ new_lacking n d next)
          ∙ sym (and_false (is_at part kib (file_of i (create_at n home.part home.kib d))))
          ∙ ap (λ b. is_at part kib (file_of i (create_at n home.part home.kib d)) && not (b || is_among i out)) (sym (turned i n true e))
      | false ↦ λ e.
          ap (λ h. (is_at part kib (file_of i d) && not (is_among i out)) && not h) (and_false (part == home.part && kib == home.kib))
          ∙ and_true (is_at part kib (file_of i d) && not (is_among i out))
          ∙ ap (λ (o : Option FileState). is_at part kib o && not (is_among i out)) (sym (other-with (new_file home n) i (turned i n false e) d))
          ∙ ap (λ b. is_at part kib (file_of i (create_at n home.part home.kib d)) && not (b || is_among i out)) (sym (turned i n false e))
    ] refl

made_sizes : (home : PoolId) (d : Disk) (n : ℕ) → n ≡ greatest_id d + 1 → ((i : ℕ) → IsSized (file_of i d)) → (i : ℕ) → IsSized (file_of i (create_at n home.part home.kib d))
made_sizes home d n next sizes i =
    elim (n == i) as (λ b. (n == i) ≡ b → IsSized (file_of i (create_at n home.part home.kib d))) [
      | true ↦ λ e.
          subst (λ j. IsSized (file_of j (create_at n home.part home.kib d))) (eqb_is n i e)
          (subst IsSized (sym (file_of-with_file (new_file home n) d (new_lacking n d next))) (length-replicate {A = ℕ} (4096 + 1024 * home.kib) 0))
      | false ↦ λ e. subst IsSized (sym (other-with (new_file home n) i e d)) (sizes i)
    ] refl

greatest_made : (home : PoolId) (d : Disk) (n : ℕ) → n ≡ greatest_id d + 1 → greatest_id (create_at n home.part home.kib d) ≡ greatest_id d + 1
greatest_made home d n next = greatest-with (new_file home n) d ∙ most n (greatest_id d) next
  where
    most : (n g : ℕ) → n ≡ g + 1 → max n g ≡ g + 1
    most n g e = grind (arith, e)

pool_by : (home : PoolId) (pool new : PoolState) (id : ℕ) (out : List ℕ) (x y : Content) → IsPoolOf pool out x.now.disk → (o : Option ℕ) → IsLeastOf (λ j. has home.part home.kib j pool.files) o
    → id ≡ first_or o (pool.greatest + 1) → new.greatest ≡ greatest_with o pool.greatest
    → ((part kib i : ℕ) → has part kib i new.files ≡ (has part kib i pool.files && not ((part == home.part && kib == home.kib) && (i == id))))
    → Obtains home pool.greatest o x y → IsPoolOf new (id ∷ out) y.now.disk
pool_by home pool new id out x y p (Some n) least is most files e =
    subst (λ (c : Content). IsPoolOf new (id ∷ out) c.now.disk) (sym e) (record {
      greatest = most ∙ p.greatest;
      files = λ part kib i. files part kib i ∙ taken_files home pool out x.now.disk id p (ap (λ j. is_at home.part home.kib (file_of j x.now.disk)) is ∙ (least_there home pool out x.now.disk n p least).0) part kib i;
      sizes = p.sizes;
    })
pool_by home pool new id out x y p None least is most files e =
    let d : Disk = x.now.disk in
    let next : pool.greatest + 1 ≡ greatest_id d + 1 = next_of pool out d p in
    subst (λ j. IsPoolOf new (j ∷ out) y.now.disk) (sym is) (subst (λ (c : Content). IsPoolOf new ((pool.greatest + 1) ∷ out) c.now.disk) (sym e) (record {
      greatest = most ∙ next ∙ sym (greatest_made home d (pool.greatest + 1) next);
      files = λ part kib i.
          files part kib i ∙ ap (λ j. has part kib i pool.files && not ((part == home.part && kib == home.kib) && (i == j))) is ∙ made_files home pool out d (pool.greatest + 1) p next part kib i;
      sizes = made_sizes home d (pool.greatest + 1) next p.sizes;
    }))

pub blank_pool : (home : PoolId) (pool new : PoolState) (id : ℕ) (out : List ℕ) (x y : Content) → HandsOut home pool new id → Obtains home pool.greatest (least_id home pool.files) x y → IsPoolOf pool out x.now.disk
    → IsPoolOf new (id ∷ out) y.now.disk
blank_pool home pool new id out x y h e p = pool_by home pool new id out x y p (least_id home pool.files) (least_is home pool.files) h.id h.greatest h.files e

-- ---- the least, and the discipline

-- the pool has each empty file of the disk
whole_has : (pool : PoolState) (d : Disk) → IsPoolOf pool [] d → (part kib : ℕ) (g : FileState) → file_of g.id d ≡ Some g → has part kib g.id pool.files ≡ is_pool_place part kib g.place
whole_has pool d p part kib g e = p.files part kib g.id ∙ and_true (is_at part kib (file_of g.id d)) ∙ ap (is_at part kib) e

none_any : (t : FileState → Bool) (d : Disk) → AllByRecursion (λ g. t g ≡ false) d → list_any t d ≡ false
none_any t [] h = refl
none_any t (g ∷ d) h = ap (λ b. b || list_any t d) h.0 ∙ none_any t d h.1

no_file_there : (home : PoolId) (pool : PoolState) (d : Disk) → Differ (ids_of (full d)) → IsPoolOf pool [] d → IsLeastOf (λ j. has home.part home.kib j pool.files) None
    → AllByRecursion (λ g. is_pool_place home.part home.kib g.place ≡ false) d
no_file_there home pool d differ p none =
    all_weaken (λ g. file_of g.id d ≡ Some g) (λ g. is_pool_place home.part home.kib g.place ≡ false) (λ g e. sym (whole_has pool d p home.part home.kib g e) ∙ none g.id) d (all_found d differ)

-- a pool without a file of its home: the disk has none either
pub no_empty : (home : PoolId) (pool : PoolState) (d : Disk) → Differ (ids_of (full d)) → IsPoolOf pool [] d → least_id home pool.files ≡ None → list_any (λ g. is_pool_place home.part home.kib g.place) d ≡ false
no_empty home pool d differ p e =
    none_any (λ g. is_pool_place home.part home.kib g.place) d (no_file_there home pool d differ p (subst (IsLeastOf (λ j. has home.part home.kib j pool.files)) e (least_is home pool.files)))

least_by : (home : PoolId) (pool : PoolState) (id : ℕ) (x y : Content) → IsWholePool pool x.now.disk → (o : Option ℕ) → IsLeastOf (λ j. has home.part home.kib j pool.files) o → id ≡ first_or o (pool.greatest + 1)
    → Obtains home pool.greatest o x y → IsLeastOnDisk home.part home.kib id y.now.disk
least_by home pool id x y w (Some n) least is e =
    let d : Disk = x.now.disk in
    subst (λ j. IsLeastOnDisk home.part home.kib j y.now.disk) (sym is) (subst (λ (c : Content). IsLeastOnDisk home.part home.kib n c.now.disk) (sym e)
    (all_weaken (λ g. file_of g.id d ≡ Some g) (λ g. is_pool_place home.part home.kib g.place ≡ true → n ≤ g.id) (λ g f k. least.1 g.id (whole_has pool d w.1 home.part home.kib g f ∙ k)) d (all_found d w.0)))
least_by home pool id x y w None none is e =
    let d : Disk = x.now.disk in
    let n : ℕ = pool.greatest + 1 in
    subst (λ j. IsLeastOnDisk home.part home.kib j y.now.disk) (sym is) (subst (λ (c : Content). IsLeastOnDisk home.part home.kib n c.now.disk) (sym e)
    (all_with (λ g. is_pool_place home.part home.kib g.place ≡ true → n ≤ g.id) (new_file home n) (λ k. own n) d
    (all_weaken (λ g. is_pool_place home.part home.kib g.place ≡ false) (λ g. is_pool_place home.part home.kib g.place ≡ true → n ≤ g.id) (λ g f k. absurd (not_both (is_pool_place home.part home.kib g.place) f k)) d
    (no_file_there home pool d w.0 w.1 none))))
  where
    own : (n : ℕ) → n ≤ n
    own n = omega arith

    not_both : (b : Bool) → b ≡ false → b ≡ true → ⊥
    not_both b f k = cc

pub blank_least : (home : PoolId) (pool new : PoolState) (id : ℕ) (x y : Content) → HandsOut home pool new id → Obtains home pool.greatest (least_id home pool.files) x y → IsWholePool pool x.now.disk
    → IsLeastOnDisk home.part home.kib id y.now.disk
blank_least home pool new id x y h e w = least_by home pool id x y w (least_id home pool.files) (least_is home pool.files) h.id e

pub create_step : (home : PoolId) (pool : PoolState) (m : Moment) → Differ (ids_of (full m.disk)) → IsPoolOf pool [] m.disk → IsLeastOf (λ j. has home.part home.kib j pool.files) None → IsPoolStep m (created home pool.greatest m)
create_step home pool m differ p none =
    step_create m (pool.greatest + 1) home.part home.kib (next_of pool [] m.disk p) (none_any (λ g. is_pool_place home.part home.kib g.place) m.disk (no_file_there home pool m.disk differ p none)) differ

obtain_steps : (home : PoolId) (pool : PoolState) (x y : Content) → Differ (ids_of (full x.now.disk)) → IsPoolOf pool [] x.now.disk → (o : Option ℕ) → IsLeastOf (λ j. has home.part home.kib j pool.files) o
    → Obtains home pool.greatest o x y → EndsPoolSteps x y
obtain_steps home pool x y differ p (Some n) least e = ends_none x y e
obtain_steps home pool x y differ p None least e = ends_one (created home pool.greatest) x y e (create_step home pool x.now differ p least)

pub blank_steps : (home : PoolId) (pool : PoolState) (r : Result BlankFile TakeFault) (x y : Content) → TakesBlank home pool r x y → Differ (ids_of (full x.now.disk)) → IsPoolOf pool [] x.now.disk → StepsBy r x y
blank_steps home pool (Ok b) x y e differ p = obtain_steps home pool x y differ p (least_id home pool.files) (least_is home pool.files) e
blank_steps home pool (Err Failed) x y e differ p =
    adds_may (created home pool.greatest) x y e.1 differ (create_step home pool x.now differ p (subst (IsLeastOf (λ j. has home.part home.kib j pool.files)) e.0 (least_is home pool.files)))
blank_steps home pool (Err Draw) x y e differ p = adds_none x y e
blank_steps home pool (Err Spent) x y e differ p = adds_none x y e
blank_steps home pool (Err Memory) x y e differ p = adds_none x y e

-- ---- the calls on a pool

pub told_lacks : (pool : PoolState) (o : Option Content) → IfSome o (OnDisk (HasPool pool)) → IfSome o (LacksFile (pool.greatest + 1))
told_lacks pool None h = tt
told_lacks pool (Some x) h = lacks_next pool x.now.disk h

-- the pool without a file of its home: it hands out the next id
pub hands_new : (home : PoolId) (pool : PoolState) → least_id home pool.files ≡ None → HandsOut home pool (record { greatest = pool.greatest + 1; files = pool.files }) (pool.greatest + 1)
hands_new home pool e =
    let none : (j : ℕ) → has home.part home.kib j pool.files ≡ false = subst (IsLeastOf (λ j. has home.part home.kib j pool.files)) e (least_is home pool.files) in
    record {
      id = sym (ap (λ o. first_or o (pool.greatest + 1)) e);
      greatest = sym (ap (λ o. greatest_with o pool.greatest) e);
      files = λ part kib i.
          elim ((part == home.part) && (kib == home.kib)) as (λ b. ((part == home.part) && (kib == home.kib)) ≡ b → has part kib i pool.files ≡ (has part kib i pool.files && not (b && (i == pool.greatest + 1)))) [
            | true ↦ λ k.
                let both : ((part == home.part) ≡ true) × ((kib == home.kib) ≡ true) = both_true (part == home.part) (kib == home.kib) k in
                let gone : has part kib i pool.files ≡ false = ap (λ p. has p kib i pool.files) (eqb_is part home.part both.0) ∙ ap (λ q. has home.part q i pool.files) (eqb_is kib home.kib both.1) ∙ none i in
                gone ∙ sym (ap (λ b. b && not (true && (i == pool.greatest + 1))) gone)
            | false ↦ λ k. sym (and_true (has part kib i pool.files))
          ] refl;
    }

failed_steps : (home : PoolId) (pool : PoolState) (e : SiteError) (x y : Content) → Obtained home pool (Err e) x y → Differ (ids_of (full x.now.disk)) → IsPoolOf pool [] x.now.disk → AddsPoolSteps x y
failed_steps home pool site.Failed x y k differ p = blank_steps home pool (Err Failed) x y k differ p
failed_steps home pool site.Memory x y k differ p = adds_none x y k

pub blank_failed : (home : PoolId) (pool : PoolState) (e : SiteError) (r : Result BlankFile TakeFault) (a b : Option Content) → IsErr r → Tells (Obtained home pool (Err e)) a b → Orderly (IsPoolOf pool []) r a b
blank_failed home pool e r a b is t =
    orderly_of (Obtained home pool (Err e)) (IsPoolOf pool []) r a b t (λ x y k differ p. by_err r x y is (failed_steps home pool e x y k differ p))

pub blank_orderly : (home : PoolId) (pool : PoolState) (b : BlankFile) (a c : Option Content) → Tells (Obtains home pool.greatest (least_id home pool.files)) a c → Orderly {X = BlankFile} {E = TakeFault} (IsPoolOf pool []) (Ok b) a c
blank_orderly home pool b a c t =
    orderly_of {X = BlankFile} {E = TakeFault} (Obtains home pool.greatest (least_id home pool.files)) (IsPoolOf pool []) (Ok b) a c t (λ x y k differ p. obtain_steps home pool x y differ p (least_id home pool.files) (least_is home pool.files) k)

-- ---- a file that is given back

linked_place : (h : HeadedFile) (o : Option FileState) (f : FileState) → IsLinked h o → o ≡ Some f → (f.place ≡ InUse) × (size_of f ≡ file_size h.header.kib)
linked_place h o f k e = let l : IsLinked h (Some f) = subst (IsLinked h) e k in (l.0, l.1.size)

not_none : (h : HeadedFile) (o : Option FileState) → IsLinked h o → o ≡ None → ⊥
not_none h None k e = k
not_none h (Some f) k e = cc

back_files : (h : HeadedFile) (old new : PoolState) (out : List ℕ) (d : Disk) → LinkedThere h d → is_among h.id out ≡ false → IsPoolOf old out d → TakesBack h.header.part h.header.kib h.id old new → (part kib i : ℕ)
    → has part kib i new.files ≡ (is_at part kib (file_of i (relocate_at h.id (Empty h.header.part h.header.kib) d)) && not (is_among i out))
back_files h old new out d there apart p back part kib i =
    back.files part kib i ∙ ap (λ b. b || ((part == h.header.part && kib == h.header.kib) && (i == h.id))) (p.files part kib i)
    ∙ at_change h.id i homed d
    (λ o q. ((is_at part kib o && not (is_among i out)) || ((part == h.header.part && kib == h.header.kib) && (i == h.id))) ≡ (is_at part kib q && not (is_among i out)))
    (λ e. ap (λ b. (part == h.header.part && kib == h.header.kib) && b) (other i e) ∙ and_false (part == h.header.part && kib == h.header.kib))
    (λ f e k.
    ap (λ q. (is_pool_place part kib q && not (is_among i out)) || ((part == h.header.part && kib == h.header.kib) && (i == h.id))) (linked_place h (file_of h.id d) f there k).0
    ∙ ap (λ b. (part == h.header.part && kib == h.header.kib) && b) (ap (λ n. i == n) e ∙ eqb_own i)
    ∙ and_true (part == h.header.part && kib == h.header.kib)
    ∙ ap (λ b. b && (kib == h.header.kib)) (turn part h.header.part) ∙ ap (λ b. (h.header.part == part) && b) (turn kib h.header.kib)
    ∙ sym (and_true ((h.header.part == part) && (h.header.kib == kib)))
    ∙ ap (λ b. ((h.header.part == part) && (h.header.kib == kib)) && not b) (sym (ap (λ n. is_among n out) (sym e) ∙ apart)))
    (λ f e.
    ap (λ b. (is_pool_place part kib f.place && not (is_among i out)) || ((part == h.header.part && kib == h.header.kib) && b)) e
    ∙ ap (λ b. (is_pool_place part kib f.place && not (is_among i out)) || b) (and_false (part == h.header.part && kib == h.header.kib))
    ∙ or_false (is_pool_place part kib f.place && not (is_among i out)))
    ∙ ap (λ o. is_at part kib o && not (is_among i out)) (sym (file_of-change_file i h.id homed (λ f. refl) d))
  where
    homed : FileState → FileState
    homed f = record f { place = Empty h.header.part h.header.kib }

    turn : (m n : ℕ) → (m == n) ≡ (n == m)
    turn m n = grind (arith, nat_tests)

    differs : (b : Bool) → (i == h.id) ≡ b → file_of i d ≡ None → b ≡ false
    differs true e k = absurd (not_none h (file_of h.id d) there (ap (λ n. file_of n d) (sym (eqb_is i h.id e)) ∙ k))
    differs false e k = refl

    other : (n : ℕ) → file_of i d ≡ None → (i == h.id) ≡ false
    other n k = differs (i == h.id) refl k

pool_back : (h : HeadedFile) (old new : PoolState) (out : List ℕ) (d : Disk) → LinkedThere h d → is_among h.id out ≡ false → IsPoolOf old out d → TakesBack h.header.part h.header.kib h.id old new
    → IsPoolOf new out (relocate_at h.id (Empty h.header.part h.header.kib) d)
pool_back h old new out d there apart p back =
    let homed : FileState → FileState = λ (f : FileState). record f { place = Empty h.header.part h.header.kib } in
    record {
      greatest = back.greatest ∙ p.greatest ∙ sym (greatest-change h.id homed (λ f. refl) d);
      files = back_files h old new out d there apart p back;
      sizes = λ i.
          subst IsSized (sym (file_of-change_file i h.id homed (λ f. refl) d))
          (at_change h.id i homed d (λ o q. IsSized o → IsSized q) (λ e x. x) (λ f e k x. (linked_place h (file_of h.id d) f there k).1) (λ f e x. x) (p.sizes i));
    }

pub back_pool : {X : Type 0} (h : HeadedFile) (old new : PoolState) (r : Result X SiteError) (a b : Option Content) → Tells (Leads (Acts (put_back h.id h.header)) (MayAct (put_back h.id h.header)) r) a b
    → IfSome a (OnDisk (LinkedThere h)) → TakesBack h.header.part h.header.kib h.id old new
    → IfOk r (λ _. (out : List ℕ) → is_among h.id out ≡ false → Carries (IsPoolOf old out) (IsPoolOf new out) a b)
back_pool h old new (Ok v) a b t there back = λ out apart.
    carries_with (Acts (put_back h.id h.header)) (LinkedThere h) (IsPoolOf old out) (IsPoolOf new out) a b t there
    (λ x y k l p. subst (λ (c : Content). IsPoolOf new out c.now.disk) (sym k) (pool_back h old new out x.now.disk l apart p back))
back_pool h old new (Err e) a b t there back = tt

pub with_file_back : (f : PooledFile) (pool : PoolState) (files : List PooledFile) → ((part kib i : ℕ) → has part kib i files ≡ (has part kib i pool.files || is_file part kib i f))
    → TakesBack f.part f.kib f.id pool (record { greatest = pool.greatest; files = files })
with_file_back f pool files more = record { greatest = refl; files = more }

-- ---- a pool that is opened

any_filter : (t p : FileAt → Bool) → ((x : FileAt) → p x ≡ false → t x ≡ false) → (xs : List FileAt) → list_any t (filter p xs) ≡ list_any t xs
any_filter t p h [] = refl
any_filter t p h (x ∷ xs) =
    elim (p x) as (λ b. p x ≡ b → list_any t (cond b (x ∷ filter p xs) (filter p xs)) ≡ list_any t (x ∷ xs)) [
      | true ↦ λ e. ap (λ b. t x || b) (any_filter t p h xs)
      | false ↦ λ e. any_filter t p h xs ∙ sym (ap (λ b. b || list_any t xs) (h x e))
    ] refl

used_elsewhere : (part kib id : ℕ) (p : Place) (i : ℕ) → not (is_in_use p) ≡ false → (is_pool_place part kib p && i == id) ≡ false
used_elsewhere part kib id InUse i e = refl
used_elsewhere part kib id (Empty p k) i e = absurd (cc)

none_of : (n : ℕ) (d : Disk) → AllByRecursion (λ g. (n == g.id) ≡ false) d → file_of n d ≡ None
none_of n [] h = refl
none_of n (g ∷ d) h = ap (λ b. cond b (Some g) (file_of n d)) (turned n g.id false h.0) ∙ none_of n d h.1

listing_any : (part kib id : ℕ) (d : Disk) → Differ (ids_of (full d)) → list_any (is_listed_in part kib id) (listing d) ≡ is_at part kib (file_of id d)
listing_any part kib id [] h = refl
listing_any part kib id (f ∷ d) h =
    ap (λ b. (is_pool_place part kib f.place && f.id == id) || b) (listing_any part kib id d h.1)
    ∙ elim (f.id == id) as (λ b. (f.id == id) ≡ b → ((is_pool_place part kib f.place && b) || is_at part kib (file_of id d)) ≡ is_at part kib (cond b (Some f) (file_of id d))) [
      | true ↦ λ e.
          ap (λ (o : Option FileState). (is_pool_place part kib f.place && true) || is_at part kib o) (ap (λ n. file_of n d) (sym (eqb_is f.id id e)) ∙ none_of f.id d (apart f.id d h.0))
          ∙ or_false (is_pool_place part kib f.place && true) ∙ and_true (is_pool_place part kib f.place)
      | false ↦ λ e. ap (λ b. b || is_at part kib (file_of id d)) (and_false (is_pool_place part kib f.place))
    ] refl

pub opens_pool : (most : ℕ) (listed : List FileAt) (pool : PoolState) → Opens most listed pool → (d : Disk) → IsListingOf most listed d → IsPoolOf pool [] d
opens_pool most listed pool o d h = record {
  greatest = o.greatest ∙ h.fits.greatest;
  files = λ part kib id.
      let t : FileAt → Bool = is_listed_in part kib id in
      let away : (x : FileAt) → is_listed_empty x ≡ false → t x ≡ false = λ x e. used_elsewhere part kib id x.place x.id e in
      o.files part kib id ∙ sym (any_filter t is_listed_empty away listed) ∙ ap (list_any t) h.empties ∙ any_filter t is_listed_empty away (listing d)
      ∙ listing_any part kib id d h.fits.differ ∙ sym (and_true (is_at part kib (file_of id d)));
  sizes = h.fits.sizes;
}

ids_by : (home : PoolId) (pool : PoolState) (x y : Content) → IsWholePool pool x.now.disk → (o : Option ℕ) → Obtains home pool.greatest o x y → Differ (ids_of (full y.now.disk))
ids_by home pool x y w (Some n) e = subst (λ (c : Content). Differ (ids_of (full c.now.disk))) (sym e) w.0
ids_by home pool x y w None e =
    subst (λ (c : Content). Differ (ids_of (full c.now.disk))) (sym e) (differ_create (pool.greatest + 1) home.part home.kib x.now.disk (next_of pool [] x.now.disk w.1) w.0)

pub blank_ids : (home : PoolId) (pool : PoolState) (x y : Content) → Obtains home pool.greatest (least_id home pool.files) x y → IsWholePool pool x.now.disk → Differ (ids_of (full y.now.disk))
blank_ids home pool x y e w = ids_by home pool x y w (least_id home pool.files) e

pub back_ids : {X : Type 0} (h : HeadedFile) (r : Result X SiteError) (a b : Option Content) → Tells (Leads (Acts (put_back h.id h.header)) (MayAct (put_back h.id h.header)) r) a b → IfOk r (λ _. Carries IdsDiffer IdsDiffer a b)
back_ids h (Ok v) a b t = carries_of (Acts (put_back h.id h.header)) IdsDiffer IdsDiffer a b t (λ x y e k. moved_ids h.id (Empty h.header.part h.header.kib) x y e k)
back_ids h (Err e) a b t = tt
