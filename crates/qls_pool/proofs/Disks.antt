-- Files of a disk after one call, and what a pool's condition is then.
use Rattle.std.proofs.Common.{◌≡◌, ℕ, ◌<◌, Bool, true, false, not, cond, ◌&&◌, ◌||◌, ◌==◌, ltb, List, [], ◌∷◌, Option, Some, None, refl, sym, ap, ◌∙◌, subst, arith, option_map, max}
use Rattle.std.proofs.lemmas.Bool.Decides.{nat_tests}
use Rattle.qls_site.specs.declared.site.Place.TheVariants.{InUse}
use Rattle.qls_site.specs.Disk.{Disk, FileState, file_of, size_of, changed, change_file, with_file, relocate_at}
use Rattle.qls_site.proofs.Told.{KeepsId, file_of-change_file}
use Rattle.qls_meaning.specs.Spent.{greatest_id, is_pool_place}
use Rattle.qls_pool.specs.Pools.{PoolState}
use Rattle.qls_pool.specs.Files.{is_at, is_among, FitsPlace, IsSized, IsPoolOf}

-- ---- ids

pub eqb_is : (m n : ℕ) → (m == n) ≡ true → m ≡ n
eqb_is m n e = grind (arith, nat_tests, e)

pub eqb_own : (n : ℕ) → (n == n) ≡ true
eqb_own n = grind (arith, nat_tests)

pub eqb_less : (m n : ℕ) → m < n → (m == n) ≡ false
eqb_less m n h = grind (arith, nat_tests, h)

pub same_id : (own : ℕ) (c : FileState → FileState) → KeepsId c → (f : FileState) → (changed own c f).id ≡ f.id
same_id own c keeps f = elim (f.id == own) as (λ b. (cond b (c f) f).id ≡ f.id) [ true ↦ keeps f | false ↦ refl ]

-- the file that is found has the id
found_step : (id : ℕ) (g : FileState) (rest : Option FileState) (f : FileState) → (rest ≡ Some f → f.id ≡ id) → (b : Bool) → (g.id == id) ≡ b → cond b (Some g) rest ≡ Some f → f.id ≡ id
found_step id g rest f ih true e h = subst (λ (x : FileState). x.id ≡ id) (some_is g f h) (eqb_is g.id id e)
  where
    some_is : (g f : FileState) → ◌≡◌ {A = Option FileState} (Some g) (Some f) → g ≡ f
    some_is g f h = cc
found_step id g rest f ih false e h = ih h

pub found_id : (id : ℕ) (f : FileState) (d : Disk) → file_of id d ≡ Some f → f.id ≡ id
found_id id f [] h = absurd (cc)
found_id id f (g ∷ d) h = found_step id g (file_of id d) f (found_id id f d) (g.id == id) refl h

pub greatest-change : (own : ℕ) (c : FileState → FileState) → KeepsId c → (d : Disk) → greatest_id (change_file own c d) ≡ greatest_id d
greatest-change own c keeps [] = refl
greatest-change own c keeps (f ∷ d) = ap (λ n. max n (greatest_id (change_file own c d))) (same_id own c keeps f) ∙ ap (max f.id) (greatest-change own c keeps d)

max_turned : (a b c : ℕ) → max a (max b c) ≡ max b (max a c)
max_turned a b c = grind arith

pub greatest-with : (f : FileState) (d : Disk) → greatest_id (with_file f d) ≡ max f.id (greatest_id d)
greatest-with f [] = refl
greatest-with f (g ∷ d) =
    elim (ltb f.id g.id) as (λ b. greatest_id (cond b (f ∷ g ∷ d) (g ∷ with_file f d)) ≡ max f.id (max g.id (greatest_id d))) [
      | true ↦ refl
      | false ↦ ap (max g.id) (greatest-with f d) ∙ max_turned g.id f.id (greatest_id d)
    ]

pub below_left : (a b n : ℕ) → max a b < n → a < n
below_left a b n h = grind (arith, h)

pub below_right : (a b n : ℕ) → max a b < n → b < n
below_right a b n h = grind (arith, h)

-- above the greatest id there is no file
pub lacks_above : (n : ℕ) (d : Disk) → greatest_id d < n → file_of n d ≡ None
lacks_above n [] h = refl
lacks_above n (f ∷ d) h =
    ap (λ b. cond b (Some f) (file_of n d)) (eqb_less f.id n (below_left f.id (greatest_id d) n h)) ∙ lacks_above n d (below_right f.id (greatest_id d) n h)

-- another file is found as before
pub other-with : (f : FileState) (id : ℕ) → (f.id == id) ≡ false → (d : Disk) → file_of id (with_file f d) ≡ file_of id d
other-with f id e [] = ap (λ b. cond b (Some f) None) e
other-with f id e (g ∷ d) =
    elim (ltb f.id g.id) as (λ b. file_of id (cond b (f ∷ g ∷ d) (g ∷ with_file f d)) ≡ file_of id (g ∷ d)) [
      | true ↦ ap (λ b. cond b (Some f) (file_of id (g ∷ d))) e
      | false ↦ ap (λ (o : Option FileState). cond (g.id == id) (Some g) o) (other-with f id e d)
    ]

-- ---- one file changed

-- every file but the one of this id stays, and that one is changed
option_kept : (own id : ℕ) (c : FileState → FileState) (P : Option FileState → Option FileState → Type 0) (o : Option FileState)
    → ((f : FileState) → o ≡ Some f → f.id ≡ id)
    → (o ≡ None → P None None) → ((f : FileState) → (own ≡ id) → o ≡ Some f → P (Some f) (Some (c f))) → ((f : FileState) → (id == own) ≡ false → P (Some f) (Some f)) → P o (option_map (changed own c) o)
option_kept own id c P None ids none mine others = none refl
option_kept own id c P (Some f) ids none mine others =
    elim (f.id == own) as (λ b. (f.id == own) ≡ b → P (Some f) (Some (cond b (c f) f))) [
      | true ↦ λ e. mine f (sym (eqb_is f.id own e) ∙ ids f refl) refl
      | false ↦ λ e. others f (ap (λ n. n == own) (sym (ids f refl)) ∙ e)
    ] refl

pub at_change : (own id : ℕ) (c : FileState → FileState) (d : Disk) (P : Option FileState → Option FileState → Type 0)
    → (file_of id d ≡ None → P None None) → ((f : FileState) → own ≡ id → file_of own d ≡ Some f → P (Some f) (Some (c f))) → ((f : FileState) → (id == own) ≡ false → P (Some f) (Some f))
    → P (file_of id d) (option_map (changed own c) (file_of id d))
at_change own id c d P none mine others =
    option_kept own id c P (file_of id d) (λ f e. found_id id f d e) none (λ f e h. mine f e (subst (λ n. file_of n d ≡ Some f) (sym e) h)) others

-- ---- a pool, after one file was changed

-- the change keeps the place, and the size of the file
pub pool_kept : (own : ℕ) (c : FileState → FileState) → KeepsId c → ((f : FileState) → (c f).place ≡ f.place) → (d : Disk) → ((f : FileState) → file_of own d ≡ Some f → size_of (c f) ≡ size_of f)
    → (pool : PoolState) (out : List ℕ) → IsPoolOf pool out d → IsPoolOf pool out (change_file own c d)
pool_kept own c keeps place d size pool out h = record {
  greatest = h.greatest ∙ sym (greatest-change own c keeps d);
  files = λ part kib id.
      h.files part kib id
      ∙ ap (λ b. b && not (is_among id out)) (at_change own id c d (λ o p. is_at part kib o ≡ is_at part kib p) (λ e. refl) (λ f e k. ap (is_pool_place part kib) (sym (place f))) (λ f e. refl)
      ∙ ap (is_at part kib) (sym (file_of-change_file id own c keeps d)));
  sizes = λ id.
      subst IsSized (sym (file_of-change_file id own c keeps d))
      (at_change own id c d (λ o p. IsSized o → IsSized p) (λ e x. x) (λ f e k x. subst (λ q. FitsPlace q (size_of (c f))) (sym (place f)) (subst (FitsPlace f.place) (sym (size f k)) x)) (λ f e x. x) (h.sizes id));
}

false_else : (b c : Bool) → b ≡ true → (b || c) ≡ true
false_else b c e = cc

gone : (b x : Bool) → x ≡ true → (b && not x) ≡ false
gone true x e = cc
gone false x e = refl

-- the file went into use: it is out no longer
pub pool_linked : (own : ℕ) (d : Disk) (pool : PoolState) (out : List ℕ) → IsPoolOf pool (own ∷ out) d → IsPoolOf pool out (relocate_at own InUse d)
pool_linked own d pool out h = record {
  greatest = h.greatest ∙ sym (greatest-change own used (λ f. refl) d);
  files = λ part kib id.
      h.files part kib id
      ∙ at_change own id used d (λ o p. (is_at part kib o && not ((own == id) || is_among id out)) ≡ (is_at part kib p && not (is_among id out))) (λ e. refl)
      (λ f e k. gone (is_pool_place part kib f.place) ((own == id) || is_among id out) (false_else (own == id) (is_among id out) (ap (λ n. n == id) e ∙ eqb_own id)))
      (λ f e. ap (λ b. is_pool_place part kib f.place && not (b || is_among id out)) (turn own id e))
      ∙ ap (λ o. is_at part kib o && not (is_among id out)) (sym (file_of-change_file id own used (λ f. refl) d));
  sizes = λ id. subst IsSized (sym (file_of-change_file id own used (λ f. refl) d)) (at_change own id used d (λ o p. IsSized o → IsSized p) (λ e x. x) (λ f e k x. tt) (λ f e x. x) (h.sizes id));
}
  where
    used : FileState → FileState
    used f = record f { place = InUse }

    turn : (m n : ℕ) → (n == m) ≡ false → (m == n) ≡ false
    turn m n e = grind (arith, nat_tests, e)
