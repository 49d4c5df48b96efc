-- A site that begins with two empty files, as the tests have it.
use Rattle.std.proofs.Common.{◌≡◌, ℕ, ◌<◌, Bool, true, false, cond, ◌==◌, ltb, [], ◌∷◌, length, Some, None, Result, Ok, Err, IfOk, refl, sym, ap, ap₂, ◌∙◌, subst, arith, max}
use Rattle.std.proofs.lemmas.Bool.Decides.{nat_tests}
use Rattle.qls_site.specs.declared.site.ImageFile.{ImageFile}
use Rattle.qls_site.specs.Disk.{Image, at_rest, full}
use Rattle.qls_meaning.specs.Journals.{is_in_use, in_use}
use Rattle.qls_site.specs.Content.{Content}
use Rattle.qls_model.specs.declared.bytes.NoMemory.{NoMemory}
use Rattle.qls_memsite.specs.declared.memory.MemSite.{MemSite}
use Rattle.qls_memsite.specs.Memory.{BeginsOn, content_of}
use Rattle.qls_memsite.specs.Seen.{by_id, IdsDiffer as Apart}
use Rattle.qls_pool.specs.Files.{FitsPools, FitsPlace, IsSized}

turned_less : (m n : ℕ) → m < n → (n == m) ≡ false
turned_less m n h = grind (arith, nat_tests, h)

less : (m n : ℕ) → m < n → (m == n) ≡ false
less m n h = grind (arith, nat_tests, h)

is_less : (m n : ℕ) → m < n → ltb m n ≡ true
is_less m n h = grind (arith, nat_tests, h)

most : (m n : ℕ) → m < n → n ≡ max m (max n 0)
most m n h = grind (arith, h)

pub apart : (f g : ImageFile) → f.id < g.id → Apart (f ∷ g ∷ [])
apart f g h = (ap (λ b. cond b (Some g) None) (turned_less f.id g.id h), (refl, tt))

pub in_order : (f g : ImageFile) → f.id < g.id → by_id (f ∷ g ∷ []) ≡ f ∷ g ∷ []
in_order f g h = ap (λ b. cond b (f ∷ g ∷ []) (g ∷ f ∷ [])) (is_less f.id g.id h)

sized : (f g : ImageFile) (a b : Bool) → FitsPlace f.place (length f.bytes) → FitsPlace g.place (length g.bytes)
    → IsSized (cond a (Some (record { id = f.id; place = f.place; stable = f.bytes; pending = [] })) (cond b (Some (record { id = g.id; place = g.place; stable = g.bytes; pending = [] })) None))
sized f g true b h k = h
sized f g false true h k = k
sized f g false false h k = tt

pub fit : (f g : ImageFile) → f.id < g.id → FitsPlace f.place (length f.bytes) → FitsPlace g.place (length g.bytes) → FitsPools g.id (at_rest (f ∷ g ∷ []))
fit f g h k l = record { greatest = most f.id g.id h; differ = ((less f.id g.id h, tt), (tt, tt)); sizes = λ id. sized f g (f.id == id) (g.id == id) k l }

pub fits_begun : (f g : ImageFile) (files : Image) (second : ℕ) (r : Result MemSite NoMemory) → files ≡ f ∷ g ∷ [] → g.id ≡ second → f.id < g.id → FitsPlace f.place (length f.bytes) → FitsPlace g.place (length g.bytes)
    → IfOk r (BeginsOn (by_id files)) → IfOk r (λ site. FitsPools second (content_of site).now.disk)
fits_begun f g files second (Ok site) e is less k l begins =
    subst (λ n. FitsPools n (content_of site).now.disk) is
    (subst (FitsPools g.id) (sym (ap (λ (c : Content). c.now.disk) begins.content ∙ ap (λ (i : Image). at_rest (by_id i)) e ∙ ap at_rest (in_order f g less))) (fit f g less k l))
fits_begun f g files second (Err x) e is less k l begins = tt

-- none of the two is in use
pub free_begun : (f g : ImageFile) (files : Image) (r : Result MemSite NoMemory) → files ≡ f ∷ g ∷ [] → f.id < g.id → is_in_use f.place ≡ false → is_in_use g.place ≡ false → IfOk r (BeginsOn (by_id files))
    → IfOk r (λ site. in_use (full (content_of site).now.disk) ≡ [])
free_begun f g files (Ok site) e less p q begins =
    ap (λ (c : Content). in_use (full c.now.disk)) begins.content ∙ ap (λ (i : Image). in_use (full (at_rest (by_id i)))) e ∙ ap (λ (i : Image). in_use (full (at_rest i))) (in_order f g less)
    ∙ ap₂ (λ a b. in_use_by a b (full (at_rest (f ∷ g ∷ [])))) p q
  where
    in_use_by : Bool → Bool → Image → Image
    in_use_by a b [] = []
    in_use_by a b (i ∷ []) = cond a (i ∷ []) []
    in_use_by a b (i ∷ j ∷ is) = let rest = cond b (j ∷ []) [] in cond a (i ∷ rest) rest
free_begun f g files (Err x) e less p q begins = tt
