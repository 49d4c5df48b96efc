-- The start of a run: the site's ids differ, and what the files mean is one.
use Rattle.std.proofs.Common.{◌≡◌, ℕ, false, ◌==◌, ◌<◌, [], ◌∷◌, Result, Ok, Err, arith}
use Rattle.std.specs.List.{AllByRecursion}
use Rattle.std.proofs.lemmas.Bool.Decides.{nat_tests}
use Rattle.qls_model.specs.Machine.{MachineState}
use Rattle.qls_site.specs.Disk.{Image, IdsRise, AllAbove, full}
use Rattle.qls_site.specs.Content.{Content}
use Rattle.qls_meaning.specs.Damage.{Damage}
use Rattle.qls_meaning.specs.Kept.{Differ, ids_of}
use Rattle.qls_meaning.specs.Meaning.{meaning}

above_all : (n : ℕ) (i : Image) → AllAbove n i → AllByRecursion (λ id. (n == id) ≡ false) (ids_of i)
above_all n [] h = tt
above_all n (f ∷ i) h = (less n f.id h.0, above_all n i h.1)
  where
    less : (m n : ℕ) → m < n → (m == n) ≡ false
    less m n h = grind (arith, nat_tests)

pub differ_of : (i : Image) → IdsRise i → Differ (ids_of i)
differ_of [] h = tt
differ_of (f ∷ i) h = (above_all f.id i h.0, differ_of i h.1)

-- ---- what the start means

-- where the start means this
abbrev pub Means : Result MachineState Damage → Content → Type 0
Means m c = meaning (full c.now.disk) ≡ m

pub one_meaning : (m : Result MachineState Damage) (S T : MachineState) → m ≡ Ok S → m ≡ Ok T → S ≡ T
one_meaning m S T a b = cc

pub not_damaged : {X : Type 0} (m : Result MachineState Damage) (S : MachineState) (damage : Damage) → m ≡ Ok S → m ≡ Err damage → X
not_damaged m S damage a b = absurd (cc)
