-- Files of a scene, changed one by one, and a new one at its place.
use Rattle.std.proofs.Common.{◌≡◌, ℕ, zero, suc, ◌+◌, ◌<◌, ◌≤◌, true, false, cond, List, [], ◌∷◌, length, get_or, set, ltb, refl, ap, ◌∙◌, arith}
use Rattle.std.specs.List.{insert}
use Rattle.qls_site.specs.Disk.{FileState, Disk, with_file}
use Rattle.qls_memsite.specs.declared.scene.SceneFile.{SceneFile}
use Rattle.qls_memsite.specs.Scenes.{state_of, disk_of, place_in}
use Rattle.qls_memsite.proofs.Lists.{first_mapped, next_mapped}

disk_set : (files : List SceneFile) (i : ℕ) (v : SceneFile) → disk_of (set files i v) ≡ set (disk_of files) i (state_of v)
disk_set [] i v = refl
disk_set (f ∷ files) zero v = refl
disk_set (f ∷ files) (suc i) v = ap (λ d. state_of f ∷ d) (disk_set files i v)

disk_get : (files : List SceneFile) (i : ℕ) (v : SceneFile) → state_of (get_or files i v) ≡ get_or (disk_of files) i (state_of v)
disk_get [] i v = refl
disk_get (f ∷ files) zero v = refl
disk_get (f ∷ files) (suc i) v = disk_get files i v

disk_length : (files : List SceneFile) → length (disk_of files) ≡ length files
disk_length [] = refl
disk_length (f ∷ files) = ap suc (disk_length files)

pub next_changed : (g : FileState → FileState) (first files : List SceneFile) (i : ℕ) (v : SceneFile) → i < length first → disk_of files ≡ first_mapped g i (disk_of first)
    → state_of v ≡ g (state_of (get_or files i v)) → disk_of (set files i v) ≡ first_mapped g (i + 1) (disk_of first)
next_changed g first files i v within is to =
    disk_set files i v
    ∙ next_mapped g (disk_of first) (disk_of files) i (state_of v) (state_of v) (omega (arith, within, disk_length first)) is (to ∙ ap g (disk_get files i v))

pub with_file_at : (d : Disk) (f : FileState) → with_file f d ≡ insert d (place_in f.id d) f
with_file_at [] f = refl
with_file_at (g ∷ d) f = elim (ltb f.id g.id) as (λ b. cond b (f ∷ g ∷ d) (g ∷ with_file f d) ≡ insert (g ∷ d) (cond b 0 (suc (place_in f.id d))) f) [
  | true ↦ refl
  | false ↦ ap (λ e. g ∷ e) (with_file_at d f)
]

pub place_within : (files : List SceneFile) (id : ℕ) → place_in id (disk_of files) ≤ length files
place_within [] id = omega arith
place_within (f ∷ files) id = elim (ltb id f.id) as (λ b. cond b 0 (suc (place_in id (disk_of files))) ≤ suc (length files)) [
  | true ↦ omega arith
  | false ↦ omega (arith, place_within files id)
]

pub disk_insert : (files : List SceneFile) (n : ℕ) (v : SceneFile) → disk_of (insert files n v) ≡ insert (disk_of files) n (state_of v)
disk_insert [] zero v = refl
disk_insert [] (suc n) v = refl
disk_insert (f ∷ files) zero v = refl
disk_insert (f ∷ files) (suc n) v = ap (λ d. state_of f ∷ d) (disk_insert files n v)
