-- The files as a reader sees them, and what each call does to these.
use Rattle.std.specs.Prelude.{◌≡◌, ℕ, suc, ◌+◌, ◌*◌, ◌<◌, List, [], ◌∷◌, map, replicate, length, get_or, ◌≤◌, Option, Some, None, if◌then◌else◌, ◌==◌, nat_lt}
use Rattle.std.specs.List.{find}
use Rattle.std.specs.Coded.{×_prop, Unit-prop, le_prop}
use Rattle.qls_site.specs.declared.site.Place.{Place}
use Rattle.qls_site.specs.declared.site.Place.TheVariants.{Empty}
use Rattle.qls_site.specs.declared.site.FileAt.{FileAt}
use Rattle.qls_site.specs.declared.site.ImageFile.{ImageFile}
use Rattle.qls_site.specs.Disk.{Image, written}
pub use Rattle.qls_site.specs.Disk.{AllAbove, IdsRise}

abbrev pub seen_of : ℕ → Image → Option ImageFile
seen_of id i = find (λ f. f.id == id) i

-- the file of that id changed, and all others as they are
abbrev pub changed_seen : ℕ → (ImageFile → ImageFile) → ImageFile → ImageFile
changed_seen id change f = if f.id == id then change f else f

abbrev pub change_seen : ℕ → (ImageFile → ImageFile) → Image → Image
change_seen id change i = map (changed_seen id change) i

abbrev pub with_bytes : ℕ → List ℕ → ImageFile → ImageFile
with_bytes at bytes f = record f { bytes = written (record { at = at; bytes = bytes }) f.bytes }

abbrev pub at_place : Place → ImageFile → ImageFile
at_place to f = record f { place = to }

-- the file at its place by id
abbrev pub with_seen : ImageFile → Image → Image
with_seen f [] = f ∷ []
with_seen f (g ∷ i) = if nat_lt f.id g.id then f ∷ g ∷ i else (g ∷ with_seen f i)

abbrev pub zeros : ℕ → ℕ → ℕ → ImageFile
zeros id part kib = record { id = id; place = Empty part kib; bytes = replicate (4096 + 1024 * kib) 0 }

abbrev pub listed_seen : ImageFile → FileAt
listed_seen f = record { id = f.id; place = f.place; size = length f.bytes }

-- how many of the first files have a lesser id
abbrev pub before : ℕ → Image → ℕ
before id [] = 0
before id (f ∷ i) = if nat_lt f.id id then suc (before id i) else 0

AllAbove-prop : (id : ℕ) (i : Image) → IsProp (AllAbove id i)
AllAbove-prop id [] = Unit-prop
AllAbove-prop id (f ∷ i) = ×_prop le_prop (AllAbove-prop id i)

pub IdsRise-prop : (i : Image) → IsProp (IdsRise i)
IdsRise-prop [] = Unit-prop
IdsRise-prop (f ∷ i) = ×_prop (AllAbove-prop f.id i) (IdsRise-prop i)

abbrev pub bytes_of : Option ImageFile → List ℕ
bytes_of None = []
bytes_of (Some f) = f.bytes

-- the file has these many bytes from the offset on
abbrev pub HasBytes : ℕ → ℕ → Option ImageFile → Type 0
HasBytes at n None = ⊥
HasBytes at n (Some f) = at + n ≤ length f.bytes

-- the file of that id stands at this place
pub record StandsAt (i : Image) (id k : ℕ) : Type 0 where
  pub within : k < length i
  pub own : (d : ImageFile) → (get_or i k d).id ≡ id
  pub seen : (d : ImageFile) → seen_of id i ≡ Some (get_or i k d)

-- no two files have the same id
abbrev pub IdsDiffer : Image → Type 0
IdsDiffer [] = Unit {0}
IdsDiffer (f ∷ i) = (seen_of f.id i ≡ None) × IdsDiffer i

-- the files in the order of their ids
abbrev pub by_id : Image → Image
by_id [] = []
by_id (f ∷ i) = with_seen f (by_id i)
