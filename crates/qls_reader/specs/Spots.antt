-- The files that a reader goes through, and what a disk has of them.
use Rattle.std.specs.Prelude.{◌≡◌, ℕ, ◌+◌, ◌-◌, ◌*◌, Bool, List, [], ◌∷◌, drop, length, Option, Some, None, if◌then◌else◌, ◌==◌, nat_lt}
use Rattle.std.specs.List.{flat_map, AllByRecursion}
use Rattle.qls_site.specs.Disk.{Disk, FileState, bytes_at, file_of, size_of}
use Rattle.qls_site.specs.Content.{Content}
use Rattle.qls_meaning.specs.Journals.{Headed}
use Rattle.qls_reader.specs.declared.spot.FileSpot.{FileSpot}
use Rattle.qls_reader.specs.declared.spot.EndSpot.{EndSpot}

-- how many bytes a file's data area has, and those of several files together
abbrev pub data_length : FileSpot → ℕ
data_length s = 1024 * s.kib

abbrev pub all_length : List FileSpot → ℕ
all_length [] = 0
all_length (s ∷ ss) = data_length s + all_length ss

-- ---- what the disk has

-- a file's data area as a read sees it, and those of several files, joined
abbrev pub area_on : Disk → FileSpot → List ℕ
area_on d s = drop 4096 (bytes_at s.id d)

abbrev pub stream_on : Disk → List FileSpot → List ℕ
stream_on d ss = flat_map (area_on d) ss

abbrev pub HasSize : ℕ → Option FileState → Type 0
HasSize n None = ⊥
HasSize n (Some f) = size_of f ≡ n

-- a file is there, with the size that its KiB tell, and so is each
abbrev pub IsThere : FileSpot → Content → Type 0
IsThere s c = HasSize (4096 + data_length s) (file_of s.id c.now.disk)

abbrev pub AreThere : List FileSpot → Content → Type 0
AreThere ss c = AllByRecursion (λ s. IsThere s c) ss

-- ---- the files with their headers

-- what a spot tells of a file
pub record IsSpotOf (s : FileSpot) (f : Headed) : Type 0 where
  pub number : f.header.number ≡ s.number
  pub serial : f.header.serial ≡ s.serial
  pub first : f.header.first ≡ s.first
  pub size : length f.area ≡ data_length s

abbrev pub AreSpotsOf : List FileSpot → List Headed → Type 0
AreSpotsOf [] [] = Unit {0}
AreSpotsOf [] (f ∷ fs) = ⊥
AreSpotsOf (s ∷ ss) [] = ⊥
AreSpotsOf (s ∷ ss) (f ∷ fs) = IsSpotOf s f × AreSpotsOf ss fs

-- the same, and each file's data area is what the disk has
abbrev pub AreSeen : Disk → List FileSpot → List Headed → Type 0
AreSeen d [] [] = Unit {0}
AreSeen d [] (f ∷ fs) = ⊥
AreSeen d (s ∷ ss) [] = ⊥
AreSeen d (s ∷ ss) (f ∷ fs) = IsSpotOf s f × (f.area ≡ area_on d s) × AreSeen d ss fs

-- ---- places in the joined areas

-- Where a reading begins: in the journal's oldest epoch at the first place of the first file that has one, else at the first file
abbrev pub first_spot : List FileSpot → ℕ
first_spot [] = 0
first_spot (s ∷ ss) = if s.first == 0 then data_length s + first_spot ss else s.first - 4096

abbrev pub begin_of : Bool → List FileSpot → ℕ
begin_of oldest ss = if oldest then first_spot ss else 0

-- where a reading ends that ends at p: in the file that holds p, and at the end of them all in the last
abbrev pub end_spot : List FileSpot → ℕ → EndSpot
end_spot [] p = record { file = 0; at = 0 }
end_spot (s ∷ []) p = record { file = s.number; at = 4096 + p }
end_spot (s ∷ t ∷ ss) p = if nat_lt p (data_length s) then record { file = s.number; at = 4096 + p } else end_spot (t ∷ ss) (p - data_length s)
