-- A place as a file and a place in it.
use Rattle.std.specs.Prelude.{◌≡◌, ℕ, ◌+◌, ◌<◌, ◌≤◌, ◌^◌, ◌&&◌, List, [], ◌∷◌, length, take, drop, IsTrue}
use Rattle.std.specs.List.{AllByRecursion}
use Rattle.qls_model.specs.Limits.{is_kib}
use Rattle.qls_filehdr.specs.Limits.{is_first_place}
use Rattle.qls_reader.specs.declared.spot.FileSpot.{FileSpot}
use Rattle.qls_reader.specs.declared.spot.Position.{Position}
use Rattle.qls_reader.specs.Spots.{data_length, all_length}

-- the place lies in the first file, or where there is none it is the end
abbrev pub IsWithin : ℕ → List FileSpot → Type 0
IsWithin p [] = p ≡ 0
IsWithin p (s ∷ ss) = p < data_length s

pub record IsPlaced (files : List FileSpot) (at : Position) : Type 0 where
  pub file : at.file ≤ length files
  pub within : IsWithin at.within (drop at.file files)
  pub few : at.within < 2 ^ 42

-- the place in the joined data areas
abbrev pub place_at : List FileSpot → Position → ℕ
place_at ss at = all_length (take at.file ss) + at.within

-- a file's KiB are within the limits, and its first place is 0 or a unit of its data area
abbrev pub AreSound : List FileSpot → Type 0
AreSound ss = AllByRecursion (λ s. IsTrue (is_kib s.kib && is_first_place s.kib s.first)) ss

abbrev pub number_at : List FileSpot → ℕ
number_at [] = 0
number_at (s ∷ ss) = s.number
