-- The bytes that are read ahead of a place.
use Rattle.std.specs.Prelude.{◌≡◌, ◌⊎◌, ℕ, ◌+◌, ◌-◌, ◌/◌, ◌≤◌, List, [], ◌∷◌, length, take, drop}
use Rattle.qls_site.specs.Disk.{Disk}
use Rattle.qls_reader.specs.declared.spot.FileSpot.{FileSpot}
use Rattle.qls_reader.specs.declared.window.Window.{Window}
use Rattle.qls_reader.specs.Spots.{data_length, all_length, stream_on}
use Rattle.qls_reader.specs.Places.{IsPlaced, place_at}

-- bytes that were read ahead are those that stand in the files from the place on
abbrev pub AreAhead : Disk → List FileSpot → ℕ → List ℕ → Type 0
AreAhead d ss place bytes = bytes ≡ take (length bytes) (drop place (stream_on d ss))

abbrev pub held : Window → List ℕ
held w = drop w.passed w.bytes.items

abbrev pub IsAhead : Disk → List FileSpot → Window → Type 0
IsAhead d ss w = AreAhead d ss (place_at ss w.at) (held w)

-- what is held reaches from one place of the files to another
pub record IsWindow (files : List FileSpot) (w : Window) : Type 0 where
  pub at : IsPlaced files w.at
  pub end : IsPlaced files w.end
  pub passed : w.passed ≤ length w.bytes.items
  pub reach : place_at files w.end ≡ place_at files w.at + length (held w)

-- so many bytes are held, or all that there are
abbrev pub IsFilled : ℕ → List FileSpot → Window → Type 0
IsFilled least files w = (least ≤ length (held w)) ⊎ (place_at files w.end ≡ all_length files)

-- ---- each byte is read once

-- in how many windows of 65,536 bytes so many bytes of a file are read
abbrev pub windows : ℕ → ℕ
windows n = (n + 65535) / 65536

-- in how many windows the bytes from a place on are read, file by file
abbrev pub windows_from : ℕ → List FileSpot → ℕ
windows_from place [] = 0
windows_from place (s ∷ ss) = windows (data_length s - place) + windows_from (place - data_length s) ss

-- so many reads were made at most as there are windows fewer behind what is held
abbrev pub ReadsOnce : List FileSpot → Window → Window → ℕ → ℕ → Type 0
ReadsOnce files old new before now = now + windows_from (place_at files new.end) files ≤ before + windows_from (place_at files old.end) files
