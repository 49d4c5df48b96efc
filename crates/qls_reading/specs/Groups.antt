-- Files in epochs, and what a reader is told of them.
use Rattle.std.specs.Prelude.{◌≡◌, ℕ, ◌+◌, ◌*◌, List, [], ◌∷◌, length, if◌then◌else◌, ◌==◌}
use Rattle.qls_scan.specs.declared.answers.HeadedFile.{HeadedFile}
use Rattle.qls_reader.specs.declared.spot.FileSpot.{FileSpot}
use Rattle.qls_reading.specs.declared.rules.Spot.{Spot}

-- the files from the front on that have this epoch
abbrev pub run_of : ℕ → List HeadedFile → List HeadedFile
run_of epoch [] = []
run_of epoch (f ∷ fs) = if f.header.epoch == epoch then f ∷ run_of epoch fs else []

-- the files from the front on that have the epoch of the first
abbrev pub first_run : List HeadedFile → List HeadedFile
first_run [] = []
first_run (f ∷ fs) = f ∷ run_of f.header.epoch fs

-- the files at the end that have one epoch, that of the last
abbrev pub last_run : List HeadedFile → List HeadedFile
last_run [] = []
last_run (f ∷ fs) = if length (run_of f.header.epoch fs) == length fs then f ∷ fs else last_run fs

abbrev pub spot_of : HeadedFile → FileSpot
spot_of f = record { id = f.id; number = f.header.number; serial = f.header.serial; kib = f.header.kib; first = f.header.first }

-- how many units of 128 bytes the data areas have
abbrev pub units_of : List HeadedFile → ℕ
units_of [] = 0
units_of (f ∷ fs) = 8 * f.header.kib + units_of fs

-- the end of the last file
abbrev pub last_spot : List HeadedFile → Spot
last_spot [] = record { file = 0; at = 0 }
last_spot (f ∷ []) = record { file = f.header.number; at = 4096 + 1024 * f.header.kib }
last_spot (f ∷ g ∷ fs) = last_spot (g ∷ fs)

-- each file's number is one more than the one before
abbrev pub AreCounted : List HeadedFile → Type 0
AreCounted [] = Unit {0}
AreCounted (f ∷ []) = Unit {0}
AreCounted (f ∷ g ∷ fs) = (g.header.number ≡ f.header.number + 1) × AreCounted (g ∷ fs)
