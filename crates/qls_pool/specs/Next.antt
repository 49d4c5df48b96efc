-- The next file of a journal: the epoch of a file that comes into use behind the others, and that headers of files in use stay.
use Rattle.std.specs.Prelude.{◌≡◌, ◌⊎◌, ℕ, ◌+◌, true, List, [], ◌∷◌, take}
use Rattle.qls_site.specs.Disk.{bytes_at}
use Rattle.qls_site.specs.Content.{Moment}
use Rattle.qls_meaning.specs.Journals.{Headed}
use Rattle.qls_meaning.specs.History.{uses}

-- a file of this epoch may come behind these: the newest has that epoch, or the one before; the first file has epoch 1
abbrev pub IsEpochDue : ℕ → List Headed → Type 0
IsEpochDue epoch [] = epoch ≡ 1
IsEpochDue epoch (f ∷ []) = (f.header.epoch ≡ epoch) ⊎ (f.header.epoch + 1 ≡ epoch)
IsEpochDue epoch (f ∷ g ∷ fs) = IsEpochDue epoch (g ∷ fs)

-- what a reader sees of the headers of files in use stays
abbrev pub HeadersStay : Moment → Moment → Type 0
HeadersStay m n = (id : ℕ) → uses id m ≡ true → take 4096 (bytes_at id n.disk) ≡ take 4096 (bytes_at id m.disk)
