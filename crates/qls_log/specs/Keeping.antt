-- What taking files leaves alone, from each moment to the next.
use Rattle.std.specs.Prelude.{ℕ, ◌≡◌, ◌+◌, ◌≤◌, true, false, [], ◌∷◌, ◌++◌, length, Option, Some, None}
use Rattle.std.specs.List.{AllByRecursion}
use Rattle.qls_site.specs.declared.site.Place.{Place}
use Rattle.qls_site.specs.declared.site.Place.TheVariants.{InUse, Empty}
use Rattle.qls_site.specs.Disk.{FileState, Write, file_of}
use Rattle.qls_site.specs.Content.{Moment}
use Rattle.qls_meaning.specs.History.{uses, is_covered}
use Rattle.qls_log.specs.declared.opening.Opening.{Opening}
use Rattle.qls_log.specs.Leaving.{NoneLeaves}
use Rattle.qls_log.specs.Steps.{IsLogStep}

-- an empty file is written in its first 4,096 bytes, and no file in use
abbrev pub MeetsEmpty : Place → Write → Type 0
MeetsEmpty InUse w = ⊥
MeetsEmpty (Empty part kib) w = w.at + length w.bytes ≤ 4096

abbrev pub WritesEmptyFile : Option FileState → FileState → Type 0
WritesEmptyFile None g = Unit {0}
WritesEmptyFile (Some f) g = (w : Write) → g.pending ≡ f.pending ++ w ∷ [] → MeetsEmpty f.place w

abbrev pub WritesEmpty : Moment → Moment → Type 0
WritesEmpty m n = AllByRecursion (λ g. WritesEmptyFile (file_of g.id m.disk) g) n.disk

-- files in use stay as they are, and one that comes into use has nothing pending
pub record IsTakeStep (o : Opening) (m n : Moment) : Type 0 where
  pub step : IsLogStep o m n
  pub leaves : NoneLeaves m n
  pub writes : WritesEmpty m n
  pub still : (id : ℕ) → uses id m ≡ true → file_of id n.disk ≡ file_of id m.disk
  pub quiet : (id k : ℕ) → uses id m ≡ false → uses id n ≡ true → is_covered id k n ≡ false
