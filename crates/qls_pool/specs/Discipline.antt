-- What the pool decides, between each two moments in a row: which file is created, comes into use, goes back, and how an empty
-- file is written.
use Rattle.std.specs.Prelude.{◌≡◌, ℕ, ◌+◌, ◌≤◌, true, false, List, [], ◌∷◌, ◌++◌, length, take, Option, Some, None, Result, Ok, Err}
use Rattle.std.specs.List.{AllByRecursion}
use Rattle.qls_site.specs.declared.site.Place.{Place}
use Rattle.qls_site.specs.declared.site.Place.TheVariants.{InUse, Empty}
use Rattle.qls_site.specs.Disk.{Disk, FileState, Write, file_of}
use Rattle.qls_site.specs.Content.{Moment, Content}
use Rattle.qls_filehdr.specs.declared.FileHeader.{FileHeader}
use Rattle.qls_filehdr.specs.Header.{header_of}
use Rattle.qls_meaning.specs.History.{History, FreeArea, last_of, now, next}
use Rattle.qls_meaning.specs.Journals.{is_in_use}
use Rattle.qls_meaning.specs.Spent.{is_pool_place}
use Rattle.qls_pool.specs.Files.{IdsDiffer}
use Rattle.qls_meaning.specs.Orderly.{IsNewFile, IsTaken, WasLeast, NamesPool, GoesHome, journal_on}

-- it had the least id of its pool, and has a legal header that is stable and names that pool, with nothing pending
pub record IsPutInUse (m : Moment) (f g : FileState) (header : FileHeader) : Type 0 where
  pub legal : header_of (take 4096 g.stable) ≡ Ok header
  pub quiet : g.pending ≡ []
  pub least : WasLeast m.disk f f.place
  pub pool : NamesPool header f.place

-- it goes to the pool in its header, and keeps all its bytes
pub record IsPutBack (f g : FileState) (header : FileHeader) : Type 0 where
  pub legal : header_of (take 4096 f.stable) ≡ Ok header
  pub home : GoesHome header g.place
  pub bytes : g.stable ≡ f.stable
  pub pending : g.pending ≡ f.pending

-- a write to an empty file meets its first 4,096 bytes alone
abbrev pub MeetsFront : Place → Write → Type 0
MeetsFront InUse w = Unit {0}
MeetsFront (Empty part kib) w = w.at + length w.bytes ≤ 4096

-- what happened to a file, f before and g after
pub record PoolFileStep (m : Moment) (f g : FileState) : Type 0 where
  pub taken : is_in_use f.place ≡ false → is_in_use g.place ≡ true → (header : FileHeader) × IsPutInUse m f g header
  pub returned : is_in_use f.place ≡ true → is_in_use g.place ≡ false → (header : FileHeader) × IsPutBack f g header
  pub written : (w : Write) → g.pending ≡ f.pending ++ w ∷ [] → MeetsFront f.place w

-- a file that wasn't there has the greatest id plus 1 and holds zeros, and its pool had no file
abbrev pub PoolFileSteps : Moment → Option FileState → FileState → Type 0
PoolFileSteps m None g = IsNewFile m g.place g
PoolFileSteps m (Some f) g = PoolFileStep m f g

abbrev pub IsPoolStep : Moment → Moment → Type 0
IsPoolStep m n = AllByRecursion (λ g. PoolFileSteps m (file_of g.id m.disk) g) n.disk

abbrev pub ArePoolSteps : Moment → List Moment → Type 0
ArePoolSteps m [] = Unit {0}
ArePoolSteps m (n ∷ ns) = IsPoolStep m n × ArePoolSteps n ns

-- the id is the least of the pool's files on the disk
abbrev pub IsLeastOnDisk : ℕ → ℕ → ℕ → Disk → Type 0
IsLeastOnDisk part kib id d = AllByRecursion (λ g. is_pool_place part kib g.place ≡ true → id ≤ g.id) d

-- the moments that were added
pub record AddsPoolSteps (old new : Content) : Type 0 where
  pub since : List Moment
  pub moments : new.moments ≡ old.moments ++ since
  pub steps : ArePoolSteps old.now since

-- and the last of them is the one that is now
pub record EndsPoolSteps (old new : Content) : Type 0 where
  pub since : List Moment
  pub moments : new.moments ≡ old.moments ++ since
  pub steps : ArePoolSteps old.now since
  pub last : new.now ≡ last_of old.now since

-- after an error what is now may differ from the last moment
abbrev pub StepsBy : {X E : Type 0} → Result X E → Content → Content → Type 0
StepsBy (Ok x) old new = EndsPoolSteps old new
StepsBy (Err e) old new = AddsPoolSteps old new

-- where the content is told, the ids of its disk differ and this holds of it
abbrev pub Orderly : {X E : Type 0} → (Disk → Type 0) → Result X E → Option Content → Option Content → Type 0
Orderly P result (Some old) (Some new) = IdsDiffer old.now.disk → P old.now.disk → StepsBy result old new
Orderly P result (Some old) None = Unit {0}
Orderly P result None new = Unit {0}

-- ---- which files come into use, over the moments of a call

-- of what is orderly the part on files that are created and come into use
abbrev pub TakesFile : List FreeArea → History → Option FileState → FileState → Type 0
TakesFile areas h None g = IsNewFile (now h) g.place g
TakesFile areas h (Some f) g = is_in_use f.place ≡ false → is_in_use g.place ≡ true → (header : FileHeader) × IsTaken areas h f g header

abbrev pub IsTakingStep : List FreeArea → History → Moment → Type 0
IsTakingStep areas h m = AllByRecursion (λ g. TakesFile areas h (file_of g.id (now h).disk) g) m.disk

abbrev pub TakesInOrder : List FreeArea → History → List Moment → Type 0
TakesInOrder areas h [] = Unit {0}
TakesInOrder areas h (m ∷ ms) = IsTakingStep areas h m × TakesInOrder areas (next h m) ms

-- the first file of a journal that had none
pub record IsFirstFile (d : Disk) (g : FileState) (header : FileHeader) : Type 0 where
  pub legal : header_of (take 4096 g.stable) ≡ Ok header
  pub epoch : header.epoch ≡ 1
  pub number : header.number ≡ 1
  pub new : (journal_on d header.kind header.name).files ≡ []

abbrev pub TakesFirst : Moment → Option FileState → FileState → Type 0
TakesFirst m None g = Unit {0}
TakesFirst m (Some f) g = is_in_use f.place ≡ false → is_in_use g.place ≡ true → (header : FileHeader) × IsFirstFile m.disk g header

-- each file that comes into use is the first of its journal
abbrev pub IsFirstTaken : Moment → Moment → Type 0
IsFirstTaken m n = AllByRecursion (λ g. TakesFirst m (file_of g.id m.disk) g) n.disk

abbrev pub AreFirstTaken : Moment → List Moment → Type 0
AreFirstTaken m [] = Unit {0}
AreFirstTaken m (n ∷ ns) = IsFirstTaken m n × AreFirstTaken n ns
