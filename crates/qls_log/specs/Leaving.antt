-- Files that leave use, and what writes meet, from each moment to the next: these parts of the discipline.
use Rattle.std.specs.Prelude.{◌≡◌, true, false, List, [], ◌∷◌, ◌++◌, Option, Some, None}
use Rattle.std.specs.List.{AllByRecursion}
use Rattle.qls_site.specs.Disk.{FileState, Write, IsQuiet, file_of}
use Rattle.qls_site.specs.Content.{Moment, Content}
use Rattle.qls_filehdr.specs.declared.FileHeader.{FileHeader}
use Rattle.qls_meaning.specs.Journals.{is_in_use}
use Rattle.qls_meaning.specs.History.{History, FreeArea, now, next}
use Rattle.qls_meaning.specs.Orderly.{IsReturned, MeetsOnly}
use Rattle.qls_pool.specs.Moments.{Passes}

-- ---- which files leave use, between two moments in a row

abbrev pub RemainsInUse : Option FileState → FileState → Type 0
RemainsInUse None g = Unit {0}
RemainsInUse (Some f) g = is_in_use f.place ≡ true → is_in_use g.place ≡ true

-- no file leaves use
abbrev pub NoneLeaves : Moment → Moment → Type 0
NoneLeaves m n = AllByRecursion (λ g. RemainsInUse (file_of g.id m.disk) g) n.disk

abbrev pub LeavesFile : Moment → Option FileState → FileState → Type 0
LeavesFile m None g = Unit {0}
LeavesFile m (Some f) g = is_in_use f.place ≡ true → is_in_use g.place ≡ false → (header : FileHeader) × IsReturned m f g header

-- each file that leaves use was dead, or past the reading, or the only one of a queue without messages, and goes to its pool
abbrev pub LeavesInOrder : Moment → Moment → Type 0
LeavesInOrder m n = AllByRecursion (λ g. LeavesFile m (file_of g.id m.disk) g) n.disk

-- where nothing is pending as the call begins, the files that leave use do so in order
abbrev pub LeavesFromQuiet : Content → Content → Type 0
LeavesFromQuiet old new = IsQuiet old.now.disk → Passes LeavesInOrder old new

-- ---- what writes meet, over the moments of a call

abbrev pub WritesFile : List FreeArea → History → Option FileState → FileState → Type 0
WritesFile areas h None g = Unit {0}
WritesFile areas h (Some f) g = (w : Write) → g.pending ≡ f.pending ++ w ∷ [] → MeetsOnly areas h f f.place w

-- a write meets only unwritten sectors of a file in use, past its header, and the first 4,096 bytes of an empty one
abbrev pub IsWritingStep : List FreeArea → History → Moment → Type 0
IsWritingStep areas h m = AllByRecursion (λ g. WritesFile areas h (file_of g.id (now h).disk) g) m.disk

abbrev pub WritesInOrder : List FreeArea → History → List Moment → Type 0
WritesInOrder areas h [] = Unit {0}
WritesInOrder areas h (m ∷ ms) = IsWritingStep areas h m × WritesInOrder areas (next h m) ms
