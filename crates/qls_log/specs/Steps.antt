-- What a log's call does from each moment to the next: only its own journal changes.
use Rattle.std.specs.Prelude.{◌≡◌, ℕ, ◌+◌, ◌-◌, ◌*◌, ◌<◌, nat_lt, Bool, true, false, ◌&&◌, List, [], ◌∷◌, length, take, Option, Some, None, IfSome, Result, Ok, Err}
use Rattle.std.specs.List.{AllByRecursion}
use Rattle.qls_model.specs.Bytes.{same}
use Rattle.qls_site.specs.Disk.{Disk, FileState, file_of, full_file}
use Rattle.qls_site.specs.Content.{Moment, Content, Tells, moments_since}
use Rattle.qls_filehdr.specs.declared.JournalKind.{JournalKind}
use Rattle.qls_filehdr.specs.declared.FileHeader.{FileHeader}
use Rattle.qls_filehdr.specs.Header.{header_of}
use Rattle.qls_meaning.specs.Journals.{Headed, Journal, headed, is_in_use, is_of, same_kind, epochs}
use Rattle.qls_meaning.specs.Dead.{newest_number}
use Rattle.qls_meaning.specs.Orderly.{journal_on}
use Rattle.qls_pool.specs.Discipline.{IsPoolStep}
use Rattle.qls_pool.specs.Files.{IdsDiffer, OnDisk}
use Rattle.qls_pool.specs.Next.{IsEpochDue, HeadersStay}
use Rattle.qls_pool.specs.Moments.{Passes, Arrives, EndsIn}
use Rattle.qls_pool.specs.Serials.{TakesNone}
use Rattle.qls_log.specs.declared.opening.Opening.{Opening}
use Rattle.qls_meaning.specs.Spent.{batch_meets_end}
use Rattle.qls_meaning.specs.History.{AllUnmarked}
use Rattle.qls_meaning.specs.Reading.{Read, stream, epoch_end}
use Rattle.qls_log.specs.Reads.{IsRead}
use Rattle.qls_log.specs.Logs.{LogState, capacity_in}
use Rattle.qls_log.specs.Standing.{files_on}
use Rattle.qls_log.specs.declared.fault.LogError.{LogError}
use Rattle.qls_log.specs.declared.fault.LogError.TheVariants.{Failed, Draw, Spent, Memory}

-- ---- another journal

abbrev pub is_own : Opening → JournalKind → List ℕ → Bool
is_own o kind name = same_kind o.kind kind && same o.name name

-- ---- a file of the journal that comes into use

-- a legal header of this journal, this pool and this epoch, which is due behind the journal's files, with the number after that of the
-- newest of them
pub record IsOwnNext (o : Opening) (m : Moment) (g : FileState) (header : FileHeader) : Type 0 where
  pub legal : header_of (take 4096 g.stable) ≡ Ok header
  pub kind : header.kind ≡ o.kind
  pub name : header.name ≡ o.name
  pub part : header.part ≡ o.home.part
  pub kib : header.kib ≡ o.home.kib
  pub epoch : header.epoch ≡ o.epoch
  pub due : IsEpochDue o.epoch (journal_on m.disk o.kind o.name).files
  pub number : header.number ≡ newest_number (journal_on m.disk o.kind o.name).files + 1

abbrev pub TakesOwn : Opening → Moment → Option FileState → FileState → Type 0
TakesOwn o m None g = Unit {0}
TakesOwn o m (Some f) g = is_in_use f.place ≡ false → is_in_use g.place ≡ true → (header : FileHeader) × IsOwnNext o m g header

-- ---- the step

-- Nothing is answered, ids differ still, and the pool has its order. Files that come into use are the journal's next ones, and headers of
-- files in use stay. Every other journal is as before, and so is each file in use of another journal
pub record IsLogStep (o : Opening) (m n : Moment) : Type 0 where
  pub answered : n.answered ≡ m.answered
  pub differ : IdsDiffer m.disk → IdsDiffer n.disk
  pub pool : IsPoolStep m n
  pub next : AllByRecursion (λ g. TakesOwn o m (file_of g.id m.disk) g) n.disk
  pub headers : HeadersStay m n
  pub journals : (kind : JournalKind) (name : List ℕ) → is_own o kind name ≡ false → journal_on n.disk kind name ≡ journal_on m.disk kind name
  pub files : (id : ℕ) (f : FileState) → file_of id m.disk ≡ Some f → is_in_use f.place ≡ true → is_of o.kind o.name (headed (full_file f)) ≡ false
      → file_of id n.disk ≡ Some f

-- ---- the log's own files

-- the file is in use, and its header names the journal
abbrev pub IsOwnFile : Opening → Option FileState → Type 0
IsOwnFile o None = ⊥
IsOwnFile o (Some f) = (is_in_use f.place ≡ true) × (is_of o.kind o.name (headed (full_file f)) ≡ true)

-- ids differ, and each of these files is the journal's
pub record AreOwn (o : Opening) (ids : List ℕ) (d : Disk) : Type 0 where
  pub differ : IdsDiffer d
  pub own : AllByRecursion (λ id. IsOwnFile o (file_of id d)) ids

-- by the log's steps, no file comes into use, and these are the journal's still
pub record KeepsOwn (o : Opening) (ids : List ℕ) (old new : Content) : Type 0 where
  pub arrives : Arrives (IsLogStep o) old new
  pub none : TakesNone old new
  pub own : AreOwn o ids new.now.disk

-- the same of calls of which the last one failed
pub record PassesOwn (o : Opening) (old new : Content) : Type 0 where
  pub passes : Passes (IsLogStep o) old new
  pub none : TakesNone old new

-- at Ok the files are the journal's still, after an error the calls were the log's
abbrev pub EndsOwn : {X E : Type 0} → List ℕ → Result X E → Option Content → Option Content → Type 0
EndsOwn ids r a b = (o : Opening) → IfSome a (OnDisk (AreOwn o ids)) → Tells (EndsIn (λ x. KeepsOwn o ids) (PassesOwn o) r) a b

-- ---- what was drawn

-- one number may be without a file where a call failed, or memory was wanting
abbrev pub is_exact : {X : Type 0} → Result X LogError → Bool
is_exact (Ok x) = true
is_exact (Err Spent) = true
is_exact (Err Failed) = false
is_exact (Err Draw) = false
is_exact (Err Memory) = false

-- ---- the moments of a call

-- at Ok the call arrived, and where a counter is spent; after another error what is now may differ from the last moment
abbrev pub GoesBy : {X : Type 0} → (Moment → Moment → Type 0) → Result X LogError → Content → Content → Type 0
GoesBy R (Ok x) old new = Arrives R old new
GoesBy R (Err Spent) old new = Arrives R old new
GoesBy R (Err Failed) old new = Passes R old new
GoesBy R (Err Draw) old new = Passes R old new
GoesBy R (Err Memory) old new = Passes R old new

-- and no file comes into use
abbrev pub GoesOwn : {X : Type 0} → Opening → Result X LogError → Content → Content → Type 0
GoesOwn o r old new = GoesBy (IsLogStep o) r old new × TakesNone old new

-- ---- what is left

-- the bytes that are left in the log's files, those that a call took included
abbrev pub room_on : LogState → Disk → ℕ
room_on l d = let capacity = capacity_in l.opening in capacity * (newest_number (files_on l.opening d) - l.newest) + (capacity - l.used)

-- the batch doesn't fit on the disk as it is, where the journal has a file of this opening or hasn't, and the next file can't be had
abbrev pub MeetsEndWith : LogState → ℕ → Disk → Type 0
MeetsEndWith l needed d = batch_meets_end l.opening.home d (files_on l.opening d) (nat_lt l.older (length (files_on l.opening d))) (room_on l d) needed ≡ true

-- the bytes behind the reading, in the files of the journal's last epoch
abbrev pub room_in : Bool → List (List Headed) → ℕ
room_in oldest [] = 0
room_in oldest (e ∷ []) = length (stream e) - epoch_end oldest e
room_in oldest (e ∷ f ∷ es) = room_in false (f ∷ es)

abbrev pub room_behind : Journal → ℕ
room_behind j = room_in true (epochs j.files)

-- where every file that came into use was unmarked, and the journal has a file of this opening, the bytes that are left are those behind
-- its reading
abbrev pub KeepsRoom : LogState → Content → Content → Type 0
KeepsRoom l a b =
    AllUnmarked a.now (moments_since a b) → (reads : List Read) → IsRead l reads a.now.disk → l.older < length (files_on l.opening b.now.disk)
    → room_behind (journal_on b.now.disk l.opening.kind l.opening.name) ≡ room_on l b.now.disk
