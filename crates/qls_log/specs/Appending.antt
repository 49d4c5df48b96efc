-- What the calls on a log do.
use Rattle.std.specs.Prelude.{◌≡◌, ℕ, ◌+◌, ◌*◌, ◌<◌, ◌^◌, false, List, [], ◌∷◌, ◌++◌, map, length, drop, ◌-◌, Result, Ok, Err, if◌then◌else◌, ◌==◌}
use Rattle.std.specs.List.{AllByRecursion}
use Rattle.qls_record.specs.Record.{Record, rid_given}
use Rattle.qls_site.specs.declared.site.SiteError.{SiteError}
use Rattle.qls_site.specs.Disk.{Disk, Image, IsImage, full, file_of}
use Rattle.qls_meaning.specs.Journals.{journal, headed, in_use}
use Rattle.qls_blocks.specs.Parts.{Syncs}
use Rattle.qls_log.specs.declared.fault.LogError.{LogError}
use Rattle.qls_log.specs.Faults.{fault_of_site}
use Rattle.qls_site.specs.Content.{Content, moments_since}
use Rattle.qls_meaning.specs.Reading.{Placed, journal_reading}
use Rattle.qls_meaning.specs.History.{AllUnmarked}
use Rattle.qls_meaning.specs.Orderly.{journal_on}
use Rattle.qls_blocks.specs.Batching.{laid_from, with_fillers, last_rid, length_of, block_length}
use Rattle.qls_blocks.specs.Plans.{plan_of}
use Rattle.qls_blocks.specs.Spelled.{spelled_over}
use Rattle.qls_pool.specs.Pools.{PoolState}
use Rattle.qls_pool.specs.Files.{HeadedFile, is_among}
use Rattle.qls_log.specs.declared.opening.Opening.{Opening}
use Rattle.qls_log.specs.Logs.{LogState, capacity_in, AreHeaded, ids, serials}
use Rattle.qls_log.specs.Taking.{TakesFiles}
use Rattle.qls_log.specs.Writing.{WritesAll, from_written}
use Rattle.qls_log.specs.Standing.{IsUnmarkedBehind, StandsWith, end_of}

-- ---- a new log

-- one file with number 1, first place 4,096 and rid 0, and no record
abbrev pub new_log : Opening → HeadedFile → LogState
new_log o h = record { opening = o; files = h ∷ []; older = 0; newest = 1; used = 0; rid = 0; unsynced = []; ended = false }

pub record IsNew (o : Opening) (l : LogState) : Type 0 where
  pub file : HeadedFile
  pub header : AreHeaded o 0 (record { first = 4096; rid = 0 } ∷ []) (file ∷ [])
  pub log : l ≡ new_log o file

-- ---- a batch

-- each enqueue has the rid in force and one more, each other record the rid in force
abbrev pub FollowRids : ℕ → List Record → Type 0
FollowRids rid [] = Unit {0}
FollowRids rid (r ∷ rs) = (r.rid ≡ rid_given rid r.kind) × (r.rid < 2 ^ 62) × FollowRids r.rid rs

-- the files from the newest one on, those that were taken behind it
abbrev pub from_newest : LogState → List HeadedFile → List HeadedFile
from_newest l taken = drop (length l.files - 1) (l.files ++ taken)

-- the bytes of the batch over these files
abbrev pub batch_bytes : LogState → List HeadedFile → List Record → List ℕ
batch_bytes l taken rs = spelled_over (capacity_in l.opening) (serials (from_newest l taken)) l.used (with_fillers rs)

-- a full file isn't written
abbrev pub written_files : LogState → List HeadedFile → List HeadedFile
written_files l taken = from_written (capacity_in l.opening) l.used (from_newest l taken)

abbrev pub written_place : LogState → ℕ
written_place l = if l.used == capacity_in l.opening then 0 else l.used

-- the log behind a batch: the files that were taken have the headers that the batch plans
pub record HasAppended (rs : List Record) (old new : LogState) (taken : List HeadedFile) : Type 0 where
  pub headers : AreHeaded old.opening old.newest (plan_of rs old.used (capacity_in old.opening) old.rid).fresh taken
  pub opening : new.opening ≡ old.opening
  pub files : new.files ≡ old.files ++ taken
  pub older : new.older ≡ old.older
  pub newest : new.newest ≡ old.newest + length taken
  pub used : new.used + capacity_in old.opening * length taken ≡ old.used + block_length (length_of rs)
  pub rid : new.rid ≡ last_rid old.rid rs
  pub unsynced : new.unsynced ≡ ids (written_files old taken)
  pub ended : new.ended ≡ false

-- all files are taken, and then each touched file gets one write, in order
pub record TakesAndWrites (rs : List Record) (old new : LogState) (pool left : PoolState) (taken : List HeadedFile) (a b : Content) : Type 0 where
  pub mid : Content
  pub takes : TakesFiles old.opening.home pool left taken a mid
  pub writes : WritesAll (capacity_in old.opening) (ids (written_files old taken)) (written_place old) (batch_bytes old taken rs) mid b

-- ---- what is read

-- nothing is read of a new log, and its data area is unmarked
pub record ReadsNothing (l : LogState) (b : Content) : Type 0 where
  pub reading : journal_reading (journal_on b.now.disk l.opening.kind l.opening.name) ≡ []
  pub behind : IsUnmarkedBehind l b.now.disk

abbrev pub ReadsNone : LogState → Content → Content → Type 0
ReadsNone l a b = AllUnmarked a.now (moments_since a b) → ReadsNothing l b

-- the records of the batch stand behind those that stood before, fillers included
abbrev pub StandsBehind : List Record → LogState → LogState → Content → Content → Type 0
StandsBehind rs old new a b =
    (kept : List Placed) → StandsWith old kept a.now.disk → StandsWith new (kept ++ laid_from (end_of old) (with_fillers rs)) b.now.disk

-- the records that stood stand still
abbrev pub StandsStill : LogState → LogState → Content → Content → Type 0
StandsStill old new a b = (kept : List Placed) → StandsWith old kept a.now.disk → StandsWith new kept b.now.disk

-- ---- what stays

-- every file but these, the answered bytes
pub record LeavesOthers (hs : List HeadedFile) (a b : Content) : Type 0 where
  pub files : (id : ℕ) → is_among id (ids hs) ≡ false → file_of id b.now.disk ≡ file_of id a.now.disk
  pub answered : b.now.answered ≡ a.now.answered

-- nothing is pending but in files of these ids
abbrev pub IsQuietBut : List ℕ → Disk → Type 0
IsQuietBut own d = AllByRecursion (λ f. is_among f.id own ≡ false → f.pending ≡ []) d

-- ---- a flush

-- at Ok each file was synced, in order; at an error the sync of one failed, or was refused memory
abbrev pub SyncsAll : List ℕ → Result (Unit {0}) LogError → Content → Content → Type 0
SyncsAll own (Ok x) a b = Syncs own (Ok (tt {0})) a b
SyncsAll own (Err e) a b = (fault : SiteError) × (e ≡ fault_of_site fault) × Syncs own (Err fault) a b

-- what a machine without a crash sees stays, and the answered bytes
pub record SeesTheSame (a b : Content) : Type 0 where
  pub files : full b.now.disk ≡ full a.now.disk
  pub answered : b.now.answered ≡ a.now.answered

-- each image that a crash may leave has the journal as it is
abbrev pub ReadsInImages : LogState → Disk → Type 0
ReadsInImages l d = (i : Image) → IsImage d i → journal (map headed (in_use i)) l.opening.kind l.opening.name ≡ journal_on d l.opening.kind l.opening.name
