-- Journals that were read, opened one after another: what each becomes, and what its opening does on a disk.
use Rattle.std.specs.Prelude.{◌≡◌, false, not, List, [], ◌∷◌, ◌++◌, map, Some, if◌then◌else◌}
use Rattle.std.specs.List.{filter}
use Rattle.qls_model.specs.Sound.{IsNumbered}
use Rattle.qls_model.specs.declared.machine.PoolId.{PoolId}
use Rattle.qls_record.specs.declared.Got.{Got}
use Rattle.qls_record.specs.Record.{is_filler}
use Rattle.qls_site.specs.Disk.{Disk}
use Rattle.qls_site.specs.Content.{Content}
use Rattle.qls_filehdr.specs.declared.JournalKind.{JournalKind}
use Rattle.qls_filehdr.specs.declared.JournalKind.TheVariants.{Queue, List as Listed}
use Rattle.qls_meaning.specs.Journals.{is_queue}
use Rattle.qls_meaning.specs.Reading.{Read, read_of}
use Rattle.qls_replay.specs.Held.{held_after_all}
use Rattle.qls_reading.specs.ReadLogs.{ReadLogState, linked_files, opening_behind}
use Rattle.qls_pool.specs.Pools.{PoolState}
use Rattle.qls_pool.specs.Files.{HeadedFile, IsWholePool}
use Rattle.qls_pool.specs.Moments.{Passes, Arrives}
use Rattle.qls_pool.specs.Serials.{TakesNone}
use Rattle.qls_log.specs.Leaving.{LeavesFromQuiet}
use Rattle.qls_log.specs.Logs.{LogState}
use Rattle.qls_log.specs.Reads.{IsRead}
use Rattle.qls_log.specs.Reopening.{reopened}
use Rattle.qls_log.specs.Returning.{with_backs}
use Rattle.qls_log.specs.Soundness.{IsUndamaged}
use Rattle.qls_log.specs.Standing.{LogThere}
use Rattle.qls_log.specs.Steps.{IsLogStep}
use Rattle.qls_log.specs.Trimming.{newest_first, without_last, last_number}
use Rattle.qls_log.specs.Unwritten.{WritesWell}
use Rattle.qls_queue.specs.Live.{LiveState, live, IsSound as IsSoundQueue}
use Rattle.qls_queue.specs.Releasing.{IsQueueWhole}
use Rattle.qls_prepared.specs.Lists.{PreparedState, opened, IsSound as IsSoundList, IsListWhole}
use Rattle.qls_journals.specs.Opening.{ReadingState}

-- ---- what a journal becomes

-- its files past the reading, newest first
abbrev pub past_of : ReadLogState → List HeadedFile
past_of r = newest_first r.past (linked_files r.journal)

-- the log over the others
abbrev pub log_behind : ReadLogState → LogState
log_behind r = let kept = without_last r.past (linked_files r.journal) in reopened (opening_behind r.journal) kept (last_number kept) r.rid

-- a queue over its log: what these records leave
abbrev pub queue_over : LogState → List Got → LiveState
queue_over log records = live log (held_after_all (map read_of records) []) false

abbrev pub list_over : PoolId → LogState → List Got → PreparedState
list_over home log records = opened home (Some log) (map read_of records)

-- a queue stands behind the others
abbrev pub queues_with : JournalKind → LogState → List Got → List LiveState → List LiveState
queues_with kind log records qs = if is_queue kind then qs ++ queue_over log records ∷ [] else qs

-- the list's journal becomes the list
abbrev pub list_with : PoolId → JournalKind → LogState → List Got → PreparedState → PreparedState
list_with home kind log records p = if is_queue kind then p else list_over home log records

-- ---- on a disk

-- where the log reads these records on a disk and breaks no damage rule there, this holds on it
abbrev pub IfRead : LogState → List Got → (Disk → Type 0) → Type 0
IfRead log records P = (d : Disk) (kept : List Read) → IsRead log kept d → IsUndamaged log d → filter (λ r. not (is_filler r.what.kind)) kept ≡ map read_of records → P d

-- the journal on the disk says what was opened
abbrev pub IsSaid : JournalKind → PoolId → LogState → List Got → Disk → Type 0
IsSaid Queue home log records d = IsQueueWhole (queue_over log records) d
IsSaid Listed home log records d = IsListWhole (list_over home log records) d

pub record IsWellQueue (log : LogState) (records : List Got) : Type 0 where
  pub sound : IsSoundQueue (queue_over log records)
  pub numbered : IsNumbered (queue_over log records).queue

-- what holds of what was opened, and what its journal says of it
abbrev pub IsWell : JournalKind → PoolId → LogState → List Got → Type 0
IsWell Queue home log records = IsWellQueue log records × IfRead log records (IsSaid Queue home log records)
IsWell Listed home log records = IsSoundList (list_over home log records) × IfRead log records (IsSaid Listed home log records)

-- The files past the reading went back, by the steps of this journal's log; the journal stands without them, and says what was opened. The
-- pool is the site's still
pub record OpensOne (home : PoolId) (r : ReadingState) (left : PoolState) (a b : Content) : Type 0 where
  pub told : b ≡ with_backs (past_of r.log) a
  pub arrives : Arrives (IsLogStep (opening_behind r.log.journal)) a b
  pub none : TakesNone a b
  pub leaves : LeavesFromQuiet a b
  pub writes : WritesWell a b
  pub pool : IsWholePool left b.now.disk
  pub there : LogThere (log_behind r.log) b.now.disk
  pub said : IsSaid r.log.journal.kind home (log_behind r.log) r.records b.now.disk

-- after an error the calls were of this journal's log
pub record OpensPart (r : ReadingState) (a b : Content) : Type 0 where
  pub passes : Passes (IsLogStep (opening_behind r.log.journal)) a b
  pub none : TakesNone a b
  pub leaves : LeavesFromQuiet a b
  pub writes : WritesWell a b
