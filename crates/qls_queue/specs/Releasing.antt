-- Files that nothing holds any more go back, and what holds of the queue's journal then.
use Rattle.std.specs.Prelude.{◌≡◌, ℕ, false, List, ◌++◌, length, Option, Some, None, Result, Ok, Err}
use Rattle.qls_record.specs.Record.{Record}
use Rattle.qls_site.specs.Disk.{Disk}
use Rattle.qls_site.specs.Content.{Content, Tells, moments_since}
use Rattle.qls_pool.specs.Pools.{PoolState}
use Rattle.qls_pool.specs.Files.{HeadedFile}
use Rattle.qls_enqmap.specs.Records.{least_file}
use Rattle.qls_meaning.specs.Dead.{has_dead_oldest}
use Rattle.qls_meaning.specs.History.{AllUnmarked}
use Rattle.qls_meaning.specs.Orderly.{journal_on}
use Rattle.qls_log.specs.declared.fault.LogError.{LogError}
use Rattle.qls_log.specs.Logs.{without_first}
use Rattle.qls_log.specs.Appending.{LeavesOthers}
use Rattle.qls_log.specs.Returning.{GivesAll, released}
use Rattle.qls_log.specs.Soundness.{IsUndamaged}
use Rattle.qls_queue.specs.declared.fault.QueueError.{QueueError}
use Rattle.qls_queue.specs.Faults.{fault_of_log}
use Rattle.qls_queue.specs.Live.{LiveState, live, IsQueueRead}
use Rattle.qls_queue.specs.Writing.{HasWritten}

-- ---- which files

abbrev pub file_or : ℕ → Option ℕ → ℕ
file_or newest None = newest
file_or newest (Some file) = file

-- the least file in which a message starts, and the newest where there is none
abbrev pub first_needed : LiveState → ℕ
first_needed q = file_or q.log.newest (least_file q.held)

-- the oldest files before that one
abbrev pub dead_files : LiveState → List HeadedFile
dead_files q = released (first_needed q) q.log

-- the same queue without them
abbrev pub after_release : LiveState → LiveState
after_release q = live (without_first (length (dead_files q)) q.log) q.held q.ended

-- each went back by one relocation, oldest first, and nothing was written
abbrev pub GivesDead : LiveState → Result (Unit {0}) QueueError → Content → Content → Type 0
GivesDead q (Ok x) a b = GivesAll (dead_files q) (Ok (tt {0})) a b
GivesDead q (Err e) a b = (fault : LogError) × (e ≡ fault_of_log fault) × GivesAll (dead_files q) (Err fault) a b

-- ---- a batch, and the files that died by it

-- one batch is written and flushed, and then the files that are dead go back
pub record HasWrittenAndReleased (rs : List Record) (old new : LiveState) (pool left : PoolState) (draws draws_now : Option (List ℕ)) (a b : Option Content) : Type 0 where
  pub between : LiveState
  pub pools : PoolState
  pub middle : Option Content
  pub written : HasWritten rs old.log between.log pool pools draws draws_now a middle
  pub back : Tells (GivesDead between (Ok tt)) middle b
  pub queue : new ≡ after_release between
  pub others : Tells (LeavesOthers between.log.files) a b

-- ---- on a disk

-- the journal says the queue, and breaks no damage rule
pub record IsQueueWhole (q : LiveState) (d : Disk) : Type 0 where
  pub read : IsQueueRead q d
  pub undamaged : IsUndamaged q.log d

-- and its oldest file isn't dead
pub record IsQueueClean (q : LiveState) (d : Disk) : Type 0 where
  pub whole : IsQueueWhole q d
  pub alive : has_dead_oldest (journal_on d q.log.opening.kind q.log.opening.name) ≡ false

-- where every file that came into use was unmarked, the new queue's journal is so
abbrev pub BeginsClean : LiveState → Content → Content → Type 0
BeginsClean q a b = AllUnmarked a.now (moments_since a b) → IsQueueClean q b.now.disk

-- the same, if it was whole before; moments are only added
pub record BecomesClean (old new : LiveState) (a b : Content) : Type 0 where
  pub adds : b.moments ≡ a.moments ++ moments_since a b
  pub clean : AllUnmarked a.now (moments_since a b) → IsQueueWhole old a.now.disk → IsQueueClean new b.now.disk

-- the same, after a batch and before files go back
pub record StaysWhole (old new : LiveState) (a b : Content) : Type 0 where
  pub adds : b.moments ≡ a.moments ++ moments_since a b
  pub whole : AllUnmarked a.now (moments_since a b) → IsQueueWhole old a.now.disk → IsQueueWhole new b.now.disk

-- where its oldest file isn't dead, all is as it was: no file goes back
abbrev pub StaysStill : LiveState → Content → Content → Type 0
StaysStill q a b = IsQueueClean q a.now.disk → b ≡ a
