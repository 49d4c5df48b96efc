-- The steps of a call on one of the journals, from each moment to the next.
use Rattle.std.specs.Prelude.{◌≡◌, List, Result, IfOk}
use Rattle.std.specs.List.{AllByRecursion}
use Rattle.qls_site.specs.Disk.{IsQuiet}
use Rattle.qls_site.specs.Content.{Moment, Content, moments_since}
use Rattle.qls_meaning.specs.History.{History, FreeArea, AllUnmarked, now}
use Rattle.qls_pool.specs.Discipline.{IsPoolStep}
use Rattle.qls_pool.specs.Moments.{Chain, Arrives}
use Rattle.qls_pool.specs.Next.{HeadersStay}
use Rattle.qls_pool.specs.Files.{IdsDiffer}
use Rattle.qls_log.specs.Leaving.{LeavesInOrder, WritesInOrder}
use Rattle.qls_log.specs.Unwritten.{IsWrittenTo, history_with}
use Rattle.qls_prepared.specs.Moments.{WrittenBy}
use Rattle.qls_journals.specs.State.{JournalsState, Fits, IsWhole, IsClean, AreQueuesAlive}

-- Nothing is answered; a file is made, comes into use and is written as the pool has it; headers of files in use stay, and no two files
-- get one id
pub record IsStoreStep (m n : Moment) : Type 0 where
  pub answered : n.answered ≡ m.answered
  pub differ : IdsDiffer m.disk → IdsDiffer n.disk
  pub pool : IsPoolStep m n
  pub headers : HeadersStay m n

-- where nothing was pending, nothing is
abbrev pub StaysQuiet : Content → Content → Type 0
StaysQuiet old new = IsQuiet old.now.disk → IsQuiet new.now.disk

-- After a call that arrived the journals fit the site, and nothing was answered. Where the files that came into use were unmarked, the
-- journals are whole if they were, and then no queue's oldest file is dead if none was
pub record Changes (was s : JournalsState) (old new : Content) : Type 0 where
  pub arrives : Arrives IsStoreStep old new
  pub quiet : StaysQuiet old new
  pub fits : Fits s new.now.disk
  pub whole : AllUnmarked old.now (moments_since old new) → IsWhole was old.now.disk → IsWhole s new.now.disk
  pub alive : AllUnmarked old.now (moments_since old new) → IsWhole was old.now.disk → AreQueuesAlive was.queues old.now.disk → AreQueuesAlive s.queues new.now.disk

-- where the files that came into use were unmarked, the list's oldest file isn't dead either
abbrev pub BecomesClean : JournalsState → JournalsState → Content → Content → Type 0
BecomesClean was s old new =
    AllUnmarked old.now (moments_since old new) → IsWhole was old.now.disk → AreQueuesAlive was.queues old.now.disk → IsClean s new.now.disk

-- where nothing was pending, the journals were whole and the files that came into use were unmarked, each file that leaves use does so in
-- order
abbrev pub LeavesDead : JournalsState → Content → Content → Type 0
LeavesDead was old new = IsQuiet old.now.disk → AllUnmarked old.now (moments_since old new) → IsWhole was old.now.disk → Chain LeavesInOrder old.now (moments_since old new)

-- the files of each journal are written up to its last batch
pub record AreWritten (areas : List FreeArea) (h : History) (s : JournalsState) : Type 0 where
  pub queues : AllByRecursion (λ q. IsWrittenTo areas h q.log) s.queues
  pub list : WrittenBy areas h s.list.log

-- from each history up to the call in which files were written so, writes are as the discipline has them; at Ok files are written so still
abbrev pub StaysWritten : {X E : Type 0} → Result X E → (X → JournalsState) → JournalsState → Content → Content → Type 0
StaysWritten r after was old new =
    (areas : List FreeArea) (h : History) → now h ≡ old.now → AreWritten areas h was
    → WritesInOrder areas h (moments_since old new) × IfOk r (λ x. AreWritten areas (history_with h (moments_since old new)) (after x))
