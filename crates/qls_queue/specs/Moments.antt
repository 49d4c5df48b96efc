-- The moments of a call on a queue, and what it drew.
use Rattle.std.specs.Prelude.{◌≡◌, Bool, true, false, List, Result, Ok, Err, IfOk}
use Rattle.qls_site.specs.Disk.{IsQuiet}
use Rattle.qls_site.specs.Content.{Moment, Content, moments_since}
use Rattle.qls_meaning.specs.History.{History, FreeArea, AllUnmarked, now}
use Rattle.qls_pool.specs.Moments.{Chain, Passes, Arrives}
use Rattle.qls_log.specs.Leaving.{LeavesInOrder, WritesInOrder}
use Rattle.qls_log.specs.Unwritten.{IsWrittenTo, history_with}
use Rattle.qls_queue.specs.declared.fault.QueueError.{QueueError}
use Rattle.qls_queue.specs.declared.fault.QueueError.TheVariants.{Unknown, Locked, Numbers, Failed, Draw, Spent, Memory}
use Rattle.qls_queue.specs.Live.{LiveState}
use Rattle.qls_queue.specs.Releasing.{IsQueueWhole}

-- after such an answer what is now is the last moment, and each number drawn is the serial of a file
abbrev pub is_exact_error : QueueError → Bool
is_exact_error Unknown = true
is_exact_error Locked = true
is_exact_error Numbers = true
is_exact_error Spent = true
is_exact_error Failed = false
is_exact_error Draw = false
is_exact_error Memory = false

abbrev pub is_exact : {X : Type 0} → Result X QueueError → Bool
is_exact (Ok x) = true
is_exact (Err e) = is_exact_error e

abbrev pub ArrivesOr : Bool → (Moment → Moment → Type 0) → Content → Content → Type 0
ArrivesOr true R old new = Arrives R old new
ArrivesOr false R old new = Passes R old new

-- the call arrived, or what is now may differ from the last moment, by its answer
abbrev pub GoesBy : {X : Type 0} → (Moment → Moment → Type 0) → Result X QueueError → Content → Content → Type 0
GoesBy R r old new = ArrivesOr (is_exact r) R old new

-- where nothing was pending, the queue's journal was whole and every file that came into use was unmarked, each file that leaves use does
-- so in order
abbrev pub LeavesDead : LiveState → Content → Content → Type 0
LeavesDead old a b = IsQuiet a.now.disk → AllUnmarked a.now (moments_since a b) → IsQueueWhole old a.now.disk → Chain LeavesInOrder a.now (moments_since a b)

-- from each history up to the call, writes are as the discipline has them; at Ok the new queue's files are written up to the last batch
abbrev pub BeginsWritten : Result LiveState QueueError → Content → Content → Type 0
BeginsWritten r a b =
    (areas : List FreeArea) (h : History) → now h ≡ a.now
    → WritesInOrder areas h (moments_since a b) × IfOk r (λ q. IsWrittenTo areas (history_with h (moments_since a b)) q.log)

-- from each history up to the call in which the queue's files were written up to the last batch, writes are as the discipline has them;
-- at Ok the new queue's files are written so
abbrev pub StaysWritten : {X : Type 0} → Result X QueueError → LiveState → LiveState → Content → Content → Type 0
StaysWritten r old new a b =
    (areas : List FreeArea) (h : History) → now h ≡ a.now → IsWrittenTo areas h old.log
    → WritesInOrder areas h (moments_since a b) × IfOk r (λ _. IsWrittenTo areas (history_with h (moments_since a b)) new.log)
