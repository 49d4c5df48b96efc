-- The moments of a call on the list.
use Rattle.std.specs.Prelude.{◌≡◌, List, Option, Some, None, Result, IfOk}
use Rattle.qls_site.specs.Disk.{IsQuiet}
use Rattle.qls_site.specs.Content.{Content, moments_since}
use Rattle.qls_meaning.specs.History.{History, FreeArea, AllUnmarked, now}
use Rattle.qls_pool.specs.Moments.{Chain}
use Rattle.qls_log.specs.declared.fault.LogError.{LogError}
use Rattle.qls_log.specs.Leaving.{LeavesInOrder, WritesInOrder}
use Rattle.qls_log.specs.Logs.{LogState}
use Rattle.qls_log.specs.Unwritten.{IsWrittenTo, history_with}
use Rattle.qls_prepared.specs.Lists.{PreparedState, IsListWhole}

-- where nothing was pending, the list's journal was whole and every file that came into use was unmarked, each file that leaves use does
-- so in order
abbrev pub LeavesDead : PreparedState → Content → Content → Type 0
LeavesDead old a b = IsQuiet a.now.disk → AllUnmarked a.now (moments_since a b) → IsListWhole old a.now.disk → Chain LeavesInOrder a.now (moments_since a b)

abbrev pub WrittenBy : List FreeArea → History → Option LogState → Type 0
WrittenBy areas h None = Unit {0}
WrittenBy areas h (Some l) = IsWrittenTo areas h l

-- from each history up to the call in which the files of the old log were written up to the last batch, writes are as the discipline has
-- them; at Ok those of the log that is answered are written so
abbrev pub WritesOn : {X : Type 0} → Result X LogError → Option LogState → (X → Option LogState) → Content → Content → Type 0
WritesOn r old log a b =
    (areas : List FreeArea) (h : History) → now h ≡ a.now → WrittenBy areas h old
    → WritesInOrder areas h (moments_since a b) × IfOk r (λ x. WrittenBy areas (history_with h (moments_since a b)) (log x))

-- at Ok the new list's files are written so
abbrev pub StaysWritten : {X : Type 0} → Result X LogError → PreparedState → PreparedState → Content → Content → Type 0
StaysWritten r old new a b = WritesOn r old.log (λ x. new.log) a b
