-- When a transaction may end in a queue, and when in the list: the list decides first, queues follow in order of their names, and the
-- list forgets last.
use Rattle.std.specs.Prelude.{◌≡◌, ℕ, false, List, take}
use Rattle.std.specs.List.{AllByRecursion}
use Rattle.qls_model.specs.declared.machine.QueueState.{QueueState}
use Rattle.qls_decide.specs.declared.End.{End}
use Rattle.qls_decide.specs.declared.ListEntry.{ListEntry}
use Rattle.qls_decide.specs.Entries.{verdict_by}
use Rattle.qls_replay.specs.Ops.{verdict_if}
use Rattle.qls_queue.specs.Answers.{is_pending}

-- Each end is the verdict of the list's entries: a commit where that is decided, an abort where it isn't. A transaction in doubt has none
abbrev pub MayCarryOut : List ListEntry → List End → Type 0
MayCarryOut es ends = AllByRecursion (λ e. verdict_by es e.xid ≡ verdict_if e.commit) ends

-- in no queue a message is coming or going by x
abbrev pub NonePending : List ℕ → List QueueState → Type 0
NonePending x qs = AllByRecursion (λ q. is_pending x q ≡ false) qs

-- nothing is pending by these transactions in the queues before the place
abbrev pub AreEndedBefore : ℕ → List QueueState → List End → Type 0
AreEndedBefore at qs ends = AllByRecursion (λ e. NonePending e.xid (take at qs)) ends
