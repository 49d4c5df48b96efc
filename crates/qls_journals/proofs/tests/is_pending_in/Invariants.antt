use Rattle.std.proofs.Common.{take}
use Rattle.qls_journals.specs.Deciding.{NonePending}
use Rattle.qls_journals.specs.State.{queues_of}
use Rattle.qls_journals.proofs.tests.is_pending_in.Given as goal

abbrev pub invariant-loop-at : goal.invariant-loop-at
invariant-loop-at l = NonePending l.xid (take l.at (queues_of l.journals))
