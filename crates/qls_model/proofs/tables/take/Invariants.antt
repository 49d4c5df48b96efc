use Rattle.std.proofs.Common.{◌≡◌, ◌++◌, take, drop}
use Rattle.qls_model.specs.Machine.{change_queue, taken}
use Rattle.qls_model.proofs.tables.take.Given as goal

abbrev pub invariant-loop-queue : goal.invariant-loop-queue
invariant-loop-queue l =
    take l.queue-index l.queues ++ change_queue l.name (taken l.number l.xid) (drop l.queue-index l.queues)
    ≡ change_queue l.name (taken l.number l.xid) l.initial.queues
