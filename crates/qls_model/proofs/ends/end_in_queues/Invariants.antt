use Rattle.std.proofs.Common.{◌≡◌, ◌++◌, map, take, drop}
use Rattle.qls_model.specs.Messages.{only, decided}
use Rattle.qls_model.proofs.ends.end_in_queues.Given as goal

abbrev pub invariant-loop-queue : goal.invariant-loop-queue
invariant-loop-queue l =
    take l.queue-index l.queues ++ map (decided (only l.xid l.verdict)) (drop l.queue-index l.queues)
    ≡ map (decided (only l.xid l.verdict)) l.initial.queues
