use Rattle.std.proofs.Common.{◌≡◌, ◌++◌, map, length}
use Rattle.qls_scan.specs.Groups.{within, queue_found}
use Rattle.qls_scan.proofs.groups.with_queues.Given as goal

abbrev pub invariant-loop-name : goal.invariant-loop-name
invariant-loop-name l = l.found ++ map queue_found (within l.queues.entries) ≡ l.fn.found ++ map queue_found (within l.fn.queues.entries)

abbrev pub decreases-loop-name : goal.decreases-loop-name
decreases-loop-name l = length l.queues.entries
