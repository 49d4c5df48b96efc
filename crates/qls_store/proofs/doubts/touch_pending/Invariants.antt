use Rattle.std.proofs.Common.{◌≡◌, map, take}
use Rattle.qls_journals.specs.State.{queues_of}
use Rattle.qls_store.proofs.DoubtTable.{doubt_so}
use Rattle.qls_store.proofs.doubts.touch_pending.Given as goal

abbrev pub invariant-loop-xid : goal.invariant-loop-xid
invariant-loop-xid l = l.transactions ≡ map (doubt_so (take l.at (queues_of l.journals)) l.name (take l.xid-index l.xids)) l.journals.list.entries
