use Rattle.std.proofs.Common.{◌≡◌, ◌++◌, length}
use Rattle.qls_txnmap.proofs.table.listed.Given as goal

abbrev pub invariant-loop-xid : goal.invariant-loop-xid
invariant-loop-xid l = l.list ++ l.xids.keys ≡ l.initial.xids.keys

abbrev pub decreases-loop-xid : goal.decreases-loop-xid
decreases-loop-xid l = length l.xids.keys
