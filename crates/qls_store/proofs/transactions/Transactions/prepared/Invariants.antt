use Rattle.std.proofs.Common.{◌≡◌, take}
use Rattle.qls_store.specs.Table.{prepared_xids}
use Rattle.qls_store.proofs.transactions.Transactions.prepared.Given as goal

abbrev pub invariant-loop-item : goal.invariant-loop-item
invariant-loop-item l = l.xids ≡ prepared_xids (take l.item-index l.item-items)
