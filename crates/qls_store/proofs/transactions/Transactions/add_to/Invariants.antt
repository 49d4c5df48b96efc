use Rattle.std.proofs.Common.{◌≡◌, take}
use Rattle.qls_store.specs.Stores.{xids_of}
use Rattle.qls_store.proofs.transactions.Transactions.add_to.Given as goal

abbrev pub invariant-loop-item : goal.invariant-loop-item
invariant-loop-item l = l.state ≡ record l.fn.state { xids = take l.item-index (xids_of l.item-items) }
