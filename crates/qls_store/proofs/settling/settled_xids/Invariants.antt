use Rattle.std.proofs.Common.{◌≡◌, take}
use Rattle.qls_store.specs.Opening.{settled_xids}
use Rattle.qls_store.proofs.settling.settled_xids.Given as goal

abbrev pub invariant-loop-entry : goal.invariant-loop-entry
invariant-loop-entry l = l.xids ≡ settled_xids (take l.entry-index l.entries)
