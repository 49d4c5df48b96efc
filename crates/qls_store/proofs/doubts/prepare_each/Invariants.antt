use Rattle.std.proofs.Common.{◌≡◌, [], map, take}
use Rattle.qls_store.specs.Settling.{doubt_in}
use Rattle.qls_store.proofs.doubts.prepare_each.Given as goal

abbrev pub invariant-loop-entry : goal.invariant-loop-entry
invariant-loop-entry l = l.transactions ≡ map (doubt_in []) (take l.entry-index l.list)
