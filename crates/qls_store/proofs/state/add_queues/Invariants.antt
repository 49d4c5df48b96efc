use Rattle.std.proofs.Common.{◌≡◌, [], take}
use Rattle.qls_journals.specs.State.{queues_of}
use Rattle.qls_store.proofs.state.add_queues.Given as goal

abbrev pub invariant-loop-at : goal.invariant-loop-at
invariant-loop-at l = l.state ≡ record { queues = take l.at (queues_of l.journals); xids = [] }
