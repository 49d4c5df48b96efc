use Rattle.std.proofs.Common.{◌≡◌, drop}
use Rattle.qls_model.specs.Settling.{open_xids, aborted_in_turn}
use Rattle.qls_model.proofs.steps.abort_open.Given as goal

abbrev pub invariant-loop-entry : goal.invariant-loop-entry
invariant-loop-entry l =
    aborted_in_turn (open_xids (drop l.entry-index l.xids)) l.queues.items ≡ aborted_in_turn (open_xids l.xids) l.initial.queues.items
