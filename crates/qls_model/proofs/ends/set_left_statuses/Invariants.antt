use Rattle.std.proofs.Common.{◌≡◌, ◌++◌, map, take, drop}
use Rattle.qls_model.specs.Messages.{only}
use Rattle.qls_model.specs.Ends.{with_status_left}
use Rattle.qls_model.proofs.ends.set_left_statuses.Given as goal

abbrev pub invariant-loop-message : goal.invariant-loop-message
invariant-loop-message l =
    take l.message-index l.messages ++ map (with_status_left (only l.xid l.verdict)) (drop l.message-index l.messages)
    ≡ map (with_status_left (only l.xid l.verdict)) l.initial.messages
