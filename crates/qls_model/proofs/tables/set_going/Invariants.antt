use Rattle.std.proofs.Common.{◌≡◌, ◌++◌, map, take, drop}
use Rattle.qls_model.specs.Messages.{going_if}
use Rattle.qls_model.proofs.tables.set_going.Given as goal

abbrev pub invariant-loop-message : goal.invariant-loop-message
invariant-loop-message l =
    take l.message-index l.messages ++ map (going_if l.number l.xid) (drop l.message-index l.messages)
    ≡ map (going_if l.number l.xid) l.initial.messages
