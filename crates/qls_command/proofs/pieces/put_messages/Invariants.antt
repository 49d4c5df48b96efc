use Rattle.std.proofs.Common.{◌≡◌, ◌++◌, drop}
use Rattle.std.specs.List.{flat_map}
use Rattle.qls_command.specs.Texts.{message_line}
use Rattle.qls_command.proofs.pieces.put_messages.Given as goal

abbrev pub invariant-loop-message : goal.invariant-loop-message
invariant-loop-message l = l.out.items ++ flat_map message_line (drop l.message-index l.messages) ≡ l.initial.out.items ++ flat_map message_line l.messages
