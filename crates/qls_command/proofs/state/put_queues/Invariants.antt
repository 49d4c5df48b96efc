use Rattle.std.proofs.Common.{◌≡◌, ◌++◌, drop}
use Rattle.std.specs.List.{flat_map}
use Rattle.qls_command.specs.Texts.{queue_text}
use Rattle.qls_command.proofs.state.put_queues.Given as goal

abbrev pub invariant-loop-at : goal.invariant-loop-at
invariant-loop-at l = l.out.items ++ flat_map queue_text (drop l.at l.state.queues) ≡ l.initial.out.items ++ flat_map queue_text l.state.queues
