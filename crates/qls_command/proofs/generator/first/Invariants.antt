use Rattle.std.proofs.Common.{◌≡◌, take}
use Rattle.qls_command.specs.Generated.{first_commands}
use Rattle.qls_command.proofs.generator.first.Given as goal

abbrev pub invariant-loop-queue : goal.invariant-loop-queue
invariant-loop-queue l = l.commands ≡ take l.queue first_commands
