use Rattle.std.proofs.Common.{arith}
use Rattle.qls_command.proofs.Drawing.{first_commands-step}
use Rattle.qls_command.proofs.generator.first.Goals as goal

pub loop-queue-preserved : goal.loop-queue-preserved
loop-queue-preserved c =
    let step = first_commands-step c.loop-queue.queue (omega arith) in
    cc (c.in_ok-push.ensures.pushed)
