use Rattle.std.proofs.Common.{◌/◌, ◌%◌, arith}
use Rattle.std.proofs.lemmas.Grind.{common_steps}
use Rattle.qls_command.proofs.Drawing.{body_from-step}
use Rattle.qls_command.proofs.generator.body.Goals as goal

pub loop-place-preserved : goal.loop-place-preserved
loop-place-preserved c =
    let step = body_from-step (c.args.drawn / 32 % 300) c.loop-place.place c.args.drawn (omega arith) in
    grind (arith, common_steps, step)
