use Rattle.std.proofs.Common.{sym}
use Rattle.qls_command.proofs.Cutting.{onto_nothing-words}
use Rattle.qls_command.proofs.line.cut_word.Goals as goal

pub loop-at-init : goal.loop-at-init
loop-at-init c = sym (onto_nothing-words c.args.text.now)
