use Rattle.std.proofs.Common.{◌≡◌, take, drop}
use Rattle.qls_command.specs.Lines.{words}
use Rattle.qls_command.proofs.Cutting.{onto_front}
use Rattle.qls_command.proofs.line.cut_word.Given as goal

abbrev pub invariant-loop-at : goal.invariant-loop-at
invariant-loop-at l = words l.text ≡ onto_front (take l.at l.text) (words (drop l.at l.text))
