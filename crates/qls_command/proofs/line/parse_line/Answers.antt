use Rattle.std.proofs.Common.{◌≡◌, Option, Some, IfSome, subst, sym, ◌∙◌}
use Rattle.qls_command.specs.Within.{IsWithin}
use Rattle.qls_model.specs.declared.machine.Command.{Command}
use Rattle.qls_command.specs.Lines.{words, command_of_words}
use Rattle.qls_command.proofs.WithinLimits.{holds_words}
use Rattle.qls_command.proofs.line.parse_line.Goals as goal

pub returns-in-Some-clause-within : goal.returns-in-Some-clause-within
returns-in-Some-clause-within c =
    let is : command_of_words (words c.args.line.now) ≡ Some c.in-Some.command = sym c.in_ok-command.ensures.read ∙ c.in-Some.is in
    let holds : Option Command → Type 0 = λ o. IfSome o IsWithin in
    subst holds is (holds_words (words c.args.line.now))
