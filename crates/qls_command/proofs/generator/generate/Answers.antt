use Rattle.std.proofs.Common.{◌≡◌, ◌++◌, ◌-◌, ap, take, ◌∙◌, List, ℕ, All, subst, sym}
use Rattle.qls_command.specs.Within.{IsWithin}
use Rattle.qls_model.specs.declared.machine.Command.{Command}
use Rattle.qls_command.specs.Generated.{begun, drawn_from, first_commands, generated}
use Rattle.qls_command.proofs.Drawing.{generated-whole, length-drawn_from}
use Rattle.qls_command.proofs.WithinDraws.{generated-within}
use Rattle.qls_command.proofs.generator.generate.Goals as goal

pub returns : goal.returns
returns c =
    let drawn = drawn_from (begun c.args.seed) 5 (c.args.count - 4) in
    let whole : c.draw_into.new.commands ≡ generated c.args.seed c.args.count =
    c.in_ok-draw_into.ensures.drawn
    ∙ ap (λ (k : List Command). k ++ drawn) c.in_ok-commands.ensures.commands
    ∙ ap (λ (n : ℕ). take n first_commands ++ drawn) c.min.ensures
    ∙ generated-whole c.args.count drawn (length-drawn_from (begun c.args.seed) 5 (c.args.count - 4)) in
    record {
      commands = whole;
      within = subst (λ (k : List Command). All IsWithin k) (sym whole) (generated-within c.args.seed c.args.count);
    }
