use Rattle.std.proofs.Common.{◌+◌, ◌-◌, ◌/◌, ◌^◌, arith, subst, sym}
use Rattle.qls_model.specs.declared.machine.Command.{Command}
use Rattle.qls_command.specs.Generated.{Drawn, AllAtMost, with_next_number}
use Rattle.qls_command.proofs.Drawing.{drawn_from-step, drawn_command-at_most}
use Rattle.qls_command.proofs.generator.draw_into.Goals as goal

pub loop-place-preserved : goal.loop-place-preserved
loop-place-preserved c =
    let place = c.loop-place.place in
    let counts : Command × Drawn → Type 0 = λ p. AllAtMost (place + 1) p.1.puts in
    let d = with_next_number c.loop-place.generator in
    record {
      drawn = drawn_from-step c.loop-place.commands c.push.new.self _ c.loop-place.generator c.next.new.self place
          (c.args.count + 1 - place) (c.args.count + 1 - (place + 1)) c.in_ok-command.command (omega arith)
          c.in_ok-command.ensures.command c.in_ok-push.ensures.pushed c.loop-place.invariant.drawn;
      counts = subst counts (sym c.in_ok-command.ensures.command) (drawn_command-at_most d place (d.x / 2 ^ 33) place c.loop-place.invariant.counts);
    }
