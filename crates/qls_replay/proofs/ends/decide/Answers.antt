use Rattle.std.proofs.Common.{cond, sym, ap, ◌∙◌}
use Rattle.qls_model.specs.declared.machine.Status.TheVariants.{Ready}
use Rattle.qls_enqmap.specs.Records.{with_status, without}
use Rattle.qls_replay.proofs.Decided.{unlocked, gone}
use Rattle.qls_replay.proofs.ends.decide.Goals as goal

pub returns-then-stays-clause-decided : goal.returns-then-stays-clause-decided
returns-then-stays-clause-decided c =
    let u = unlocked c.args.rid c.args.held.now c.unlock-known.new.self c.unlock-known.result c.unlock-known.ensures.answer c.unlock-known.ensures.unlocked c.unlock-known.ensures.refused in
    u ∙ ap (λ b. cond b (with_status c.args.rid Ready c.args.held.now) (without c.args.rid c.args.held.now)) (sym c.if-stays.true)

pub returns-else-stays-clause-decided : goal.returns-else-stays-clause-decided
returns-else-stays-clause-decided c =
    let u = gone c.args.rid c.args.held.now c.remove-gone.new.self c.remove-gone.result c.remove-gone.ensures.answer c.remove-gone.ensures.left c.remove-gone.ensures.refused in
    u ∙ ap (λ b. cond b (with_status c.args.rid Ready c.args.held.now) (without c.args.rid c.args.held.now)) (sym c.if-stays.false)
