use Rattle.std.proofs.Common.{◌≡◌, None, sym, ap, ◌∙◌}
use Rattle.std.specs.Result.{result_err}
use Rattle.qls_model.specs.Machine.{MachineState, first_true, refusals}
use Rattle.qls_model.proofs.SoundLaws.{step-sound}
use Rattle.qls_model.proofs.steps.step_tables.Goals as goal

pub returns-in-Ok-clause-sound : goal.returns-in-Ok-clause-sound
returns-in-Ok-clause-sound c =
    let S : MachineState = record { queues = c.args.queues.now.items; xids = c.args.xids.now.items } in
    let T : MachineState = record { queues = c.accept.new.queues.items; xids = c.accept.new.xids.items } in
    let tested = rw (c.deref.ensures.value, c.deref-2.ensures.value) at c.admit.ensures in
    let admitted : first_true (refusals S c.args.command.now) ≡ None = sym tested ∙ ap result_err c.in-Ok.is in
    step-sound S T c.args.command.now c.accept.result c.requires admitted c.accept.ensures.accepted c.accept.ensures.kept_queues c.accept.ensures.kept_xids
