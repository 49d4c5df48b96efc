use Rattle.std.proofs.Common.{◌≡◌, sym, ap, ◌∙◌, subst}
use Rattle.qls_model.specs.Machine.{MachineState, settle}
use Rattle.qls_model.specs.Sound.{IsSound}
use Rattle.qls_model.specs.Settling.{open_xids, aborted_in_turn}
use Rattle.qls_model.proofs.MachineLaws.{settle-in_turn}
use Rattle.qls_model.proofs.SoundLaws.{settle-sound}
use Rattle.qls_model.proofs.steps.settle_tables.Goals as goal

pub returns-clause-settled : goal.returns-clause-settled
returns-clause-settled c =
    let S : MachineState = record { queues = c.args.queues.now.items; xids = c.args.xids.now.items } in
    let aborted = c.abort_open.ensures ∙ ap (λ xs. aborted_in_turn (open_xids xs) S.queues) c.deref.ensures.value in
    let settled : c.abort_open.new.queues.items ≡ (settle S).queues = aborted ∙ sym (settle-in_turn S c.requires.xids) in
    λ i. record { queues = settled i; xids = c.retain_prepared.ensures i }

pub returns-clause-sound : goal.returns-clause-sound
returns-clause-sound c =
    let S : MachineState = record { queues = c.args.queues.now.items; xids = c.args.xids.now.items } in
    subst (λ (T : MachineState). IsSound T.queues T.xids) (sym (returns-clause-settled c)) (settle-sound S c.requires)
