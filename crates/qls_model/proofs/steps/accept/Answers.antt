use Rattle.std.proofs.Common.{◌≡◌, None, subst}
use Rattle.qls_model.specs.Machine.{MachineState, first_true, refusals}
use Rattle.qls_model.proofs.SoundLaws.{room}
use Rattle.qls_model.proofs.steps.accept.Goals as goal

pub put-requires-clause-room : goal.put-requires-clause-room
put-requires-clause-room c =
    let S : MachineState = record { queues = c.args.queues.now.items; xids = c.args.xids.now.items } in
    room S c.in-Put.name c.in-Put.body c.in-Put.xid c.requires.sound.numbers
    (subst (λ k. first_true (refusals S k) ≡ None) c.in-Put.is c.requires.admitted)
