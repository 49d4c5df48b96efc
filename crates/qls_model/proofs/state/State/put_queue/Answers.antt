use Rattle.std.proofs.Common.{◌≡◌, None, sym, subst}
use Rattle.qls_model.specs.Machine.{MachineState, queue_named}
use Rattle.qls_model.proofs.SoundLaws.{queue_put-sound}
use Rattle.qls_model.proofs.state.State.put_queue.Goals as goal

pub invariant_of-self : goal.invariant_of-self
invariant_of-self c =
    let absent = subst (λ (S : MachineState). queue_named c.args.queue.name S.queues ≡ None) (sym c.self.view_is) c.requires.absent in
    queue_put-sound c.args.queue _ _ _ c.add_queue.result c.self.invariant absent (record { last = c.requires.last; rising = c.requires.rising }) c.add_queue.ensures.added c.add_queue.ensures.kept
