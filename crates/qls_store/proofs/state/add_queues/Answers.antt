use Rattle.std.proofs.Common.{List, [], ap, ◌∙◌}
use Rattle.qls_model.specs.Machine.{MachineState, queue_named, with_queue}
use Rattle.qls_model.specs.declared.machine.QueueState.{QueueState}
use Rattle.qls_store.proofs.States.{queue_absent, queue_added, queue_numbered}
use Rattle.qls_store.proofs.state.add_queues.Goals as goal

pub put_queue-requires-clause-absent : goal.put_queue-requires-clause-absent
put_queue-requires-clause-absent c =
    ap (λ (s : MachineState). queue_named c.in_ok-queue.queue.name s.queues) c.loop-at.invariant
    ∙ queue_absent c.args.journals.now.queues c.requires.rising c.loop-at.at c.in_ok-queue.queue c.in_ok-queue.ensures.exact

pub put_queue-requires-clause-last : goal.put_queue-requires-clause-last
put_queue-requires-clause-last c = (queue_numbered c.args.journals.now.queues c.requires.rising c.loop-at.at c.in_ok-queue.queue c.in_ok-queue.ensures.exact c.requires.numbered).last

pub put_queue-requires-clause-rising : goal.put_queue-requires-clause-rising
put_queue-requires-clause-rising c = (queue_numbered c.args.journals.now.queues c.requires.rising c.loop-at.at c.in_ok-queue.queue c.in_ok-queue.ensures.exact c.requires.numbered).rising

pub loop-at-preserved : goal.loop-at-preserved
loop-at-preserved c =
    c.in_ok-put_queue.ensures.added
    ∙ ap (λ (s : MachineState). record s { queues = with_queue c.in_ok-queue.queue s.queues }) c.loop-at.invariant
    ∙ ap (λ (qs : List QueueState). record { queues = qs; xids = [] }) (queue_added c.args.journals.now.queues c.requires.rising c.loop-at.at c.in_ok-queue.queue c.in_ok-queue.ensures.exact)
