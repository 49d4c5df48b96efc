use Rattle.qls_journals.proofs.OpenedOne.{list_well, queue_well, queue_behind}
use Rattle.qls_journals.proofs.opening.add_journal.Goals as goal

pub returns-in-Ok-clause-well : goal.returns-in-Ok-clause-well
returns-in-Ok-clause-well c =
    let is = c.in-Ok.ensures in
    list_well c.args.kind c.args.home c.args.log c.args.records.now c.in-Ok.opened c.in-List.is is.list is.sound is.whole

pub returns-in_ok-push-in-Ok-open-clause-queues : goal.returns-in_ok-push-in-Ok-open-clause-queues
returns-in_ok-push-in-Ok-open-clause-queues c =
    queue_behind c.args.kind c.args.log c.args.records.now c.in-Ok-open.opened c.args.queues.now.items c.push.new.self.items c.in-Queue.is c.in-Ok-open.ensures.queue c.in_ok-push-in-Ok-open.ensures.items

pub returns-in_ok-push-in-Ok-open-clause-well : goal.returns-in_ok-push-in-Ok-open-clause-well
returns-in_ok-push-in-Ok-open-clause-well c =
    let is = c.in-Ok-open.ensures in
    queue_well c.args.kind c.args.home c.args.log c.args.records.now c.in-Ok-open.opened c.in-Queue.is is.queue is.sound is.numbered is.whole
