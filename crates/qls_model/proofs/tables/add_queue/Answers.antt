use Rattle.qls_model.proofs.TableLaws.{with_queue-insert}
use Rattle.qls_model.proofs.tables.add_queue.Goals as goal

pub returns-clause-added : goal.returns-clause-added
returns-clause-added c = cc (c.in_ok-insert.ensures.items, with_queue-insert c.args.queue c.args.queues.now.items)
