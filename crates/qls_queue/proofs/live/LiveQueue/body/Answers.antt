use Rattle.std.proofs.Common.{ap, sym}
use Rattle.qls_queue.specs.Live.{LiveState}
use Rattle.qls_queue.proofs.Finds.{bodied}
use Rattle.qls_queue.proofs.live.LiveQueue.body.Goals as goal

pub returns-clause-answer : goal.returns-clause-answer
returns-clause-answer g c =
    bodied c.args.self.now.queue.messages c.self.inside.tables.held c.held.result.now _ c.args.number c.body_copy.result (ap (λ (q : LiveState). q.queue.messages) (sym c.self.view_is)) c.held.ensures.same c.get.ensures.found
    c.body_copy.ensures.answer
