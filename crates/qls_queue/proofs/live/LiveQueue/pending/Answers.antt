use Rattle.std.proofs.Common.{◌≡◌, ℕ, List, IfOk, ap, subst, ◌∙◌}
use Rattle.qls_model.specs.Bytes.{is_listed}
use Rattle.qls_queue.specs.Live.{LiveState}
use Rattle.qls_queue.specs.Answers.{is_pending}
use Rattle.qls_queue.proofs.Finds.{listed_moved}
use Rattle.qls_queue.proofs.Xids.{pending_xids}
use Rattle.qls_queue.proofs.live.LiveQueue.pending.Goals as goal

pub returns-clause-exact : goal.returns-clause-exact
returns-clause-exact c =
    subst (λ (q : LiveState). IfOk c.pending.result (λ xids. (x : List ℕ) → is_listed x xids ≡ is_pending x q.queue)) c.self.view_is
    (listed_moved c.pending.result c.self.inside.tables.held c.pending.ensures.exact)

pub returns-clause-xids : goal.returns-clause-xids
returns-clause-xids c = pending_xids c.pending.result c.self.inside.tables.held (c.self.invariant (ap (λ (q : LiveState). q.ended) c.self.view_is ∙ c.requires.unended)).xids c.pending.ensures.exact
