use Rattle.std.proofs.Common.{◌≡◌, ℕ, List, ap, ◌∙◌}
use Rattle.qls_model.specs.Bytes.{is_listed}
use Rattle.qls_txnmap.specs.Pending.{is_pending}
use Rattle.qls_txnmap.proofs.Tables.{pending_keys, if_ok_then_of}
use Rattle.qls_txnmap.proofs.table.TxnMap.pending.Goals as goal

pub returns-clause-exact : goal.returns-clause-exact
returns-clause-exact c =
    if_ok_then_of c.listed.result (λ list. list ≡ c.in_ok-sorted.sorted.keys) (λ list. (x : List ℕ) → is_listed x list ≡ is_pending x c.args.self.now)
    (λ list e x. ap (λ l. is_listed x l) e ∙ c.in_ok-sorted.ensures.listed x ∙ pending_keys x c.self.inside.table.entries c.self.invariant ∙ ap (λ t. is_pending x t) c.self.view_is)
    c.listed.ensures.same
