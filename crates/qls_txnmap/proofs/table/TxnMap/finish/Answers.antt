use Rattle.std.proofs.Common.{None, ap, ◌∙◌}
use Rattle.qls_txnmap.specs.Pending.{ops_of, ops_without, if_any}
use Rattle.qls_txnmap.proofs.Tables.{as_bytes, looked_up_as, handed, ops_removed, none_empty_removed}
use Rattle.qls_txnmap.proofs.table.TxnMap.finish.Goals as goal

pub invariant_of-self : goal.invariant_of-self
invariant_of-self c =
    let k = c.args.xid.now in
    let t = c.self.inside.table.entries in
    let u = c.swap_remove.new.self.entries in
    none_empty_removed k t u c.self.invariant (as_bytes k None t u c.swap_remove.ensures.updates.0)

pub returns-clause-handed : goal.returns-clause-handed
returns-clause-handed c =
    let k = c.args.xid.now in
    let t = c.self.inside.table.entries in
    c.swap_remove.ensures.value ∙ looked_up_as k t ∙ handed k t c.self.invariant ∙ ap (λ t. if_any (ops_of k t)) c.self.view_is

pub returns-clause-removed : goal.returns-clause-removed
returns-clause-removed c =
    let k = c.args.xid.now in
    let t = c.self.inside.table.entries in
    let u = c.swap_remove.new.self.entries in
    λ x. ops_removed k t u (as_bytes k None t u c.swap_remove.ensures.updates.0) x ∙ ap (λ t. ops_without k t x) c.self.view_is
