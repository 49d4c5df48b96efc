use Rattle.std.proofs.Common.{Some, [], ◌∷◌, ◌++◌, ap, sym, ◌∙◌}
use Rattle.qls_txnmap.specs.Pending.{all_of, is_any}
use Rattle.qls_txnmap.proofs.Tables.{as_bytes, ops_added, none_empty_added}
use Rattle.qls_txnmap.proofs.table.add_first.Goals as goal

pub returns-clause-added : goal.returns-clause-added
returns-clause-added c =
    let k = c.args.xid in
    let t = c.args.table.now.entries in
    let u = c.insert.new.self.entries in
    let w = c.push.new.self in
    let first = c.in_ok-push.ensures.pushed ∙ ap (λ l. l ++ c.args.op ∷ []) (c.new-ops.ensures.empty ∙ sym (ap all_of c.requires.new)) in
    ops_added k c.args.op w t u first (as_bytes k (Some w) t u c.in_ok-insert.ensures.updates.0)

pub returns-clause-some : goal.returns-clause-some
returns-clause-some c = λ h.
    let k = c.args.xid in
    let t = c.args.table.now.entries in
    let u = c.insert.new.self.entries in
    let w = c.push.new.self in
    let one = ap is_any (c.in_ok-push.ensures.pushed ∙ ap (λ l. l ++ c.args.op ∷ []) c.new-ops.ensures.empty) in
    none_empty_added k w t u one h (as_bytes k (Some w) t u c.in_ok-insert.ensures.updates.0)
