use Rattle.std.proofs.Common.{◌≡◌, ℕ, true, List, [], ◌∷◌, ◌++◌, ap, sym, ◌∙◌}
use Rattle.std.specs.Map.{lookup, set_value}
use Rattle.std.proofs.lemmas.Map.Steps.{set_value_same}
use Rattle.qls_model.specs.Bytes.{same}
use Rattle.qls_model.proofs.XidKeys.{xid_eq}
use Rattle.qls_txnmap.specs.Pending.{all_of, is_any, ops_of, ops_with}
use Rattle.qls_txnmap.proofs.Tables.{written_to, looked_up_as, ops_added, none_empty_added, any_more, if_ok_then, if_err_then, either_then}
use Rattle.qls_txnmap.proofs.table.add_op.Goals as goal

pub returns-in-Some-clause-added : goal.returns-in-Some-clause-added
returns-in-Some-clause-added c =
    let k = c.args.xid in
    let op = c.args.op in
    let t = c.args.table.now.entries in
    let w = c.push.new.self in
    let old = c.in-Some.ops.now in
    let u = (c.get_mut.follows.lender w).entries in
    let set = written_to k w old t u (c.get_mut.follows.holds w).0 c.in-Some.ensures.value in
    if_ok_then c.push.result (w ≡ old ++ op ∷ []) ((x : List ℕ) → ops_of x u ≡ ops_with k op t x)
    (λ e. ops_added k op w t u (e ∙ ap (λ l. l ++ op ∷ []) (ap all_of (c.in-Some.ensures.value ∙ looked_up_as k t))) set)
    c.push.ensures.pushed

pub returns-in-Some-clause-some : goal.returns-in-Some-clause-some
returns-in-Some-clause-some c = λ h.
    let k = c.args.xid in
    let op = c.args.op in
    let t = c.args.table.now.entries in
    let w = c.push.new.self in
    let old = c.in-Some.ops.now in
    let u = (c.get_mut.follows.lender w).entries in
    let set = written_to k w old t u (c.get_mut.follows.holds w).0 c.in-Some.ensures.value in
    let some = either_then c.push.result (w ≡ old ++ op ∷ []) (w ≡ old) (is_any w ≡ true)
    (λ e. ap is_any e ∙ any_more old op) (λ e. ap is_any e ∙ h k old (sym (c.in-Some.ensures.value ∙ looked_up_as k t))) c.push.ensures.pushed c.push.ensures.refused in
    none_empty_added k w t u some h set

pub returns-in-Some-clause-refused : goal.returns-in-Some-clause-refused
returns-in-Some-clause-refused c =
    let k = c.args.xid in
    let t = c.args.table.now.entries in
    let w = c.push.new.self in
    let old = c.in-Some.ops.now in
    if_err_then c.push.result (w ≡ old) ((c.get_mut.follows.lender w).entries ≡ t)
    (λ e. (c.get_mut.follows.holds w).0 ∙ ap (λ v. set_value (xid_eq k) t v) e ∙ set_value_same (xid_eq k) t old (sym c.in-Some.ensures.value)) c.push.ensures.refused

pub add_first-requires : goal.add_first-requires
add_first-requires c = record {
  new = ap (λ m. lookup (same c.args.xid) m.entries) c.get_mut.follows.holds-at-none ∙ sym (looked_up_as c.args.xid c.args.table.now.entries) ∙ sym c.in-None.ensures.value;
}
