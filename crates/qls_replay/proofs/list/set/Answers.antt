use Rattle.std.proofs.Common.{◌≡◌, ℕ, ◌+◌, ◌≤◌, Bool, true, false, Some, cond, length, is_some, ap, sym, ◌∙◌, arith}
use Rattle.std.specs.Map.{lookup}
use Rattle.qls_model.proofs.XidKeys.{xid_eq_is}
use Rattle.qls_decide.specs.declared.ListState.{ListState}
use Rattle.qls_replay.proofs.Placing.{inserted, as_bytes, found_same}
use Rattle.qls_replay.proofs.list.set.Goals as goal

pub returns-clause-set : goal.returns-clause-set
returns-clause-set c =
    let ps = c.args.entries.now.entries in
    let qs = c.insert.new.self.entries in
    let v : ℕ × ListState = (c.args.rid, c.args.state) in
    inserted c.args.xid v ps qs (as_bytes c.args.xid (Some v) ps qs c.in_ok-insert.ensures.updates.0)

known_len : (n m : ℕ) (b : Bool) → n ≡ m + cond b 0 1 → b ≡ true → n ≤ m
known_len n m true e t = omega arith
known_len n m false e t = absurd (cc)

pub returns-clause-known : goal.returns-clause-known
returns-clause-known c = λ s.
    let es = c.args.entries.now.entries in
    let k = c.args.xid in
    known_len (length c.insert.new.self.entries) (length es) (is_some c.in_ok-insert.field-0) c.in_ok-insert.ensures.len
    (ap is_some (c.in_ok-insert.ensures.old ∙ ap (λ f. lookup (f k) es) xid_eq_is) ∙ sym (found_same k es) ∙ s)
