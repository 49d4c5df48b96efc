use Rattle.std.proofs.Common.{◌≡◌, Bool, true, false, ◌||◌, take, refl, sym, ap, subst, ◌∙◌}
use Rattle.std.specs.List.Sorted.{IsStrictlySortedBy}
use Rattle.std.specs.BTreeSet.{insert_key}
use Rattle.std.specs.Map.{keys_of}
use Rattle.qls_model.specs.Bytes.{same, is_listed}
use Rattle.qls_model.proofs.XidKeys.{xid_cmp_is, listed-insert}
use Rattle.qls_txnmap.proofs.Tables.{more_keys}
use Rattle.qls_txnmap.proofs.table.in_order.Goals as goal

pub loop-at-init : goal.loop-at-init
loop-at-init c = record {
  ordered = subst (λ f. IsStrictlySortedBy f c.new-xids.result.keys) xid_cmp_is c.new-xids.ensures.ordered;
  listed = λ x. ap (λ ks. is_listed x ks) c.new-xids.ensures.empty;
}

or_swap : (a b : Bool) → (a || b) ≡ (b || a)
or_swap true true = refl
or_swap true false = refl
or_swap false true = refl
or_swap false false = refl

pub loop-at-preserved : goal.loop-at-preserved
loop-at-preserved c =
    let key = c.in-Some.xid.now in
    let old = c.loop-at.xids.keys in
    let es = c.args.table.now.entries in
    let i = c.loop-at.at in
    record {
      ordered = subst (λ f. IsStrictlySortedBy f c.insert.new.self.keys) xid_cmp_is c.in_ok-insert.ensures.ordered;
      listed = λ x.
          ap (λ ks. is_listed x ks) (c.in_ok-insert.ensures.keys ∙ ap (λ f. insert_key f old key) xid_cmp_is)
          ∙ listed-insert x key old
          ∙ ap (λ b. same x key || b) (c.loop-at.invariant.listed x)
          ∙ or_swap (same x key) (is_listed x (take i (keys_of es)))
          ∙ sym (more_keys x es i key c.in-Some.field-0-1.now (sym c.in-Some.ensures.entry));
    }
