use Rattle.std.proofs.Common.{◌≡◌, Bool, true, false, ◌||◌, take, refl, sym, ap, subst, ◌∙◌}
use Rattle.std.specs.List.Sorted.{IsStrictlySortedBy}
use Rattle.std.specs.BTreeSet.{insert_key}
use Rattle.std.proofs.lemmas.List.Folds.{list_any_more}
use Rattle.qls_model.specs.Bytes.{same, is_listed}
use Rattle.qls_model.proofs.XidKeys.{xid_cmp_is, listed-insert}
use Rattle.qls_decide.proofs.plan.in_order.Goals as goal

pub loop-xid-init : goal.loop-xid-init
loop-xid-init c = record {
  ordered = subst (λ f. IsStrictlySortedBy f c.new-xids.result.keys) xid_cmp_is c.new-xids.ensures.ordered;
  listed = λ x. ap (λ ks. is_listed x ks) c.new-xids.ensures.empty;
}

or_swap : (a b : Bool) → (a || b) ≡ (b || a)
or_swap true true = refl
or_swap true false = refl
or_swap false true = refl
or_swap false false = refl

pub loop-xid-preserved : goal.loop-xid-preserved
loop-xid-preserved c =
    let key = c.xid-item.result in
    let old = c.loop-xid.xids.keys in
    let all = c.args.pending.now in
    let i = c.loop-xid.xid-index in
    record {
      ordered = subst (λ f. IsStrictlySortedBy f c.insert.new.self.keys) xid_cmp_is c.in_ok-insert.ensures.ordered;
      listed = λ x.
          ap (λ ks. is_listed x ks) (c.in_ok-insert.ensures.keys ∙ ap (λ f. insert_key f old key) xid_cmp_is)
          ∙ listed-insert x key old
          ∙ ap (λ b. same x key || b) (c.loop-xid.invariant.listed x)
          ∙ or_swap (same x key) (is_listed x (take i all))
          ∙ ap (λ k. is_listed x (take i all) || same x k) c.xid-item.is
          ∙ sym (list_any_more (λ y. same x y) all i key c.loop-xid-test.true);
    }
