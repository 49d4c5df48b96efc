use Rattle.std.proofs.Common.{◌≡◌, ◌+◌, ◌-◌, ◌/◌, take, drop, suc, sym, subst, arith, add-one}
use Rattle.std.specs.declared.cmp.Ordering.TheVariants.{Less, Equal, Greater}
use Rattle.std.specs.Ordering.{nat_cmp}
use Rattle.std.specs.Cmp.Lexicographic.{slice_cmp}
use Rattle.qls_store.proofs.Keys.{stands_at, before_up_to, behind_from, is_before, is_behind, are_same, AllBefore, AllBehind}
use Rattle.qls_store.proofs.Placed.{xid_of, rises}
use Rattle.qls_store.proofs.transactions.place_of.Goals as goal

pub returns-in-Equal : goal.returns-in-Equal
returns-in-Equal c =
    let item = c.index-items-middle.result in
    let key = c.args.xid.now in
    let e : slice_cmp nat_cmp (xid_of item) key ≡ Equal = cc in
    record { place = stands_at xid_of key c.args.items.now (c.loop-low.low + (c.loop-low.high - c.loop-low.low) / 2) item (omega arith) c.index-items-middle.is (are_same (xid_of item) key e) }

pub loop-low-preserved-in-Less : goal.loop-low-preserved-in-Less
loop-low-preserved-in-Less c =
    let item = c.index-items-middle.result in
    let key = c.args.xid.now in
    let middle = c.loop-low.low + (c.loop-low.high - c.loop-low.low) / 2 in
    let e : slice_cmp nat_cmp (xid_of item) key ≡ Less = cc in
    let b : AllBefore xid_of key (take (suc middle) c.args.items.now) = before_up_to xid_of key c.args.items.now middle item (omega arith) c.index-items-middle.is (rises c.args.items.now c.requires.rising) (is_before (xid_of item) key e) in
    record {
      order = omega arith;
      within = omega arith;
      before = subst (λ k. AllBefore xid_of key (take k c.args.items.now)) (sym (add-one middle)) b;
      behind = c.loop-low.invariant.behind;
    }

pub loop-low-preserved : goal.loop-low-preserved
loop-low-preserved c =
    let item = c.index-items-middle.result in
    let key = c.args.xid.now in
    let middle = c.loop-low.low + (c.loop-low.high - c.loop-low.low) / 2 in
    let e : slice_cmp nat_cmp (xid_of item) key ≡ Greater = cc in
    record {
      order = omega arith;
      within = omega arith;
      before = c.loop-low.invariant.before;
      behind = behind_from xid_of key c.args.items.now middle item (omega arith) c.index-items-middle.is (rises c.args.items.now c.requires.rising) (is_behind (xid_of item) key e);
    }

pub returns : goal.returns
returns c =
    let e : c.loop-low.high ≡ c.loop-low.low = omega arith in
    record {
      place = record {
        within = omega arith;
        before = c.loop-low.invariant.before;
        behind = subst (λ k. AllBehind xid_of c.args.xid.now (drop k c.args.items.now)) e c.loop-low.invariant.behind;
      };
    }
