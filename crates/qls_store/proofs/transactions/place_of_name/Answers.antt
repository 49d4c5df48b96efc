use Rattle.std.proofs.Common.{◌≡◌, ◌+◌, ◌-◌, ◌/◌, take, drop, suc, sym, subst, arith, add-one}
use Rattle.std.specs.declared.cmp.Ordering.TheVariants.{Less, Equal, Greater}
use Rattle.std.specs.Ordering.{nat_cmp}
use Rattle.std.specs.Cmp.Lexicographic.{slice_cmp}
use Rattle.qls_store.proofs.Keys.{stands_at, before_up_to, behind_from, is_before, is_behind, are_same, AllBefore, AllBehind}
use Rattle.qls_store.proofs.Placed.{name_of}
use Rattle.qls_store.proofs.transactions.place_of_name.Goals as goal

pub returns-in-Equal : goal.returns-in-Equal
returns-in-Equal c =
    let item = c.index-names-middle.result in
    let key = c.args.name.now in
    let e : slice_cmp nat_cmp (name_of item) key ≡ Equal = cc in
    record { place = stands_at name_of key c.args.names.now (c.loop-low.low + (c.loop-low.high - c.loop-low.low) / 2) item (omega arith) c.index-names-middle.is (are_same (name_of item) key e) }

pub loop-low-preserved-in-Less : goal.loop-low-preserved-in-Less
loop-low-preserved-in-Less c =
    let item = c.index-names-middle.result in
    let key = c.args.name.now in
    let middle = c.loop-low.low + (c.loop-low.high - c.loop-low.low) / 2 in
    let e : slice_cmp nat_cmp (name_of item) key ≡ Less = cc in
    let b : AllBefore name_of key (take (suc middle) c.args.names.now) = before_up_to name_of key c.args.names.now middle item (omega arith) c.index-names-middle.is c.requires.rising (is_before (name_of item) key e) in
    record {
      order = omega arith;
      within = omega arith;
      before = subst (λ k. AllBefore name_of key (take k c.args.names.now)) (sym (add-one middle)) b;
      behind = c.loop-low.invariant.behind;
    }

pub loop-low-preserved : goal.loop-low-preserved
loop-low-preserved c =
    let item = c.index-names-middle.result in
    let key = c.args.name.now in
    let middle = c.loop-low.low + (c.loop-low.high - c.loop-low.low) / 2 in
    let e : slice_cmp nat_cmp (name_of item) key ≡ Greater = cc in
    record {
      order = omega arith;
      within = omega arith;
      before = c.loop-low.invariant.before;
      behind = behind_from name_of key c.args.names.now middle item (omega arith) c.index-names-middle.is c.requires.rising (is_behind (name_of item) key e);
    }

pub returns : goal.returns
returns c =
    let e : c.loop-low.high ≡ c.loop-low.low = omega arith in
    record {
      place = record {
        within = omega arith;
        before = c.loop-low.invariant.before;
        behind = subst (λ k. AllBehind name_of c.args.name.now (drop k c.args.names.now)) e c.loop-low.invariant.behind;
      };
    }
