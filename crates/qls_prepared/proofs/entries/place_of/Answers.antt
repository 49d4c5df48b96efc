use Rattle.std.proofs.Common.{◌≡◌, ◌+◌, ◌-◌, ◌/◌, take, drop, suc, sym, subst, arith, add-one}
use Rattle.std.specs.declared.cmp.Ordering.TheVariants.{Less, Equal, Greater}
use Rattle.std.specs.Ordering.{nat_cmp}
use Rattle.std.specs.Cmp.Lexicographic.{slice_cmp}
use Rattle.qls_prepared.proofs.Places.{stands_at, would_stand_at, before_up_to, behind_from, is_before, is_behind, are_same, AllBefore, AllBehind}
use Rattle.qls_prepared.proofs.entries.place_of.Goals as goal

pub returns-in-Equal : goal.returns-in-Equal
returns-in-Equal c =
    let f = c.index-list-middle.result in
    let x = c.args.xid.now in
    let e : slice_cmp nat_cmp f.xid x ≡ Equal = cc in
    record { place = stands_at x c.args.list.now (c.loop-low.low + (c.loop-low.high - c.loop-low.low) / 2) f (omega arith) c.index-list-middle.is c.requires.rising (are_same f.xid x e) }

pub loop-low-preserved-in-Less : goal.loop-low-preserved-in-Less
loop-low-preserved-in-Less c =
    let f = c.index-list-middle.result in
    let x = c.args.xid.now in
    let middle = c.loop-low.low + (c.loop-low.high - c.loop-low.low) / 2 in
    let e : slice_cmp nat_cmp f.xid x ≡ Less = cc in
    let b : AllBefore x (take (suc middle) c.args.list.now) = before_up_to x c.args.list.now middle f (omega arith) c.index-list-middle.is c.requires.rising (is_before f.xid x e) in
    record {
      order = omega arith;
      within = omega arith;
      before = subst (λ k. AllBefore x (take k c.args.list.now)) (sym (add-one middle)) b;
      behind = c.loop-low.invariant.behind;
    }

pub loop-low-preserved : goal.loop-low-preserved
loop-low-preserved c =
    let f = c.index-list-middle.result in
    let x = c.args.xid.now in
    let middle = c.loop-low.low + (c.loop-low.high - c.loop-low.low) / 2 in
    let e : slice_cmp nat_cmp f.xid x ≡ Greater = cc in
    record {
      order = omega arith;
      within = omega arith;
      before = c.loop-low.invariant.before;
      behind = behind_from x c.args.list.now middle f (omega arith) c.index-list-middle.is c.requires.rising (is_behind f.xid x e);
    }

pub returns : goal.returns
returns c =
    let e : c.loop-low.high ≡ c.loop-low.low = omega arith in
    record {
      place = would_stand_at c.args.xid.now c.args.list.now c.loop-low.low (omega arith) c.loop-low.invariant.before
          (subst (λ k. AllBehind c.args.xid.now (drop k c.args.list.now)) e c.loop-low.invariant.behind);
    }
