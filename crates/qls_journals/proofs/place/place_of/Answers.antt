use Rattle.std.proofs.Common.{◌≡◌, ◌+◌, ◌-◌, ◌/◌, take, drop, suc, sym, subst, arith, add-one}
use Rattle.std.specs.declared.cmp.Ordering.TheVariants.{Less, Equal, Greater}
use Rattle.std.specs.Ordering.{nat_cmp}
use Rattle.std.specs.Cmp.Lexicographic.{slice_cmp}
use Rattle.qls_journals.proofs.Names.{stands_at, would_stand_at, before_up_to, behind_from, is_before, is_behind, are_same, AllBefore, AllBehind}
use Rattle.qls_journals.proofs.place.place_of.Goals as goal

pub returns-in-Equal : goal.returns-in-Equal
returns-in-Equal c =
    let q = c.index-queues-middle.result in
    let name = c.args.name.now in
    let e : slice_cmp nat_cmp q.queue.name name ≡ Equal = cc in
    record { place = stands_at name c.args.queues.now (c.loop-low.low + (c.loop-low.high - c.loop-low.low) / 2) q (omega arith) c.index-queues-middle.is c.requires.rising (are_same q.queue.name name e) }

pub loop-low-preserved-in-Less : goal.loop-low-preserved-in-Less
loop-low-preserved-in-Less c =
    let q = c.index-queues-middle.result in
    let name = c.args.name.now in
    let middle = c.loop-low.low + (c.loop-low.high - c.loop-low.low) / 2 in
    let e : slice_cmp nat_cmp q.queue.name name ≡ Less = cc in
    let b : AllBefore name (take (suc middle) c.args.queues.now) = before_up_to name c.args.queues.now middle q (omega arith) c.index-queues-middle.is c.requires.rising (is_before q.queue.name name e) in
    record {
      order = omega arith;
      within = omega arith;
      before = subst (λ k. AllBefore name (take k c.args.queues.now)) (sym (add-one middle)) b;
      behind = c.loop-low.invariant.behind;
    }

pub loop-low-preserved : goal.loop-low-preserved
loop-low-preserved c =
    let q = c.index-queues-middle.result in
    let name = c.args.name.now in
    let middle = c.loop-low.low + (c.loop-low.high - c.loop-low.low) / 2 in
    let e : slice_cmp nat_cmp q.queue.name name ≡ Greater = cc in
    record {
      order = omega arith;
      within = omega arith;
      before = c.loop-low.invariant.before;
      behind = behind_from name c.args.queues.now middle q (omega arith) c.index-queues-middle.is c.requires.rising (is_behind q.queue.name name e);
    }

pub returns : goal.returns
returns c =
    let e : c.loop-low.high ≡ c.loop-low.low = omega arith in
    record {
      place = would_stand_at c.args.name.now c.args.queues.now c.loop-low.low (omega arith) c.loop-low.invariant.before
          (subst (λ k. AllBehind c.args.name.now (drop k c.args.queues.now)) e c.loop-low.invariant.behind);
    }
