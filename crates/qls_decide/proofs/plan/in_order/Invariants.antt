use Rattle.std.proofs.Common.{◌≡◌, ℕ, List, take}
use Rattle.std.specs.List.Sorted.{IsStrictlySortedBy}
use Rattle.std.specs.Ordering.{nat_cmp}
use Rattle.std.specs.Cmp.Lexicographic.{slice_cmp}
use Rattle.qls_model.specs.Bytes.{is_listed}
use Rattle.qls_decide.proofs.plan.in_order.Given as goal

abbrev pub invariant-loop-xid : goal.invariant-loop-xid
invariant-loop-xid l = record {
  ordered : IsStrictlySortedBy (slice_cmp nat_cmp) l.xids.keys;
  listed : (x : List ℕ) → is_listed x l.xids.keys ≡ is_listed x (take l.xid-index l.pending);
}
