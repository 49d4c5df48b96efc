use Rattle.std.proofs.Common.{◌≡◌, ℕ, List, take}
use Rattle.std.specs.List.Sorted.{IsStrictlySortedBy}
use Rattle.std.specs.Ordering.{nat_cmp}
use Rattle.std.specs.Cmp.Lexicographic.{slice_cmp}
use Rattle.std.specs.Map.{keys_of}
use Rattle.qls_model.specs.Bytes.{is_listed}
use Rattle.qls_txnmap.proofs.table.in_order.Given as goal

abbrev pub invariant-loop-at : goal.invariant-loop-at
invariant-loop-at l = record {
  ordered : IsStrictlySortedBy (slice_cmp nat_cmp) l.xids.keys;
  listed : (x : List ℕ) → is_listed x l.xids.keys ≡ is_listed x (take l.at (keys_of l.table.entries));
}
