use Rattle.std.proofs.Common.{◌-◌, ◌≤◌, length, take, drop}
use Rattle.qls_store.proofs.Keys.{AllBefore, AllBehind}
use Rattle.qls_store.proofs.Placed.{xid_of}
use Rattle.qls_store.proofs.transactions.place_of.Given as goal

-- those that were passed come before the key, and it comes before those that were left out
abbrev pub invariant-loop-low : goal.invariant-loop-low
invariant-loop-low l = record {
  order : l.low ≤ l.high;
  within : l.high ≤ length l.items;
  before : AllBefore xid_of l.xid (take l.low l.items);
  behind : AllBehind xid_of l.xid (drop l.high l.items);
}

abbrev pub decreases-loop-low : goal.decreases-loop-low
decreases-loop-low l = l.high - l.low
