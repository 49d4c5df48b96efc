use Rattle.std.proofs.Common.{◌-◌, ◌≤◌, length, take, drop}
use Rattle.qls_prepared.proofs.Places.{AllBefore, AllBehind}
use Rattle.qls_prepared.proofs.entries.place_of.Given as goal

-- the entries that were passed come before the xid, and it comes before those that were left out
abbrev pub invariant-loop-low : goal.invariant-loop-low
invariant-loop-low l = record {
  order : l.low ≤ l.high;
  within : l.high ≤ length l.list;
  before : AllBefore l.xid (take l.low l.list);
  behind : AllBehind l.xid (drop l.high l.list);
}

abbrev pub decreases-loop-low : goal.decreases-loop-low
decreases-loop-low l = l.high - l.low
