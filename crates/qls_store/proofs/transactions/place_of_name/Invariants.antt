use Rattle.std.proofs.Common.{◌-◌, ◌≤◌, length, take, drop}
use Rattle.qls_store.proofs.Keys.{AllBefore, AllBehind}
use Rattle.qls_store.proofs.Placed.{name_of}
use Rattle.qls_store.proofs.transactions.place_of_name.Given as goal

-- those that were passed come before the key, and it comes before those that were left out
abbrev pub invariant-loop-low : goal.invariant-loop-low
invariant-loop-low l = record {
  order : l.low ≤ l.high;
  within : l.high ≤ length l.names;
  before : AllBefore name_of l.name (take l.low l.names);
  behind : AllBehind name_of l.name (drop l.high l.names);
}

abbrev pub decreases-loop-low : goal.decreases-loop-low
decreases-loop-low l = l.high - l.low
