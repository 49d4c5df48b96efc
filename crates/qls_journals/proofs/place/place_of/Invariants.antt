use Rattle.std.proofs.Common.{◌-◌, ◌≤◌, length, take, drop}
use Rattle.qls_journals.proofs.Names.{AllBefore, AllBehind}
use Rattle.qls_journals.proofs.place.place_of.Given as goal

-- the queues that were passed come before the name, and it comes before those that were left out
abbrev pub invariant-loop-low : goal.invariant-loop-low
invariant-loop-low l = record {
  order : l.low ≤ l.high;
  within : l.high ≤ length l.queues;
  before : AllBefore l.name (take l.low l.queues);
  behind : AllBehind l.name (drop l.high l.queues);
}

abbrev pub decreases-loop-low : goal.decreases-loop-low
decreases-loop-low l = l.high - l.low
