use Rattle.std.proofs.Common.{◌≡◌, ◌+◌, ◌≤◌, drop, length}
use Rattle.qls_model.specs.Machine.{doubts}
use Rattle.qls_command.proofs.state.doubt_count.Given as goal

abbrev pub invariant-loop-at : goal.invariant-loop-at
invariant-loop-at l = record {
  counted : l.count + length (doubts (drop l.at l.state.xids)) ≡ length (doubts l.state.xids);
  small : l.count ≤ l.at;
}
