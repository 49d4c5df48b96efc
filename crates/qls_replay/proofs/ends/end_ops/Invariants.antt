use Rattle.std.proofs.Common.{◌≡◌, drop}
use Rattle.qls_enqmap.specs.Records.{RidsRise}
use Rattle.qls_replay.specs.Ops.{ended_all}
use Rattle.qls_replay.proofs.ends.end_ops.Given as goal

abbrev pub invariant-loop-op : goal.invariant-loop-op
invariant-loop-op l = record {
  ended : ended_all l.commit (drop l.op-index l.ops) l.held ≡ ended_all l.commit l.ops l.initial.held;
  rising : RidsRise l.initial.held → RidsRise l.held;
}
