use Rattle.std.proofs.Common.{◌≡◌, drop}
use Rattle.qls_reading.specs.ReadLogs.{AreGiven, rid_behind}
use Rattle.qls_prepared.proofs.open_tests.are_given.Given as goal

abbrev pub invariant-loop-got : goal.invariant-loop-got
invariant-loop-got l = record {
  given : AreGiven l.rid (drop l.got-index l.reads) → AreGiven 0 l.reads;
  last : rid_behind l.rid (drop l.got-index l.reads) ≡ rid_behind 0 l.reads;
}
