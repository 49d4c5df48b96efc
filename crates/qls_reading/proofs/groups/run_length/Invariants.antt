use Rattle.std.proofs.Common.{◌≡◌, ◌+◌, drop, length}
use Rattle.qls_reading.specs.Groups.{run_of}
use Rattle.qls_reading.proofs.groups.run_length.Given as goal

abbrev pub invariant-loop-file : goal.invariant-loop-file
invariant-loop-file l = record {
  count : l.count ≡ l.file-index + 1;
  run : l.count + length (run_of l.first.header.epoch (drop l.file-index l.rest)) ≡ 1 + length (run_of l.first.header.epoch l.rest);
}
