use Rattle.std.proofs.Common.{◌≡◌, ◌+◌, ◌*◌, ◌≤◌, drop}
use Rattle.qls_shape.proofs.checksum.sums_of_run.Given as goal
use Rattle.qls_shape.specs.Adler.{low_from, high_from}

abbrev pub invariant-loop-byte : goal.invariant-loop-byte
invariant-loop-byte l = record {
  low : l.a ≤ 65520 + 255 * l.byte-index;
  high : l.b ≤ 65520 + 1044720 * l.byte-index;
  low_sum : low_from l.a (drop l.byte-index l.run) ≡ low_from l.low l.run;
  high_sum : high_from l.a l.b (drop l.byte-index l.run) ≡ high_from l.low l.high l.run;
}
