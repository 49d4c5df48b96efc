use Rattle.std.proofs.Common.{◌≡◌, ◌%◌, ◌<◌, length}
use Rattle.qls_shape.proofs.checksum.sums.Given as goal
use Rattle.qls_shape.specs.Adler.{low_from, high_from}

abbrev pub invariant-loop-rest : goal.invariant-loop-rest
invariant-loop-rest l = record {
  low : l.a < 65521;
  high : l.b < 65521;
  low_sum : low_from l.a l.rest % 65521 ≡ low_from l.low l.bytes % 65521;
  high_sum : high_from l.a l.b l.rest % 65521 ≡ high_from l.low l.high l.bytes % 65521;
}

abbrev pub decreases-loop-rest : goal.decreases-loop-rest
decreases-loop-rest l = length l.rest
