use Rattle.std.proofs.Common.{◌≡◌, ◌++◌, arith}
use Rattle.std.proofs.lemmas.Grind.{common_steps}
use Rattle.qls_shape.proofs.checksum.sums.Goals as goal
use Rattle.qls_shape.proofs.AdlerLaws.{skip_low, skip_high}

pub loop-rest-preserved : goal.loop-rest-preserved
loop-rest-preserved c =
    let s = c.loop-rest.rest.now in
    let front = c.split_at.result.0.now in
    let back = c.split_at.result.1.now in
    let parts : s ≡ front ++ back = grind (arith, common_steps, c.split_at.ensures) in
    record {
      low = grind (arith, c.sums_of_run.ensures);
      high = grind (arith, c.sums_of_run.ensures);
      low_sum = skip_low s front back c.loop-rest.a c.sums_of_run.result.0 65521 _ parts c.sums_of_run.ensures.low c.loop-rest.invariant.low_sum;
      high_sum = skip_high s front back c.loop-rest.a c.loop-rest.b c.sums_of_run.result.0 c.sums_of_run.result.1 65521 _ parts c.sums_of_run.ensures.low c.sums_of_run.ensures.high c.loop-rest.invariant.high_sum;
    }
