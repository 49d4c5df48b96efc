use Rattle.std.proofs.Common.{arith}
use Rattle.qls_reader.proofs.Places.{settle_on}
use Rattle.qls_reader.proofs.spot.settled.Goals as goal

pub loop-at-preserved : goal.loop-at-preserved
loop-at-preserved c =
    let more = settle_on c.args.files.now c.loop-at.at.file c.loop-at.at.within c.data_length-length.result _ c.loop-at-test.true c.data_length-length.ensures.exact (omega arith) c.loop-at.invariant.range c.loop-at.invariant.same in
    record { within = omega arith; range = more.0; same = more.1 }
