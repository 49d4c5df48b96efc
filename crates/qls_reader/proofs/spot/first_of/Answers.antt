use Rattle.std.proofs.Common.{arith, rules}
use Rattle.qls_reader.proofs.Places.{pass_on}
use Rattle.qls_reader.proofs.spot.first_of.Goals as goal

pub loop-file-preserved : goal.loop-file-preserved
loop-file-preserved c = record { within = omega arith; place = pass_on c.args.files.now c.loop-file.file _ c.loop-file-test.true (search rules) c.loop-file.invariant.place }
