use Rattle.qls_enqmap.specs.Records.{AllBelow}
use Rattle.qls_enqmap.proofs.tests.filled.Given as goal

abbrev pub invariant-loop-rid : goal.invariant-loop-rid
invariant-loop-rid l = AllBelow l.rid l.map
