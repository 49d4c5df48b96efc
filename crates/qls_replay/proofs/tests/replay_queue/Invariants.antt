use Rattle.qls_enqmap.specs.Records.{AllBelow}
use Rattle.qls_replay.proofs.tests.replay_queue.Given as goal

abbrev pub invariant-loop-place : goal.invariant-loop-place
invariant-loop-place l = AllBelow l.place l.replay.held
