use Rattle.std.proofs.Common.{◌≡◌, drop}
use Rattle.qls_queue.specs.Records.{held_ended}
use Rattle.qls_queue.proofs.ends.end_all.Given as goal

abbrev pub invariant-loop-end : goal.invariant-loop-end
invariant-loop-end l = held_ended (drop l.end-index l.ends) l.tables.held ≡ held_ended l.ends l.initial.tables.held
