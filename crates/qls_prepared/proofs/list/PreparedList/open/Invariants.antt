use Rattle.std.proofs.Common.{◌≡◌, take, drop}
use Rattle.qls_prepared.specs.Lists.{rid_of_log}
use Rattle.qls_prepared.proofs.Opened.{GoesOn}
use Rattle.qls_prepared.proofs.list.PreparedList.open.Given as goal

abbrev pub invariant-loop-got : goal.invariant-loop-got
invariant-loop-got l = record { goes : GoesOn (rid_of_log l.fn.log) (take l.got-index l.reads) (drop l.got-index l.reads) l.entries; log : l.log ≡ l.fn.log }
