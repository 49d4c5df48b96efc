use Rattle.std.proofs.Common.{◌≡◌, ◌++◌, take, drop}
use Rattle.qls_log.specs.Returning.{before_number}
use Rattle.qls_log.proofs.release.count_before.Given as goal

abbrev pub invariant-loop-at : goal.invariant-loop-at
invariant-loop-at l = take l.at l.files ++ before_number l.number (drop l.at l.files) ≡ before_number l.number l.files
