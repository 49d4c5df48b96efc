use Rattle.std.proofs.Common.{◌≡◌, ◌++◌, map, take, drop}
use Rattle.qls_memsite.specs.Failures.{counted}
use Rattle.qls_memsite.proofs.plan.count_all.Given as goal

abbrev pub invariant-loop-failure : goal.invariant-loop-failure
invariant-loop-failure l = l.failures ≡ map (counted l.call) (take l.failure-index l.initial.failures) ++ drop l.failure-index l.initial.failures
