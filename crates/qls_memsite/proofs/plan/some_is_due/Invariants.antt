use Rattle.std.proofs.Common.{◌≡◌, drop}
use Rattle.std.specs.List.{list_any}
use Rattle.qls_memsite.specs.Failures.{is_due}
use Rattle.qls_memsite.proofs.plan.some_is_due.Given as goal

abbrev pub invariant-loop-failure : goal.invariant-loop-failure
invariant-loop-failure l = list_any (is_due l.call) l.failures ≡ list_any (is_due l.call) (drop l.failure-index l.failures)
