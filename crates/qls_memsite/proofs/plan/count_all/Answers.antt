use Rattle.qls_memsite.specs.Failures.{counted}
use Rattle.qls_memsite.proofs.Lists.{next_mapped}
use Rattle.qls_memsite.proofs.plan.count_all.Goals as goal

pub loop-failure-preserved : goal.loop-failure-preserved
loop-failure-preserved c = next_mapped (counted c.args.call) c.args.failures.now c.loop-failure.failures c.loop-failure.failure-index c.count.new.self _ c.loop-failure-test.true c.loop-failure.invariant c.count.ensures
