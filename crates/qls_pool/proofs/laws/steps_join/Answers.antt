use Rattle.qls_pool.proofs.Steps.{ends_then, ends_adds}
use Rattle.qls_pool.proofs.laws.steps_join.Goals as goal

pub returns-clause-done : goal.returns-clause-done
returns-clause-done c = ends_then

pub returns-clause-failed : goal.returns-clause-failed
returns-clause-failed c = ends_adds
