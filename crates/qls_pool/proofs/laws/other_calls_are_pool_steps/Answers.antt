use Rattle.qls_pool.proofs.FirstTaken.{same_is_step, write_is_step, front_is_step, sync_is_step}
use Rattle.qls_pool.proofs.laws.other_calls_are_pool_steps.Goals as goal

pub returns-clause-same : goal.returns-clause-same
returns-clause-same c = same_is_step

pub returns-clause-write : goal.returns-clause-write
returns-clause-write c = write_is_step

pub returns-clause-front : goal.returns-clause-front
returns-clause-front c = front_is_step

pub returns-clause-sync : goal.returns-clause-sync
returns-clause-sync c = sync_is_step
