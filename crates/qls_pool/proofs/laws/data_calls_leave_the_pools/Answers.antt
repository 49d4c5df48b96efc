use Rattle.qls_pool.proofs.FirstTaken.{write_pool, sync_pool, write_ids, sync_ids}
use Rattle.qls_pool.proofs.laws.data_calls_leave_the_pools.Goals as goal

pub returns-clause-write : goal.returns-clause-write
returns-clause-write c = write_pool

pub returns-clause-sync : goal.returns-clause-sync
returns-clause-sync c = sync_pool

pub returns-clause-write_ids : goal.returns-clause-write_ids
returns-clause-write_ids c = write_ids

pub returns-clause-sync_ids : goal.returns-clause-sync_ids
returns-clause-sync_ids c = sync_ids
