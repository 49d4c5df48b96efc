use Rattle.qls_pool.proofs.FirstTaken.{same_takes_none, write_takes_none, sync_takes_none, create_takes_none, return_takes_none}
use Rattle.qls_pool.proofs.laws.other_calls_take_no_file.Goals as goal

pub returns-clause-same : goal.returns-clause-same
returns-clause-same c = same_takes_none

pub returns-clause-write : goal.returns-clause-write
returns-clause-write c = write_takes_none

pub returns-clause-sync : goal.returns-clause-sync
returns-clause-sync c = sync_takes_none

pub returns-clause-create : goal.returns-clause-create
returns-clause-create c = create_takes_none

pub returns-clause-back : goal.returns-clause-back
returns-clause-back c = return_takes_none
