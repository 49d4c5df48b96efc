use Rattle.qls_pool.proofs.Others.{linked_at_rest, data_is_written}
use Rattle.qls_pool.proofs.laws.data_writes_leave_a_file.Goals as goal

pub returns-clause-linked : goal.returns-clause-linked
returns-clause-linked c = linked_at_rest

pub returns-clause-written : goal.returns-clause-written
returns-clause-written c = data_is_written
