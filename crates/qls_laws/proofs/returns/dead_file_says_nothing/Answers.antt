use Rattle.qls_laws.proofs.DeadQueue.{dead_queue}
use Rattle.qls_laws.proofs.DeadList.{dead_list}
use Rattle.qls_laws.proofs.returns.dead_file_says_nothing.Goals as goal

pub returns : goal.returns
returns c = record { queue = dead_queue; list = dead_list }
