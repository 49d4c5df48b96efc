use Rattle.qls_epochs.proofs.Dead.{dead_queue, dead_list}
use Rattle.qls_epochs.proofs.returns.dead_file_says_nothing.Goals as goal

pub returns : goal.returns
returns c = record { queue = dead_queue; list = dead_list }
