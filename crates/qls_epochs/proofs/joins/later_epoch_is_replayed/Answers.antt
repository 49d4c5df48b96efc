use Rattle.qls_epochs.proofs.Joined as laws
use Rattle.qls_epochs.proofs.joins.later_epoch_is_replayed.Goals as goal

pub returns : goal.returns
returns c = record { queue = laws.joined_queue; list = laws.joined_entries }
