use Rattle.qls_epochs.proofs.DeadImage.{dead_back}
use Rattle.qls_epochs.proofs.returns.image_without_a_dead_file.Goals as goal

pub returns : goal.returns
returns c = record { back = dead_back }
