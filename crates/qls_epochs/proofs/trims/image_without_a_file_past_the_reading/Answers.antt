use Rattle.qls_epochs.proofs.TrimmedImage.{trimmed_back}
use Rattle.qls_epochs.proofs.trims.image_without_a_file_past_the_reading.Goals as goal

pub returns : goal.returns
returns c = record { back = trimmed_back }
