use Rattle.qls_log.proofs.RestingFiles.{stays_written}
use Rattle.qls_log.proofs.laws.files_that_stay_stay_written.Goals as goal

pub returns : goal.returns
returns c = record { stays = stays_written }
