use Rattle.qls_log.proofs.SoundLess.{log_less}
use Rattle.qls_log.proofs.laws.oldest_file_of_a_log_may_go.Goals as goal

pub returns : goal.returns
returns c = record { log = log_less }
