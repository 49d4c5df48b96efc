use Rattle.qls_log.proofs.SoundRun.{log_whole}
use Rattle.qls_log.proofs.laws.undamaged_log_is_whole.Goals as goal

pub returns : goal.returns
returns c = record { whole = log_whole }
