use Rattle.qls_log.proofs.SoundRun.{log_is_whole}
use Rattle.qls_log.proofs.laws.undamaged_log_is_a_whole_run.Goals as goal

pub returns : goal.returns
returns c = record { run = log_is_whole }
