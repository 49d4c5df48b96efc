use Rattle.qls_log.proofs.SoundDisk.{logs_make_a_whole_disk}
use Rattle.qls_log.proofs.laws.undamaged_logs_make_an_undamaged_disk.Goals as goal

pub returns : goal.returns
returns c = record { whole = logs_make_a_whole_disk }
