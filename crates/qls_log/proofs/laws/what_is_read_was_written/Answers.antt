use Rattle.qls_log.proofs.ReadSectors.{read_is_written}
use Rattle.qls_log.proofs.laws.what_is_read_was_written.Goals as goal

pub returns : goal.returns
returns c = record { written = read_is_written }
