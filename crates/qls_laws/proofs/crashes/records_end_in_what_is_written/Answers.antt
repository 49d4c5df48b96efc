use Rattle.qls_laws.proofs.MidBatch.{within_written}
use Rattle.qls_laws.proofs.crashes.records_end_in_what_is_written.Goals as goal

pub returns : goal.returns
returns c = record { within = within_written }
