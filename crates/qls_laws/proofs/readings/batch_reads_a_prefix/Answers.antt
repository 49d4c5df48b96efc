use Rattle.qls_laws.proofs.MidBatch.{mid_batch}
use Rattle.qls_laws.proofs.readings.batch_reads_a_prefix.Goals as goal

pub returns : goal.returns
returns c = record { prefix = mid_batch }
