use Rattle.qls_laws.proofs.Reaches as laws
use Rattle.qls_laws.proofs.readings.reads_again.Goals as goal

pub returns : goal.returns
returns c = record { again = laws.reads_again }
