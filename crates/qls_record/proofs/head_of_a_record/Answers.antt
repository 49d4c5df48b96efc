use Rattle.qls_record.proofs.HeadTrip.{head_of_record_at, record_fits}
use Rattle.qls_record.proofs.head_of_a_record.Goals as goal

pub returns-clause-stands : goal.returns-clause-stands
returns-clause-stands c = head_of_record_at

pub returns-clause-fits : goal.returns-clause-fits
returns-clause-fits c = record_fits
