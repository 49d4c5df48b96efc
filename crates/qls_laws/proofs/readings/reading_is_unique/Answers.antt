use Rattle.qls_laws.proofs.Unique.{epoch_is_reading, epoch_only_reading}
use Rattle.qls_laws.proofs.Ends.{record_in-epoch_end}
use Rattle.qls_laws.proofs.readings.reading_is_unique.Goals as goal

pub returns-clause-reading : goal.returns-clause-reading
returns-clause-reading c = epoch_is_reading

pub returns-clause-only : goal.returns-clause-only
returns-clause-only c = epoch_only_reading

pub returns-clause-end : goal.returns-clause-end
returns-clause-end c = record_in-epoch_end
