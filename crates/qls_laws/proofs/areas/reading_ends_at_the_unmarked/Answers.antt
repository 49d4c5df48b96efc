use Rattle.qls_laws.proofs.Unmarked.{reading_ends, file_reading}
use Rattle.qls_laws.proofs.areas.reading_ends_at_the_unmarked.Goals as goal

pub returns-clause-epoch : goal.returns-clause-epoch
returns-clause-epoch c = reading_ends

pub returns-clause-file : goal.returns-clause-file
returns-clause-file c = file_reading
