use Rattle.qls_log.proofs.Passing.{clean_is_clear}
use Rattle.qls_log.proofs.laws.clean_areas_stay_clear.Goals as goal

pub returns : goal.returns
returns c = record { clear = clean_is_clear }
