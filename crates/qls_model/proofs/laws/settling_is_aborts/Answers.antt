use Rattle.qls_model.proofs.AbortLaws.{aborts-settle}
use Rattle.qls_model.proofs.laws.settling_is_aborts.Goals as goal

pub returns : goal.returns
returns c = aborts-settle
