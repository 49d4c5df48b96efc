use Rattle.qls_model.proofs.MachineLaws.{settle-settle}
use Rattle.qls_model.proofs.laws.settling_twice_is_once.Goals as goal

pub returns : goal.returns
returns c = settle-settle
