use Rattle.qls_model.proofs.MachineLaws.{settle-prepared}
use Rattle.qls_model.proofs.laws.prepared_is_settled.Goals as goal

pub returns : goal.returns
returns c = settle-prepared
