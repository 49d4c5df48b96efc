use Rattle.qls_pool.proofs.FirstTaken.{orderly_takes}
use Rattle.qls_pool.proofs.laws.orderly_moments_take_in_order.Goals as goal

pub returns : goal.returns
returns c = record { taken = orderly_takes }
