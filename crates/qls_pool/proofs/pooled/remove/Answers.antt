use Rattle.std.proofs.Common.{◌∙◌}
use Rattle.qls_pool.proofs.Order.{one_less, same_removed}
use Rattle.qls_pool.proofs.pooled.remove.Goals as goal

pub returns : goal.returns
returns c = record { keys = c.remove.ensures.keys ∙ same_removed c.args.file c.args.files.now.keys; removed = one_less c.args.file _ _ c.remove.ensures.updates }
