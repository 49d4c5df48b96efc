use Rattle.std.proofs.Common.{◌-◌}
use Rattle.qls_log.proofs.Sizes.{blocks_left}
use Rattle.qls_log.proofs.write.used_behind.Goals as goal

pub returns-else-fresh-eq0-clause-blocks : goal.returns-else-fresh-eq0-clause-blocks
returns-else-fresh-eq0-clause-blocks c =
    blocks_left c.args.length c.args.capacity c.args.used (c.args.fresh - 1) c.requires.length.1 c.requires.capacity.1 c.requires.used.0
