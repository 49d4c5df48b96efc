use Rattle.std.proofs.Common.{◌+◌}
use Rattle.qls_log.specs.Trimming.{without_last, last_epoch}
use Rattle.qls_log.proofs.trim_tests.trim.Goals as goal

pub trim-requires-clause-row : goal.trim-requires-clause-row
trim-requires-clause-row c = c.in_ok-files.ensures.row (last_epoch (without_last c.args.past c.in_ok-files.files.items) + 1)
