use Rattle.std.proofs.Common.{◌-◌, length, rules, arith}
use Rattle.qls_log.proofs.Releases.{counted_all}
use Rattle.qls_log.proofs.release.count_before.Goals as goal

pub returns-clause-exact : goal.returns-clause-exact
returns-clause-exact c =
    counted_all c.args.number c.loop-at.at (length c.args.files.now - 1) c.args.files.now (omega (arith, c.requires.some)) (search rules) c.loop-at.invariant
