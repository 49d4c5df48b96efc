use Rattle.std.proofs.Common.{None}
use Rattle.qls_replay.proofs.Placing.{taken_out, as_bytes}
use Rattle.qls_replay.proofs.list.end.Goals as goal

pub returns-clause-ended : goal.returns-clause-ended
returns-clause-ended c =
    let ps = c.args.entries.now.entries in
    let qs = c.swap_remove-ended.new.self.entries in
    taken_out c.args.xid.now ps qs (as_bytes c.args.xid.now None ps qs c.swap_remove-ended.ensures.updates.0)
