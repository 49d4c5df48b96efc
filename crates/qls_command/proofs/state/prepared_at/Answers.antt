use Rattle.std.proofs.Common.{sym, ◌∙◌}
use Rattle.qls_command.proofs.Listing.{doubts-item}
use Rattle.qls_command.proofs.state.prepared_at.Goals as goal

pub returns-in-Prepared : goal.returns-in-Prepared
returns-in-Prepared c =
    let entry = doubts-item c.args.state.now.xids c.args.at c.unwrap-xid.result.0 c.unwrap-xid.result.1 (sym c.unwrap-xid.ensures ∙ c.xid_at.ensures.xid) in
    record { prepared = rw c.in-Prepared.is at entry }

pub returns-in-Open : goal.returns-in-Open
returns-in-Open c =
    let entry = doubts-item c.args.state.now.xids c.args.at c.unwrap-xid.result.0 c.unwrap-xid.result.1 (sym c.unwrap-xid.ensures ∙ c.xid_at.ensures.xid) in
    record { prepared = rw c.in-Open.is at entry }
