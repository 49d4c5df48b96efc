use Rattle.qls_model.proofs.TableLaws.{with_xid-insert}
use Rattle.qls_model.proofs.tables.add_xid.Goals as goal

pub returns-clause-added : goal.returns-clause-added
returns-clause-added c = cc (c.in_ok-insert.ensures.items, with_xid-insert c.args.entry c.args.xids.now.items)
