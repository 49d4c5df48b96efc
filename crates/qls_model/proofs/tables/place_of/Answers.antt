use Rattle.qls_model.proofs.TableLaws.{is_there}
use Rattle.qls_model.proofs.tables.place_of.Goals as goal

pub unreachable-requires : goal.unreachable-requires
unreachable-requires c = is_there c.args.name.now c.args.queues.now (cc) c.requires
