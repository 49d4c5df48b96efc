use Rattle.std.proofs.Common.{false, ◌∷◌, []}
use Rattle.qls_filehdr.specs.declared.JournalKind.TheVariants as journal
use Rattle.qls_prepared.specs.Lists.{rid_of}
use Rattle.qls_prepared.specs.Records.{end_of}
use Rattle.qls_store.proofs.Batches.{end_of_size, told_stops_one}
use Rattle.qls_store.proofs.Together.{same_released}
use Rattle.qls_store.proofs.ending.end_in_list.Goals as goal

pub returns-clause-called : goal.returns-clause-called
returns-clause-called g c = record {
  told = c.end.ensures.told;
  drawn = c.end.ensures.drawn;
  leaves = c.end.ensures.leaves;
  writes = c.end.ensures.writes;
  homes = c.end.ensures.homes;
  released = same_released c.args.journals c.end.result c.end.ensures.queues;
  pools = c.end.ensures.pools;
  causes = c.end.ensures.causes;
}

pub returns-clause-spent : goal.returns-clause-spent
returns-clause-spent g c = λ e.
    told_stops_one c.args.journals journal.List [] (end_of (rid_of c.args.journals.list) c.args.xid ∷ []) (end_of_size (rid_of c.args.journals.list) c.args.xid c.requires.xid) false _ _ (c.end.ensures.spent e)
