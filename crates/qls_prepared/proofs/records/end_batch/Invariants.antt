use Rattle.std.proofs.Common.{◌≡◌, ◌++◌, drop}
use Rattle.std.specs.List.{AllByRecursion}
use Rattle.qls_prepared.specs.Lists.{IsXid}
use Rattle.qls_prepared.specs.Records.{end_records}
use Rattle.qls_prepared.proofs.records.end_batch.Given as goal

-- those so far, and those to come
abbrev pub invariant-loop-xid : goal.invariant-loop-xid
invariant-loop-xid l = record {
  all : l.batch ++ end_records l.rid (drop l.xid-index l.xids) ≡ end_records l.rid l.xids;
  xids : AllByRecursion IsXid (drop l.xid-index l.xids);
}
