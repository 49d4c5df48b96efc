use Rattle.std.proofs.Common.{◌≡◌, ◌++◌, drop}
use Rattle.std.specs.List.{AllByRecursion}
use Rattle.qls_queue.specs.Records.{IsXid, end_records}
use Rattle.qls_queue.proofs.ends.batch_of_ends.Given as goal

-- those so far, and those to come
abbrev pub invariant-loop-end : goal.invariant-loop-end
invariant-loop-end l = record {
  all : l.batch ++ end_records l.last (drop l.end-index l.ends) ≡ end_records l.last l.ends;
  xids : AllByRecursion (λ e. IsXid e.xid) (drop l.end-index l.ends);
}
