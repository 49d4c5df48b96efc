use Rattle.std.proofs.Common.{◌≡◌, length, map, take}
use Rattle.qls_journals.specs.State.{queues_of}
use Rattle.qls_store.specs.Settling.{doubt_in}
use Rattle.qls_store.proofs.doubts.in_doubt.Given as goal

abbrev pub invariant-loop-at : goal.invariant-loop-at
invariant-loop-at l = record {
  count : l.count ≡ length l.journals.queues;
  so_far : l.transactions ≡ map (doubt_in (take l.at (queues_of l.journals))) l.journals.list.entries;
}
