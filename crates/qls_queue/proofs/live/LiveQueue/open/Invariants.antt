use Rattle.std.proofs.Common.{◌≡◌, [], map, drop}
use Rattle.std.specs.List.{AllByRecursion}
use Rattle.qls_meaning.specs.Reading.{read_of}
use Rattle.qls_replay.specs.Held.{held_after_all}
use Rattle.qls_queue.specs.Records.{HasXid}
use Rattle.qls_queue.proofs.Opened.{GoesOn}
use Rattle.qls_queue.proofs.live.LiveQueue.open.Given as goal

abbrev pub invariant-loop-got : goal.invariant-loop-got
invariant-loop-got l = record {
  held : held_after_all (map read_of (drop l.got-index l.reads)) l.tables.held ≡ held_after_all (map read_of l.reads) [];
  goes : GoesOn l.fn.log.rid l.tables.held (drop l.got-index l.reads);
  xids : AllByRecursion (λ h. HasXid h.status) l.tables.held;
}
