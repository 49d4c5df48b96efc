use Rattle.std.proofs.Common.{◌≡◌, [], map, length}
use Rattle.std.specs.Vec.Iter.{into_iter_items, into_iter_len}
use Rattle.qls_meaning.specs.Reading.{read_of}
use Rattle.qls_replay.specs.Held.{held_after_all}
use Rattle.qls_look.proofs.Queues.{GoesOn}
use Rattle.qls_look.proofs.queue.queue_left.Given as goal

abbrev pub invariant-loop-got : goal.invariant-loop-got
invariant-loop-got l = record {
  len : into_iter_len l.got-iterator ≡ length (into_iter_items l.got-iterator);
  held : held_after_all (map read_of (into_iter_items l.got-iterator)) l.replay.held ≡ held_after_all (map read_of l.fn.reads) [];
  goes : GoesOn l.fn.log.rid l.replay.held (into_iter_items l.got-iterator);
}
