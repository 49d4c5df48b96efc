use Rattle.std.proofs.Common.{◌≡◌, ◌++◌, length}
use Rattle.qls_enqmap.specs.Records.{RidsRise}
use Rattle.qls_model.specs.Ends.{messages_left}
use Rattle.qls_replay.specs.Held.{messages_of}
use Rattle.qls_look.specs.Seen.{verdict_in}
use Rattle.qls_look.proofs.settle.messages_in.Given as goal

abbrev pub invariant-loop-first : goal.invariant-loop-first
invariant-loop-first l = record {
  rising : RidsRise l.held;
  left : l.messages ++ messages_left (verdict_in l.states) (messages_of l.held) ≡ messages_left (verdict_in l.states) (messages_of l.fn.held);
}

abbrev pub decreases-loop-first : goal.decreases-loop-first
decreases-loop-first l = length l.held
