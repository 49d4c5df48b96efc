use Rattle.std.proofs.Common.{◌≡◌, ◌-◌, ◌++◌, drop, length}
use Rattle.qls_replay.specs.Held.{messages_of}
use Rattle.qls_queue.proofs.heads.copy_messages.Given as goal

-- those so far, and those to come
abbrev pub invariant-loop-one : goal.invariant-loop-one
invariant-loop-one l = l.messages ++ messages_of (drop (length l.messages) l.held) ≡ messages_of l.held

abbrev pub decreases-loop-one : goal.decreases-loop-one
decreases-loop-one l = length l.held - length l.messages
