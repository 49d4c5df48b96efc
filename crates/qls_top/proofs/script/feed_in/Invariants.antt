use Rattle.std.proofs.Common.{◌≡◌, false, take}
use Rattle.qls_top.specs.Cutting.{has_feed}
use Rattle.qls_top.proofs.script.feed_in.Given as goal

abbrev pub invariant-loop-at : goal.invariant-loop-at
invariant-loop-at l = has_feed (take l.at l.bytes) ≡ false
