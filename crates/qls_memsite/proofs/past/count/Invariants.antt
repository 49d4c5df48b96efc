use Rattle.std.proofs.Common.{◌≡◌, ◌+◌, ◌*◌, ◌≤◌, length, take}
use Rattle.qls_memsite.specs.Log.{begun, content_after}
use Rattle.qls_memsite.proofs.past.count.Given as goal

abbrev pub invariant-loop-call : goal.invariant-loop-call
invariant-loop-call l = record {
  count : l.count ≡ length (content_after (take l.call-index l.calls) (begun l.start)).moments;
  small : l.count ≤ 1 + 2 * l.call-index;
}
