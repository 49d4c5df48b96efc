use Rattle.std.proofs.Common.{length}
use Rattle.qls_memsite.specs.Seen.{IdsDiffer}
use Rattle.qls_store.proofs.opening_tests.differ.Given as goal

abbrev pub invariant-loop-left : goal.invariant-loop-left
invariant-loop-left l = IdsDiffer l.left → IdsDiffer l.fn.files

abbrev pub decreases-loop-left : goal.decreases-loop-left
decreases-loop-left l = length l.left
