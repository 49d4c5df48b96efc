use Rattle.std.proofs.Common.{◌≡◌, ◌++◌, length}
use Rattle.std.specs.BTreeMap.{values}
use Rattle.qls_scan.proofs.groups.in_order.Given as goal

abbrev pub invariant-loop-file : goal.invariant-loop-file
invariant-loop-file l = l.ordered ++ values l.files ≡ values l.fn.files

abbrev pub decreases-loop-file : goal.decreases-loop-file
decreases-loop-file l = length l.files.entries
