use Rattle.std.proofs.Common.{◌≡◌, List, ◌++◌, map, length}
use Rattle.qls_scan.specs.declared.answers.HeadedFile.{HeadedFile}
use Rattle.qls_scan.specs.Found.{with_no_area}
use Rattle.qls_scan.specs.Groups.{IsGrouped}
use Rattle.qls_scan.proofs.groups.groups_of.Given as goal

abbrev pub invariant-loop-file : goal.invariant-loop-file
invariant-loop-file l = (done : List HeadedFile) × (l.fn.heads ≡ l.heads ++ done) × IsGrouped l.groups (map with_no_area done)

abbrev pub decreases-loop-file : goal.decreases-loop-file
decreases-loop-file l = length l.heads
