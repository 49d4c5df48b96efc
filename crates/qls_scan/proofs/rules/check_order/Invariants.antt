use Rattle.std.proofs.Common.{drop}
use Rattle.qls_scan.specs.Listed.{ListedAbove, ListedRise}
use Rattle.qls_scan.proofs.rules.check_order.Given as goal

abbrev pub invariant-loop-file : goal.invariant-loop-file
invariant-loop-file l = record {
  up : ListedAbove l.last (drop l.file-index l.files) × ListedRise (drop l.file-index l.files) → ListedRise l.files;
  down : ListedRise l.files → ListedAbove l.last (drop l.file-index l.files) × ListedRise (drop l.file-index l.files);
}
