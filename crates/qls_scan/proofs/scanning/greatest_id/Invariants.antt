use Rattle.std.proofs.Common.{◌≡◌, drop, map, max}
use Rattle.qls_scan.specs.Found.{greatest}
use Rattle.qls_scan.proofs.scanning.greatest_id.Given as goal

abbrev pub invariant-loop-file : goal.invariant-loop-file
invariant-loop-file l = greatest (map (λ f. f.id) l.files) ≡ max l.greatest (greatest (map (λ f. f.id) (drop l.file-index l.files)))
