use Rattle.std.proofs.Common.{◌≡◌, ◌++◌, drop, not}
use Rattle.std.specs.List.{filter}
use Rattle.qls_meaning.specs.Journals.{is_in_use}
use Rattle.qls_scan.proofs.scanning.empties_of.Given as goal

abbrev pub invariant-loop-file : goal.invariant-loop-file
invariant-loop-file l = l.empties ++ filter (λ f. not (is_in_use f.place)) (drop l.file-index l.files) ≡ filter (λ f. not (is_in_use f.place)) l.files
