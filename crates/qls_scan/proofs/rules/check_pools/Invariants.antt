use Rattle.std.proofs.Common.{◌≡◌, drop, not}
use Rattle.std.specs.List.{filter}
use Rattle.qls_shape.specs.Claims.{each}
use Rattle.qls_meaning.specs.Journals.{is_in_use}
use Rattle.qls_scan.specs.Listed.{listed_pool_claim}
use Rattle.qls_scan.proofs.rules.check_pools.Given as goal

abbrev pub invariant-loop-file : goal.invariant-loop-file
invariant-loop-file l = each listed_pool_claim (filter (λ f. not (is_in_use f.place)) l.files) ≡ each listed_pool_claim (filter (λ f. not (is_in_use f.place)) (drop l.file-index l.files))
