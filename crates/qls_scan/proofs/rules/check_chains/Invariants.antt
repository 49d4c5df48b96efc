use Rattle.std.proofs.Common.{◌≡◌, drop, map}
use Rattle.qls_shape.specs.Claims.{each}
use Rattle.qls_meaning.specs.Damage.{chain_claims}
use Rattle.qls_scan.specs.Found.{with_no_area}
use Rattle.qls_scan.proofs.rules.check_chains.Given as goal

abbrev pub invariant-loop-journal : goal.invariant-loop-journal
invariant-loop-journal l = each (λ j. chain_claims (map with_no_area j.files)) l.journals ≡ each (λ j. chain_claims (map with_no_area j.files)) (drop l.journal-index l.journals)
