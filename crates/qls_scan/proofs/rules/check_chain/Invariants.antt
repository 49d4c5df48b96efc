use Rattle.std.proofs.Common.{◌≡◌, ◌∷◌, drop, map}
use Rattle.qls_meaning.specs.Damage.{chain_claims}
use Rattle.qls_scan.specs.Found.{with_no_area}
use Rattle.qls_scan.proofs.rules.check_chain.Given as goal

abbrev pub invariant-loop-file : goal.invariant-loop-file
invariant-loop-file l = chain_claims (map with_no_area l.files) ≡ chain_claims (with_no_area l.before ∷ map with_no_area (drop l.file-index l.rest))
