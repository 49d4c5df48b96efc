use Rattle.std.proofs.Common.{◌≡◌, drop}
use Rattle.qls_shape.specs.Claims.{each}
use Rattle.qls_scan.specs.Listed.{listed_id_claim}
use Rattle.qls_scan.proofs.rules.check_ids.Given as goal

abbrev pub invariant-loop-file : goal.invariant-loop-file
invariant-loop-file l = each listed_id_claim l.files ≡ each listed_id_claim (drop l.file-index l.files)
