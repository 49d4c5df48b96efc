use Rattle.std.proofs.Common.{◌≡◌, ◌++◌, map, drop}
use Rattle.qls_blocks.specs.Batching.{laid_from}
use Rattle.qls_log.specs.Spots.{spot_of}
use Rattle.qls_log.proofs.spot.spots.Given as goal

-- those so far, and those to come
abbrev pub invariant-loop-at : goal.invariant-loop-at
invariant-loop-at l = l.spots ++ map (spot_of l.capacity l.present) (laid_from l.place (drop l.at l.batch)) ≡ map (spot_of l.capacity l.present) (laid_from l.used l.batch)
