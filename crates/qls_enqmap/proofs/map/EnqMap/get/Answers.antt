use Rattle.std.proofs.Common.{subst}
use Rattle.qls_enqmap.specs.Records.{RidsRise}
use Rattle.qls_enqmap.proofs.Kept.{rids_rise}
use Rattle.qls_enqmap.proofs.map.EnqMap.get.Goals as goal

pub returns-clause-rising : goal.returns-clause-rising
returns-clause-rising c = subst (λ hs. RidsRise hs) c.self.view_is (rids_rise 0 c.self.inside.slots.entries c.self.invariant.rises)
