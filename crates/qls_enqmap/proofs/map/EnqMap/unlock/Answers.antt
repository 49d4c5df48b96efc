use Rattle.std.proofs.Common.{subst, arith}
use Rattle.qls_model.specs.declared.machine.Status.TheVariants.{Ready}
use Rattle.qls_enqmap.specs.Records.{RidsRise}
use Rattle.qls_enqmap.proofs.Kept.{rids_rise, kept_status, same_count, files_set}
use Rattle.qls_enqmap.proofs.Blocking.{counts_same}
use Rattle.qls_enqmap.proofs.map.EnqMap.unlock.Goals as goal

pub invariant_of-self : goal.invariant_of-self
invariant_of-self c =
    let es = c.self.inside.slots.entries in
    let us = c.set_status.new.slots.entries in
    let s = Ready in
    kept_status es us c.self.inside.blocks c.self.inside.count c.self.inside.start c.self.inside.rising c.self.invariant
    (counts_same c.self.inside.blocks es us c.self.invariant.blocks_counted c.set_status.ensures.before (omega (arith, c.set_status.ensures.long)))
    c.set_status.ensures.rises c.set_status.ensures.occupied c.set_status.ensures.long
    (same_count c.args.rid s es us c.self.inside.count c.self.invariant.counted c.set_status.ensures.set)
    (files_set c.args.rid s es us c.set_status.ensures.set)

pub returns-then-is_ok-clause-rising : goal.returns-then-is_ok-clause-rising
returns-then-is_ok-clause-rising c = rids_rise 0 c.set_status.new.slots.entries c.set_status.ensures.rises

pub returns-else-is_ok-clause-rising : goal.returns-else-is_ok-clause-rising
returns-else-is_ok-clause-rising c = subst (λ hs. RidsRise hs) c.self.view_is (rids_rise 0 c.self.inside.slots.entries c.self.invariant.rises)
