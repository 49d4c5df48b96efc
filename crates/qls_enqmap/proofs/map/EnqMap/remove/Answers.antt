use Rattle.std.proofs.Common.{◌-◌, subst, arith}
use Rattle.qls_enqmap.specs.Records.{RidsRise}
use Rattle.qls_enqmap.proofs.Kept.{rids_rise, kept_less}
use Rattle.qls_enqmap.proofs.Blocking.{slot_within}
use Rattle.qls_enqmap.proofs.map.EnqMap.remove.Goals as goal

pub invariant_of-self : goal.invariant_of-self
invariant_of-self c =
    let es = c.self.inside.slots.entries in
    let us = c.take_out.new.slots.entries in
    let vs = c.tidy-self-inside.new.slots.entries in
    let count = c.self.inside.count in
    let slot = c.in-Some.ensures.slot in
    let b = c.count_less.ensures.counted es us c.self.invariant.blocks_counted (slot_within es c.in-Some.place c.args.rid slot.0 slot.1) c.take_out.ensures.long
    (c.in-Some-take_out.ensures.loses c.in-Some.place slot) in
    kept_less c.args.rid es us vs c.self.inside.blocks c.tidy-self-inside.new.blocks count (count - 1) c.self.inside.start c.tidy-self-inside.result c.self.inside.rising c.self.invariant
    (c.tidy-self-inside.ensures.counted b)
    c.take_out.ensures.left c.in-Some-take_out.ensures.fewer (omega (arith, c.self.invariant.counted, c.in-Some-take_out.ensures.fewer))
    c.tidy-self-inside.ensures.held (c.tidy-self-inside.ensures.rises c.take_out.ensures.rises) c.tidy-self-inside.ensures.within c.tidy-self-inside.ensures.holes c.tidy-self-inside.ensures.first c.tidy-self-inside.ensures.last

pub returns-in-Some-take_out-clause-rising : goal.returns-in-Some-take_out-clause-rising
returns-in-Some-take_out-clause-rising c = rids_rise 0 c.tidy-self-inside.new.slots.entries (c.tidy-self-inside.ensures.rises c.take_out.ensures.rises)

pub returns-in-None-clause-rising : goal.returns-in-None-clause-rising
returns-in-None-clause-rising c = rids_rise 0 c.take_out.new.slots.entries c.take_out.ensures.rises

pub returns-in_default-clause-rising : goal.returns-in_default-clause-rising
returns-in_default-clause-rising c = subst (λ hs. RidsRise hs) c.self.view_is (rids_rise 0 c.self.inside.slots.entries c.self.invariant.rises)
