use Rattle.std.proofs.Common.{◌≡◌, ◌++◌, ◌∷◌, [], ap, sym, subst, ◌∙◌, refl, arith, length, Some, length-append}
use Rattle.qls_enqmap.specs.Records.{AllBelow, RidsRise}
use Rattle.qls_enqmap.specs.Slots.{held_in, Gains}
use Rattle.qls_enqmap.proofs.Kept.{rids_rise, rids_below, kept_more, held_append, few}
use Rattle.qls_enqmap.proofs.Blocking.{gains_last}
use Rattle.qls_enqmap.proofs.map.EnqMap.insert.Goals as goal

pub put_last-requires : goal.put_last-requires
put_last-requires c = record {
  above = rids_below 0 c.args.held.rid c.self.inside.slots.entries c.self.invariant.rises c.self.invariant.last
      (subst (λ hs. AllBelow c.args.held.rid hs) (sym c.self.view_is) c.requires.above);
}

pub overflow_add-self : goal.overflow_add-self
overflow_add-self c = omega (arith, few c.self.inside.slots.entries, c.self.invariant.counted, c.still_rising-rising.ensures.small)

pub invariant_of-self-2 : goal.invariant_of-self-2
invariant_of-self-2 c =
    kept_more c.self.inside.slots.entries c.put_last.new.slots.entries c.self.inside.blocks c.count_more.new.blocks c.args.held c.self.inside.count c.self.inside.start c.self.inside.rising c.still_rising-rising.result
    c.self.invariant
    (rids_below 0 c.args.held.rid c.self.inside.slots.entries c.self.invariant.rises c.self.invariant.last (subst (λ hs. AllBelow c.args.held.rid hs) (sym c.self.view_is) c.requires.above))
    c.in_ok-put_last.ensures.put
    (let es = c.self.inside.slots.entries in
    let us = c.put_last.new.slots.entries in
    let l : length es ≡ c.len-place.result = sym c.len-place.ensures.len in
    let n = ap length c.in_ok-put_last.ensures.put in
    c.count_more.ensures.counted es us (c.make_room.ensures.counted es l c.self.invariant.blocks_counted) (c.in_ok-make_room.ensures.room es l c.self.invariant.blocks_counted)
    (omega (arith, l, c.len-place.ensures.small)) (omega (arith, n, l, length-append es ((c.args.held.rid, Some c.args.held) ∷ [])))
    (subst (λ p. Gains es us p) l (gains_last es us c.args.held.rid c.args.held c.in_ok-put_last.ensures.put))) (λ t. c.still_rising-rising.ensures.rising t c.args.held refl)

pub returns-clause-inserted : goal.returns-clause-inserted
returns-clause-inserted c =
    ap held_in c.in_ok-put_last.ensures.put ∙ held_append c.self.inside.slots.entries c.args.held ∙ ap (λ hs. hs ++ c.args.held ∷ []) c.self.view_is

pub returns-clause-rising : goal.returns-clause-rising
returns-clause-rising c =
    rids_rise 0 c.put_last.new.slots.entries (kept_more c.self.inside.slots.entries c.put_last.new.slots.entries c.self.inside.blocks c.count_more.new.blocks c.args.held c.self.inside.count c.self.inside.start c.self.inside.rising c.still_rising-rising.result
    c.self.invariant
    (rids_below 0 c.args.held.rid c.self.inside.slots.entries c.self.invariant.rises c.self.invariant.last (subst (λ hs. AllBelow c.args.held.rid hs) (sym c.self.view_is) c.requires.above))
    c.in_ok-put_last.ensures.put
    (let es = c.self.inside.slots.entries in
    let us = c.put_last.new.slots.entries in
    let l : length es ≡ c.len-place.result = sym c.len-place.ensures.len in
    let n = ap length c.in_ok-put_last.ensures.put in
    c.count_more.ensures.counted es us (c.make_room.ensures.counted es l c.self.invariant.blocks_counted) (c.in_ok-make_room.ensures.room es l c.self.invariant.blocks_counted)
    (omega (arith, l, c.len-place.ensures.small)) (omega (arith, n, l, length-append es ((c.args.held.rid, Some c.args.held) ∷ [])))
    (subst (λ p. Gains es us p) l (gains_last es us c.args.held.rid c.args.held c.in_ok-put_last.ensures.put))) (λ t. c.still_rising-rising.ensures.rising t c.args.held refl)).rises

pub returns-in_err-put_last-clause-rising : goal.returns-in_err-put_last-clause-rising
returns-in_err-put_last-clause-rising c = subst (λ es. RidsRise (held_in es)) (sym c.in_err-put_last.ensures.refused) (rids_rise 0 c.self.inside.slots.entries c.self.invariant.rises)

pub returns-in_err-make_room-clause-rising : goal.returns-in_err-make_room-clause-rising
returns-in_err-make_room-clause-rising c = rids_rise 0 c.self.inside.slots.entries c.self.invariant.rises
