use Rattle.std.proofs.Common.{rules, ◌≡◌, ◌+◌, List, [], ◌∷◌, map, sym, ap, ◌∙◌, subst}
use Rattle.std.specs.Vec.Iter.{into_iter_items}
use Rattle.qls_model.specs.Sound.{RisesTo}
use Rattle.qls_record.specs.declared.Got.{Got}
use Rattle.qls_meaning.specs.Reading.{read_of}
use Rattle.qls_enqmap.specs.declared.Held.{Held}
use Rattle.qls_enqmap.specs.Records.{AllBelow}
use Rattle.qls_model.specs.Ends.{messages_left}
use Rattle.qls_replay.specs.Held.{held_after_all, messages_of}
use Rattle.qls_look.specs.Seen.{verdict_in}
use Rattle.qls_look.proofs.Lists.{none_left}
use Rattle.qls_look.proofs.Queues.{GoesOn, may_go_on, goes_on, ends_below, left_rises}
use Rattle.qls_look.proofs.queue.queue_left.Goals as goal

pub take_in-requires : goal.take_in-requires
take_in-requires c =
    let g : Got = c.in-Some.got in
    let rest : List Got = into_iter_items c.next.new.self in
    let cut : into_iter_items c.loop-got.got-iterator ≡ g ∷ rest = search rules in
    record { above = may_go_on c.args.log.now.rid c.loop-got.replay.held g rest (subst (GoesOn c.args.log.now.rid c.loop-got.replay.held) cut c.loop-got.invariant.goes) }

pub loop-got-preserved : goal.loop-got-preserved
loop-got-preserved c =
    let g : Got = c.in-Some.got in
    let rest : List Got = into_iter_items c.next.new.self in
    let cut : into_iter_items c.loop-got.got-iterator ≡ g ∷ rest = search rules in
    record {
      len = search rules;
      held = ap (λ hs. held_after_all (map read_of rest) hs) c.in_ok-take_in.ensures.held ∙ sym (ap (λ gs. held_after_all (map read_of gs) c.loop-got.replay.held) cut) ∙ c.loop-got.invariant.held;
      goes = goes_on c.args.log.now.rid c.loop-got.replay.held c.take_in.new.self.held g rest (subst (GoesOn c.args.log.now.rid c.loop-got.replay.held) cut c.loop-got.invariant.goes) c.in_ok-take_in.ensures.held;
    }

pub returns-clause-rising : goal.returns-clause-rising
returns-clause-rising c =
    let v = verdict_in c.args.states.now in
    let last = c.args.log.now.rid in
    let held : List Held = c.finish-held.result.0 in
    let done : into_iter_items c.loop-got.got-iterator ≡ [] = none_left _ _ c.loop-got.invariant.len c.in-None.ensures.steps.0 in
    let below : AllBelow (last + 1) held = subst (AllBelow (last + 1)) (sym c.finish-held.ensures.held) (ends_below last c.loop-got.replay.held _ done c.loop-got.invariant.goes) in
    subst (λ ms. RisesTo c.rid.result ms) (sym c.in_ok-messages_in.ensures.left)
    (subst (λ n. RisesTo n (messages_left v (messages_of held))) (sym c.rid.ensures.exact) (left_rises v last 0 held c.finish-held.ensures.rising below))
