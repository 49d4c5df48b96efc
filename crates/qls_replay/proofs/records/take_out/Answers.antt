use Rattle.std.proofs.Common.{None, sym, ap, ◌∙◌}
use Rattle.qls_replay.specs.Held.{may_take}
use Rattle.qls_replay.proofs.Decided.{gone}
use Rattle.qls_replay.proofs.Takes.{take_gone, take_stays, found}
use Rattle.qls_replay.proofs.Agreeing.{agrees_gone}
use Rattle.qls_replay.proofs.records.take_out.Goals as goal

pub returns-then-is_takeable-clause-taken : goal.returns-then-is_takeable-clause-taken
returns-then-is_takeable-clause-taken c =
    let hs = c.args.held.now in
    let n = c.args.target in
    let f = found n hs (sym (c.is_takeable.ensures.ready ∙ ap may_take c.get.ensures.found) ∙ c.if-is_takeable.true) in
    gone n hs c.remove-taken.new.self c.remove-taken.result c.remove-taken.ensures.answer c.remove-taken.ensures.left c.remove-taken.ensures.refused
    ∙ sym (take_gone n 0 f.0 hs c.requires.rising f.1 f.2)

pub returns-then-is_takeable-clause-agrees : goal.returns-then-is_takeable-clause-agrees
returns-then-is_takeable-clause-agrees c = λ t a.
    let hs = c.args.held.now in
    let n = c.args.target in
    let f = found n hs (sym (c.is_takeable.ensures.ready ∙ ap may_take c.get.ensures.found) ∙ c.if-is_takeable.true) in
    agrees_gone n f.0 hs c.remove-taken.new.self t a c.requires.rising f.1 f.2
    (gone n hs c.remove-taken.new.self c.remove-taken.result c.remove-taken.ensures.answer c.remove-taken.ensures.left c.remove-taken.ensures.refused)

pub returns-else-is_takeable-clause-taken : goal.returns-else-is_takeable-clause-taken
returns-else-is_takeable-clause-taken c =
    sym (take_stays c.args.target 0 None c.args.held.now c.requires.rising (sym (c.is_takeable.ensures.ready ∙ ap may_take c.get.ensures.found) ∙ c.if-is_takeable.false))
