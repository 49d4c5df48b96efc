use Rattle.std.proofs.Common.{◌≡◌, ◌==◌, length, IfOk, sym, ap, subst, ◌∙◌}
use Rattle.qls_meaning.specs.Replay.{left_by_take}
use Rattle.qls_replay.specs.Held.{left_held}
use Rattle.qls_replay.proofs.Steps.{xid_some}
use Rattle.qls_replay.proofs.records.take.Goals as goal

pub returns-then-is_empty-clause-sound : goal.returns-then-is_empty-clause-sound
returns-then-is_empty-clause-sound c = record { rising = c.take_out.ensures.rising; agrees = c.take_out.ensures.agrees c.args.txns.now c.requires.sound.agrees }

pub returns-clause-taken : goal.returns-clause-taken
returns-clause-taken c =
    let x = c.args.got.now.xid in
    let e = xid_some x (ap (λ s. length s == 0) (sym c.as_slice.ensures.same) ∙ sym c.is_empty.ensures ∙ c.if-is_empty.false) in
    subst (λ o. IfOk c.take_by.result (λ _. c.take_by.new.held ≡ left_held (left_by_take c.args.got.now.head.target o) c.args.held.now)) (sym e) c.take_by.ensures.taken
