use Rattle.std.proofs.Common.{◌==◌, length, sym, ap, subst, refl, ◌∙◌}
use Rattle.qls_model.specs.Messages.{status_of}
use Rattle.qls_enqmap.specs.Records.{without}
use Rattle.qls_replay.specs.Held.{IsSound}
use Rattle.qls_replay.proofs.Decided.{gone}
use Rattle.qls_replay.proofs.Agreeing.{agrees_put, agrees_coming}
use Rattle.qls_replay.proofs.Steps.{xid_some, xid_none, without_last}
use Rattle.qls_replay.proofs.records.put.Goals as goal

pub returns-then-is_empty-clause-sound : goal.returns-then-is_empty-clause-sound
returns-then-is_empty-clause-sound c =
    let hs = c.args.held.now in
    let h = c.args.message in
    let x = c.args.xid in
    let e = xid_none x (ap (λ s. length s == 0) (sym c.as_slice.ensures.same) ∙ sym c.is_empty.ensures ∙ c.if-is_empty.true) in
    record {
      rising = c.insert.ensures.rising;
      agrees = agrees_put h hs c.insert.new.self c.args.txns.now c.requires.sound.agrees (c.requires.status ∙ ap status_of e) c.in_ok-insert.ensures.inserted;
    }

pub returns-in-Ok-clause-sound : goal.returns-in-Ok-clause-sound
returns-in-Ok-clause-sound c =
    let hs = c.args.held.now in
    let h = c.args.message in
    let x = c.args.xid in
    let e = xid_some x (ap (λ s. length s == 0) (sym c.as_slice.ensures.same) ∙ sym c.is_empty.ensures ∙ c.if-is_empty.false) in
    record {
      rising = c.insert.ensures.rising;
      agrees = agrees_coming x h hs c.insert.new.self c.args.txns.now c.add.new.self c.requires.sound.agrees (c.requires.status ∙ ap status_of e)
          c.in_ok-insert.ensures.inserted c.in-Ok.ensures.added;
    }

pub returns-in-Err-clause-refused : goal.returns-in-Err-clause-refused
returns-in-Err-clause-refused c =
    let hs = c.args.held.now in
    let h = c.args.message in
    let n = c.args.message.rid in
    gone n c.insert.new.self c.remove-taken_back.new.self c.remove-taken_back.result c.remove-taken_back.ensures.answer c.remove-taken_back.ensures.left c.remove-taken_back.ensures.refused
    ∙ ap (λ l. without n l) c.in_ok-insert.ensures.inserted
    ∙ without_last n h hs c.requires.above refl

pub returns-in-Err-clause-sound : goal.returns-in-Err-clause-sound
returns-in-Err-clause-sound c =
    let hs = c.args.held.now in
    let h = c.args.message in
    let n = c.args.message.rid in
    let back = gone n c.insert.new.self c.remove-taken_back.new.self c.remove-taken_back.result c.remove-taken_back.ensures.answer c.remove-taken_back.ensures.left c.remove-taken_back.ensures.refused
    ∙ ap (λ l. without n l) c.in_ok-insert.ensures.inserted
    ∙ without_last n h hs c.requires.above refl in
    subst (λ l. IsSound l c.add.new.self) (sym back) (subst (λ t. IsSound hs t) (sym c.in-Err.ensures.refused) c.requires.sound)
