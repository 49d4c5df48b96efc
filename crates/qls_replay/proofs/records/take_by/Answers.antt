use Rattle.std.proofs.Common.{◌≡◌, Some, not, sym, ap, subst, ◌∙◌}
use Rattle.qls_model.specs.declared.machine.Status.TheVariants.{Ready, Going}
use Rattle.qls_enqmap.specs.Records.{with_status}
use Rattle.qls_replay.specs.Held.{IsSound}
use Rattle.qls_replay.proofs.Decided.{unlocked}
use Rattle.qls_replay.proofs.Takes.{take_going, take_stays, found, status_back}
use Rattle.qls_replay.proofs.Agreeing.{agrees_going, is_ready_then}
use Rattle.qls_replay.proofs.Steps.{lock_taken, err_then, ok_then}
use Rattle.qls_replay.proofs.records.take_by.Goals as goal

pub returns-then-is_err-clause-taken : goal.returns-then-is_err-clause-taken
returns-then-is_err-clause-taken c =
    let hs = c.args.held.now in
    let e = sym c.is_err.ensures.value ∙ c.if-is_err.true in
    err_then c.lock.result (c.lock.new.self ≡ hs) e c.lock.ensures.refused
    ∙ sym (take_stays c.args.target 0 (Some c.args.xid) hs c.requires.sound.rising (lock_taken _ c.lock.result c.lock.ensures.answer ∙ ap not e))

pub returns-in-Ok-clause-taken : goal.returns-in-Ok-clause-taken
returns-in-Ok-clause-taken c =
    let hs = c.args.held.now in
    let n = c.args.target in
    let e = sym c.is_err.ensures.value ∙ c.if-is_err.false in
    let f = found n hs (lock_taken _ c.lock.result c.lock.ensures.answer ∙ ap not e) in
    ok_then c.lock.result (c.lock.new.self ≡ with_status n (Going c.args.xid) hs) e c.lock.ensures.locked ∙ sym (take_going n 0 c.args.xid f.0 hs c.requires.sound.rising f.1 f.2)

pub returns-in-Ok-clause-sound : goal.returns-in-Ok-clause-sound
returns-in-Ok-clause-sound c =
    let hs = c.args.held.now in
    let n = c.args.target in
    let e = sym c.is_err.ensures.value ∙ c.if-is_err.false in
    let f = found n hs (lock_taken _ c.lock.result c.lock.ensures.answer ∙ ap not e) in
    record {
      rising = c.lock.ensures.rising;
      agrees = agrees_going n c.args.xid f.0 hs c.lock.new.self c.args.txns.now c.add.new.self c.requires.sound.agrees c.requires.sound.rising f.1 f.2
          (ok_then c.lock.result (c.lock.new.self ≡ with_status n (Going c.args.xid) hs) e c.lock.ensures.locked) c.in-Ok.ensures.added;
    }

pub returns-in-Err-clause-refused : goal.returns-in-Err-clause-refused
returns-in-Err-clause-refused c =
    let hs = c.args.held.now in
    let n = c.args.target in
    let e = sym c.is_err.ensures.value ∙ c.if-is_err.false in
    let f = found n hs (lock_taken _ c.lock.result c.lock.ensures.answer ∙ ap not e) in
    unlocked n c.lock.new.self c.unlock-taken_back.new.self c.unlock-taken_back.result c.unlock-taken_back.ensures.answer c.unlock-taken_back.ensures.unlocked c.unlock-taken_back.ensures.refused
    ∙ ap (λ l. with_status n Ready l) (ok_then c.lock.result (c.lock.new.self ≡ with_status n (Going c.args.xid) hs) e c.lock.ensures.locked)
    ∙ status_back n 0 (Going c.args.xid) f.0 hs c.requires.sound.rising f.1 (is_ready_then f.0.status f.2)

pub returns-in-Err-clause-sound : goal.returns-in-Err-clause-sound
returns-in-Err-clause-sound c =
    let hs = c.args.held.now in
    let n = c.args.target in
    let e = sym c.is_err.ensures.value ∙ c.if-is_err.false in
    let f = found n hs (lock_taken _ c.lock.result c.lock.ensures.answer ∙ ap not e) in
    let back = unlocked n c.lock.new.self c.unlock-taken_back.new.self c.unlock-taken_back.result c.unlock-taken_back.ensures.answer c.unlock-taken_back.ensures.unlocked c.unlock-taken_back.ensures.refused
    ∙ ap (λ l. with_status n Ready l) (ok_then c.lock.result (c.lock.new.self ≡ with_status n (Going c.args.xid) hs) e c.lock.ensures.locked)
    ∙ status_back n 0 (Going c.args.xid) f.0 hs c.requires.sound.rising f.1 (is_ready_then f.0.status f.2) in
    subst (λ l. IsSound l c.add.new.self) (sym back) (subst (λ t. IsSound hs t) (sym c.in-Err.ensures.refused) c.requires.sound)
