use Rattle.std.proofs.Common.{◌≡◌, ◌++◌, List, Some, None, length, drop, sym, ap, ◌∙◌, subst}
use Rattle.std.specs.Prelude.{slice_get}
use Rattle.qls_model.specs.declared.machine.Message.{Message}
use Rattle.qls_enqmap.specs.declared.Held.{Held}
use Rattle.qls_replay.specs.Held.{messages_of}
use Rattle.qls_queue.proofs.Copies.{copied_next, copied_all}
use Rattle.qls_queue.proofs.heads.copy_messages.Goals as goal

pub loop-one-preserved : goal.loop-one-preserved
loop-one-preserved c =
    let hs : List Held = c.args.held.now in
    let there : slice_get hs (length c.loop-one.messages) ≡ Some c.in-Some.one.now = ap (slice_get hs) (sym c.len.ensures.counted) ∙ sym c.in-Some.ensures.there in
    subst (λ (xs : List Message). xs ++ messages_of (drop (length xs) hs) ≡ messages_of hs) (sym c.in_ok-push.ensures.pushed)
    (copied_next c.loop-one.messages c.in_ok-message_copy.field-0 c.in-Some.one.now hs there c.in_ok-message_copy.ensures.exact c.loop-one.invariant)

pub returns : goal.returns
returns c =
    let hs : List Held = c.args.held.now in
    let none : slice_get hs (length c.loop-one.messages) ≡ None = ap (slice_get hs) (sym c.len.ensures.counted) ∙ sym c.in_default.ensures.there in
    record { exact = copied_all c.loop-one.messages hs none c.loop-one.invariant }
