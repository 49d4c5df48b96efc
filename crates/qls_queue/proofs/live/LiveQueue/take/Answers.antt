use Rattle.std.proofs.Common.{◌≡◌, ℕ, List, ap, sym, ◌∙◌}
use Rattle.std.specs.List.{filter_map}
use Rattle.qls_record.specs.declared.Head.{Head}
use Rattle.qls_record.specs.Head.{record_with}
use Rattle.qls_enqmap.specs.Records.{RidsRise}
use Rattle.qls_model.specs.Messages.{message_at}
use Rattle.qls_model.specs.Machine.{taken}
use Rattle.qls_model.specs.declared.machine.QueueState.{QueueState}
use Rattle.qls_meaning.specs.Replay.{after_record, xid_in, left_by_take}
use Rattle.qls_pool.proofs.Moments.{told_of, told_same}
use Rattle.qls_log.specs.Leaving.{NoneLeaves}
use Rattle.qls_log.specs.Steps.{IsLogStep}
use Rattle.qls_log.specs.Unwritten.{IsWrittenTo}
use Rattle.qls_queue.specs.Live.{LiveState}
use Rattle.qls_queue.specs.Moments.{is_exact}
use Rattle.qls_queue.proofs.Back.{told_none_dead}
use Rattle.qls_queue.proofs.Going.{goes_nowhere, draws_nothing, writes_err}
use Rattle.qls_queue.proofs.Then.{writes_none}
use Rattle.qls_queue.specs.Answers.{take_answer}
use Rattle.qls_queue.proofs.Finds.{answered, only_by, not_ok, not_err, ok_of, ok_then, takes}
use Rattle.qls_queue.proofs.live.LiveQueue.take.Goals as goal

pub returns-then-is_err-clause-refusals : goal.returns-then-is_err-clause-refusals
returns-then-is_err-clause-refusals g c = λ e k.
    sym (answered c.args.self.now.queue.messages c.self.inside.tables.held c.held.result.now _ c.args.number c.may_take-answer.result (ap (λ (q : LiveState). q.queue.messages) (sym c.self.view_is)) c.held.ensures.same
    c.get.ensures.found c.may_take-answer.ensures.answer) ∙ k

pub returns-then-is_err-clause-only : goal.returns-then-is_err-clause-only
returns-then-is_err-clause-only g c =
    only_by c.may_take-answer.result (take_answer (message_at c.args.self.now.queue.messages c.args.number))
    (answered c.args.self.now.queue.messages c.self.inside.tables.held c.held.result.now _ c.args.number c.may_take-answer.result (ap (λ (q : LiveState). q.queue.messages) (sym c.self.view_is)) c.held.ensures.same
    c.get.ensures.found c.may_take-answer.ensures.answer)

pub returns-then-is_err-clause-at_end : goal.returns-then-is_err-clause-at_end
returns-then-is_err-clause-at_end g c = λ k more end.
    absurd
    (not_ok c.may_take-answer.result (take_answer (message_at c.args.self.now.queue.messages c.args.number))
    (answered c.args.self.now.queue.messages c.self.inside.tables.held c.held.result.now _ c.args.number c.may_take-answer.result (ap (λ (q : LiveState). q.queue.messages) (sym c.self.view_is)) c.held.ensures.same
    c.get.ensures.found c.may_take-answer.ensures.answer) (sym c.is_err.ensures.value ∙ c.if-is_err.true) k)

pub returns-clause-refusals : goal.returns-clause-refusals
returns-clause-refusals g c = λ e k.
    absurd
    (not_err c.may_take-answer.result (take_answer (message_at c.args.self.now.queue.messages c.args.number)) e
    (answered c.args.self.now.queue.messages c.self.inside.tables.held c.held.result.now _ c.args.number c.may_take-answer.result (ap (λ (q : LiveState). q.queue.messages) (sym c.self.view_is)) c.held.ensures.same
    c.get.ensures.found c.may_take-answer.ensures.answer) (sym c.is_err.ensures.value ∙ c.if-is_err.false) k)

pub returns-clause-queue : goal.returns-clause-queue
returns-clause-queue g c =
    let q : QueueState = c.args.self.now.queue in
    let ms : q.messages ≡ Rattle.qls_replay.specs.Held.messages_of c.self.inside.tables.held = ap (λ (s : LiveState). s.queue.messages) (sym c.self.view_is) in
    let ready =
    ok_of c.may_take-answer.result (take_answer (message_at q.messages c.args.number)) (answered q.messages c.self.inside.tables.held c.held.result.now _ c.args.number c.may_take-answer.result ms c.held.ensures.same
    c.get.ensures.found c.may_take-answer.ensures.answer) (sym c.is_err.ensures.value ∙ c.if-is_err.false) in
    let rises : RidsRise c.self.inside.tables.held = c.held.ensures.rising in
    ok_then c.write_and_release.result (c.write_and_release.new.self.queue ≡ after_record c.dequeue-head.result.kind (record_with c.dequeue-head.result c.xid_or_none-xid.result c.from_vec-body.result) q)
    (c.write_and_release.new.self.queue ≡ taken c.args.number c.args.xid q) (λ e.
    e ∙ ap (λ (h : Head). after_record h.kind (record_with h c.xid_or_none-xid.result c.from_vec-body.result) q) c.dequeue-head.ensures.exact
    ∙ ap (λ (x : List ℕ). record q { messages = filter_map (left_by_take c.args.number (xid_in x)) q.messages }) c.xid_or_none-xid.ensures.exact
    ∙ takes c.args.number c.args.xid c.self.inside.tables.held q ms rises ready c.requires.xid) c.write_and_release.ensures.queue

-- ---- refused

pub returns-then-is_err-clause-went : goal.returns-then-is_err-clause-went
returns-then-is_err-clause-went g c = goes_nowhere (IsLogStep c.args.self.now.log.opening) c.may_take-answer.result _

pub returns-then-is_err-clause-drew : goal.returns-then-is_err-clause-drew
returns-then-is_err-clause-drew g c = draws_nothing (is_exact c.may_take-answer.result) _ _

pub returns-then-is_err-clause-leaves : goal.returns-then-is_err-clause-leaves
returns-then-is_err-clause-leaves g c = told_none_dead c.args.self.now _ _ (told_of NoneLeaves _ _ (told_same NoneLeaves _))

pub returns-then-is_err-clause-writes : goal.returns-then-is_err-clause-writes
returns-then-is_err-clause-writes g c =
    writes_err (λ areas h. IsWrittenTo areas h c.args.self.now.log) (λ areas h. IsWrittenTo areas h c.args.self.now.log) c.may_take-answer.result _ _ (sym c.is_err.ensures.value ∙ c.if-is_err.true)
    (writes_none (λ areas h. IsWrittenTo areas h c.args.self.now.log) _)
