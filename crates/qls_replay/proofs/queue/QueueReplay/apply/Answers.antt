use Rattle.std.proofs.Common.{◌≡◌, Option, Result, Ok, Err, IfOk, sym, ap, ◌∙◌}
use Rattle.std.specs.List.{filter_map}
use Rattle.qls_model.specs.Messages.{left_by, only}
use Rattle.qls_model.specs.declared.machine.Message.{Message}
use Rattle.qls_model.specs.declared.machine.QueueState.{QueueState}
use Rattle.qls_model.specs.declared.machine.Verdict.TheVariants.{Commit, Abort}
use Rattle.qls_meaning.specs.Reading.{read_of}
use Rattle.qls_meaning.specs.Replay.{xid_in, left_by_take, after_record}
use Rattle.qls_replay.specs.Held.{Replayed, messages_of, left_held}
use Rattle.qls_replay.proofs.Steps.{left_messages, keeps_take, keeps_end}
use Rattle.qls_replay.proofs.queue.QueueReplay.apply.Goals as goal

pub returns-in-Commit-clause-messages : goal.returns-in-Commit-clause-messages
returns-in-Commit-clause-messages c = λ q e.
    let x = c.args.got.now.xid in
    let change : Message → Option Message = λ m. left_by (only x Commit) m.status m in
    ap (λ k. (after_record k (read_of c.args.got.now).what q).messages) c.in-Commit.is
    ∙ ap (λ ms. filter_map change ms) (e ∙ ap (λ (s : Replayed). messages_of s.held) (sym c.self.view_is))
    ∙ sym (ap messages_of c.end_transaction.ensures.ended ∙ left_messages change (λ m. keeps_end (only x Commit) m.status m) c.self.inside.held)

pub returns-in-Abort-clause-messages : goal.returns-in-Abort-clause-messages
returns-in-Abort-clause-messages c = λ q e.
    let x = c.args.got.now.xid in
    let change : Message → Option Message = λ m. left_by (only x Abort) m.status m in
    ap (λ k. (after_record k (read_of c.args.got.now).what q).messages) c.in-Abort.is
    ∙ ap (λ ms. filter_map change ms) (e ∙ ap (λ (s : Replayed). messages_of s.held) (sym c.self.view_is))
    ∙ sym (ap messages_of c.end_transaction-in-Abort.ensures.ended ∙ left_messages change (λ m. keeps_end (only x Abort) m.status m) c.self.inside.held)

if_ok_then : {E : Type 0} (r : Result (Unit {0}) E) (P Q : Type 0) → (P → Q) → IfOk r (λ _. P) → IfOk r (λ _. Q)
if_ok_then (Ok x) P Q f h = f h
if_ok_then (Err e) P Q f h = tt

pub returns-in-Dequeue-clause-messages : goal.returns-in-Dequeue-clause-messages
returns-in-Dequeue-clause-messages c =
    let got = c.args.got.now in
    let change : Message → Option Message = left_by_take got.head.target (xid_in got.xid) in
    if_ok_then c.take.result (c.take.new.held ≡ left_held change c.self.inside.held)
    ((q : QueueState) → q.messages ≡ messages_of c.args.self.now.held → (after_record got.head.kind (read_of got).what q).messages ≡ messages_of c.take.new.held)
    (λ t q e.
    ap (λ k. (after_record k (read_of got).what q).messages) c.in-Dequeue.is
    ∙ ap (λ ms. filter_map change ms) (e ∙ ap (λ (s : Replayed). messages_of s.held) (sym c.self.view_is))
    ∙ sym (ap messages_of t ∙ left_messages change (λ m. keeps_take got.head.target (xid_in got.xid) m) c.self.inside.held))
    c.take.ensures.taken
