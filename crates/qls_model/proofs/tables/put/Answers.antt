use Rattle.std.proofs.Common.{◌≡◌, ℕ, ◌+◌, ◌<◌, ◌^◌, IsSomeAnd, set, ap, sym, ◌∙◌, subst}
use Rattle.std.proofs.lemmas.Result.{IfOk-weaker}
use Rattle.qls_model.specs.Messages.{with_message}
use Rattle.qls_model.specs.Machine.{next_number, queue_named, change_queue, put_message}
use Rattle.qls_model.specs.declared.machine.QueueState.{QueueState}
use Rattle.qls_model.proofs.TableLaws.{find-position, change-position}
use Rattle.qls_model.proofs.tables.put.Goals as goal

pub put_at_end-requires : goal.put_at_end-requires
put_at_end-requires c =
    let place = rw c.deref.ensures.value at c.place_of-place.ensures in
    let found = find-position c.args.name.now c.args.queues.now.items c.place_of-place.result c.index_mut.result.now place c.index_mut.ensures.value in
    subst (λ o. IsSomeAnd o (λ (q : QueueState). q.last + 1 < 2 ^ 62)) found c.requires.room

pub returns-clause-number : goal.returns-clause-number
returns-clause-number c =
    let place = rw c.deref.ensures.value at c.place_of-place.ensures in
    let found = find-position c.args.name.now c.args.queues.now.items c.place_of-place.result c.index_mut.result.now place c.index_mut.ensures.value in
    IfOk-weaker c.put_at_end.result (λ n. n ≡ c.index_mut.result.now.last + 1) (λ n. n ≡ next_number (queue_named c.args.name.now c.args.queues.now.items))
    (λ n e. e ∙ sym (ap next_number found)) c.put_at_end.ensures.number

pub returns-clause-added : goal.returns-clause-added
returns-clause-added c =
    let place = rw c.deref.ensures.value at c.place_of-place.ensures in
    let f : ℕ → QueueState → QueueState = λ n. with_message (put_message n c.args.body.now c.args.xid.now) in
    let qs = c.args.queues.now.items in
    let i = c.place_of-place.result in
    IfOk-weaker c.put_at_end.result (λ n. c.put_at_end.new.queue ≡ f n c.index_mut.result.now) (λ n. set qs i c.put_at_end.new.queue ≡ change_queue c.args.name.now (f n) qs)
    (λ n e. ap (set qs i) e ∙ change-position c.args.name.now (f n) qs i c.index_mut.result.now c.requires.once place c.index_mut.ensures.value)
    c.put_at_end.ensures.added
