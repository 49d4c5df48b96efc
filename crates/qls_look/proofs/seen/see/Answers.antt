use Rattle.std.proofs.Common.{◌≡◌, ℕ, List, [], true, sym, ap, ◌∙◌, subst}
use Rattle.std.specs.List.{filter_map}
use Rattle.qls_model.specs.Bytes.{comes_before}
use Rattle.qls_model.specs.Machine.{MachineState, queue_named}
use Rattle.qls_model.specs.declared.machine.QueueState.{QueueState}
use Rattle.qls_filehdr.specs.declared.JournalKind.{JournalKind}
use Rattle.qls_filehdr.specs.declared.JournalKind.TheVariants.{Queue, List as Listed}
use Rattle.qls_decide.specs.declared.ListEntry.{ListEntry}
use Rattle.qls_decide.specs.Entries.{entry_of, state_of}
use Rattle.qls_meaning.specs.Meaning.{in_doubt}
use Rattle.qls_scan.specs.Found.{kind_before}
use Rattle.qls_look.specs.declared.seen.Seen.{Seen}
use Rattle.qls_look.specs.Seen.{Sight, NamesBefore, sight_of}
use Rattle.qls_look.proofs.Order.{queue_absent, queue_last, before_more}
use Rattle.qls_look.proofs.Whole.{sight_is, list_seen, queue_seen}
use Rattle.qls_look.proofs.seen.see.Goals as goal

pub put_queue-requires-clause-absent : goal.put_queue-requires-clause-absent
put_queue-requires-clause-absent g c =
    ap (λ n. queue_named n c.args.seen.now.state.queues) c.in_ok-queue-in-Queue.ensures.name ∙ queue_absent c.args.files.name c.args.seen.now.state.queues c.requires.after

pub returns-in_ok-seen-in-List-clause-says : goal.returns-in_ok-seen-in-List-clause-says
returns-in_ok-seen-in-List-clause-says g c =
    let seen : Seen = c.in_ok-seen-in-List.field-0 in
    let es : List ListEntry = c.in_ok-entries-in-List.entries in
    let slice : c.as_slice.result.now ≡ es = c.as_slice.ensures.same in
    list_seen (g.S.Site.told c.args.site.now) c.args.files (sight_of c.args.seen.now) (sight_of seen) es c.in-List.is c.in_ok-entries-in-List.ensures.says
    (sight_is seen es (c.in_ok-seen-in-List.ensures.state ∙ ap (λ (fs : List ListEntry). record { queues = []; xids = filter_map in_doubt fs }) slice)
    (λ x. c.in_ok-seen-in-List.ensures.states x ∙ ap (λ fs. state_of (entry_of x fs)) slice))

behind : (q : QueueState) (name : List ℕ) (qs : List QueueState) → q.name ≡ name → NamesBefore name qs → NamesBefore q.name qs
behind q name qs e h = subst (λ n. NamesBefore n qs) (sym e) h

pub returns-in_ok-put_queue-in-Queue-clause-says : goal.returns-in_ok-put_queue-in-Queue-clause-says
returns-in_ok-put_queue-in-Queue-clause-says g c =
    let old : Seen = c.args.seen.now in
    let q : QueueState = c.in_ok-queue-in-Queue.queue in
    let last = queue_last q old.state.queues (behind q c.args.files.name old.state.queues c.in_ok-queue-in-Queue.ensures.name c.requires.after) in
    let new : Sight = record (sight_of old) { state = c.put_queue.new.self } in
    queue_seen (g.S.Site.told c.args.site.now) c.args.files (sight_of old) new q c.in-Queue.is c.in_ok-queue-in-Queue.ensures.says
    (ap (λ (S : MachineState). record (sight_of old) { state = S }) (c.in_ok-put_queue-in-Queue.ensures.added ∙ ap (λ (qs : List QueueState). record old.state { queues = qs }) last))

comes_by : (a b : JournalKind) (m n : List ℕ) → a ≡ Queue → kind_before a b m n ≡ true → comes_before m n ≡ true
comes_by Queue Queue m n e h = h
comes_by Queue Listed m n e h = absurd (cc)
comes_by Listed Queue m n e h = absurd (cc)
comes_by Listed Listed m n e h = absurd (cc)

pub returns-in_ok-put_queue-in-Queue-clause-next : goal.returns-in_ok-put_queue-in-Queue-clause-next
returns-in_ok-put_queue-in-Queue-clause-next g c = λ k b h.
    let old : Seen = c.args.seen.now in
    let q : QueueState = c.in_ok-queue-in-Queue.queue in
    let name : q.name ≡ c.args.files.name = c.in_ok-queue-in-Queue.ensures.name in
    let last = queue_last q old.state.queues (behind q c.args.files.name old.state.queues name c.requires.after) in
    let before : comes_before q.name k.name ≡ true = ap (λ n. comes_before n k.name) name ∙ comes_by c.args.files.kind k.kind c.args.files.name k.name c.in-Queue.is b in
    subst (λ (S : MachineState). NamesBefore k.name S.queues) (sym (c.in_ok-put_queue-in-Queue.ensures.added ∙ ap (λ (qs : List QueueState). record old.state { queues = qs }) last))
    (before_more k.name q old.state.queues h before)
