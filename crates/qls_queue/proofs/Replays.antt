-- What a batch of records makes: its fillers make nothing.
use Rattle.std.proofs.Common.{◌≡◌, ℕ, zero, suc, ◌+◌, List, [], ◌∷◌, ◌++◌, map, replicate, refl, sym, ap, ◌∙◌}
use Rattle.qls_shape.specs.declared.Version.TheVariants.{Two}
use Rattle.qls_record.specs.declared.Kind.{Kind}
use Rattle.qls_record.specs.declared.Kind.TheVariants.{Enqueue, Dequeue, Commit, Abort, Filler}
use Rattle.qls_record.specs.Record.{Record, record_length, rid_given}
use Rattle.qls_model.specs.declared.machine.Message.{Message}
use Rattle.qls_model.specs.declared.machine.QueueState.{QueueState}
use Rattle.qls_enqmap.specs.declared.Held.{Held}
use Rattle.qls_meaning.specs.Reading.{Read}
use Rattle.qls_meaning.specs.Replay.{after_record, queue_after}
use Rattle.qls_blocks.specs.Batching.{with_fillers, filler_of, filler_count, last_rid, laid_from}
use Rattle.qls_replay.specs.Held.{held_after, held_after_all, messages_of}
use Rattle.qls_replay.proofs.Whole.{all_records}
use Rattle.qls_log.specs.Logs.{LogState, capacity_in}
use Rattle.qls_log.specs.Reads.{batch_reads, read_in}
use Rattle.qls_queue.specs.Records.{read_at}

-- ---- one after another

pub queue_append : (xs ys : List Record) (q : QueueState) → queue_after (xs ++ ys) q ≡ queue_after ys (queue_after xs q)
queue_append [] ys q = refl
queue_append (x ∷ xs) ys q = queue_append xs ys (after_record x.kind x q)

pub held_append : (xs ys : List Read) (hs : List Held) → held_after_all (xs ++ ys) hs ≡ held_after_all ys (held_after_all xs hs)
held_append [] ys hs = refl
held_append (x ∷ xs) ys hs = held_append xs ys (held_after x.what.kind x hs)

-- ---- fillers

fillers_queue : (n rid : ℕ) (q : QueueState) → queue_after (replicate n (filler_of rid)) q ≡ q
fillers_queue zero rid q = refl
fillers_queue (suc n) rid q = fillers_queue n rid q

pub queue_filled : (rs : List Record) (q : QueueState) → queue_after (with_fillers rs) q ≡ queue_after rs q
queue_filled rs q = queue_append rs (replicate (filler_count rs) (filler_of (last_rid 0 rs))) q ∙ fillers_queue (filler_count rs) (last_rid 0 rs) (queue_after rs q)

pub fillers_held : (cap present p n rid : ℕ) (hs : List Held) → held_after_all (map (read_in cap present) (laid_from p (replicate n (filler_of rid)))) hs ≡ hs
fillers_held cap present p zero rid hs = refl
fillers_held cap present p (suc n) rid hs = fillers_held cap present (p + record_length Two (filler_of rid)) n rid hs

-- ---- a batch of one record

pub held_one : (l : LogState) (r : Record) (hs : List Held) → held_after_all (batch_reads l (r ∷ [])) hs ≡ held_after r.kind (read_at l r) hs
held_one l r hs = fillers_held (capacity_in l.opening) l.newest (l.used + record_length Two r) (filler_count (r ∷ [])) r.rid (held_after r.kind (read_at l r) hs)

-- ---- the queue of what is held

pub name_after : (k : Kind) (r : Record) (q : QueueState) → (after_record k r q).name ≡ q.name
name_after Enqueue r q = refl
name_after Dequeue r q = refl
name_after Commit r q = refl
name_after Abort r q = refl
name_after Filler r q = refl

pub last_after : (k : Kind) (r : Record) (q : QueueState) → r.rid ≡ rid_given q.last k → (after_record k r q).last ≡ r.rid
last_after Enqueue r q e = refl
last_after Dequeue r q e = sym e
last_after Commit r q e = sym e
last_after Abort r q e = sym e
last_after Filler r q e = sym e

pub parts : (q : QueueState) (name : List ℕ) (last : ℕ) (ms : List Message) → q.name ≡ name → q.last ≡ last → q.messages ≡ ms → q ≡ record { name = name; last = last; messages = ms }
parts q name last ms a b c =
    ap (λ (n : List ℕ). record { name = n; last = q.last; messages = q.messages }) a ∙ ap (λ (n : ℕ). record { name = name; last = n; messages = q.messages }) b
    ∙ ap (λ (xs : List Message). record { name = name; last = last; messages = xs }) c

-- the queue after the record has the record's rid as its last number, and the messages that are held after it
pub queue_one : (r : Read) (name : List ℕ) (last : ℕ) (hs : List Held) → r.what.rid ≡ rid_given last r.what.kind
    → after_record r.what.kind r.what (record { name = name; last = last; messages = messages_of hs }) ≡ record { name = name; last = r.what.rid; messages = messages_of (held_after r.what.kind r hs) }
queue_one r name last hs e =
    let q : QueueState = record { name = name; last = last; messages = messages_of hs } in
    parts (after_record r.what.kind r.what q) name r.what.rid (messages_of (held_after r.what.kind r hs)) (name_after r.what.kind r.what q) (last_after r.what.kind r.what q e) (all_records (r ∷ []) hs q refl)
