-- A batch of ends, and the queue behind a batch.
use Rattle.std.proofs.Common.{◌≡◌, ℕ, ◌+◌, ◌^◌, ◌<◌, Bool, true, false, List, [], ◌∷◌, ◌++◌, map, replicate, length, Option, IfSome, refl, sym, ap, ◌∙◌, subst, arith}
use Rattle.std.specs.List.{AllByRecursion}
use Rattle.qls_shape.specs.declared.Version.TheVariants.{Two}
use Rattle.qls_record.specs.Record.{Record, record_length, rid_given}
use Rattle.qls_model.specs.Messages.{decided, only}
use Rattle.qls_model.specs.declared.machine.QueueState.{QueueState}
use Rattle.qls_site.specs.Content.{Content, Tells}
use Rattle.qls_decide.specs.declared.End.{End}
use Rattle.qls_enqmap.specs.declared.Held.{Held}
use Rattle.qls_enqmap.specs.Records.{AllBelow}
use Rattle.qls_meaning.specs.Reading.{Read}
use Rattle.qls_meaning.specs.Replay.{after_record, queue_after}
use Rattle.qls_blocks.specs.Batching.{filler_of, filler_count, last_rid, laid_from}
use Rattle.qls_replay.specs.Held.{held_after, held_after_all, ended_held, messages_of}
use Rattle.qls_replay.specs.Ops.{verdict_if}
use Rattle.qls_model.specs.Messages.{left_by}
use Rattle.qls_replay.proofs.Above.{left_below}
use Rattle.qls_replay.proofs.Whole.{all_records}
use Rattle.qls_pool.specs.Files.{OnDisk}
use Rattle.qls_log.specs.declared.opening.Opening.{Opening}
use Rattle.qls_log.specs.Logs.{LogState, capacity_in}
use Rattle.qls_log.specs.Standing.{LogThere}
use Rattle.qls_log.specs.Appending.{FollowRids}
use Rattle.qls_log.specs.Reads.{ReadsOn, batch_reads, read_in}
use Rattle.qls_log.proofs.Behind.{batch_whats}
use Rattle.qls_queue.specs.Live.{live, IsSound, QueueReadsOn}
use Rattle.qls_queue.specs.Records.{end_kind, end_record, end_records, ended_by, held_ended, HasXid}
use Rattle.qls_queue.proofs.Xids.{xids_end}
use Rattle.qls_queue.proofs.Replays.{fillers_held, queue_filled, name_after, last_after, parts}
use Rattle.qls_queue.proofs.Applied.{Behind, more_files}
use Rattle.qls_queue.proofs.Says.{told_says}

-- ---- the records

end_rid : (b : Bool) (rid : ℕ) → rid ≡ rid_given rid (end_kind b)
end_rid true rid = refl
end_rid false rid = refl

pub ends_follow : (rid : ℕ) (es : List End) → rid < 2 ^ 62 → FollowRids rid (end_records rid es)
ends_follow rid [] l = tt
ends_follow rid (e ∷ es) l = (end_rid e.commit rid, l, ends_follow rid es l)

pub ends_last : (rid : ℕ) (es : List End) → last_rid rid (end_records rid es) ≡ rid
ends_last rid [] = refl
ends_last rid (e ∷ es) = ends_last rid es

pub ends_some : (rid : ℕ) (es : List End) → 0 < length es → 0 < length (end_records rid es)
ends_some rid [] l = l
ends_some rid (e ∷ es) l = omega arith

-- ---- what they leave

queue_end : (b : Bool) (r : Record) (q : QueueState) → after_record (end_kind b) r q ≡ decided (only r.xid (verdict_if b)) q
queue_end true r q = refl
queue_end false r q = refl

held_end : (b : Bool) (r : Read) (hs : List Held) → held_after (end_kind b) r hs ≡ ended_held r.what.xid (verdict_if b) hs
held_end true r hs = refl
held_end false r hs = refl

pub queue_ends : (rid : ℕ) (es : List End) (q : QueueState) → queue_after (end_records rid es) q ≡ ended_by es q
queue_ends rid [] q = refl
queue_ends rid (e ∷ es) q = ap (queue_after (end_records rid es)) (queue_end e.commit (end_record rid e) q) ∙ queue_ends rid es (decided (only e.xid (verdict_if e.commit)) q)

held_laid : (cap present p n rid last : ℕ) (es : List End) (hs : List Held) → held_after_all (map (read_in cap present) (laid_from p (end_records rid es ++ replicate n (filler_of last)))) hs ≡ held_ended es hs
held_laid cap present p n rid last [] hs = fillers_held cap present p n last hs
held_laid cap present p n rid last (e ∷ es) hs =
    let r : Read = read_in cap present (record { what = end_record rid e; at = p; after = p + record_length Two (end_record rid e) }) in
    ap (held_after_all (map (read_in cap present) (laid_from (p + record_length Two (end_record rid e)) (end_records rid es ++ replicate n (filler_of last))))) (held_end e.commit r hs)
    ∙ held_laid cap present (p + record_length Two (end_record rid e)) n rid last es (ended_held e.xid (verdict_if e.commit) hs)

pub held_ends : (l : LogState) (rid : ℕ) (es : List End) (hs : List Held) → held_after_all (batch_reads l (end_records rid es)) hs ≡ held_ended es hs
held_ends l rid es hs = held_laid (capacity_in l.opening) l.newest l.used (filler_count (end_records rid es)) rid (last_rid 0 (end_records rid es)) es hs

ends_below : (n : ℕ) (es : List End) (hs : List Held) → AllBelow n hs → AllBelow n (held_ended es hs)
ends_below n [] hs b = b
ends_below n (e ∷ es) hs b = ends_below n es (ended_held e.xid (verdict_if e.commit) hs) (left_below n (λ m. left_by (only e.xid (verdict_if e.commit)) m.status m) hs b)

ends_xids : (es : List End) (hs : List Held) → AllByRecursion (λ h. HasXid h.status) hs → AllByRecursion (λ h. HasXid h.status) (held_ended es hs)
ends_xids [] hs x = x
ends_xids (e ∷ es) hs x = ends_xids es (ended_held e.xid (verdict_if e.commit) hs) (xids_end (only e.xid (verdict_if e.commit)) hs x)

-- ---- the queue behind a batch

name_all : (rs : List Record) (q : QueueState) → (queue_after rs q).name ≡ q.name
name_all [] q = refl
name_all (r ∷ rs) q = name_all rs (after_record r.kind r q) ∙ name_after r.kind r q

last_all : (rs : List Record) (q : QueueState) → FollowRids q.last rs → (queue_after rs q).last ≡ last_rid q.last rs
last_all [] q f = refl
last_all (r ∷ rs) q f =
    let e : (after_record r.kind r q).last ≡ r.rid = last_after r.kind r q f.0 in
    last_all rs (after_record r.kind r q) (subst (λ n. FollowRids n rs) (sym e) f.2) ∙ ap (λ n. last_rid n rs) e

messages_all : (l : LogState) (rs : List Record) (hs : List Held) (q : QueueState) → q.messages ≡ messages_of hs → (queue_after rs q).messages ≡ messages_of (held_after_all (batch_reads l rs) hs)
messages_all l rs hs q e =
    ap (λ (s : QueueState). s.messages) (sym (ap (λ ws. queue_after ws q) (batch_whats l rs) ∙ queue_filled rs q)) ∙ all_records (batch_reads l rs) hs q e

pub next_queue_all : (log new : LogState) (hs next : List Held) (rs : List Record) (b c : Bool) → Behind rs log new → FollowRids log.rid rs → next ≡ held_after_all (batch_reads log rs) hs
    → (live new next c).queue ≡ queue_after rs (live log hs b).queue
next_queue_all log new hs next rs b c w f h =
    let q : QueueState = (live log hs b).queue in
    sym
    (parts (queue_after rs q) new.opening.name new.rid (messages_of next) (name_all rs q ∙ ap (λ (o : Opening). o.name) (sym w.opening)) (last_all rs q f ∙ sym w.rid) (messages_all log rs hs q refl ∙ ap messages_of (sym h)))

-- ---- ends

pub ended_queue : (log new : LogState) (hs next : List Held) (es : List End) (b c : Bool) → Behind (end_records log.rid es) log new → log.rid < 2 ^ 62 → next ≡ held_ended es hs → (live new next c).queue ≡ ended_by es (live log hs b).queue
ended_queue log new hs next es b c w l h =
    next_queue_all log new hs next (end_records log.rid es) b c w (ends_follow log.rid es l) (h ∙ sym (held_ends log log.rid es hs)) ∙ queue_ends log.rid es (live log hs b).queue

pub ended_sound : (log new : LogState) (hs next : List Held) (es : List End) (b : Bool) → IsSound (live log hs b) → Behind (end_records log.rid es) log new → new.ended ≡ false → next ≡ held_ended es hs → IsSound (live new next false)
ended_sound log new hs next es b s w unended h =
    let rid : new.rid ≡ log.rid = w.rid ∙ ends_last log.rid es in
    record {
      name = refl;
      rid = refl;
      messages = refl;
      unended = unended;
      kind = ap (λ (o : Opening). o.kind) w.opening ∙ s.kind;
      flushed = w.unsynced;
      some = more_files log.files w.taken new.files w.files s.some;
      last = subst (λ n. n < 2 ^ 62) (sym rid) s.last;
      below = subst (λ n. AllBelow (n + 1) next) (sym rid) (subst (AllBelow (log.rid + 1)) (sym h) (ends_below (log.rid + 1) es hs s.below));
      xids = subst (AllByRecursion (λ g. HasXid g.status)) (sym h) (ends_xids es hs s.xids);
    }

pub ended_says : (log new : LogState) (hs next : List Held) (es : List End) (b c : Bool) (a z : Option Content) → IsSound (live log hs b) → Behind (end_records log.rid es) log new → next ≡ held_ended es hs
    → Tells (ReadsOn (end_records log.rid es) log new) a z → IfSome a (OnDisk (LogThere log)) → IfSome z (OnDisk (LogThere new)) → Tells (QueueReadsOn (live log hs b) (live new next c)) a z
ended_says log new hs next es b c a z s w h reads t u =
    let rs : List Record = end_records log.rid es in
    let held : next ≡ held_after_all (batch_reads log rs) hs = h ∙ sym (held_ends log log.rid es hs) in
    told_says rs (live log hs b) (live new next c) w.taken a z s.some w.files w.opening (sym (next_queue_all log new hs next rs b c w (ends_follow log.rid es s.last) held)) (sym held) reads t u
