-- The queue behind one record.
use Rattle.std.proofs.Common.{◌≡◌, ℕ, ◌+◌, ◌^◌, ◌<◌, ◌≤◌, Bool, false, List, [], ◌∷◌, ◌++◌, length, Option, IfSome, refl, sym, ap, ◌∙◌, subst, arith, length-append}
use Rattle.std.specs.List.{AllByRecursion}
use Rattle.qls_record.specs.Record.{Record, rid_given}
use Rattle.qls_site.specs.Content.{Content, Tells}
use Rattle.qls_enqmap.specs.declared.Held.{Held}
use Rattle.qls_enqmap.specs.Records.{AllBelow}
use Rattle.qls_meaning.specs.Replay.{after_record}
use Rattle.qls_replay.specs.Held.{held_after, messages_of}
use Rattle.qls_replay.proofs.Above.{below_after}
use Rattle.qls_blocks.specs.Batching.{last_rid}
use Rattle.qls_pool.specs.Pools.{PoolState}
use Rattle.qls_pool.specs.Files.{HeadedFile, OnDisk}
use Rattle.qls_log.specs.declared.opening.Opening.{Opening}
use Rattle.qls_log.specs.Logs.{LogState}
use Rattle.qls_log.specs.Standing.{LogThere}
use Rattle.qls_log.specs.Reads.{ReadsOn}
use Rattle.qls_queue.specs.Live.{live, IsSound, QueueReadsOn}
use Rattle.qls_queue.specs.Writing.{HasWritten}
use Rattle.qls_queue.specs.Records.{read_at, HasXid}
use Rattle.qls_queue.proofs.Xids.{xids_after}
use Rattle.qls_queue.proofs.Replays.{queue_one, held_one}
use Rattle.qls_queue.proofs.Says.{told_says}

-- ---- the log behind a batch

pub record Behind (rs : List Record) (log new : LogState) : Type 0 where
  pub taken : List HeadedFile
  pub opening : new.opening ≡ log.opening
  pub files : new.files ≡ log.files ++ taken
  pub rid : new.rid ≡ last_rid log.rid rs
  pub unsynced : new.unsynced ≡ []

pub behind : (rs : List Record) (log new : LogState) (pool left : PoolState) (d e : Option (List ℕ)) (a b : Option Content) → HasWritten rs log new pool left d e a b → Behind rs log new
behind rs log new pool left d e a b w = record {
  taken = w.taken;
  opening = ap (λ (l : LogState). l.opening) w.flushed ∙ w.appended.opening;
  files = ap (λ (l : LogState). l.files) w.flushed ∙ w.appended.files;
  rid = ap (λ (l : LogState). l.rid) w.flushed ∙ w.appended.rid;
  unsynced = ap (λ (l : LogState). l.unsynced) w.flushed;
}

-- ---- one record

pub next_queue : (log new : LogState) (hs next : List Held) (r : Record) (b c : Bool) → Behind (r ∷ []) log new → r.rid ≡ rid_given log.rid r.kind → next ≡ held_after r.kind (read_at log r) hs
    → (live new next c).queue ≡ after_record r.kind r (live log hs b).queue
next_queue log new hs next r b c w e h =
    ap (λ (o : Opening). record { name = o.name; last = new.rid; messages = messages_of next }) w.opening
    ∙ ap (λ (n : ℕ). record { name = log.opening.name; last = n; messages = messages_of next }) w.rid
    ∙ ap (λ (gs : List Held). record { name = log.opening.name; last = r.rid; messages = messages_of gs }) h
    ∙ sym (queue_one (read_at log r) log.opening.name log.rid hs e)

pub more_files : (hs taken all : List HeadedFile) → all ≡ hs ++ taken → 0 < length hs → 0 < length all
more_files hs taken all e some = omega (arith, some, ap length e, length-append hs taken)

pub next_sound : (log new : LogState) (hs next : List Held) (r : Record) (b : Bool) → IsSound (live log hs b) → Behind (r ∷ []) log new → new.ended ≡ false → r.rid ≡ rid_given log.rid r.kind → r.rid < 2 ^ 62 → length r.xid ≤ 128
    → next ≡ held_after r.kind (read_at log r) hs → IsSound (live new next false)
next_sound log new hs next r b s w unended e fits short h = record {
  name = refl;
  rid = refl;
  messages = refl;
  unended = unended;
  kind = ap (λ (o : Opening). o.kind) w.opening ∙ s.kind;
  flushed = w.unsynced;
  some = more_files log.files w.taken new.files w.files s.some;
  last = subst (λ n. n < 2 ^ 62) (sym w.rid) fits;
  below = subst (λ n. AllBelow (n + 1) next) (sym w.rid) (subst (AllBelow (r.rid + 1)) (sym h) (below_after r.kind (read_at log r) log.rid r.rid hs e refl s.below));
  xids = subst (AllByRecursion (λ g. HasXid g.status)) (sym h) (xids_after r.kind (read_at log r) hs short s.xids);
}

pub next_says : (log new : LogState) (hs next : List Held) (r : Record) (b c : Bool) (a z : Option Content) → IsSound (live log hs b) → Behind (r ∷ []) log new → r.rid ≡ rid_given log.rid r.kind
    → next ≡ held_after r.kind (read_at log r) hs → Tells (ReadsOn (r ∷ []) log new) a z → IfSome a (OnDisk (LogThere log)) → IfSome z (OnDisk (LogThere new)) → Tells (QueueReadsOn (live log hs b) (live new next c)) a z
next_says log new hs next r b c a z s w e h reads t u =
    told_says (r ∷ []) (live log hs b) (live new next c) w.taken a z s.some w.files w.opening (sym (next_queue log new hs next r b c w e h)) (held_one log r hs ∙ sym h) reads t u
