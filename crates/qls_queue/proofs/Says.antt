-- What a journal says behind a batch.
use Rattle.std.proofs.Common.{◌≡◌, ℕ, ◌<◌, List, [], ◌∷◌, ◌++◌, map, length, Option, Some, None, IfSome, refl, sym, ap, ◌∙◌, arith}
use Rattle.std.proofs.lemmas.List.{map-append}
use Rattle.qls_record.specs.Record.{Record}
use Rattle.qls_model.specs.declared.machine.QueueState.{QueueState}
use Rattle.qls_site.specs.Disk.{Disk}
use Rattle.qls_site.specs.Content.{Content, Tells, moments_since}
use Rattle.qls_filehdr.specs.declared.FileHeader.{FileHeader}
use Rattle.qls_meaning.specs.Journals.{Headed}
use Rattle.qls_meaning.specs.Reading.{Read}
use Rattle.qls_meaning.specs.Damage.{oldest_rid}
use Rattle.qls_meaning.specs.Replay.{queue_after}
use Rattle.qls_meaning.specs.History.{AllUnmarked}
use Rattle.qls_blocks.specs.Batching.{with_fillers}
use Rattle.qls_replay.specs.Held.{held_after_all}
use Rattle.qls_pool.specs.Files.{HeadedFile, OnDisk}
use Rattle.qls_log.specs.declared.opening.Opening.{Opening}
use Rattle.qls_log.specs.Logs.{LogState, capacity_in}
use Rattle.qls_log.specs.Standing.{LogThere, AreThoseFiles, files_on}
use Rattle.qls_log.specs.Reads.{IsRead, ReadsOn, batch_reads}
use Rattle.qls_queue.specs.Live.{LiveState, IsQueueRead, QueueReadsOn}
use Rattle.qls_queue.proofs.Replays.{queue_append, held_append, queue_filled}

-- ---- the rid in the oldest file's header

abbrev pub front_rid : List HeadedFile → ℕ
front_rid [] = 0
front_rid (h ∷ hs) = h.header.rid

pub oldest_of : (cap : ℕ) (hs : List HeadedFile) (fs : List Headed) → AreThoseFiles cap hs fs → oldest_rid fs ≡ front_rid hs
oldest_of cap [] [] t = refl
oldest_of cap [] (f ∷ fs) t = absurd t
oldest_of cap (h ∷ hs) [] t = absurd t
oldest_of cap (h ∷ hs) (f ∷ fs) t = ap (λ (x : FileHeader). x.rid) t.0.header

front_append : (hs more : List HeadedFile) → 0 < length hs → front_rid (hs ++ more) ≡ front_rid hs
front_append [] more some = absurd (omega arith)
front_append (h ∷ hs) more some = refl

-- ---- the queue

-- the files keep their oldest, so the records go on where they were
same_start : (old new : LogState) (taken : List HeadedFile) (d e : Disk) → 0 < length old.files → new.files ≡ old.files ++ taken → new.opening ≡ old.opening → LogThere old d → LogThere new e
    → oldest_rid (files_on new.opening e) ≡ oldest_rid (files_on old.opening d)
same_start old new taken d e some files opening t u =
    oldest_of (capacity_in new.opening) new.files (files_on new.opening e) u.there.files ∙ ap front_rid files ∙ front_append old.files taken some ∙ sym (oldest_of (capacity_in old.opening) old.files (files_on old.opening d) t.there.files)

says : (rs : List Record) (old new : LiveState) (taken : List HeadedFile) (a b : Content) → 0 < length old.log.files → new.log.files ≡ old.log.files ++ taken → new.log.opening ≡ old.log.opening
    → queue_after rs old.queue ≡ new.queue → held_after_all (batch_reads old.log rs) old.held ≡ new.held → ReadsOn rs old.log new.log a b → LogThere old.log a.now.disk → LogThere new.log b.now.disk
    → AllUnmarked a.now (moments_since a b) → IsQueueRead old a.now.disk → IsQueueRead new b.now.disk
says rs old new taken a b some files opening queue held r t u unmarked q =
    let more : List Read = batch_reads old.log rs in
    let next : IsRead new.log (q.reads ++ more) b.now.disk = r.read unmarked q.reads q.read in
    let o : Opening = old.log.opening in
    let start : QueueState = record { name = o.name; last = oldest_rid (files_on o a.now.disk); messages = [] } in
    let whats : map (λ x. x.what) (q.reads ++ more) ≡ map (λ x. x.what) q.reads ++ with_fillers rs = map-append (λ x. x.what) q.reads more ∙ ap (λ (ws : List Record). map (λ x. x.what) q.reads ++ ws) r.batch in
    let before : queue_after (map (λ x. x.what) q.reads) start ≡ old.queue = ap (λ (xs : List Read). queue_after (map (λ x. x.what) xs) start) (sym q.read.reading) ∙ q.queue in
    record {
      reads = q.reads ++ more;
      read = next;
      queue =
          ap (λ (xs : List Read). queue_after (map (λ x. x.what) xs) (record { name = new.log.opening.name; last = oldest_rid (files_on new.log.opening b.now.disk); messages = [] })) next.reading
          ∙ ap (λ (n : ℕ). queue_after (map (λ x. x.what) (q.reads ++ more)) (record { name = new.log.opening.name; last = n; messages = [] })) (same_start old.log new.log taken a.now.disk b.now.disk some files opening t u)
          ∙ ap (λ (p : Opening). queue_after (map (λ x. x.what) (q.reads ++ more)) (record { name = p.name; last = oldest_rid (files_on o a.now.disk); messages = [] })) opening
          ∙ ap (λ (ws : List Record). queue_after ws start) whats ∙ queue_append (map (λ x. x.what) q.reads) (with_fillers rs) start ∙ ap (queue_after (with_fillers rs)) before
          ∙ queue_filled rs old.queue ∙ queue;
      held = held_append q.reads more [] ∙ ap (held_after_all more) q.held ∙ held;
    }

pub told_says : (rs : List Record) (old new : LiveState) (taken : List HeadedFile) (a b : Option Content) → 0 < length old.log.files → new.log.files ≡ old.log.files ++ taken → new.log.opening ≡ old.log.opening
    → queue_after rs old.queue ≡ new.queue → held_after_all (batch_reads old.log rs) old.held ≡ new.held → Tells (ReadsOn rs old.log new.log) a b → IfSome a (OnDisk (LogThere old.log)) → IfSome b (OnDisk (LogThere new.log))
    → Tells (QueueReadsOn old new) a b
told_says rs old new taken None None some files opening queue held r t u = tt
told_says rs old new taken None (Some y) some files opening queue held r t u = absurd r
told_says rs old new taken (Some x) None some files opening queue held r t u = absurd r
told_says rs old new taken (Some x) (Some y) some files opening queue held r t u = record { adds = r.adds; read = says rs old new taken x y some files opening queue held r t u }
