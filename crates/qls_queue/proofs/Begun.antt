-- A queue that was just made: its only file is its newest one.
use Rattle.std.proofs.Common.{◌≡◌, ℕ, Bool, false, not, ◌&&◌, List, [], ◌∷◌, map, Option, Some, None, IfSome, refl, sym, ap, ◌∙◌, subst}
use Rattle.qls_model.specs.declared.machine.QueueState.{QueueState}
use Rattle.qls_site.specs.Disk.{Disk}
use Rattle.qls_site.specs.Content.{Content, Tells}
use Rattle.qls_filehdr.specs.declared.FileHeader.{FileHeader}
use Rattle.qls_meaning.specs.Journals.{Headed, Journal}
use Rattle.qls_meaning.specs.Reading.{Read, journal_reading}
use Rattle.qls_meaning.specs.Replay.{queue_after}
use Rattle.qls_meaning.specs.Dead.{held_rids, holds, first_is_dead, has_dead_oldest, newest_number}
use Rattle.qls_meaning.specs.Orderly.{journal_on}
use Rattle.qls_enqmap.specs.declared.Held.{Held}
use Rattle.qls_pool.specs.Files.{HeadedFile, OnDisk}
use Rattle.qls_pool.proofs.Disks.{eqb_own}
use Rattle.qls_log.specs.declared.opening.Opening.{Opening}
use Rattle.qls_log.specs.Logs.{LogState, capacity_in}
use Rattle.qls_log.specs.Standing.{LogThere, AreThoseFiles, files_on}
use Rattle.qls_log.specs.Reads.{IsRead, BeginsReading}
use Rattle.qls_log.specs.Soundness.{IsUndamaged, BeginsUndamaged}
use Rattle.qls_log.specs.Appending.{IsNew, new_log}
use Rattle.qls_queue.specs.Live.{live, IsQueueRead}
use Rattle.qls_queue.specs.Releasing.{IsQueueClean, BeginsClean}
use Rattle.qls_queue.proofs.Says.{oldest_of}

-- ---- the newest file isn't dead

abbrev holds_none : Journal → Headed → Bool
holds_none j f = not (Rattle.std.specs.List.list_any (holds (held_rids j) f.header.number) (journal_reading j))

newest_alive : (j : Journal) (f : Headed) → j.files ≡ f ∷ [] → has_dead_oldest j ≡ false
newest_alive j f e =
    ap (first_is_dead j) e ∙ ap (λ (fs : List Headed). not (Rattle.std.specs.Prelude.◌==◌ f.header.number (newest_number fs)) && holds_none j f) e
    ∙ ap (λ b. not b && holds_none j f) (eqb_own f.header.number)

only_file : (cap : ℕ) (h : HeadedFile) (fs : List Headed) → AreThoseFiles cap (h ∷ []) fs → (f : Headed) × (fs ≡ f ∷ [])
only_file cap h [] t = absurd t
only_file cap h (f ∷ []) t = (f, refl)
only_file cap h (f ∷ g ∷ fs) t = absurd t.1

-- ---- the new queue

new_read : (o : Opening) (h : HeadedFile) (d : Disk) → h.header.rid ≡ 0 → LogThere (new_log o h) d → IsRead (new_log o h) [] d → IsQueueRead (live (new_log o h) [] false) d
new_read o h d zero there read =
    let start : ℕ → QueueState = λ n. record { name = o.name; last = n; messages = [] } in
    let first : Rattle.qls_meaning.specs.Damage.oldest_rid (files_on o d) ≡ 0 = oldest_of (capacity_in o) (h ∷ []) (files_on o d) there.there.files ∙ zero in
    record {
      reads = [];
      read = read;
      queue = ap (λ (xs : List Read). queue_after (map (λ x. x.what) xs) (start (Rattle.qls_meaning.specs.Damage.oldest_rid (files_on o d)))) read.reading ∙ ap start first;
      held = refl;
    }

new_clean : (o : Opening) (h : HeadedFile) (d : Disk) → h.header.rid ≡ 0 → LogThere (new_log o h) d → IsRead (new_log o h) [] d → IsUndamaged (new_log o h) d → IsQueueClean (live (new_log o h) [] false) d
new_clean o h d zero there read undamaged =
    let one = only_file (capacity_in o) h (files_on o d) there.there.files in
    record {
      whole = record { read = new_read o h d zero there read; undamaged = undamaged };
      alive = newest_alive (journal_on d o.kind o.name) one.0 one.1;
    }

begins_clean : (o : Opening) (l : LogState) (d : Disk) → IsNew o l → LogThere l d → IsRead l [] d → IsUndamaged l d → IsQueueClean (live l [] false) d
begins_clean o l d n there read undamaged =
    let h : HeadedFile = n.file in
    subst (λ (k : LogState). IsQueueClean (live k [] false) d) (sym n.log)
    (new_clean o h d (ap (λ (x : FileHeader). x.rid) n.header.0) (subst (λ (k : LogState). LogThere k d) n.log there) (subst (λ (k : LogState). IsRead k [] d) n.log read) (subst (λ (k : LogState). IsUndamaged k d) n.log undamaged))

pub told_begins_clean : (o : Opening) (l : LogState) (hs : List Held) (a b : Option Content) → hs ≡ [] → IsNew o l → IfSome b (OnDisk (LogThere l)) → Tells (BeginsReading l) a b → Tells (BeginsUndamaged l) a b
    → Tells (BeginsClean (live l hs false)) a b
told_begins_clean o l hs None None e n there r s = tt
told_begins_clean o l hs None (Some y) e n there r s = absurd r
told_begins_clean o l hs (Some x) None e n there r s = absurd r
told_begins_clean o l hs (Some x) (Some y) e n there r s = λ unmarked. subst (λ (gs : List Held). IsQueueClean (live l gs false) y.now.disk) (sym e) (begins_clean o l y.now.disk n there (r unmarked) (s unmarked))
