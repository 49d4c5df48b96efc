-- The only file of a queue without messages goes back to its pool.
use Rattle.std.proofs.Common.{◌≡◌, inl, inr, Bool, List, [], ◌∷◌, ◌++◌, length, Option, Some, None, IfSome, Result, Ok, Err, ap, ◌∙◌, subst, arith, length-append}
use Rattle.qls_model.specs.declared.machine.QueueState.{QueueState}
use Rattle.qls_site.specs.declared.site.SiteError.{SiteError}
use Rattle.qls_site.specs.Disk.{IsQuiet}
use Rattle.qls_site.specs.Content.{Content, Tells, Acts, MayAct, Leads}
use Rattle.qls_filehdr.specs.declared.JournalKind.TheVariants.{Queue}
use Rattle.qls_enqmap.specs.declared.Held.{Held}
use Rattle.qls_meaning.specs.Journals.{is_queue}
use Rattle.qls_pool.specs.Files.{HeadedFile, OnDisk}
use Rattle.qls_pool.specs.Taking.{put_back}
use Rattle.qls_pool.specs.Moments.{Passes}
use Rattle.qls_pool.proofs.Moments.{Passes-of, Passes-same, Passes-may, Passes-leads, Arrives-acts}
use Rattle.qls_replay.specs.Held.{messages_of}
use Rattle.qls_log.specs.declared.fault.LogError.{LogError}
use Rattle.qls_log.specs.Logs.{LogState, IsSound, capacity_in}
use Rattle.qls_log.specs.Standing.{LogThere, files_on}
use Rattle.qls_log.specs.Leaving.{LeavesInOrder}
use Rattle.qls_log.specs.Returning.{GivesAll, with_backs}
use Rattle.qls_log.proofs.Older.{those_count}
use Rattle.qls_queue.specs.Live.{live}
use Rattle.qls_queue.specs.Moments.{LeavesDead}
use Rattle.qls_queue.specs.Releasing.{IsQueueWhole}
use Rattle.qls_queue.proofs.Then.{chain_since}
use Rattle.qls_queue.proofs.Unlinked.{old_file, old_found, old_rests, leaves_none, leaves_one}

module _ (l : LogState) (hs : List Held) (b : Bool) (kind : l.opening.kind ≡ Queue) (flushed : l.unsynced ≡ []) (empty : messages_of hs ≡ []) where
  module _ (h : HeadedFile) (sound : IsSound (record l { files = h ∷ [] })) (x y : Content) (there : LogThere (record l { files = h ∷ [] }) x.now.disk) (quiet : IsQuiet x.now.disk) (whole : IsQueueWhole (live (record l { files = h ∷ [] }) hs b) x.now.disk) where
    only_leaves : LeavesInOrder x.now (put_back h.id h.header x.now)
    only_leaves =
        leaves_one l.opening h x.now (old_file l h [] x.now.disk sound there) quiet there.there.differ (old_found l h [] x.now.disk sound there) (old_rests l h [] x.now.disk sound there flushed) sound.legal.0 sound.all.0
        (inr (inr (those_count (capacity_in l.opening) (h ∷ []) (files_on l.opening x.now.disk) there.there.files, ap is_queue kind, ap (λ (q : QueueState). q.messages) whole.read.queue ∙ empty)))

    stopped_by : (before : List HeadedFile) (file : HeadedFile) (after : List HeadedFile) (e : SiteError) → h ∷ [] ≡ before ++ file ∷ after
        → Leads {X = Unit {0}} (Acts (put_back file.id file.header)) (MayAct (put_back file.id file.header)) (Err e) (with_backs before x) y → Passes LeavesInOrder x y
    stopped_by [] file after e is f =
        let same : file ≡ h = cc in
        Passes-leads LeavesInOrder (Unit {0}) (Acts (put_back h.id h.header)) (MayAct (put_back h.id h.header)) e x y (λ may. Passes-may LeavesInOrder (put_back h.id h.header) x y (leaves_none x.now there.there.differ) only_leaves may)
        (subst (λ (k : HeadedFile). Leads {X = Unit {0}} (Acts (put_back k.id k.header)) (MayAct (put_back k.id k.header)) (Err e) x y) same f)
    stopped_by (k ∷ before) file after e is f = absurd (omega (arith, ap length is, length-append before (file ∷ after)))

    only_passes : (r : Result (Unit {0}) LogError) → GivesAll (h ∷ []) r x y → Passes LeavesInOrder x y
    only_passes (Ok v) t = Passes-of LeavesInOrder x y (Arrives-acts LeavesInOrder (put_back h.id h.header) x y only_leaves t)
    only_passes (Err e) (inl t) = Passes-same LeavesInOrder x y t.1
    only_passes (Err e) (inr t) = stopped_by t.2.before t.2.file t.2.after t.0 t.2.is t.2.fails

  one_passes : (fs : List HeadedFile) → length fs ≡ 1 → IsSound (record l { files = fs }) → (r : Result (Unit {0}) LogError) (x y : Content) → LogThere (record l { files = fs }) x.now.disk → GivesAll fs r x y → IsQuiet x.now.disk
      → IsQueueWhole (live (record l { files = fs }) hs b) x.now.disk → Passes LeavesInOrder x y
  one_passes [] one sound r x y there t quiet whole = absurd (omega (arith, one))
  one_passes (h ∷ []) one sound r x y there t quiet whole = only_passes h sound x y there quiet whole r t
  one_passes (h ∷ g ∷ fs) one sound r x y there t quiet whole = absurd (omega (arith, one))

  pub told_only_leaves : length l.files ≡ 1 → IsSound l → (r : Result (Unit {0}) LogError) (a z : Option Content) → IfSome a (OnDisk (LogThere l)) → Tells (GivesAll l.files r) a z → Tells (LeavesDead (live l hs b)) a z
  told_only_leaves one sound r None None there t = tt
  told_only_leaves one sound r None (Some y) there t = absurd t
  told_only_leaves one sound r (Some x) None there t = absurd t
  told_only_leaves one sound r (Some x) (Some y) there t = λ quiet unmarked whole. chain_since LeavesInOrder x y (one_passes l.files one sound r x y there t quiet whole)
