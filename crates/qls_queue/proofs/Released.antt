-- A queue whose dead files went back: what its log's answer says of it.
use Rattle.std.proofs.Common.{◌≡◌, inl, inr, ℕ, false, List, [], ◌∷◌, length, drop, Option, Some, None, IfSome, Result, Ok, Err, refl, sym, ap, ◌∙◌, subst, ◌==◌, cond}
use Rattle.qls_site.specs.Disk.{Disk, IsQuiet}
use Rattle.qls_site.specs.Content.{Content, Tells}
use Rattle.qls_filehdr.specs.declared.JournalKind.TheVariants.{Queue}
use Rattle.qls_enqmap.specs.declared.Held.{Held}
use Rattle.qls_enqmap.specs.Records.{least_file}
use Rattle.qls_pool.specs.Files.{HeadedFile, OnDisk, Carries}
use Rattle.qls_pool.specs.Moments.{Passes}
use Rattle.qls_pool.proofs.Moments.{Passes-of, Passes-same}
use Rattle.qls_replay.specs.Held.{messages_of}
use Rattle.qls_log.specs.declared.fault.LogError.{LogError}
use Rattle.qls_log.specs.Logs.{LogState, without_first}
use Rattle.qls_log.specs.Logs as logs
use Rattle.qls_log.specs.Standing.{LogThere}
use Rattle.qls_log.specs.Leaving.{LeavesInOrder}
use Rattle.qls_log.specs.Returning.{GivesAll, before_number, released, with_backs}
use Rattle.qls_log.proofs.Releases.{sound_without}
use Rattle.qls_queue.specs.Live.{live, IsSound}
use Rattle.qls_queue.specs.Moments.{LeavesDead}
use Rattle.qls_queue.specs.Releasing.{file_or, IsQueueWhole, IsQueueClean}
use Rattle.qls_queue.proofs.GoneDead.{first_below, shorter, Stops, stops, one_stays, Ready, ready_after, quiet_after, all_leave, stopped_leave, clean_after}
use Rattle.qls_queue.proofs.Then.{chain_since}

-- ---- the files, and the log without them

pub flushed_released : (n : ℕ) (l : LogState) → l.unsynced ≡ [] → released n l ≡ before_number n l.files
flushed_released n l e = ap (λ (own : List ℕ). cond (length own == 0) (before_number n l.files) []) e

-- the number that the code computes
pub needed_is : (number newest last : ℕ) (held hs : List Held) → number ≡ file_or newest (least_file held) → newest ≡ last → held ≡ hs → number ≡ file_or last (least_file hs)
needed_is number newest last held hs a b c = a ∙ ap (λ n. file_or n (least_file held)) b ∙ ap (λ (gs : List Held). file_or last (least_file gs)) c

pub log_is : (l new : LogState) (number n : ℕ) → number ≡ n → new ≡ without_first (length (released number l)) l → new ≡ without_first (length (released n l)) l
log_is l new number n e is = is ∙ ap (λ k. without_first (length (released k l)) l) e

no_message : (hs : List Held) → messages_of hs ≡ [] → hs ≡ []
no_message [] e = refl
no_message (h ∷ hs) e = absurd (cc)

module _ (l : LogState) (hs : List Held) (sound : logs.IsSound l) (kind : l.opening.kind ≡ Queue) (flushed : l.unsynced ≡ []) where
  abbrev needed : ℕ
  needed = file_or l.newest (least_file hs)

  abbrev gone : List HeadedFile
  gone = before_number needed l.files

  abbrev kept : LogState
  kept = without_first (length gone) l

  gone_are : released needed l ≡ gone
  gone_are = flushed_released needed l flushed

  kept_is : without_first (length (released needed l)) l ≡ kept
  kept_is = ap (λ (ds : List HeadedFile). without_first (length ds) l) gone_are

  kept_sound : logs.IsSound kept
  kept_sound = sound_without l kept (length gone) sound (shorter needed l.files gone sound.some (first_below needed l.files)) flushed refl refl refl refl refl refl refl

  stopped : Stops needed kept.files
  stopped = stops needed l.files sound.some

  start : (d : Disk) → LogThere l d → IsQueueWhole (live l hs false) d → Ready l hs false l.older l.files d
  start d there whole = record { sound = sound; there = there; whole = whole }

  -- what the log became
  module _ (new : LogState) (is : new ≡ without_first (length (released needed l)) l) where
    new_is : new ≡ kept
    new_is = is ∙ kept_is

    pub released_sound : logs.IsSound new
    released_sound = subst logs.IsSound (sym new_is) kept_sound

    pub released_one : messages_of hs ≡ [] → length new.files ≡ 1
    released_one e =
        let none : needed ≡ l.newest = ap (λ (gs : List Held). file_or l.newest (least_file gs)) (no_message hs e) in
        ap (λ (m : LogState). length m.files) new_is ∙ one_stays needed _ l.newest kept.files none kept_sound.numbers stopped

    pub queue_sound : (b : _) → IsSound (live l hs b) → IsSound (live new hs false)
    queue_sound b s = subst (λ (m : LogState). IsSound (live m hs false)) (sym new_is) (record {
      name = refl;
      rid = refl;
      messages = refl;
      unended = s.unended;
      kind = s.kind;
      flushed = s.flushed;
      some = kept_sound.some;
      last = s.last;
      below = s.below;
      xids = s.xids;
    })

    clean : (x y : Content) → LogThere l x.now.disk → y ≡ with_backs (released needed l) x → IsQueueWhole (live l hs false) x.now.disk → IsQueueClean (live new hs false) y.now.disk
    clean x y there t whole =
        let back : y ≡ with_backs gone x = t ∙ ap (λ (ds : List HeadedFile). with_backs ds x) gone_are in
        let ready : Ready l hs false kept.older kept.files (with_backs gone x).now.disk = ready_after l hs false kind flushed gone l.older l.files x (first_below needed l.files) (start x.now.disk there whole) in
        subst (λ (m : LogState). IsQueueClean (live m hs false) y.now.disk) (sym new_is)
        (subst (λ (c : Content). IsQueueClean (live kept hs false) c.now.disk) (sym back) (clean_after l hs false kind flushed kept.older kept.files (with_backs gone x).now.disk stopped ready))

    -- the journal says the queue still, and its oldest file isn't dead
    pub told_clean : (v : Unit {0}) (a b : Option Content) → IfSome a (OnDisk (LogThere l)) → Tells (GivesAll (released needed l) (Ok v)) a b → Carries (IsQueueWhole (live l hs false)) (IsQueueClean (live new hs false)) a b
    told_clean v None b there t = tt
    told_clean v (Some x) None there t = tt
    told_clean v (Some x) (Some y) there t = clean x y there t

  -- ---- files that leave use

  dead_passes : (r : Result (Unit {0}) LogError) (x y : Content) → LogThere l x.now.disk → GivesAll gone r x y → IsQuiet x.now.disk → IsQueueWhole (live l hs false) x.now.disk → Passes LeavesInOrder x y
  dead_passes (Ok v) x y there t quiet whole =
      subst (λ (c : Content). Passes LeavesInOrder x c) (sym t)
      (Passes-of LeavesInOrder x (with_backs gone x) (all_leave l hs false kind flushed gone l.older l.files x (first_below needed l.files) (start x.now.disk there whole) quiet))
  dead_passes (Err e) x y there (inl t) quiet whole = Passes-same LeavesInOrder x y t.1
  dead_passes (Err e) x y there (inr t) quiet whole = stopped_leave l hs false kind flushed gone t.0 x y (first_below needed l.files) t.2 (start x.now.disk there whole) quiet

  pub told_leaves : (r : Result (Unit {0}) LogError) (a b : Option Content) → IfSome a (OnDisk (LogThere l)) → Tells (GivesAll (released needed l) r) a b → Tells (LeavesDead (live l hs false)) a b
  told_leaves r None None there t = tt
  told_leaves r None (Some y) there t = absurd t
  told_leaves r (Some x) None there t = absurd t
  told_leaves r (Some x) (Some y) there t = λ quiet unmarked whole.
      chain_since LeavesInOrder x y (dead_passes r x y there (subst (λ (ds : List HeadedFile). GivesAll ds r x y) gone_are t) quiet whole)

-- ---- nothing is pending

pub told_quiet : (ds : List HeadedFile) (v : Unit {0}) (a b : Option Content) → Tells (GivesAll ds (Ok v)) a b → Carries IsQuiet IsQuiet a b
told_quiet ds v None b t = tt
told_quiet ds v (Some x) None t = tt
told_quiet ds v (Some x) (Some y) t = λ q. subst (λ (c : Content). IsQuiet c.now.disk) (sym t) (quiet_after ds x q)
