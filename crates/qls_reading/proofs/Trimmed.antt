-- A journal that was read and stands as it was read may be trimmed, and what is known of the log that is left.
use Rattle.std.proofs.Common.{◌≡◌, ℕ, ◌+◌, ◌<◌, List, [], ◌∷◌, map, length, Option, Some, None, IfSome, IfOk, Result, Ok, Err, refl, sym, ap, ◌∙◌, subst}
use Rattle.qls_model.specs.declared.machine.PoolId.{PoolId}
use Rattle.qls_site.specs.Disk.{Disk}
use Rattle.qls_site.specs.Content.{Content}
use Rattle.qls_filehdr.specs.declared.FileHeader.{FileHeader}
use Rattle.qls_meaning.specs.Journals.{Headed}
use Rattle.qls_meaning.specs.Spent.{greatest_epoch}
use Rattle.qls_meaning.specs.Orderly.{journal_on}
use Rattle.qls_pool.specs.Pools.{PoolState}
use Rattle.qls_pool.specs.Files.{HeadedFile as LinkedFile, OnDisk, IsWholePool}
use Rattle.qls_log.specs.declared.opening.Opening.{Opening}
use Rattle.qls_log.specs.declared.fault.LogError.{LogError}
use Rattle.qls_log.specs.Logs.{LogState, capacity_in}
use Rattle.qls_log.specs.Standing.{AreThoseFiles}
use Rattle.qls_log.specs.Reopening.{reopened}
use Rattle.qls_log.specs.Trimming.{without_last, last_epoch, last_number, opened_behind, MayTrim}
use Rattle.qls_scan.specs.declared.answers.HeadedFile.{HeadedFile}
use Rattle.qls_scan.specs.declared.answers.JournalFiles.{JournalFiles}
use Rattle.qls_scan.specs.Found.{head_of}
use Rattle.qls_reading.specs.Groups.{last_run}
use Rattle.qls_reading.specs.ReadLogs.{ReadLogState, IsSoundLog, linked, linked_files, first_home, opening_behind, StandsAsRead}
use Rattle.qls_reading.proofs.Kept.{epoch_kept, fewer}
use Rattle.qls_reading.proofs.Row.{rising_greatest}

-- the opening of the files that are left is that of all
pub opening_left : (j : JournalFiles) (past : ℕ) (home : PoolId) (hs : List LinkedFile) → past < length (last_run j.files) → home ≡ first_home j.files → hs ≡ linked_files j
    → opened_behind j.kind j.name home (without_last past hs) ≡ opening_behind j
opening_left j past home hs l is files =
    let epoch : last_epoch (without_last past hs) ≡ last_epoch (linked_files j) = ap (λ (gs : List LinkedFile). last_epoch (without_last past gs)) files ∙ epoch_kept j past l in
    (λ i. record { kind = j.kind; name = j.name; home = is i; epoch = epoch i + 1 })

may_trim : (log : ReadLogState) (pool : PoolState) (d : Disk) → IsSoundLog log → StandsAsRead log d → IsWholePool pool d → MayTrim (opening_behind log.journal) pool (linked_files log.journal) log.past log.rid d
may_trim log pool d sound stands whole = record {
  spare = whole.1;
  there = stands.there;
  rests = stands.rests;
  fewer = fewer log.journal log.past sound.within;
  past = stands.past;
  rules = stands.rules;
  rid = stands.rid;
}

pub told_may : (log : ReadLogState) (pool : PoolState) (o : Opening) (hs : List LinkedFile) (a : Option Content) → o ≡ opening_behind log.journal → hs ≡ linked_files log.journal → IsSoundLog log
    → IfSome a (OnDisk (StandsAsRead log)) → IfSome a (OnDisk (IsWholePool pool)) → IfSome a (OnDisk (MayTrim o pool hs log.past log.rid))
told_may log pool o hs None opening files sound stands whole = tt
told_may log pool o hs (Some c) opening files sound stands whole =
    subst (λ (X : Type 0). X) (λ i. MayTrim (sym opening i) pool (sym files i) log.past log.rid c.now.disk) (may_trim log pool c.now.disk sound stands whole)

-- ---- what is known of the log

abbrev pub log_left : ReadLogState → LogState
log_left log = let kept : List LinkedFile = without_last log.past (linked_files log.journal) in reopened (opening_behind log.journal) kept (last_number kept) log.rid

same_home : (capacity : ℕ) (hs : List HeadedFile) (fs : List Headed) → AreThoseFiles capacity (map linked hs) fs → first_home hs ≡ first_home (map head_of fs)
same_home capacity [] [] those = refl
same_home capacity [] (f ∷ fs) those = absurd those
same_home capacity (h ∷ hs) [] those = absurd those
same_home capacity (h ∷ hs) (f ∷ fs) those = ap (λ (x : FileHeader). first_home (record { id = h.id; header = x } ∷ [])) (sym those.0.header)

module _ (log : ReadLogState) where
  abbrev files : Disk → List Headed
  files d = (journal_on d log.journal.kind log.journal.name).files

  pub told_epoch : (a : Option Content) (r : Result LogState LogError) → IfOk r (λ x. x ≡ log_left log) → IfSome a (OnDisk (StandsAsRead log)) → IfOk r (λ x. IfSome a (OnDisk (λ d. x.opening.epoch ≡ greatest_epoch (files d) + 1)))
  told_epoch a (Err e) is stands = tt
  told_epoch None (Ok x) is stands = tt
  told_epoch (Some c) (Ok x) is stands =
      let greatest : greatest_epoch (files c.now.disk) ≡ last_epoch (linked_files log.journal) =
      rising_greatest (capacity_in (opening_behind log.journal)) (linked_files log.journal) (files c.now.disk) stands.there.files stands.rules.chain in
      ap (λ (l : LogState). l.opening.epoch) is ∙ ap (λ n. n + 1) (sym greatest)

  pub told_home : (a : Option Content) (r : Result LogState LogError) → IfOk r (λ x. x ≡ log_left log) → IfSome a (OnDisk (StandsAsRead log)) → IfOk r (λ x. IfSome a (OnDisk (λ d. x.opening.home ≡ first_home (map head_of (files d)))))
  told_home a (Err e) is stands = tt
  told_home None (Ok x) is stands = tt
  told_home (Some c) (Ok x) is stands =
      ap (λ (l : LogState). l.opening.home) is ∙ same_home (capacity_in (opening_behind log.journal)) log.journal.files (files c.now.disk) stands.there.files
