-- A list whose dead files went back: what its log's answer says of it.
use Rattle.std.proofs.Common.{◌≡◌, inl, inr, ℕ, ◌+◌, ◌^◌, ◌<◌, ◌≤◌, true, List, [], length, Option, Some, None, IfSome, Result, Ok, Err, refl, sym, ap, ◌∙◌, subst, ◌==◌, cond}
use Rattle.std.specs.List.{AllByRecursion}
use Rattle.qls_model.specs.Limits.{is_partition, is_kib}
use Rattle.qls_site.specs.Disk.{Disk, IsQuiet}
use Rattle.qls_site.specs.Content.{Moment, Content, Tells}
use Rattle.qls_decide.specs.declared.ListEntry.{ListEntry}
use Rattle.qls_filehdr.specs.declared.JournalKind.TheVariants as journal
use Rattle.qls_enqmap.specs.declared.Held.{Held}
use Rattle.qls_enqmap.specs.Records.{AllBelow}
use Rattle.qls_pool.specs.Files.{HeadedFile, OnDisk, Carries}
use Rattle.qls_pool.specs.Moments.{Passes}
use Rattle.qls_pool.proofs.Moments.{Passes-of, Passes-same}
use Rattle.qls_log.specs.declared.fault.LogError.{LogError}
use Rattle.qls_log.specs.Logs.{LogState, IsSound, without_first}
use Rattle.qls_log.specs.Standing.{LogThere}
use Rattle.qls_log.specs.Leaving.{LeavesInOrder}
use Rattle.qls_log.specs.Returning.{GivesAll, before_number, released, with_backs}
use Rattle.qls_log.proofs.Releases.{sound_without}
use Rattle.qls_prepared.specs.Lists.{PreparedState, IsOwnLog, IsOwn, IsBegun, IsXid, XidsRise, RidsDiffer, rid_of, rid_of_log, IsReadSo, WholeBy, AliveBy, IsListWhole, IsListClean, BecomesClean}
use Rattle.qls_prepared.specs.Lists as lists
use Rattle.qls_prepared.specs.Moments.{LeavesDead}
use Rattle.qls_prepared.specs.Releasing.{first_needed, IsReadClean}
use Rattle.qls_prepared.proofs.GoneDead.{first_below, shorter, Stops, stops, Ready, ready_after, quiet_after, all_leave, stopped_leave, clean_after}
use Rattle.qls_prepared.proofs.Then.{adds_of, chain_since}

-- ---- the files, and the log without them

pub flushed_released : (n : ℕ) (l : LogState) → l.unsynced ≡ [] → released n l ≡ before_number n l.files
flushed_released n l e = ap (λ (own : List ℕ). cond (length own == 0) (before_number n l.files) []) e

-- ---- a list with a log

pub whole_of : (p : PreparedState) (l : LogState) (d : Disk) → p.log ≡ Some l → IsListWhole p d → IsReadSo l p.entries p.held d
whole_of p l d is w = subst (λ o. WholeBy o p.entries p.held d) is w

clean_of : (p : PreparedState) (l : LogState) (es : List ListEntry) (hs : List Held) (d : Disk) → p.log ≡ Some l → p.entries ≡ es → p.held ≡ hs → IsReadClean l es hs d → IsListClean p d
clean_of p l es hs d a b c k = record {
  whole = subst (λ o. WholeBy o p.entries p.held d) (sym a) (subst (λ (xs : List ListEntry). IsReadSo l xs p.held d) (sym b) (subst (λ (gs : List Held). IsReadSo l es gs d) (sym c) k.whole));
  alive = subst (λ o. AliveBy o d) (sym a) k.alive;
}

module _ (p : PreparedState) (l : LogState) (of : p.log ≡ Some l) (sound : IsSound l) (kind : l.opening.kind ≡ journal.List) (flushed : l.unsynced ≡ []) where
  abbrev es : List ListEntry
  es = p.entries

  abbrev hs : List Held
  hs = p.held

  abbrev needed : ℕ
  needed = first_needed l hs

  abbrev gone : List HeadedFile
  gone = before_number needed l.files

  abbrev kept : LogState
  kept = without_first (length gone) l

  gone_are : released needed l ≡ gone
  gone_are = flushed_released needed l flushed

  kept_is : without_first (length (released needed l)) l ≡ kept
  kept_is = ap (λ (ds : List HeadedFile). without_first (length ds) l) gone_are

  kept_sound : IsSound kept
  kept_sound = sound_without l kept (length gone) sound (shorter needed l.files gone sound.some (first_below needed l.files)) flushed refl refl refl refl refl refl refl

  stopped : Stops needed kept.files
  stopped = stops needed l.files sound.some

  start : (d : Disk) → LogThere l d → IsReadSo l es hs d → Ready l es hs l.older l.files d
  start d there whole = record { sound = sound; there = there; whole = whole }

  -- what the list became
  module _ (q : PreparedState) (new : LogState) (to : q.log ≡ Some new) (same : q.entries ≡ es) (held : q.held ≡ hs) (is : new ≡ without_first (length (released needed l)) l) where
    new_is : new ≡ kept
    new_is = is ∙ kept_is

    pub released_sound : IsSound new
    released_sound = subst IsSound (sym new_is) kept_sound

    clean : (x y : Content) → LogThere l x.now.disk → y ≡ with_backs (released needed l) x → IsListWhole p x.now.disk → IsListClean q y.now.disk
    clean x y there t whole =
        let back : y ≡ with_backs gone x = t ∙ ap (λ (ds : List HeadedFile). with_backs ds x) gone_are in
        let ready : Ready l es hs kept.older kept.files (with_backs gone x).now.disk =
        ready_after l es hs kind flushed gone l.files l.older x (first_below needed l.files) (start x.now.disk there (whole_of p l x.now.disk of whole)) in
        let then : IsReadClean kept es hs y.now.disk =
        subst (λ (c : Content). IsReadClean kept es hs c.now.disk) (sym back) (clean_after l es hs kind flushed kept.older kept.files (with_backs gone x).now.disk stopped ready) in
        clean_of q kept es hs y.now.disk (to ∙ ap (λ (m : LogState). Some m) new_is) same held then

    -- the journal says the entries still, and its oldest file isn't dead
    pub told_clean : (v : Unit {0}) (a b : Option Content) → IfSome a (OnDisk (LogThere l)) → Tells (GivesAll (released needed l) (Ok v)) a b → Carries (IsListWhole p) (IsListClean q) a b
    told_clean v None b there t = tt
    told_clean v (Some x) None there t = tt
    told_clean v (Some x) (Some y) there t = clean x y there t

  -- ---- files that leave use

  dead_passes : (r : Result (Unit {0}) LogError) (x y : Content) → LogThere l x.now.disk → GivesAll gone r x y → IsQuiet x.now.disk → IsReadSo l es hs x.now.disk → Passes LeavesInOrder x y
  dead_passes (Ok v) x y there t quiet whole =
      subst (λ (c : Content). Passes LeavesInOrder x c) (sym t)
      (Passes-of LeavesInOrder x (with_backs gone x) (all_leave l es hs kind flushed gone l.files l.older x (first_below needed l.files) (start x.now.disk there whole) quiet))
  dead_passes (Err e) x y there (inl t) quiet whole = Passes-same LeavesInOrder x y t.1
  dead_passes (Err e) x y there (inr t) quiet whole = stopped_leave l es hs kind flushed gone t.0 x y (first_below needed l.files) t.2 (start x.now.disk there whole) quiet

  pub told_leaves : (r : Result (Unit {0}) LogError) (a b : Option Content) → IfSome a (OnDisk (LogThere l)) → Tells (GivesAll (released needed l) r) a b → Tells (LeavesDead p) a b
  told_leaves r None None there t = tt
  told_leaves r None (Some y) there t = absurd t
  told_leaves r (Some x) None there t = absurd t
  told_leaves r (Some x) (Some y) there t = λ quiet unmarked whole.
      chain_since LeavesInOrder x y (dead_passes r x y there (subst (λ (ds : List HeadedFile). GivesAll ds r x y) gone_are t) quiet (whole_of p l x.now.disk of whole))

-- ---- a list that is sound

pub own_by : (o : Option LogState) (l : LogState) → o ≡ Some l → IsOwn o → IsOwnLog l
own_by o l of own = subst IsOwn of own

module _ (p : PreparedState) (l : LogState) (of : p.log ≡ Some l) (s : lists.IsSound p) where
  own : IsOwnLog l
  own = own_by p.log l of s.log

  kind : l.opening.kind ≡ journal.List
  kind = own.kind

  pub list_leaves : (r : Result (Unit {0}) LogError) (a b : Option Content) → IfSome a (OnDisk (LogThere l)) → Tells (GivesAll (released (first_needed l p.held) l) r) a b → Tells (LeavesDead p) a b
  list_leaves = told_leaves p l of own.sound kind own.flushed

  module _ (q : PreparedState) (new : LogState) (to : q.log ≡ Some new) (same : q.entries ≡ p.entries) (held : q.held ≡ p.held) (is : new ≡ without_first (length (released (first_needed l p.held) l)) l) where
    pub list_clean : (v : Unit {0}) (a b : Option Content) → IfSome a (OnDisk (LogThere l)) → Tells (GivesAll (released (first_needed l p.held) l) (Ok v)) a b → Carries (IsListWhole p) (IsListClean q) a b
    list_clean = told_clean p l of own.sound kind own.flushed q new to same held is

    -- the same record id is in force
    pub list_rid : rid_of q ≡ rid_of p
    list_rid = ap rid_of_log to ∙ ap (λ (m : LogState). m.rid) is ∙ sym (ap rid_of_log of)

    own_less : IsOwnLog new
    own_less = record {
      kind = ap (λ (m : LogState). m.opening.kind) is ∙ own.kind;
      name = ap (λ (m : LogState). m.opening.name) is ∙ own.name;
      unended = ap (λ (m : LogState). m.ended) is ∙ own.unended;
      flushed = ap (λ (m : LogState). m.unsynced) is ∙ own.flushed;
      sound = released_sound p l of own.sound kind own.flushed q new to same held is;
    }

    pub list_sound : q.home ≡ p.home → lists.IsSound q
    list_sound home = record {
      home = subst (λ h. (is_partition h.part ≡ true) × (is_kib h.kib ≡ true)) (sym home) s.home;
      log = subst IsOwn (sym to) own_less;
      begun = subst (λ o. IsBegun o q.entries) (sym to) tt;
      rid = subst (λ n. n < 2 ^ 62) (sym list_rid) s.rid;
      rising = subst XidsRise (sym same) s.rising;
      xids = subst (AllByRecursion (λ e. IsXid e.xid)) (sym same) s.xids;
      below = subst (λ n. AllByRecursion (λ e. e.rid ≤ n) q.entries) (sym list_rid) (subst (AllByRecursion (λ e. e.rid ≤ rid_of p)) (sym same) s.below);
      apart = subst RidsDiffer (sym same) s.apart;
      held = subst (λ n. AllBelow (n + 1) q.held) (sym list_rid) (subst (AllBelow (rid_of p + 1)) (sym held) s.held);
    }

-- ---- moments

-- a call that leaves the list clean, and adds moments
pub told_becomes : (p q : PreparedState) (R : Moment → Moment → Type 0) (a b : Option Content) → Tells (Passes R) a b → Carries (IsListWhole p) (IsListClean q) a b → Tells (BecomesClean p q) a b
told_becomes p q R None None h k = tt
told_becomes p q R None (Some y) h k = absurd h
told_becomes p q R (Some x) None h k = absurd h
told_becomes p q R (Some x) (Some y) h k = record { adds = adds_of R x y h; clean = λ unmarked w. k w }

-- a list without a file stays as it is
none_clean : (p q : PreparedState) (d : Disk) → p.log ≡ None → q.log ≡ None → q.entries ≡ p.entries → q.held ≡ p.held → IsListWhole p d → IsListClean q d
none_clean p q d from to same held w =
    let none : (p.entries ≡ []) × (p.held ≡ []) = subst (λ o. WholeBy o p.entries p.held d) from w in
    record { whole = subst (λ o. WholeBy o q.entries q.held d) (sym to) (same ∙ none.0, held ∙ none.1); alive = subst (λ o. AliveBy o d) (sym to) tt }

pub told_none_clean : (p q : PreparedState) (a : Option Content) → p.log ≡ None → q.log ≡ None → q.entries ≡ p.entries → q.held ≡ p.held → Carries (IsListWhole p) (IsListClean q) a a
told_none_clean p q None from to same held = tt
told_none_clean p q (Some x) from to same held = none_clean p q x.now.disk from to same held

-- ---- nothing is pending

pub told_quiet : (ds : List HeadedFile) (v : Unit {0}) (a b : Option Content) → Tells (GivesAll ds (Ok v)) a b → Carries IsQuiet IsQuiet a b
told_quiet ds v None b t = tt
told_quiet ds v (Some x) None t = tt
told_quiet ds v (Some x) (Some y) t = λ q. subst (λ (c : Content). IsQuiet c.now.disk) (sym t) (quiet_after ds x q)
