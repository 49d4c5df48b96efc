-- Syncs and relocations in a row: nothing is written, and which sectors are covered.
use Rattle.std.proofs.Common.{◌≡◌, ℕ, ◌*◌, true, false, List, [], ◌∷◌, take, Option, Some, None, IfSome, Result, Ok, Err, refl, sym, ap, ◌∙◌, subst, arith}
use Rattle.std.specs.List.{AllByRecursion}
use Rattle.qls_site.specs.declared.site.SiteError.{SiteError}
use Rattle.qls_site.specs.declared.site.SiteError.TheVariants.{Failed, Memory}
use Rattle.qls_site.specs.Disk.{Disk, FileState, file_of, all_written, sync_at}
use Rattle.qls_site.specs.Content.{Moment, Content, Tells, Stays, Leads, on_disk, moments_since}
use Rattle.qls_site.proofs.Told.{file_of-change_file, Tells-weaken}
use Rattle.qls_meaning.specs.Journals.{is_in_use}
use Rattle.qls_meaning.specs.History.{History, FreeArea, CleanFile, IsClean, now, is_file_in_use, is_pending, uses, is_free}
use Rattle.qls_blocks.specs.Parts.{Syncs, with_sync, with_syncs}
use Rattle.qls_laws.proofs.CleanAreas.{free_clean}
use Rattle.qls_pool.specs.Files.{HeadedFile, IdsDiffer, LinkedThere, IsLinked, OnDisk}
use Rattle.qls_pool.specs.Moments.{Chain, Passes, Arrives}
use Rattle.qls_pool.proofs.Moments.{Arrives-then, Arrives-acts, Arrives-same, Passes-of, Passes-weaken, chain_weaken, since_is}
use Rattle.qls_pool.proofs.Disks.{at_change}
use Rattle.qls_pool.proofs.Steps.{differ_change}
use Rattle.qls_log.specs.declared.fault.LogError.{LogError}
use Rattle.qls_log.specs.Leaving.{RemainsInUse, NoneLeaves, WritesInOrder}
use Rattle.qls_log.specs.Keeping.{WritesEmptyFile, WritesEmpty}
use Rattle.qls_log.specs.Logs.{LogState, capacity_in}
use Rattle.qls_log.specs.Standing.{LogThere}
use Rattle.qls_log.specs.Unwritten.{IsClear, IsWrittenTo, StaysWritten, history_with}
use Rattle.qls_log.proofs.RestingFiles.{both_all, all_clear}
use Rattle.qls_log.proofs.Sectors.{KeepsSectors, same_file_keeps, clear_last, StaysFree, kept_free, written_still, empty_in_order}
use Rattle.qls_log.proofs.TakeSteps.{some_more, each_same, each_change, writes_same, stays_in_use}

-- ---- a sync

-- no file leaves use, nothing is written, and files in use keep their sectors
pub record IsQuietStep (m n : Moment) : Type 0 where
  pub leaves : NoneLeaves m n
  pub writes : WritesEmpty m n
  pub sectors : (id : ℕ) → KeepsSectors id m n

abbrev syncing : FileState → FileState
syncing f = record f { stable = all_written f.pending f.stable; pending = [] }

pub stay_step : (m : Moment) → IdsDiffer m.disk → IsQuietStep m m
stay_step m differ = record {
  leaves = each_same RemainsInUse m.disk differ (λ f. stays_in_use f f refl);
  writes = each_same WritesEmptyFile m.disk differ writes_same;
  sectors = λ id. same_file_keeps id m m refl;
}

sync_sectors : (own id : ℕ) (d : Disk) → is_file_in_use (file_of id d) ≡ true
    → (is_file_in_use (file_of id (sync_at own d)) ≡ true) × ((k : ℕ) → is_pending k (file_of id (sync_at own d)) ≡ true → is_pending k (file_of id d) ≡ true)
sync_sectors own id d =
    subst (λ (q : Option FileState). is_file_in_use (file_of id d) ≡ true → (is_file_in_use q ≡ true) × ((k : ℕ) → is_pending k q ≡ true → is_pending k (file_of id d) ≡ true)) (sym (file_of-change_file id own syncing (λ f. refl) d))
    (at_change own id syncing d (λ p q. is_file_in_use p ≡ true → (is_file_in_use q ≡ true) × ((k : ℕ) → is_pending k q ≡ true → is_pending k p ≡ true)) (λ e u. (u, λ k c. c)) (λ f a e u. (u, λ k c. absurd (never c))) (λ f e u. (u, λ k c. c)))
  where
    never : false ≡ true → ⊥
    never e = cc

pub quiet_sync : (own : ℕ) (m : Moment) → IdsDiffer m.disk → IsQuietStep m (on_disk (sync_at own) m)
quiet_sync own m differ = record {
  leaves = each_change RemainsInUse own syncing (λ f. refl) m.disk differ (λ f. stays_in_use f f refl) (λ f e. stays_in_use f (syncing f) refl);
  writes = each_change WritesEmptyFile own syncing (λ f. refl) m.disk differ writes_same (λ f e w k. absurd (some_more f.pending w k));
  sectors = λ id. sync_sectors own id m.disk;
}

record SyncedQuietly (x y : Content) : Type 0 where
  arrives : Arrives IsQuietStep x y
  differ : IdsDiffer y.now.disk

syncs_quietly : (ids : List ℕ) (x : Content) → IdsDiffer x.now.disk → SyncedQuietly x (with_syncs ids x)
syncs_quietly [] x differ = record { arrives = Arrives-same IsQuietStep x x refl; differ = differ }
syncs_quietly (id ∷ ids) x differ =
    let rest : SyncedQuietly (with_sync id x) (with_syncs ids (with_sync id x)) = syncs_quietly ids (with_sync id x) (differ_change id syncing (λ f. refl) x.now.disk differ) in
    record {
      arrives = Arrives-then IsQuietStep x (with_sync id x) (with_syncs ids (with_sync id x)) (Arrives-acts IsQuietStep (on_disk (sync_at id)) x (with_sync id x) (quiet_sync id x.now differ) refl) rest.arrives;
      differ = rest.differ;
    }

failed_sync : (e : SiteError) (y z : Content) → IdsDiffer y.now.disk → Leads {X = Unit {0}} Stays Stays (Err e) y z → Arrives IsQuietStep y z
failed_sync Failed y z differ t = Arrives-acts IsQuietStep (λ m. m) y z (stay_step y.now differ) t
failed_sync Memory y z differ t = Arrives-same IsQuietStep y z t

pub flush_passes : (ids : List ℕ) (r : Result (Unit {0}) SiteError) (x y : Content) → IdsDiffer x.now.disk → Syncs ids r x y → Passes IsQuietStep x y
flush_passes ids (Ok v) x y differ t = subst (λ (c : Content). Passes IsQuietStep x c) (sym t) (Passes-of IsQuietStep x (with_syncs ids x) (syncs_quietly ids x differ).arrives)
flush_passes ids (Err e) x y differ t =
    let first : SyncedQuietly x (with_syncs (take t.0 ids) x) = syncs_quietly (take t.0 ids) x differ in
    Passes-of IsQuietStep x y (Arrives-then IsQuietStep x (with_syncs (take t.0 ids) x) y first.arrives (failed_sync e (with_syncs (take t.0 ids) x) y first.differ t.2))

pub told_flush : (l : LogState) (ids : List ℕ) (r : Result (Unit {0}) SiteError) (a b : Option Content) → IfSome a (OnDisk (LogThere l)) → Tells (Syncs ids r) a b → Tells (Passes IsQuietStep) a b
told_flush l ids r None None there t = tt
told_flush l ids r None (Some y) there t = absurd t
told_flush l ids r (Some x) None there t = absurd t
told_flush l ids r (Some x) (Some y) there t = flush_passes ids r x y there.there.differ t

pub told_none_leaves : (a b : Option Content) → Tells (Passes IsQuietStep) a b → Tells (Passes NoneLeaves) a b
told_none_leaves a b h = Tells-weaken (Passes IsQuietStep) (Passes NoneLeaves) a b h (λ x y. Passes-weaken IsQuietStep NoneLeaves (λ m n s. s.leaves) x y)

-- ---- what a flush leaves written

pub linked_used : (h : HeadedFile) (p : Option FileState) → IsLinked h p → is_file_in_use p ≡ true
linked_used h None k = absurd k
linked_used h (Some f) k = ap is_in_use k.0

module _ (l : LogState) (x y : Content) (there : LogThere l x.now.disk) (passes : Passes IsQuietStep x y) where
  flush_core : (areas : List FreeArea) (h : History) → now h ≡ x.now → IsWrittenTo areas h l
      → WritesInOrder areas h (moments_since x y) × IsWrittenTo areas (history_with h (moments_since x y)) l
  flush_core areas h at w =
      let ms : List Moment = passes.since in
      let is : moments_since x y ≡ ms = since_is IsQuietStep x y passes in
      let chain : Chain IsQuietStep (now h) ms = subst (λ (m : Moment). Chain IsQuietStep m ms) (sym at) passes.chain in
      let free : AllByRecursion (λ f. StaysFree areas (history_with h ms) h (capacity_in l.opening) f.id) l.files =
      both_all (λ f. LinkedThere f x.now.disk) (λ f. IsClear areas h f.id) (λ f. StaysFree areas (history_with h ms) h (capacity_in l.opening) f.id)
      (λ f k clear from e. kept_free areas h f.id ms (capacity_in l.opening) from (chain_weaken IsQuietStep (KeepsSectors f.id) (λ m n s. s.sectors f.id) (now h) ms chain) (ap (uses f.id) at ∙ linked_used f (file_of f.id x.now.disk) k)
      clear e) l.files there.there.linked w.clear in (
        subst (WritesInOrder areas h) (sym is) (empty_in_order areas IsQuietStep (λ m n s. s.writes) h ms chain),
        subst (λ (ns : List Moment). IsWrittenTo areas (history_with h ns) l) (sym is)
            (record { written = written_still areas (history_with h ms) h (capacity_in l.opening) l.used l.files free w.written; clear = all_clear areas h ms l.files w.clear }),
      )

pub told_flush_ok : {X : Type 0} (l : LogState) (v : X) (a b : Option Content) → IfSome a (OnDisk (LogThere l)) → Tells (Passes IsQuietStep) a b → Tells (StaysWritten {X = X} (Ok v) l (record l { unsynced = [] })) a b
told_flush_ok l v None None there t = tt
told_flush_ok l v None (Some y) there t = absurd t
told_flush_ok l v (Some x) None there t = absurd t
told_flush_ok l v (Some x) (Some y) there t = λ areas h at w. let kept = flush_core l x y there t areas h at w in (kept.0, record { written = kept.1.written; clear = kept.1.clear })

flush_err : (X : Type 0) (e : LogError) (l new : LogState) (a b : Option Content) → IfSome a (OnDisk (LogThere l)) → Tells (Passes IsQuietStep) a b → Tells (StaysWritten {X = X} (Err e) l new) a b
flush_err X e l new None None there t = tt
flush_err X e l new None (Some y) there t = absurd t
flush_err X e l new (Some x) None there t = absurd t
flush_err X e l new (Some x) (Some y) there t = λ areas h at w. ((flush_core l x y there t areas h at w).0, tt)

pub told_flush_err : {X : Type 0} (e : LogError) (r : Result X LogError) (l new : LogState) (a b : Option Content) → Err e ≡ r → IfSome a (OnDisk (LogThere l)) → Tells (Passes IsQuietStep) a b → Tells (StaysWritten r l new) a b
told_flush_err {X} e r l new a b is there t = subst (λ (q : Result X LogError). Tells (StaysWritten q l new) a b) is (flush_err X e l new a b there t)

-- ---- open values that are clean

clear_at : (k : ℕ) (p : Option FileState) → CleanFile (512 * k) p → is_pending k p ≡ false
clear_at k None c = refl
clear_at k (Some f) c = c.quiet k (omega arith)

pub clean_is_clear : (areas : List FreeArea) (h : History) (id : ℕ) → IsClean areas h.start.disk → IsClear areas h id
clean_is_clear areas h id clean k u = clear_last id k (is_free areas id k) h.start h.since (λ free. clear_at k (file_of id h.start.disk) (free_clean areas id k h.start.disk free clean)) u
