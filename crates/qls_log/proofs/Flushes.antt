-- One sync after another, and what they leave.
use Rattle.std.proofs.Common.{◌≡◌, ℕ, ◌+◌, ◌*◌, drop, Bool, true, false, cond, ◌||◌, ◌==◌, List, [], ◌∷◌, map, take, Option, Some, None, Result, Ok, Err, IfSome, IsErr, IsSome, refl, sym, ap, ap₂, ◌∙◌, subst, arith, option_map}
use Rattle.std.specs.List.{AllByRecursion}
use Rattle.qls_site.specs.declared.site.SiteError.{SiteError}
use Rattle.qls_site.specs.declared.site.SiteError.TheVariants.{Failed, Memory}
use Rattle.qls_site.specs.Disk.{Disk, Image, FileState, file_of, full, IsQuiet, changed, all_written, sync_at, bytes_at, seen_bytes}
use Rattle.qls_site.specs.Content.{Content, Tells, Stays, Leads, on_disk}
use Rattle.qls_site.proofs.Told.{file_of-change_file}
use Rattle.qls_site.proofs.DiskLaws.{only_image}
use Rattle.qls_filehdr.specs.Header.{header_spelling}
use Rattle.qls_meaning.specs.Journals.{Headed, journal, headed, in_use}
use Rattle.qls_meaning.specs.History.{is_file_in_use}
use Rattle.qls_meaning.specs.Kept.{Differ, ids_of}
use Rattle.qls_blocks.specs.Parts.{HasFiles as ThereAre, Syncs, with_sync, with_syncs}
use Rattle.qls_pool.specs.Pools.{PoolState}
use Rattle.qls_pool.specs.Files.{HeadedFile, LinkedThere, RestsThere, IsLinked, IsAtRest, IdsDiffer, IsPoolOf, OnDisk, Carries, is_among}
use Rattle.qls_pool.specs.Discipline.{EndsPoolSteps, AddsPoolSteps, Orderly}
use Rattle.qls_pool.proofs.Disks.{pool_kept}
use Rattle.qls_pool.proofs.Steps.{ends_one, ends_none, ends_then, ends_adds, adds_none}
use Rattle.qls_pool.proofs.Calls.{by_err}
use Rattle.qls_log.specs.Logs.{LogState, capacity_in}
use Rattle.qls_log.specs.Writing.{AreInUse}
use Rattle.qls_log.specs.Standing.{LogThere, RestsBut, files_on, AreThoseFiles, LastIsUnmarked, IsUnmarkedBehind, StandsWith, end_of}
use Rattle.qls_log.specs.Reads.{IsRead}
use Rattle.qls_meaning.specs.Reading.{Placed, Read, begin_place, epoch_end, journal_reading}
use Rattle.qls_laws.specs.Readings.{Stand}
use Rattle.qls_log.specs.Appending.{SeesTheSame, StandsStill, IsQuietBut, ReadsInImages}
use Rattle.qls_log.proofs.Splits.{full-sync}
use Rattle.qls_log.proofs.Steps.{sync_step, step_same}

abbrev syncing : FileState → FileState
syncing f = record f { stable = all_written f.pending f.stable; pending = [] }

-- the disk after these syncs
abbrev pub synced_disk : List ℕ → Disk → Disk
synced_disk [] d = d
synced_disk (id ∷ ids) d = synced_disk ids (sync_at id d)

disk_of : (ids : List ℕ) (c : Content) → (with_syncs ids c).now.disk ≡ synced_disk ids c.now.disk
disk_of [] c = refl
disk_of (id ∷ ids) c = disk_of ids (with_sync id c)

answered_of : (ids : List ℕ) (c : Content) → (with_syncs ids c).now.answered ≡ c.now.answered
answered_of [] c = refl
answered_of (id ∷ ids) c = answered_of ids (with_sync id c)

full-syncs : (ids : List ℕ) (d : Disk) → full (synced_disk ids d) ≡ full d
full-syncs [] d = refl
full-syncs (id ∷ ids) d = full-syncs ids (sync_at id d) ∙ full-sync id d

-- ---- which syncs were made

pub record SyncedUpTo (ids : List ℕ) (a b : Content) : Type 0 where
  pub made : List ℕ
  pub disk : b.now.disk ≡ synced_disk made a.now.disk
  pub answered : b.now.answered ≡ a.now.answered

err_synced : (ids : List ℕ) (k : ℕ) (e : SiteError) (a b : Content) → Leads {X = Unit {0}} Stays Stays (Err e) (with_syncs (take k ids) a) b → SyncedUpTo ids a b
err_synced ids k Failed a b h = record { made = take k ids; disk = ap (λ (c : Content). c.now.disk) h ∙ disk_of (take k ids) a; answered = ap (λ (c : Content). c.now.answered) h ∙ answered_of (take k ids) a }
err_synced ids k Memory a b h = record { made = take k ids; disk = ap (λ (c : Content). c.now.disk) h ∙ disk_of (take k ids) a; answered = ap (λ (c : Content). c.now.answered) h ∙ answered_of (take k ids) a }

pub synced_some : (ids : List ℕ) (r : Result (Unit {0}) SiteError) (a b : Content) → Syncs ids r a b → SyncedUpTo ids a b
synced_some ids (Ok x) a b h = record { made = ids; disk = ap (λ (c : Content). c.now.disk) h ∙ disk_of ids a; answered = ap (λ (c : Content). c.now.answered) h ∙ answered_of ids a }
synced_some ids (Err e) a b h = err_synced ids h.0 e a b h.2

pub same_seen : (ids : List ℕ) (a b : Content) → SyncedUpTo ids a b → SeesTheSame a b
same_seen ids a b s = record { files = ap full s.disk ∙ full-syncs s.made a.now.disk; answered = s.answered }

pub told_same : (ids : List ℕ) (r : Result (Unit {0}) SiteError) (a b : Option Content) → Tells (Syncs ids r) a b → Tells SeesTheSame a b
told_same ids r None None t = tt
told_same ids r None (Some y) t = absurd t
told_same ids r (Some x) None t = absurd t
told_same ids r (Some x) (Some y) t = same_seen ids x y (synced_some ids r x y t)

-- ---- pools

pool_synced : (ids : List ℕ) (pool : PoolState) (out : List ℕ) (d : Disk) → IsPoolOf pool out d → IsPoolOf pool out (synced_disk ids d)
pool_synced [] pool out d h = h
pool_synced (id ∷ ids) pool out d h = pool_synced ids pool out (sync_at id d) (pool_kept id syncing (λ f. refl) (λ f. refl) d (λ f e. refl) pool out h)

pub told_pool : (ids : List ℕ) (r : Result (Unit {0}) SiteError) (pool : PoolState) (out : List ℕ) (a b : Option Content) → Tells (Syncs ids r) a b → Carries (IsPoolOf pool out) (IsPoolOf pool out) a b
told_pool ids r pool out None b t = tt
told_pool ids r pool out (Some x) None t = tt
told_pool ids r pool out (Some x) (Some y) t = λ h. let s = synced_some ids r x y t in subst (IsPoolOf pool out) (sym s.disk) (pool_synced s.made pool out x.now.disk h)

-- ---- quiet

quiet_file : (id : ℕ) (ids : List ℕ) (f : FileState) → (is_among f.id (id ∷ ids) ≡ false → f.pending ≡ []) → is_among (changed id syncing f).id ids ≡ false → (changed id syncing f).pending ≡ []
quiet_file id ids f h =
    elim (f.id == id) as (λ b. (f.id == id) ≡ b → is_among (cond b (syncing f) f).id ids ≡ false → (cond b (syncing f) f).pending ≡ []) [
      | true ↦ λ e k. refl
      | false ↦ λ e k. h (ap (λ b. b || is_among f.id ids) (turned f.id id e) ∙ k)
    ] refl
  where
    turned : (m n : ℕ) → (m == n) ≡ false → (n == m) ≡ false
    turned m n e = grind (arith, Rattle.std.proofs.lemmas.Bool.Decides.nat_tests, e)

quiet_one : (id : ℕ) (ids : List ℕ) (d : Disk) → IsQuietBut (id ∷ ids) d → IsQuietBut ids (sync_at id d)
quiet_one id ids [] h = tt
quiet_one id ids (f ∷ d) h = (quiet_file id ids f h.0, quiet_one id ids d h.1)

quiet_all : (d : Disk) → IsQuietBut [] d → IsQuiet d
quiet_all [] h = tt
quiet_all (f ∷ d) h = (h.0 refl, quiet_all d h.1)

quiet_synced : (ids : List ℕ) (d : Disk) → IsQuietBut ids d → IsQuiet (synced_disk ids d)
quiet_synced [] d h = quiet_all d h
quiet_synced (id ∷ ids) d h = quiet_synced ids (sync_at id d) (quiet_one id ids d h)

pub told_quiet : (ids : List ℕ) (x : Unit {0}) (a b : Option Content) → Tells (Syncs ids (Ok x)) a b → Carries (IsQuietBut ids) IsQuiet a b
told_quiet ids x None b t = tt
told_quiet ids x (Some y) None t = tt
told_quiet ids x (Some y) (Some z) t = λ h. subst IsQuiet (sym (ap (λ (c : Content). c.now.disk) t ∙ disk_of ids y)) (quiet_synced ids y.now.disk h)

pub told_images : (l : LogState) (ids : List ℕ) (x : Unit {0}) (a b : Option Content) → Tells (Syncs ids (Ok x)) a b → Carries (IsQuietBut ids) (ReadsInImages l) a b
told_images l ids x None b t = tt
told_images l ids x (Some y) None t = tt
told_images l ids x (Some y) (Some z) t = λ h i is.
    let quiet : IsQuiet z.now.disk = subst IsQuiet (sym (ap (λ (c : Content). c.now.disk) t ∙ disk_of ids y)) (quiet_synced ids y.now.disk h) in
    ap (λ (j : Image). journal (map headed (in_use j)) l.opening.kind l.opening.name) (only_image z.now.disk i quiet is)

-- ---- in order

steps_synced : (ids : List ℕ) (a : Content) → IdsDiffer a.now.disk → EndsPoolSteps a (with_syncs ids a) × IdsDiffer (with_syncs ids a).now.disk
steps_synced [] a d = (ends_none a a refl, d)
steps_synced (id ∷ ids) a d =
    let later : IdsDiffer (sync_at id a.now.disk) = subst (λ (i : Image). Differ (ids_of i)) (sym (full-sync id a.now.disk)) d in
    let rest = steps_synced ids (with_sync id a) later in
    (ends_then a (with_sync id a) (with_syncs ids (with_sync id a)) (ends_one (on_disk (sync_at id)) a (with_sync id a) refl (sync_step id a.now d)) rest.0, rest.1)

steps_failed : (ids : List ℕ) (k : ℕ) (e : SiteError) (a b : Content) → IdsDiffer a.now.disk → Leads {X = Unit {0}} Stays Stays (Err e) (with_syncs (take k ids) a) b → AddsPoolSteps a b
steps_failed ids k Failed a b d h =
    let s = steps_synced (take k ids) a d in
    let c : Content = with_syncs (take k ids) a in
    ends_adds a c b s.0 (record { since = c.now ∷ []; moments = ap (λ (x : Content). x.moments) h; steps = (step_same c.now s.1, tt) })
steps_failed ids k Memory a b d h = let s = steps_synced (take k ids) a d in ends_adds a (with_syncs (take k ids) a) b s.0 (adds_none (with_syncs (take k ids) a) b h)

pub told_orderly_ok : (F : Type 0) {X : Type 0} (ids : List ℕ) (x : Unit {0}) (v : X) (a b : Option Content) → Tells (Syncs ids (Ok x)) a b → Orderly {X = X} {E = F} (λ d. Unit {0}) (Ok v) a b
told_orderly_ok F ids x v None b t = tt
told_orderly_ok F ids x v (Some y) None t = tt
told_orderly_ok F ids x v (Some y) (Some z) t = λ d p. subst (EndsPoolSteps y) (sym t) (steps_synced ids y d).0

pub told_orderly_err : {X F : Type 0} (ids : List ℕ) (e : SiteError) (r : Result X F) (a b : Option Content) → IsErr r → Tells (Syncs ids (Err e)) a b → Orderly (λ d. Unit {0}) r a b
told_orderly_err ids e r None b is t = tt
told_orderly_err ids e r (Some y) None is t = tt
told_orderly_err ids e r (Some y) (Some z) is t = λ d p. by_err r y z is (steps_failed ids t.0 e y z d t.2)

-- ---- the files

there_is : (o : Option FileState) → is_file_in_use o ≡ true → IsSome o
there_is None h = absurd (cc)
there_is (Some f) h = refl

pub there_are : (ids : List ℕ) (a : Option Content) → IfSome a (OnDisk (AreInUse ids)) → IfSome a (ThereAre ids)
there_are ids None h = tt
there_are ids (Some c) h = all ids h
  where
    all : (ids : List ℕ) → AreInUse ids c.now.disk → ThereAre ids c
    all [] h = tt
    all (id ∷ ids) h = (there_is (file_of id c.now.disk) h.0, all ids h.1)

pub waiting_of : (l : LogState) (a : Option Content) → IfSome a (OnDisk (LogThere l)) → IfSome a (OnDisk (AreInUse l.unsynced))
waiting_of l None h = tt
waiting_of l (Some c) h = h.waiting

-- the front of the file shows its header
abbrev Shows : HeadedFile → Option FileState → Type 0
Shows h o = take 4096 (seen_bytes o) ≡ header_spelling h.header

linked_sync : (h : HeadedFile) (id : ℕ) (o : Option FileState) → IsLinked h o → Shows h o → IsLinked h (option_map (changed id syncing) o)
linked_sync h id None k s = absurd k
linked_sync h id (Some f) k s =
    elim (f.id == id) as (λ b. IsLinked h (Some (cond b (syncing f) f))) [
      | true ↦ (k.0, record { size = k.1.size; stable = s })
      | false ↦ k
    ]

shows_sync : (h : HeadedFile) (id : ℕ) (o : Option FileState) → Shows h o → Shows h (option_map (changed id syncing) o)
shows_sync h id None s = s
shows_sync h id (Some f) s = elim (f.id == id) as (λ b. Shows h (Some (cond b (syncing f) f))) [ true ↦ s | false ↦ s ]

rests_sync : (h : HeadedFile) (id : ℕ) (o : Option FileState) → IsAtRest h o → IsAtRest h (option_map (changed id syncing) o)
rests_sync h id None k = absurd k
rests_sync h id (Some f) k =
    elim (f.id == id) as (λ b. IsAtRest h (Some (cond b (syncing f) f))) [
      | true ↦ (k.0, refl, record { size = k.2.size; stable = ap (λ ws. take 4096 (all_written ws f.stable)) k.1 ∙ k.2.stable })
      | false ↦ k
    ]

at_change_there : (h : HeadedFile) (id : ℕ) (d : Disk) → file_of h.id (sync_at id d) ≡ option_map (changed id syncing) (file_of h.id d)
at_change_there h id d = file_of-change_file h.id id syncing (λ f. refl) d

rests_own : (h : HeadedFile) (id : ℕ) (o : Option FileState) → ((f : FileState) → o ≡ Some f → f.id ≡ h.id) → h.id ≡ id → IsLinked h o → Shows h o → IsAtRest h (option_map (changed id syncing) o)
rests_own h id None ids e k s = absurd k
rests_own h id (Some f) ids e k s =
    subst (λ b. IsAtRest h (Some (cond b (syncing f) f))) (sym (ap (λ n. n == id) (ids f refl ∙ e) ∙ Rattle.qls_pool.proofs.Disks.eqb_own id))
    (k.0, refl, record { size = k.1.size; stable = s })

rests_all : (h : HeadedFile) (ids : List ℕ) (d : Disk) → RestsThere h d → RestsThere h (synced_disk ids d)
rests_all h [] d k = k
rests_all h (id ∷ ids) d k = rests_all h ids (sync_at id d) (subst (IsAtRest h) (sym (at_change_there h id d)) (rests_sync h id (file_of h.id d) k))

or_false : (a b : Bool) → a ≡ false → b ≡ false → (a || b) ≡ false
or_false a b x y = ap₂ (λ c d. c || d) x y

rests_after : (h : HeadedFile) (ids : List ℕ) (d : Disk) → LinkedThere h d → Shows h (file_of h.id d) → (is_among h.id ids ≡ false → RestsThere h d) → RestsThere h (synced_disk ids d)
rests_after h [] d k s r = r refl
rests_after h (id ∷ ids) d k s r =
    elim (id == h.id) as (λ b. (id == h.id) ≡ b → RestsThere h (synced_disk ids (sync_at id d))) [
      | true ↦ λ e.
          rests_all h ids (sync_at id d) (subst (IsAtRest h) (sym (at_change_there h id d))
          (rests_own h id (file_of h.id d) (λ f is. Rattle.qls_pool.proofs.Disks.found_id h.id f d is) (sym (Rattle.qls_pool.proofs.Disks.eqb_is id h.id e)) k s))
      | false ↦ λ e.
          rests_after h ids (sync_at id d) (subst (IsLinked h) (sym (at_change_there h id d)) (linked_sync h id (file_of h.id d) k s))
          (ap (λ o. take 4096 (seen_bytes o)) (at_change_there h id d) ∙ shows_sync h id (file_of h.id d) s)
          (λ k2. subst (IsAtRest h) (sym (at_change_there h id d)) (rests_sync h id (file_of h.id d) (r (or_false (id == h.id) (is_among h.id ids) e k2))))
    ] refl

linked_of_rest : (h : HeadedFile) (o : Option FileState) → IsAtRest h o → IsLinked h o
linked_of_rest h None k = absurd k
linked_of_rest h (Some f) k = (k.0, k.2)

shows_of_rest : (h : HeadedFile) (o : Option FileState) → IsAtRest h o → Shows h o
shows_of_rest h None k = absurd k
shows_of_rest h (Some f) k = ap (λ ws. take 4096 (all_written ws f.stable)) k.1 ∙ k.2.stable

all_rest : (hs : List HeadedFile) (ids : List ℕ) (d : Disk) → AllByRecursion (λ h. LinkedThere h d) hs → AllByRecursion (λ h. take 4096 (bytes_at h.id d) ≡ header_spelling h.header) hs → RestsBut ids hs d
    → AllByRecursion (λ h. RestsThere h (synced_disk ids d)) hs
all_rest [] ids d k s r = tt
all_rest (h ∷ hs) ids d k s r = (rests_after h ids d k.0 s.0 r.0, all_rest hs ids d k.1 s.1 r.1)

pub all_linked : (hs : List HeadedFile) (d : Disk) → AllByRecursion (λ h. RestsThere h d) hs → AllByRecursion (λ h. LinkedThere h d) hs
all_linked [] d k = tt
all_linked (h ∷ hs) d k = (linked_of_rest h (file_of h.id d) k.0, all_linked hs d k.1)

pub all_show : (hs : List HeadedFile) (d : Disk) → AllByRecursion (λ h. RestsThere h d) hs → AllByRecursion (λ h. take 4096 (bytes_at h.id d) ≡ header_spelling h.header) hs
all_show [] d k = tt
all_show (h ∷ hs) d k = (shows_of_rest h (file_of h.id d) k.0, all_show hs d k.1)

pub all_but : (ids : List ℕ) (hs : List HeadedFile) (d : Disk) → AllByRecursion (λ h. RestsThere h d) hs → RestsBut ids hs d
all_but ids [] d k = tt
all_but ids (h ∷ hs) d k = (λ e. k.0, all_but ids hs d k.1)

-- ---- the log

abbrev pub flushed : LogState → LogState
flushed l = record l { unsynced = [] }

there_synced : (l : LogState) (d : Disk) → LogThere l d → LogThere (flushed l) (synced_disk l.unsynced d)
there_synced l d t =
    let e : Disk = synced_disk l.unsynced d in
    let seen : full e ≡ full d = full-syncs l.unsynced d in
    let files : files_on l.opening e ≡ files_on l.opening d = ap (λ (i : Image). (journal (map headed (in_use i)) l.opening.kind l.opening.name).files) seen in
    let rest : AllByRecursion (λ h. RestsThere h e) l.files = all_rest l.files l.unsynced d t.there.linked t.there.headers t.rests in
    record {
      waiting = tt;
      there = record {
        differ = subst (λ (i : Image). Differ (ids_of i)) (sym seen) t.there.differ;
        apart = t.there.apart;
        linked = all_linked l.files e rest;
        headers = all_show l.files e rest;
        files = subst (AreThoseFiles (capacity_in l.opening) l.files) (sym files) t.there.files;
      };
      rests = all_but [] l.files e rest;
    }

pub told_there : (l : LogState) (x : Unit {0}) (a b : Option Content) → Tells (Syncs l.unsynced (Ok x)) a b → IfSome a (OnDisk (LogThere l)) → IfSome b (OnDisk (LogThere (flushed l)))
told_there l x None None t h = tt
told_there l x None (Some z) t h = absurd t
told_there l x (Some y) None t h = absurd t
told_there l x (Some y) (Some z) t h = subst (LogThere (flushed l)) (sym (ap (λ (c : Content). c.now.disk) t ∙ disk_of l.unsynced y)) (there_synced l y.now.disk h)

pub told_behind : (l : LogState) (ids : List ℕ) (r : Result (Unit {0}) SiteError) (a b : Option Content) → Tells (Syncs ids r) a b → Carries (IsUnmarkedBehind l) (IsUnmarkedBehind (flushed l)) a b
told_behind l ids r None b t = tt
told_behind l ids r (Some x) None t = tt
told_behind l ids r (Some x) (Some y) t = λ h.
    subst (λ (i : Image). LastIsUnmarked l.used (journal (map headed (in_use i)) l.opening.kind l.opening.name).files) (sym (same_seen ids x y (synced_some ids r x y t)).files) h

still : (l : LogState) (kept : List Placed) (d e : Disk) → full e ≡ full d → StandsWith l kept d → StandsWith (flushed l) kept e
still l kept d e same k =
    let files : files_on l.opening e ≡ files_on l.opening d = ap (λ (i : Image). (journal (map headed (in_use i)) l.opening.kind l.opening.name).files) same in
    record { begins = ap (begin_place true) files ∙ k.begins; stand = subst (λ (fs : List Headed). Stand fs 0 kept) (sym files) k.stand; ends = k.ends }

pub told_still : (l : LogState) (ids : List ℕ) (r : Result (Unit {0}) SiteError) (a b : Option Content) → Tells (Syncs ids r) a b → Tells (StandsStill l (flushed l)) a b
told_still l ids r None None t = tt
told_still l ids r None (Some y) t = absurd t
told_still l ids r (Some x) None t = absurd t
told_still l ids r (Some x) (Some y) t = λ kept k. still l kept x.now.disk y.now.disk (same_seen ids x y (synced_some ids r x y t)).files k

read_same : (l : LogState) (reads : List Read) (d e : Disk) → full e ≡ full d → IsRead l reads d → IsRead (flushed l) reads e
read_same l reads d e same r =
    let files : files_on l.opening d ≡ files_on l.opening e = ap (λ (i : Image). (journal (map headed (in_use i)) l.opening.kind l.opening.name).files) (sym same) in
    record {
      reading = subst (λ (i : Image). journal_reading (journal (map headed (in_use i)) l.opening.kind l.opening.name) ≡ reads) (sym same) r.reading;
      ends = subst (λ (fs : List Headed). l.older * capacity_in l.opening + epoch_end (l.older == 0) (drop l.older fs) ≡ end_of l) files r.ends;
      behind = subst (LastIsUnmarked l.used) files r.behind;
    }

pub told_read : (l : LogState) (reads : List Read) (ids : List ℕ) (r : Result (Unit {0}) SiteError) (a b : Option Content) → Tells (Syncs ids r) a b → Carries (IsRead l reads) (IsRead (flushed l) reads) a b
told_read l reads ids r None b t = tt
told_read l reads ids r (Some x) None t = tt
told_read l reads ids r (Some x) (Some y) t = read_same l reads x.now.disk y.now.disk (same_seen ids x y (synced_some ids r x y t)).files
