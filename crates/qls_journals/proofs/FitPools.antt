-- Empty files stay of pools within the limits: a journal takes files of its own pool, and gives them back to it.
use Rattle.std.proofs.Common.{◌≡◌, ℕ, true, false, cond, not, ◌&&◌, ◌-◌, ◌+◌, ◌==◌, ltb, List, [], ◌∷◌, ◌++◌, length, drop, take, Option, Some, None, Ok, refl, sym, ap, ◌∙◌, subst}
use Rattle.std.specs.List.{AllByRecursion}
use Rattle.std.proofs.lemmas.Bool.{and_parts}
use Rattle.qls_model.specs.Limits.{is_partition, is_kib}
use Rattle.qls_model.specs.declared.machine.PoolId.{PoolId}
use Rattle.qls_record.specs.Record.{Record}
use Rattle.qls_site.specs.declared.site.Place.{Place}
use Rattle.qls_site.specs.declared.site.Place.TheVariants.{InUse, Empty}
use Rattle.qls_site.specs.Disk.{Disk, FileState, file_of, changed, change_file}
use Rattle.qls_site.specs.Content.{Content, Tells}
use Rattle.qls_meaning.specs.Spent.{is_pool_place}
use Rattle.qls_pool.specs.Pools.{PoolState, least_id}
use Rattle.qls_pool.specs.Files.{HeadedFile, IsWholePool, is_at, is_among}
use Rattle.qls_pool.specs.Taking.{Obtains}
use Rattle.qls_pool.proofs.Disks.{eqb_is, eqb_own}
use Rattle.qls_pool.proofs.Steps.{all_map, all_weaken, all_with, all_found}
use Rattle.qls_blocks.specs.Parts.{with_syncs, with_sync}
use Rattle.qls_blocks.specs.declared.plan.FreshFile.{FreshFile}
use Rattle.qls_log.specs.declared.opening.Opening.{Opening}
use Rattle.qls_log.specs.Logs.{LogState, IsSound, IsLegalOpening, IsOfJournal, AreHeaded, capacity_in, ids}
use Rattle.qls_log.specs.Appending.{HasAppended, written_files, written_place, batch_bytes}
use Rattle.qls_log.specs.Taking.{TakesFile, TakesFiles}
use Rattle.qls_log.specs.Writing.{with_parts, with_write}
use Rattle.qls_log.specs.Returning.{with_back, with_backs, before_number, released}
use Rattle.qls_queue.specs.Live.{LiveState}
use Rattle.qls_queue.specs.Releasing.{HasWrittenAndReleased, GivesDead, dead_files, first_needed}
use Rattle.qls_queue.specs.Writing.{WritesAndSyncs}
use Rattle.qls_prepared.specs.Ends.{IsFitPool}
use Rattle.qls_journals.proofs.Others.{found_all}

abbrev pub IsWithin : ℕ → ℕ → Type 0
IsWithin part kib = (is_partition part ≡ true) × (is_kib kib ≡ true)

abbrev pub IsFitPlace : Place → Type 0
IsFitPlace InUse = Unit {0}
IsFitPlace (Empty part kib) = IsWithin part kib

-- each empty file is of a pool within the limits
abbrev pub IsFitDisk : Disk → Type 0
IsFitDisk d = AllByRecursion (λ f. IsFitPlace f.place) d

-- ---- the pool and the disk

own_place : (p : Place) → ((part kib : ℕ) → is_pool_place part kib p ≡ true → IsWithin part kib) → IsFitPlace p
own_place InUse h = tt
own_place (Empty part kib) h = h part kib (λ i. eqb_own part i && eqb_own kib i)

place_fits : (p : Place) (part kib : ℕ) → is_pool_place part kib p ≡ true → IsFitPlace p → IsWithin part kib
place_fits InUse part kib e h = absurd (cc)
place_fits (Empty p k) part kib e h =
    let parts = and_parts (p == part) (k == kib) e in (ap is_partition (sym (eqb_is p part parts.0)) ∙ h.0, ap is_kib (sym (eqb_is k kib parts.1)) ∙ h.1)

pub fit_disk : (pool : PoolState) (d : Disk) → IsWholePool pool d → IsFitPool pool → IsFitDisk d
fit_disk pool d whole fit =
    all_weaken (λ g. file_of g.id d ≡ Some g) (λ g. IsFitPlace g.place)
    (λ g there. own_place g.place (λ part kib e. fit part kib g.id (whole.1.files part kib g.id ∙ ap (λ b. b && true) (ap (is_at part kib) there ∙ e)))) d (all_found d whole.0)

pub fit_pool : (pool : PoolState) (d : Disk) → IsWholePool pool d → IsFitDisk d → IsFitPool pool
fit_pool pool d whole fit = λ part kib id e.
    let at : is_at part kib (file_of id d) ≡ true = (and_parts (is_at part kib (file_of id d)) (not (is_among id [])) (sym (whole.1.files part kib id) ∙ e)).0 in
    by part kib id (file_of id d) refl at
  where
    by : (part kib id : ℕ) (o : Option FileState) → file_of id d ≡ o → is_at part kib o ≡ true → IsWithin part kib
    by part kib id None there e = absurd (cc)
    by part kib id (Some f) there e = place_fits f.place part kib e (found_all (λ g. IsFitPlace g.place) id f d fit there)

-- ---- one call

fit_change : (own : ℕ) (c : FileState → FileState) → ((f : FileState) → IsFitPlace f.place → IsFitPlace (c f).place) → (d : Disk) → IsFitDisk d → IsFitDisk (change_file own c d)
fit_change own c keeps d h = all_map (λ f. IsFitPlace f.place) (λ f. IsFitPlace f.place) (changed own c) one d h
  where
    one : (f : FileState) → IsFitPlace f.place → IsFitPlace (changed own c f).place
    one f k = elim (f.id == own) as (λ b. IsFitPlace (cond b (c f) f).place) [ true ↦ keeps f k | false ↦ k ]

abbrev Fits : Content → Type 0
Fits c = IsFitDisk c.now.disk

module _ (home : PoolId) (within : IsWithin home.part home.kib) where
  obtained : (greatest : ℕ) (least : Option ℕ) (a b : Content) → Obtains home greatest least a b → Fits a → Fits b
  obtained greatest None a b h k = subst Fits (sym h) (all_with (λ f. IsFitPlace f.place) _ within a.now.disk k)
  obtained greatest (Some id) a b h k = subst Fits (sym h) k

  file_taken : (pool left : PoolState) (h : HeadedFile) (a b : Content) → TakesFile home pool left h a b → Fits a → Fits b
  file_taken pool left h a b t k =
      let blank : Fits t.blank = obtained pool.greatest (least_id home pool.files) a t.blank t.obtains k in
      let headed : Fits t.headed = subst Fits (sym t.heads) (fit_change h.id _ (λ f x. x) _ (fit_change h.id _ (λ f x. x) t.blank.now.disk blank)) in
      subst Fits (sym t.links) (fit_change h.id _ (λ f x. tt) t.headed.now.disk headed)

  pub files_taken : (pool left : PoolState) (hs : List HeadedFile) (a b : Content) → TakesFiles home pool left hs a b → Fits a → Fits b
  files_taken pool left [] a b t k = subst Fits (sym t.1) k
  files_taken pool left (h ∷ hs) a b t k = files_taken t.0 left hs t.1 b t.3 (file_taken pool t.0 h a t.1 t.2 k)

parts_written : (capacity : ℕ) (ids : List ℕ) (from : ℕ) (bytes : List ℕ) (c : Content) → Fits c → Fits (with_parts capacity ids from bytes c)
parts_written capacity [] from bytes c k = k
parts_written capacity (id ∷ ids) from bytes c k =
    parts_written capacity ids 0 (drop (capacity - from) bytes) (with_write id (4096 + from) (take (capacity - from) bytes) c) (fit_change id _ (λ f x. x) c.now.disk k)

synced : (ids : List ℕ) (c : Content) → Fits c → Fits (with_syncs ids c)
synced [] c k = k
synced (id ∷ ids) c k = synced ids (with_sync id c) (fit_change id _ (λ f x. x) c.now.disk k)

-- ---- files of a pool within the limits

abbrev pub IsOfPool : Opening → HeadedFile → Type 0
IsOfPool o h = (h.header.part ≡ o.home.part) × (h.header.kib ≡ o.home.kib)

pub own_pool : (o : Opening) (hs : List HeadedFile) → AllByRecursion (IsOfJournal o) hs → AllByRecursion (IsOfPool o) hs
own_pool o [] own = tt
own_pool o (h ∷ hs) own = (((λ i. (own.0 i).part), (λ i. (own.0 i).kib)), own_pool o hs own.1)

taken_pool : (o : Opening) (newest : ℕ) (fs : List FreshFile) (hs : List HeadedFile) → AreHeaded o newest fs hs → AllByRecursion (IsOfPool o) hs
taken_pool o newest [] [] h = tt
taken_pool o newest [] (x ∷ xs) h = absurd h
taken_pool o newest (f ∷ fs) [] h = absurd h
taken_pool o newest (f ∷ fs) (x ∷ xs) h = (((λ i. (h.0 i).part), (λ i. (h.0 i).kib)), taken_pool o (newest + 1) fs xs h.1)

all_joined : (P : HeadedFile → Type 0) (xs ys : List HeadedFile) → AllByRecursion P xs → AllByRecursion P ys → AllByRecursion P (xs ++ ys)
all_joined P [] ys h k = k
all_joined P (x ∷ xs) ys h k = (h.0, all_joined P xs ys h.1 k)

all_before : (P : HeadedFile → Type 0) (n : ℕ) (hs : List HeadedFile) → AllByRecursion P hs → AllByRecursion P (before_number n hs)
all_before P n [] h = tt
all_before P n (x ∷ []) h = tt
all_before P n (x ∷ y ∷ hs) h =
    elim (ltb x.header.number n) as (λ b. AllByRecursion P (cond b (x ∷ before_number n (y ∷ hs)) [])) [ true ↦ (h.0, all_before P n (y ∷ hs) h.1) | false ↦ tt ]

pub all_released : (P : HeadedFile → Type 0) (n : ℕ) (l : LogState) → AllByRecursion P l.files → AllByRecursion P (released n l)
all_released P n l h = elim (length l.unsynced == 0) as (λ b. AllByRecursion P (cond b (before_number n l.files) [])) [ true ↦ all_before P n l.files h | false ↦ tt ]

pub given_back : (o : Opening) → IsWithin o.home.part o.home.kib → (hs : List HeadedFile) → AllByRecursion (IsOfPool o) hs → (c : Content) → Fits c → Fits (with_backs hs c)
given_back o within [] own c k = k
given_back o within (h ∷ hs) own c k =
    given_back o within hs own.1 (with_back h c) (fit_change h.id _ (λ f x. (ap is_partition own.0.0 ∙ within.0, ap is_kib own.0.1 ∙ within.1)) c.now.disk k)

-- ---- a batch, and the files that died by it

pub legal_within : (o : Opening) → IsLegalOpening o → IsWithin o.home.part o.home.kib
legal_within o h = (h.part, h.kib)

module _ (rs : List Record) (old mid : LogState) (pool left : PoolState) (taken : List HeadedFile) (sound : IsSound old) (appended : HasAppended rs old mid taken) where
  abbrev o : Opening
  o = old.opening

  batch_fits : (a m : Content) → WritesAndSyncs rs old mid pool left taken a m → Fits a → Fits m
  batch_fits a m w k =
      let files : Fits w.writes.mid = files_taken o.home (legal_within o sound.opening) pool left taken a w.writes.mid w.writes.takes k in
      let pending : Fits w.pending = subst Fits (sym w.writes.writes) (parts_written (capacity_in old.opening) (ids (written_files old taken)) (written_place old) (batch_bytes old taken rs) w.writes.mid files) in
      subst Fits (sym w.syncs) (synced mid.unsynced w.pending pending)

  all_of_pool : AllByRecursion (IsOfPool o) mid.files
  all_of_pool = subst (AllByRecursion (IsOfPool o)) (sym appended.files) (all_joined (IsOfPool o) old.files taken (own_pool o old.files sound.all) (taken_pool o old.newest _ taken appended.headers))

  back_fits : (between : LiveState) → between.log ≡ record mid { unsynced = [] } → (m b : Content) → GivesDead between (Ok tt) m b → Fits m → Fits b
  back_fits between is m b back k =
      let own : AllByRecursion (IsOfPool o) between.log.files = subst (λ (l : LogState). AllByRecursion (IsOfPool o) l.files) (sym is) all_of_pool in
      subst Fits (sym back) (given_back o (legal_within o sound.opening) (dead_files between) (all_released (IsOfPool o) (first_needed between) between.log own) m k)

pub released_fits : (rs : List Record) (old new : LiveState) (pool left : PoolState) (draws draws_now : Option (List ℕ)) (a b : Content) → IsSound old.log
    → HasWrittenAndReleased rs old new pool left draws draws_now (Some a) (Some b) → IsFitDisk a.now.disk → IsFitDisk b.now.disk
released_fits rs old new pool left draws draws_now a b sound h k = by h.middle h.written.told h.back
  where
    by : (o : Option Content) → Tells (WritesAndSyncs rs old.log h.written.between pool h.pools h.written.taken) (Some a) o → Tells (GivesDead h.between (Ok tt)) o (Some b) → IsFitDisk b.now.disk
    by None w back = absurd w
    by (Some m) w back =
        back_fits rs old.log h.written.between pool h.pools h.written.taken sound h.written.appended h.between h.written.flushed m b back
        (batch_fits rs old.log h.written.between pool h.pools h.written.taken sound h.written.appended a m w k)
