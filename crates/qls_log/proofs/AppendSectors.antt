-- Which sectors an append meets and leaves: first files are taken, and then the batch is written.
use Rattle.std.proofs.Common.{◌≡◌, ℕ, zero, suc, ◌+◌, ◌-◌, ◌*◌, ◌/◌, ◌<◌, ◌≤◌, Bool, true, false, cond, ◌==◌, List, [], ◌∷◌, ◌++◌, length, drop, Option, Some, None, IfSome, IsTrue, Result, Ok, Err, refl, sym, ap, ◌∙◌, subst, arith, append_assoc}
use Rattle.std.proofs.Math.Nat.{le-div_iff_mul-le, mul_comm}
use Rattle.std.specs.List.{AllByRecursion}
use Rattle.qls_record.specs.Record.{Record}
use Rattle.qls_site.specs.Disk.{FileState, file_of}
use Rattle.qls_site.specs.Content.{Moment, Content, Tells, moments_since}
use Rattle.qls_site.proofs.Told.{Tells-weaken}
use Rattle.qls_filehdr.specs.declared.FileHeader.{FileHeader}
use Rattle.qls_filehdr.specs.Limits.{is_legal_header}
use Rattle.qls_meaning.specs.Journals.{is_in_use}
use Rattle.qls_meaning.specs.History.{History, FreeArea, last_of, now, is_file_in_use, uses}
use Rattle.qls_blocks.specs.declared.plan.FreshFile.{FreshFile}
use Rattle.qls_blocks.specs.Batching.{with_fillers}
use Rattle.qls_blocks.specs.Spelled.{spelled_over}
use Rattle.qls_pool.specs.Pools.{PoolState, first_or, least_id}
use Rattle.qls_pool.specs.Files.{BlankFile, HeadedFile, IdsDiffer, IsPoolOf, IsWholePool, BlankThere, RestsThere, OnDisk}
use Rattle.qls_pool.specs.Taking.{Obtains}
use Rattle.qls_pool.specs.Moments.{Chain, Passes, Arrives}
use Rattle.qls_pool.proofs.Disks.{eqb_is}
use Rattle.qls_pool.proofs.Moments.{Arrives-passes, Arrives-weaken, Passes-of, Passes-weaken, chain_weaken, since_is, since_then}
use Rattle.qls_pool.proofs.Taken.{lacks_next, blank_there}
use Rattle.qls_log.specs.declared.opening.Opening.{Opening}
use Rattle.qls_log.specs.declared.fault.LogError.{LogError}
use Rattle.qls_log.specs.Appending.{new_log, from_newest, written_files, written_place, batch_bytes}
use Rattle.qls_log.specs.Leaving.{NoneLeaves, WritesInOrder}
use Rattle.qls_log.specs.Keeping.{IsTakeStep, WritesEmpty}
use Rattle.qls_log.specs.Logs.{LogState, IsSound, AreHeaded, capacity_in, ids, serials}
use Rattle.qls_log.specs.Standing.{LogThere}
use Rattle.qls_log.specs.Steps.{GoesBy}
use Rattle.qls_log.specs.Taking.{TakesFile, TakesFiles}
use Rattle.qls_log.specs.Unwritten.{IsFreeFrom, IsClear, AreWrittenTo, IsWrittenTo, BeginsWritten, StaysWritten, WritesWell, history_with}
use Rattle.qls_log.specs.Writing.{WritesParts, from_written}
use Rattle.qls_log.proofs.Appends.{gains, enough_room}
use Rattle.qls_log.proofs.Appended.{drop_last}
use Rattle.qls_log.proofs.BackSteps.{passes_well}
use Rattle.qls_log.proofs.BatchSectors.{batch_written, free_whole}
use Rattle.qls_log.proofs.Gains.{GainedAll}
use Rattle.qls_log.proofs.PartSteps.{parts_moments, parts_since, PartsMade, parts_made, parts_pass}
use Rattle.qls_log.proofs.Going.{told_passes}
use Rattle.qls_log.proofs.Passing.{linked_used}
use Rattle.qls_log.proofs.RestingFiles.{every, both_all, weaker_all, later_all, all_clear, log_rests, resting_free, at_rest_used, at_rest_clear}
use Rattle.qls_log.proofs.Sectors.{KeepsSectors, take_keeps, now_with, with_both, fresh_free, in_order_then, in_order_cut, empty_in_order, written_still}
use Rattle.qls_log.proofs.Takes.{others_after, rests_after, pool_after, ids_after}

no_both : (b : Bool) → b ≡ true → b ≡ false → ⊥
no_both b x y = cc

-- ---- a file that is taken was in use by nobody

blank_unused : (b : BlankFile) (p : Option FileState) → Rattle.qls_pool.specs.Files.IsBlank b p → is_file_in_use p ≡ false
blank_unused b None k = refl
blank_unused b (Some f) k = ap is_in_use k.0

first_unused : (home : Rattle.qls_model.specs.declared.machine.PoolId.PoolId) (pool left : PoolState) (h : HeadedFile) (a b : Content) (t : TakesFile home pool left h a b) → IsPoolOf pool [] a.now.disk → uses h.id a.now ≡ false
first_unused home pool left h a b t p = by (least_id home pool.files) t.hands.id t.obtains
  where
    blank : BlankFile
    blank = record { id = h.id; serial = h.header.serial; home = home }

    there : BlankThere blank t.blank.now.disk
    there = blank_there home pool left blank [] a t.blank refl t.hands t.obtains p

    by : (o : Option ℕ) → h.id ≡ first_or o (pool.greatest + 1) → Obtains home pool.greatest o a t.blank → uses h.id a.now ≡ false
    by (Some n) is e = blank_unused blank (file_of h.id a.now.disk) (subst (λ (c : Content). BlankThere blank c.now.disk) e there)
    by None is e = ap (λ n. is_file_in_use (file_of n a.now.disk)) is ∙ ap is_file_in_use (lacks_next pool a.now.disk ([], p))

pub all_unused : (o : Opening) (pool left : PoolState) (taken : List HeadedFile) (fs : List FreshFile) (newest : ℕ) (a b : Content) → TakesFiles o.home pool left taken a b → AreHeaded o newest fs taken
    → AllByRecursion (λ h. IsTrue (is_legal_header h.header)) taken → IsWholePool pool a.now.disk → AllByRecursion (λ h. uses h.id a.now ≡ false) taken
all_unused o pool left [] fs newest a b t headed legal w = tt
all_unused o pool left (h ∷ taken) [] newest a b t headed legal w = absurd headed
all_unused o pool left (h ∷ taken) (f ∷ fs) newest a b t headed legal w =
    let mid : Content = t.1 in
    let part : h.header.part ≡ o.home.part = ap (λ (x : FileHeader). x.part) headed.0 in
    let kib : h.header.kib ≡ o.home.kib = ap (λ (x : FileHeader). x.kib) headed.0 in
    let whole : IsWholePool t.0 mid.now.disk = (ids_after o.home pool t.0 h a mid t.2 legal.0 part kib w, pool_after o.home pool t.0 h a mid t.2 legal.0 part kib w.1) in
    let own : uses h.id mid.now ≡ true = at_rest_used h mid.now (rests_after o.home pool t.0 h a mid t.2 legal.0 part kib w.1) in
    let others : (id : ℕ) → (id == h.id) ≡ false → file_of id mid.now.disk ≡ file_of id a.now.disk = others_after o.home pool t.0 h a mid t.2 legal.0 part kib in (
      first_unused o.home pool t.0 h a mid t.2 w.1,
      weaker_all (λ g. uses g.id mid.now ≡ false) (λ g. uses g.id a.now ≡ false) (λ g e. before mid.now a.now h.id g.id own others e) taken
          (all_unused o t.0 left taken fs (newest + 1) mid b t.3 headed.1 legal.1 whole),
    )
  where
    before : (n m : Moment) (own id : ℕ) → uses own n ≡ true → ((id : ℕ) → (id == own) ≡ false → file_of id n.disk ≡ file_of id m.disk) → uses id n ≡ false → uses id m ≡ false
    before n m own id used others e = by (id == own) refl
      where
        by : (x : Bool) → (id == own) ≡ x → uses id m ≡ false
        by true k = absurd (no_both (uses id n) (ap (λ i. uses i n) (eqb_is id own k) ∙ used) e)
        by false k = sym (ap is_file_in_use (others id k)) ∙ e

any_chain : (m : Moment) (ms : List Moment) → Chain (λ m n. Unit {0}) m ms
any_chain m [] = tt
any_chain m (n ∷ ns) = (tt, any_chain n ns)

-- ---- where the batch ends

pub last_place : (cap used len k : ℕ) → 0 < cap → 0 < len → k ≡ (used + len - 1) / cap → (v : ℕ) × (v ≤ cap) × (v + cap * k ≡ used + len)
last_place cap used len k some more is =
    let room : used + len ≤ cap * (k + 1) = enough_room cap used len k some more is in
    let next : cap * (k + 1) ≡ cap * k + cap = next_product cap k in
    let low : k * cap ≤ used + len - 1 = (le-div_iff_mul-le {k = cap} {x = k} {y = used + len - 1} some).0 (omega (arith, is)) in
    let turned : k * cap ≡ cap * k = mul_comm k cap in
    (used + len - cap * k, omega (arith, room, next), omega (arith, low, turned, more))
  where
    next_product : (c k : ℕ) → c * (k + 1) ≡ c * k + c
    next_product c k = grind arith

-- behind a full file
grown : (cap v k len : ℕ) → v ≤ cap → v + cap * k ≡ cap + len → 0 < len → 0 < k
grown cap v zero len less over more = absurd (omega (arith, less, over, more, none cap))
  where
    none : (c : ℕ) → c * 0 ≡ 0
    none c = omega arith
grown cap v (suc k) len less over more = omega arith

one_full : (cap v k len : ℕ) → v + cap * k ≡ cap + len → 0 < k → v + cap * (k - 1) ≡ 0 + len
one_full cap v zero len over some = absurd (omega (arith, some))
one_full cap v (suc k) len over some = ap (λ n. v + cap * n) (back k) ∙ omega (arith, over, product cap k)
  where
    back : (k : ℕ) → suc k - 1 ≡ k
    back k = omega arith

    product : (c k : ℕ) → c * suc k ≡ c * k + c
    product c k = grind arith

-- the newest file, and those before it
record Newest (hs : List HeadedFile) : Type 0 where
  before : List HeadedFile
  last : HeadedFile
  is : hs ≡ before ++ last ∷ []
  from : (ts : List HeadedFile) → drop (length hs - 1) (hs ++ ts) ≡ last ∷ ts

dropped : (k : ℕ) (h : HeadedFile) (hs : List HeadedFile) → drop (suc (suc k) - 1) (h ∷ hs) ≡ drop (suc k - 1) hs
dropped k h hs = ap (λ n. drop n (h ∷ hs)) (one k)
  where
    one : (k : ℕ) → suc (suc k) - 1 ≡ suc (suc k - 1)
    one k = omega arith

newest_of : (hs : List HeadedFile) → 0 < length hs → Newest hs
newest_of [] some = absurd (omega (arith, some))
newest_of (h ∷ []) some = record { before = []; last = h; is = refl; from = λ ts. refl }
newest_of (h ∷ g ∷ hs) some =
    let rest : Newest (g ∷ hs) = newest_of (g ∷ hs) (omega arith) in
    record { before = h ∷ rest.before; last = rest.last; is = ap (λ (xs : List HeadedFile). h ∷ xs) rest.is; from = λ ts. dropped (length hs) h (g ∷ (hs ++ ts)) ∙ rest.from ts }

-- all but the newest are written whole
module _ (areas : List FreeArea) (h : History) (cap : ℕ) where
  all_whole : (hs : List HeadedFile) → AreWrittenTo areas h cap cap hs → AllByRecursion (λ f. IsFreeFrom areas h cap cap f.id) hs
  all_whole [] w = tt
  all_whole (f ∷ []) w = (w, tt)
  all_whole (f ∷ g ∷ hs) w = (w.0, all_whole (g ∷ hs) w.1)

  newest_free : (used : ℕ) (before : List HeadedFile) (f : HeadedFile) → AreWrittenTo areas h cap used (before ++ f ∷ []) → AllByRecursion (λ f. IsFreeFrom areas h cap cap f.id) before × IsFreeFrom areas h cap used f.id
  newest_free used [] f w = (tt, w)
  newest_free used (b ∷ []) f w = ((w.0, tt), w.1)
  newest_free used (b ∷ d ∷ before) f w = let rest = newest_free used (d ∷ before) f w.1 in ((w.0, rest.0), rest.1)

-- ---- an append

module _ (l : LogState) (sound : IsSound l) (flushed : l.unsynced ≡ []) (pool left : PoolState) (taken : List HeadedFile) (fs : List FreshFile) (headers : AreHeaded l.opening l.newest fs taken)
    (legal : AllByRecursion (λ h. IsTrue (is_legal_header h.header)) taken) (bytes : List ℕ) (v : ℕ) (less : v ≤ capacity_in l.opening) (size : v + capacity_in l.opening * length taken ≡ l.used + length bytes) (more : 0 < length bytes) where
  abbrev cap : ℕ
  cap = capacity_in l.opening

  module _ (a mid : Content) (t : TakesFiles l.opening.home pool left taken a mid) (there : LogThere l a.now.disk) (p : IsPoolOf pool [] a.now.disk) (kept : Arrives (IsTakeStep l.opening) a mid)
      (areas : List FreeArea) (h : History) (at : now h ≡ a.now) (written : IsWrittenTo areas h l) where
    got : GainedAll l.opening l.files taken l.newest left a mid
    got = gains l sound flushed pool left taken fs headers legal a mid t there p

    abbrev then : History
    then = history_with h kept.since

    chain : Chain (IsTakeStep l.opening) (now h) kept.since
    chain = subst (λ (m : Moment). Chain (IsTakeStep l.opening) m kept.since) (sym at) kept.chain

    last_is : last_of (now h) kept.since ≡ mid.now
    last_is = ap (λ (m : Moment). last_of m kept.since) at ∙ sym kept.last

    then_at : now then ≡ mid.now
    then_at = now_with h kept.since ∙ last_is

    pub took_well : WritesInOrder areas h kept.since
    took_well = empty_in_order areas (IsTakeStep l.opening) (λ m n s. s.writes) h kept.since chain

    old_written : AreWrittenTo areas then cap l.used l.files
    old_written =
        let rests : AllByRecursion (λ f. RestsThere f (now h).disk) l.files = subst (λ (m : Moment). AllByRecursion (λ f. RestsThere f m.disk) l.files) (sym at) (log_rests l a.now.disk there flushed) in
        let chains : AllByRecursion (λ f. Chain (KeepsSectors f.id) (now h) kept.since) l.files =
        every (λ f. Chain (KeepsSectors f.id) (now h) kept.since) (λ f. chain_weaken (IsTakeStep l.opening) (KeepsSectors f.id) (take_keeps l.opening f.id) (now h) kept.since chain) l.files in
        written_still areas then h cap l.used l.files (resting_free areas h kept.since cap l.files rests chains) written.written

    new_free : AllByRecursion (λ g. IsFreeFrom areas then cap 0 g.id) taken
    new_free =
        both_all (λ g. uses g.id a.now ≡ false) (λ g. RestsThere g mid.now.disk) (λ g. IsFreeFrom areas then cap 0 g.id)
        (λ g out rest. fresh_free areas l.opening h g.id kept.since cap chain (ap (uses g.id) at ∙ out) (ap (uses g.id) last_is ∙ at_rest_used g mid.now rest)) taken
        (all_unused l.opening pool left taken fs l.newest a mid t headers legal (there.there.differ, p)) (later_all (λ g. RestsThere g mid.now.disk) l.files taken got.resting.rest)

    -- the moments of the writes over these files, and what they leave
    abbrev WrotesWell : List HeadedFile → ℕ → Type 0
    WrotesWell hs from =
        let ms = parts_moments cap (ids hs) from bytes mid.now in WritesInOrder areas then ms × AreWrittenTo areas (history_with then ms) cap v (l.files ++ taken)

    full_case : l.used ≡ cap → WrotesWell taken 0
    full_case same =
        let over : v + cap * length taken ≡ cap + length bytes = size ∙ ap (λ n. n + length bytes) same in
        let some : 0 < length taken = grown cap v (length taken) (length bytes) less over more in
        let count : v + cap * (length taken - 1) ≡ 0 + length bytes = one_full cap v (length taken) (length bytes) over some in
        batch_written areas cap v l.files taken 0 bytes then mid.now less then_at got.resting.differ got.resting.apart got.resting.rest (omega arith) some count
        (all_whole areas then cap l.files (subst (λ n. AreWrittenTo areas then cap n l.files) same old_written)) (free_whole areas then cap taken new_free)

    room_case : WrotesWell (from_newest l taken) l.used
    room_case =
        let n : Newest l.files = newest_of l.files sound.some in
        let all : l.files ++ taken ≡ n.before ++ (n.last ∷ taken) = ap (λ (xs : List HeadedFile). xs ++ taken) n.is ∙ append_assoc n.before (n.last ∷ []) taken in
        let free = newest_free areas then cap l.used n.before n.last (subst (AreWrittenTo areas then cap l.used) n.is old_written) in
        let count : v + cap * (length (n.last ∷ taken) - 1) ≡ l.used + length bytes = ap (λ k. v + cap * k) (one_less (length taken)) ∙ size in
        let ms : List Moment = parts_moments cap (ids (n.last ∷ taken)) l.used bytes mid.now in
        let wrote =
        batch_written areas cap v n.before (n.last ∷ taken) l.used bytes then mid.now less then_at got.resting.differ (subst Rattle.qls_log.specs.Standing.AreApart all got.resting.apart)
        (subst (AllByRecursion (λ f. RestsThere f mid.now.disk)) all got.resting.rest) sound.used.1 (omega arith) count free.0 (free.1, new_free) in
        subst (λ (hs : List HeadedFile). WrotesWell hs l.used) (sym (ap (λ k. drop k (l.files ++ taken)) refl ∙ n.from taken))
        (wrote.0, subst (AreWrittenTo areas (history_with then ms) cap v) (sym all) wrote.1)
      where
        one_less : (k : ℕ) → suc k - 1 ≡ k
        one_less k = omega arith

    by_room : (x : Bool) → (l.used == cap) ≡ x → WrotesWell (cond x (drop 1 (from_newest l taken)) (from_newest l taken)) (cond x 0 l.used)
    by_room true e = subst (λ (hs : List HeadedFile). WrotesWell hs 0) (sym (drop_last l.files taken sound.some)) (full_case (eqb_is l.used cap e))
    by_room false e = room_case

    wrote_all : WrotesWell (written_files l taken) (written_place l)
    wrote_all = by_room (l.used == cap) refl

    -- with the writes behind them
    module _ (X E : Type 0) (r : Result X E) (b : Content) (w : WritesParts cap (ids (written_files l taken)) (written_place l) bytes r mid b) where
      made : PartsMade cap (ids (written_files l taken)) (written_place l) bytes mid b
      made = parts_made cap (ids (written_files l taken)) (written_place l) bytes r mid b w

      since_all : moments_since a b ≡ kept.since ++ made.since
      since_all =
          since_then (IsTakeStep l.opening) (λ m n. Unit {0}) a mid b (Passes-of (IsTakeStep l.opening) a mid kept) (record { since = made.since; moments = made.moments; chain = any_chain mid.now made.since })

      pub append_well : WritesInOrder areas h (moments_since a b)
      append_well =
          subst (WritesInOrder areas h) (sym since_all)
          (in_order_then areas h kept.since made.since took_well (in_order_cut areas then made.since made.rest (subst (WritesInOrder areas then) made.whole wrote_all.0)))

    pub append_written : (X E : Type 0) (x : X) (b : Content) → WritesParts {X = X} {E = E} cap (ids (written_files l taken)) (written_place l) bytes (Ok x) mid b → (new : LogState) → new.opening ≡ l.opening → new.files ≡ l.files ++ taken → new.used ≡ v
        → IsWrittenTo areas (history_with h (moments_since a b)) new
    append_written X E x b w new opening files used =
        let ms : List Moment = parts_moments cap (ids (written_files l taken)) (written_place l) bytes mid.now in
        let all : moments_since a b ≡ kept.since ++ ms =
        since_then (IsTakeStep l.opening) (λ m n. Unit {0}) a mid b (Passes-of (IsTakeStep l.opening) a mid kept)
        (record { since = ms; moments = ap (λ (c : Content). c.moments) w ∙ parts_since cap (ids (written_files l taken)) (written_place l) bytes mid; chain = any_chain mid.now ms }) in
        let now_so : AreWrittenTo areas (history_with h (moments_since a b)) cap v (l.files ++ taken) =
        subst (λ (ns : List Moment). AreWrittenTo areas (history_with h ns) cap v (l.files ++ taken)) (sym all)
        (subst (λ (g : History). AreWrittenTo areas g cap v (l.files ++ taken)) (with_both h kept.since ms) wrote_all.1) in
        let rests : AllByRecursion (λ f. RestsThere f (now then).disk) (l.files ++ taken) = subst (λ (m : Moment). AllByRecursion (λ f. RestsThere f m.disk) (l.files ++ taken)) (sym then_at) got.resting.rest in
        let clear : AllByRecursion (λ f. IsClear areas (history_with then ms) f.id) (l.files ++ taken) =
        all_clear areas then ms (l.files ++ taken) (weaker_all (λ f. RestsThere f (now then).disk) (λ f. IsClear areas then f.id) (λ f r. at_rest_clear areas then f r) (l.files ++ taken) rests) in
        record {
          written =
              subst (λ (o : Opening). AreWrittenTo areas (history_with h (moments_since a b)) (capacity_in o) new.used new.files) (sym opening)
              (subst (λ n. AreWrittenTo areas (history_with h (moments_since a b)) cap n new.files) (sym used) (subst (AreWrittenTo areas (history_with h (moments_since a b)) cap v) (sym files) now_so));
          clear =
              subst (λ (ns : List Moment). AllByRecursion (λ f. IsClear areas (history_with h ns) f.id) new.files) (sym all)
              (subst (λ (g : History). AllByRecursion (λ f. IsClear areas g f.id) new.files) (with_both h kept.since ms) (subst (AllByRecursion (λ f. IsClear areas (history_with then ms) f.id)) (sym files) clear));
        }

  -- ---- told

  pub told_append_ok : (X Y : Type 0) (x : X) (y : Y) (new : LogState) → new.opening ≡ l.opening → new.files ≡ l.files ++ taken → new.used ≡ v → (a mid b : Option Content) → Tells (TakesFiles l.opening.home pool left taken) a mid
      → Tells (Arrives (IsTakeStep l.opening)) a mid → Tells (WritesParts {X = Y} {E = LogError} cap (ids (written_files l taken)) (written_place l) bytes (Ok y)) mid b → IfSome a (OnDisk (LogThere l)) → IfSome a (OnDisk (IsPoolOf pool []))
      → Tells (StaysWritten {X = X} (Ok x) l new) a b
  told_append_ok X Y x y new opening files used None None None t k w there p = tt
  told_append_ok X Y x y new opening files used None None (Some d) t k w there p = absurd w
  told_append_ok X Y x y new opening files used None (Some c) b t k w there p = absurd t
  told_append_ok X Y x y new opening files used (Some a) None b t k w there p = absurd t
  told_append_ok X Y x y new opening files used (Some a) (Some c) None t k w there p = absurd w
  told_append_ok X Y x y new opening files used (Some a) (Some c) (Some d) t k w there p =
      λ areas h at written. (append_well a c t there p k areas h at written Y LogError (Ok y) d w, append_written a c t there p k areas h at written Y LogError y d w new opening files used)

  err_append : (X Y : Type 0) (e f : LogError) (new : LogState) (a mid b : Option Content) → Tells (TakesFiles l.opening.home pool left taken) a mid → Tells (Arrives (IsTakeStep l.opening)) a mid
      → Tells (WritesParts {X = Y} {E = LogError} cap (ids (written_files l taken)) (written_place l) bytes (Err f)) mid b → IfSome a (OnDisk (LogThere l)) → IfSome a (OnDisk (IsPoolOf pool [])) → Tells (StaysWritten {X = X} (Err e) l new) a b
  err_append X Y e f new None None None t k w there p = tt
  err_append X Y e f new None None (Some d) t k w there p = absurd w
  err_append X Y e f new None (Some c) b t k w there p = absurd t
  err_append X Y e f new (Some a) None b t k w there p = absurd t
  err_append X Y e f new (Some a) (Some c) None t k w there p = absurd w
  err_append X Y e f new (Some a) (Some c) (Some d) t k w there p = λ areas h at written. (append_well a c t there p k areas h at written Y LogError (Err f) d w, tt)

  pub told_append_err : (X Y : Type 0) (e f : LogError) (r : Result X LogError) (new : LogState) (a mid b : Option Content) → Err e ≡ r → Tells (TakesFiles l.opening.home pool left taken) a mid → Tells (Arrives (IsTakeStep l.opening)) a mid
      → Tells (WritesParts {X = Y} {E = LogError} cap (ids (written_files l taken)) (written_place l) bytes (Err f)) mid b → IfSome a (OnDisk (LogThere l)) → IfSome a (OnDisk (IsPoolOf pool [])) → Tells (StaysWritten r l new) a b
  told_append_err X Y e f r new a mid b is t k w there p = subst (λ (q : Result X LogError). Tells (StaysWritten q l new) a b) is (err_append X Y e f new a mid b t k w there p)

-- the same writes, as they are told
pub told_batch_parts : (Y : Type 0) (rs : List Record) (l : LogState) (taken over : List HeadedFile) (capacity : ℕ) (r : Result Y LogError) (mid b : Option Content) → capacity ≡ capacity_in l.opening → over ≡ from_newest l taken
    → Tells (WritesParts capacity (ids (from_written capacity l.used over)) (cond (l.used == capacity) 0 l.used) (spelled_over capacity (serials over) l.used (with_fillers rs)) r) mid b
    → Tells (WritesParts (capacity_in l.opening) (ids (written_files l taken)) (written_place l) (batch_bytes l taken rs) r) mid b
told_batch_parts Y rs l taken over capacity r mid b cap is t =
    subst (λ (X : Type 0). X)
    (λ i. Tells (WritesParts (cap i) (ids (from_written (cap i) l.used (is i))) (cond (l.used == cap i) 0 l.used) (spelled_over (cap i) (serials (is i)) l.used (with_fillers rs)) r) mid b) t

-- ---- no file leaves use

take_differ : (o : Opening) (m : Moment) (ms : List Moment) → Chain (IsTakeStep o) m ms → IdsDiffer m.disk → IdsDiffer (last_of m ms).disk
take_differ o m [] c d = d
take_differ o m (n ∷ ns) c d = take_differ o n ns c.1 (c.0.step.differ d)

pub told_append_stays : (Y : Type 0) (o : Opening) (l : LogState) (capacity : ℕ) (own : List ℕ) (from : ℕ) (bytes : List ℕ) (r : Result Y LogError) (a mid b : Option Content) → IfSome a (OnDisk (LogThere l)) → Tells (Arrives (IsTakeStep o)) a mid
    → Tells (WritesParts capacity own from bytes r) mid b → Tells (Passes NoneLeaves) a b
told_append_stays Y o l capacity own from bytes r None None None there k w = tt
told_append_stays Y o l capacity own from bytes r None None (Some d) there k w = absurd w
told_append_stays Y o l capacity own from bytes r None (Some c) b there k w = absurd k
told_append_stays Y o l capacity own from bytes r (Some a) None b there k w = absurd k
told_append_stays Y o l capacity own from bytes r (Some a) (Some c) None there k w = absurd w
told_append_stays Y o l capacity own from bytes r (Some a) (Some c) (Some d) there k w =
    let differ : IdsDiffer c.now.disk = subst (λ (m : Moment). IdsDiffer m.disk) (sym k.last) (take_differ o a.now k.since k.chain there.there.differ) in
    Arrives-passes NoneLeaves a c d (Arrives-weaken (IsTakeStep o) NoneLeaves (λ m n s. s.leaves) a c k) (parts_pass capacity own from bytes r c d differ w)

pub told_took_stays : (o : Opening) (a b : Option Content) → Tells (Passes (IsTakeStep o)) a b → Tells (Passes NoneLeaves) a b
told_took_stays o a b h = Tells-weaken (Passes (IsTakeStep o)) (Passes NoneLeaves) a b h (λ x y. Passes-weaken (IsTakeStep o) NoneLeaves (λ m n s. s.leaves) x y)

pub told_took_well : (o : Opening) (a b : Option Content) → Tells (Passes (IsTakeStep o)) a b → Tells WritesWell a b
told_took_well o a b h = Tells-weaken (Passes (IsTakeStep o)) WritesWell a b h (λ x y k. passes_well x y (Passes-weaken (IsTakeStep o) WritesEmpty (λ m n s. s.writes) x y k))

-- ---- a new log

begun : (o : Opening) (pool left : PoolState) (f : HeadedFile) (x y : Content) → TakesFiles o.home pool left (f ∷ []) x y → AreHeaded o 0 (record { first = 4096; rid = 0 } ∷ []) (f ∷ []) → AllByRecursion (λ g. IsTrue (is_legal_header g.header)) (f ∷ [])
    → Arrives (IsTakeStep o) x y → IsWholePool pool x.now.disk → LogThere (new_log o f) y.now.disk → BeginsWritten {X = LogState} (Ok (new_log o f)) (λ l. l) x y
begun o pool left f x y t headed legal k whole there areas h at =
    let chain : Chain (IsTakeStep o) (now h) k.since = subst (λ (m : Moment). Chain (IsTakeStep o) m k.since) (sym at) k.chain in
    let is : moments_since x y ≡ k.since = since_is (IsTakeStep o) x y (Passes-of (IsTakeStep o) x y k) in
    let last : last_of (now h) k.since ≡ y.now = ap (λ (m : Moment). last_of m k.since) at ∙ sym k.last in
    let unused = all_unused o pool left (f ∷ []) (record { first = 4096; rid = 0 } ∷ []) 0 x y t headed legal whole in (
      subst (WritesInOrder areas h) (sym is) (empty_in_order areas (IsTakeStep o) (λ m n s. s.writes) h k.since chain),
      record {
        written =
            subst (λ (ms : List Moment). IsFreeFrom areas (history_with h ms) (capacity_in o) 0 f.id) (sym is)
            (fresh_free areas o h f.id k.since (capacity_in o) chain (ap (uses f.id) at ∙ unused.0) (ap (uses f.id) last ∙ linked_used f (file_of f.id y.now.disk) there.there.linked.0));
        clear = (
          subst (λ (ms : List Moment). IsClear areas (history_with h ms) f.id) (sym is)
              (at_rest_clear areas (history_with h k.since) f (subst (λ (m : Moment). RestsThere f m.disk) (sym (now_with h k.since ∙ last)) (log_rests (new_log o f) y.now.disk there refl).0)),
          tt,
        );
      },
    )

pub told_begun_written : (o : Opening) (pool left : PoolState) (f : HeadedFile) (a b : Option Content) → Tells (TakesFiles o.home pool left (f ∷ [])) a b → AreHeaded o 0 (record { first = 4096; rid = 0 } ∷ []) (f ∷ [])
    → AllByRecursion (λ g. IsTrue (is_legal_header g.header)) (f ∷ []) → Tells (Arrives (IsTakeStep o)) a b → IfSome a (OnDisk (IsWholePool pool)) → IfSome b (OnDisk (LogThere (new_log o f)))
    → Tells (BeginsWritten {X = LogState} (Ok (new_log o f)) (λ l. l)) a b
told_begun_written o pool left f None None t headed legal k whole there = tt
told_begun_written o pool left f None (Some y) t headed legal k whole there = absurd t
told_begun_written o pool left f (Some x) None t headed legal k whole there = absurd t
told_begun_written o pool left f (Some x) (Some y) t headed legal k whole there = begun o pool left f x y t headed legal k whole there

-- a log that wasn't made
pub told_not_begun : (X : Type 0) (log : X → LogState) (e : LogError) (r : Result X LogError) (a b : Option Content) → Err e ≡ r → Tells WritesWell a b → Tells (BeginsWritten {X = X} r log) a b
told_not_begun X log e r a b is t =
    subst (λ (q : Result X LogError). Tells (BeginsWritten {X = X} q log) a b) is (Tells-weaken WritesWell (BeginsWritten {X = X} (Err e) log) a b t (λ x y w areas h at. (w areas h at, tt)))

-- ---- after files that couldn't all be taken

pub told_took : (X : Type 0) (o : Opening) (r : Result X LogError) (a b : Option Content) → Tells (GoesBy (IsTakeStep o) r) a b → Tells (Passes (IsTakeStep o)) a b
told_took X o r a b h = told_passes (IsTakeStep o) r a b h
