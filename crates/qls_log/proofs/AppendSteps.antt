-- The moments of an append, and what meets its end.
use Rattle.std.proofs.Common.{◌≡◌, inl, inr, ℕ, zero, suc, ◌+◌, ◌-◌, ◌*◌, ◌/◌, ◌<◌, ◌≤◌, ◌^◌, Bool, true, false, cond, not, ◌&&◌, ◌||◌, ◌==◌, nat_lt, List, [], ◌∷◌, ◌++◌, length, drop, Option, Some, None, IfSome, IsTrue, refl, sym, ap, ap₂, ◌∙◌, subst, arith}
use Rattle.std.proofs.Math.Nat.{le-div_iff_mul-le, mul_comm}
use Rattle.std.proofs.lemmas.Bool.Decides.{nat_tests}
use Rattle.std.specs.List.{AllByRecursion}
use Rattle.qls_site.specs.Disk.{Disk, file_of}
use Rattle.qls_site.specs.Content.{Content, Tells}
use Rattle.qls_filehdr.specs.Limits.{is_legal_header}
use Rattle.qls_meaning.specs.Journals.{Headed}
use Rattle.qls_meaning.specs.Dead.{newest_number}
use Rattle.qls_meaning.specs.Spent.{last_count, greatest_epoch, greatest_id, no_file_left}
use Rattle.qls_blocks.specs.declared.plan.FreshFile.{FreshFile}
use Rattle.qls_pool.specs.Pools.{PoolState, IsSpent}
use Rattle.qls_pool.specs.Files.{HeadedFile, IsPoolOf, IsWholePool, OnDisk}
use Rattle.qls_pool.proofs.Taken.{no_empty}
use Rattle.qls_log.specs.declared.opening.Opening.{Opening}
use Rattle.qls_log.specs.Logs.{LogState, IsSound, IsOfJournal, AreHeaded, capacity_in, ids}
use Rattle.qls_log.specs.Standing.{HasFiles, LogThere, files_on}
use Rattle.qls_log.specs.Steps.{AreOwn, IsOwnFile, MeetsEndWith, room_on}
use Rattle.qls_log.specs.Taking.{TakesFiles, NoneNext, StopsAfter}
use Rattle.qls_log.specs.Writing.{from_written}
use Rattle.qls_log.specs.Appending.{from_newest}
use Rattle.qls_log.proofs.Appended.{headed_all}
use Rattle.qls_log.proofs.Appends.{gains, all_append}
use Rattle.qls_log.proofs.Gains.{has_files}
use Rattle.qls_log.proofs.OwnWrites.{own_files}
use Rattle.qls_log.proofs.SpentEpoch.{HasNoEpoch}

-- ---- the files that are written

some_dropped : (o : Opening) (k : ℕ) (hs : List HeadedFile) (d : Disk) → AreOwn o (ids hs) d → AreOwn o (ids (drop k hs)) d
some_dropped o k hs d h = record { differ = h.differ; own = dropped k hs h.own }
  where
    dropped : (k : ℕ) (hs : List HeadedFile) → AllByRecursion (λ id. IsOwnFile o (file_of id d)) (ids hs) → AllByRecursion (λ id. IsOwnFile o (file_of id d)) (ids (drop k hs))
    dropped zero hs h = h
    dropped (suc k) [] h = tt
    dropped (suc k) (x ∷ hs) h = dropped k hs h.1

-- the files with room are among them
pub told_roomy : (o : Opening) (capacity used : ℕ) (hs : List HeadedFile) (a : Option Content) → IfSome a (OnDisk (AreOwn o (ids hs))) → IfSome a (OnDisk (AreOwn o (ids (from_written capacity used hs))))
told_roomy o capacity used hs None h = tt
told_roomy o capacity used hs (Some c) h = by (used == capacity)
  where
    by : (x : Bool) → AreOwn o (ids (cond x (drop 1 hs) hs)) c.now.disk
    by true = some_dropped o 1 hs c.now.disk h
    by false = h

module _ (l : LogState) (sound : IsSound l) (flushed : l.unsynced ≡ []) (pool left : PoolState) (taken : List HeadedFile) (fs : List FreshFile) (headers : AreHeaded l.opening l.newest fs taken)
    (legal : AllByRecursion (λ h. IsTrue (is_legal_header h.header)) taken) where
  own_newest : (a mid : Content) → TakesFiles l.opening.home pool left taken a mid → LogThere l a.now.disk → IsPoolOf pool [] a.now.disk → AreOwn l.opening (ids (from_newest l taken)) mid.now.disk
  own_newest a mid t there p =
      let got = gains l sound flushed pool left taken fs headers legal a mid t there p in
      let files : HasFiles l.opening (l.files ++ taken) mid.now.disk = has_files l.opening (l.files ++ taken) mid.now.disk got.resting in
      some_dropped l.opening (length l.files - 1) (l.files ++ taken) mid.now.disk
      (own_files l.opening (l.files ++ taken) mid.now.disk files (all_append (IsOfJournal l.opening) l.files taken sound.all (headed_all l.opening l.newest fs taken headers))
      (all_append (λ h. IsTrue (is_legal_header h.header)) l.files taken sound.legal legal))

  pub told_newest : (a mid : Option Content) → Tells (TakesFiles l.opening.home pool left taken) a mid → IfSome a (OnDisk (LogThere l)) → IfSome a (OnDisk (IsPoolOf pool [])) → IfSome mid (OnDisk (AreOwn l.opening (ids (from_newest l taken))))
  told_newest None None t h p = tt
  told_newest None (Some y) t h p = absurd t
  told_newest (Some x) None t h p = absurd t
  told_newest (Some x) (Some y) t h p = own_newest x y t h p

-- ---- an end

less_of : (a b : ℕ) → a < b → nat_lt a b ≡ true
less_of a b h = grind (arith, nat_tests, h)

equal_of : (a b : ℕ) → a ≡ b → (a == b) ≡ true
equal_of a b e = grind (arith, nat_tests, e)

too_much : (cap used len k n : ℕ) → 0 < cap → used ≤ cap → n ≡ (used + len - 1) / cap → k < n → cap * k + (cap - used) < len
too_much cap used len k n some within is less =
    let product : (k + 1) * cap ≡ cap * (k + 1) = mul_comm (k + 1) cap in
    let next : cap * (k + 1) ≡ cap * k + cap = next_product cap k in
    let up : (k + 1) * cap ≤ used + len - 1 = (le-div_iff_mul-le {k = cap} {x = k + 1} {y = used + len - 1} some).0 (omega (arith, is, less)) in
    omega (arith, product, next, up, within, some)
  where
    next_product : (c k : ℕ) → c * (k + 1) ≡ c * k + c
    next_product c k = grind arith

spent_disk : (o : Opening) (pool : PoolState) (d : Disk) → IsWholePool pool d → IsSpent o.home pool → no_file_left o.home d ≡ true
spent_disk o pool d whole spent =
    ap₂ (λ a b. a && not b) (equal_of (greatest_id d) last_count (sym whole.1.greatest ∙ spent.last)) (no_empty o.home pool d whole.0 whole.1 spent.empty)

or_first : (a b c : Bool) → a ≡ true → ((a || b) || c) ≡ true
or_first true b c e = refl
or_first false b c e = absurd (cc)

or_second : (a b c : Bool) → b ≡ true → ((a || b) || c) ≡ true
or_second true b c e = refl
or_second false true c e = refl
or_second false false c e = absurd (cc)

or_third : (a b c : Bool) → c ≡ true → ((a || b) || c) ≡ true
or_third true b c e = refl
or_third false true c e = refl
or_third false false c e = e

meets : (l : LogState) (pool : PoolState) (n needed : ℕ) (d : Disk) → 0 < capacity_in l.opening → l.used ≤ capacity_in l.opening → n ≡ (l.used + needed - 1) / capacity_in l.opening → StopsAfter l.opening l.newest n pool d → HasNoEpoch l d → MeetsEndWith l needed d
meets l pool n needed d some within count s none =
    let o : Opening = l.opening in
    let files : List Headed = files_on o d in
    let newest : newest_number files ≡ l.newest + s.taken = omega (arith, s.may.next) in
    let room : room_on l d ≡ capacity_in o * s.taken + (capacity_in o - l.used) = ap (λ k. capacity_in o * k + (capacity_in o - l.used)) (omega (arith, newest)) in
    ap₂ (λ a b. a && b) (less_of (room_on l d) needed (subst (λ r. r < needed) (sym room) (too_much (capacity_in o) l.used needed s.taken n some within count s.fewer))) (by (not (nat_lt l.older (length files)) && (greatest_epoch files == last_count)) none s.last newest)
  where
    by : (rest : Bool) → (l.opening.epoch ≡ 2 ^ 62 → rest ≡ true) → NoneNext l.opening (l.newest + s.taken) pool → newest_number (files_on l.opening d) ≡ l.newest + s.taken
        → ((no_file_left l.opening.home d || newest_number (files_on l.opening d) == last_count) || rest) ≡ true
    by rest none (inl last) newest = or_second (no_file_left l.opening.home d) (newest_number (files_on l.opening d) == last_count) rest (equal_of (newest_number (files_on l.opening d)) last_count (newest ∙ last))
    by rest none (inr (inl last)) newest = or_third (no_file_left l.opening.home d) (newest_number (files_on l.opening d) == last_count) rest (none last)
    by rest none (inr (inr spent)) newest = or_first (no_file_left l.opening.home d) (newest_number (files_on l.opening d) == last_count) rest (spent_disk l.opening pool d s.may.whole spent)

pub told_meets : (l : LogState) (pool : PoolState) (n needed : ℕ) (a : Option Content) → 0 < capacity_in l.opening → l.used ≤ capacity_in l.opening → n ≡ (l.used + needed - 1) / capacity_in l.opening
    → IfSome a (OnDisk (StopsAfter l.opening l.newest n pool)) → IfSome a (OnDisk (HasNoEpoch l)) → IfSome a (OnDisk (MeetsEndWith l needed))
told_meets l pool n needed None some within count s none = tt
told_meets l pool n needed (Some c) some within count s none = meets l pool n needed c.now.disk some within count s none

-- ---- the whole pool

pub told_whole_after : (l : LogState) (pool : PoolState) (a : Option Content) → IfSome a (OnDisk (LogThere l)) → IfSome a (OnDisk (IsPoolOf pool [])) → IfSome a (OnDisk (IsWholePool pool))
told_whole_after l pool None h p = tt
told_whole_after l pool (Some c) h p = (h.there.differ, p)
