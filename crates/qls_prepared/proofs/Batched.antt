-- The list's log is made where there is none, and then a batch is written.
use Rattle.std.proofs.Common.{◌≡◌, ◌⊎◌, inl, inr, ℕ, ◌+◌, ◌-◌, ◌*◌, ◌/◌, ◌<◌, ◌≤◌, Bool, true, false, cond, eqb, List, [], ◌∷◌, ◌++◌, map, length, Option, Some, None, IfSome, Result, Ok, Err, refl, sym, ap, ◌∙◌, subst, arith}
use Rattle.std.proofs.lemmas.Bool.{leb-true, and_parts}
use Rattle.qls_model.specs.Limits.{is_kib}
use Rattle.qls_model.specs.declared.machine.PoolId.{PoolId}
use Rattle.qls_record.specs.Record.{Record, is_enqueue}
use Rattle.qls_site.specs.Disk.{Disk}
use Rattle.std.specs.List.{AllByRecursion}
use Rattle.qls_site.specs.Content.{Moment, Content, Tells, moments_since}
use Rattle.qls_decide.specs.declared.ListEntry.{ListEntry}
use Rattle.qls_enqmap.specs.declared.Held.{Held}
use Rattle.qls_meaning.specs.Reading.{Read}
use Rattle.qls_meaning.specs.History.{AllUnmarked}
use Rattle.qls_pool.specs.Pools.{PoolState, IsSpent}
use Rattle.qls_pool.specs.Files.{HeadedFile, OnDisk}
use Rattle.qls_pool.specs.Moments.{Passes, Arrives}
use Rattle.qls_pool.proofs.Moments.{Passes-of}
use Rattle.qls_blocks.specs.Batching.{length_of, block_length, last_rid, with_fillers, laid_from}
use Rattle.qls_blocks.specs.Plans.{plan_of, fresh_count, starts}
use Rattle.qls_log.specs.declared.fault.LogError.{LogError}
use Rattle.qls_log.specs.declared.fault.LogError.TheVariants.{Failed, Draw, Spent, Memory}
use Rattle.qls_log.specs.Faults.{LogCauses, Counts}
use Rattle.qls_log.specs.Logs.{LogState, capacity_in}
use Rattle.qls_log.specs.Logs as logs
use Rattle.qls_log.specs.Leaving.{NoneLeaves}
use Rattle.qls_log.specs.Reads.{IsRead, batch_reads}
use Rattle.qls_log.specs.Steps.{MeetsEndWith, KeepsRoom}
use Rattle.qls_log.specs.declared.opening.Opening.{Opening}
use Rattle.qls_log.specs.declared.spot.Spot.{Spot}
use Rattle.qls_log.specs.Spots.{spot_of}
use Rattle.qls_log.specs.Taking.{MeetsEnd}
use Rattle.qls_log.specs.Appending.{IsNew, new_log}
use Rattle.qls_prepared.specs.Lists.{opening_of, opening_by, IsOwnLog}
use Rattle.qls_prepared.specs.Ends.{StopsBy, StopsLog, IsAtEndBy}
use Rattle.qls_prepared.specs.Writing.{HasWritten, IsBase, base_of, FitsFirst, IsOwnBehind, first_in, first_spot, BeginsWhole, SaysBy, begin_syncs, syncs_of, syncs_in}
use Rattle.qls_prepared.specs.Saying.{IsSaidOn, SaysOn}
use Rattle.qls_prepared.proofs.Based.{base_reads, base_rid}
use Rattle.qls_prepared.proofs.Then.{adds_then, unmarked_front, unmarked_rest}
use Rattle.qls_prepared.proofs.Writes.{rose_later}

-- ---- the log behind a batch

pub own_behind : (rs : List Record) (rid : ℕ) (base l : LogState) (pool left : PoolState) (d e : Option (List ℕ)) (a b : Option Content) → IsOwnLog base → base.rid ≡ rid → l.ended ≡ false → logs.IsSound l
    → HasWritten rs base l pool left d e a b → IsOwnBehind rid rs (Some l)
own_behind rs rid base l pool left d e a b own is unended sound w = (
  record {
    kind = ap (λ (k : LogState). k.opening.kind) w.flushed ∙ ap (λ (o : Opening). o.kind) w.appended.opening ∙ own.kind;
    name = ap (λ (k : LogState). k.opening.name) w.flushed ∙ ap (λ (o : Opening). o.name) w.appended.opening ∙ own.name;
    unended = unended;
    flushed = ap (λ (k : LogState). k.unsynced) w.flushed;
    sound = sound;
  },
  ap (λ (k : LogState). k.rid) w.flushed ∙ w.appended.rid ∙ ap (λ n. last_rid n rs) is,
)

pub opening_behind : (home : PoolId) (old : Option LogState) (rs : List Record) (base l : LogState) (pool left : PoolState) (d e : Option (List ℕ)) (a b : Option Content) → base.opening ≡ opening_by home old → HasWritten rs base l pool left d e a b
    → opening_by home (Some l) ≡ opening_by home old
opening_behind home old rs base l pool left d e a b is w = ap (λ (k : LogState). k.opening) w.flushed ∙ w.appended.opening ∙ is

-- ---- what is read

rebased : (rs : List Record) (base start l : LogState) (es : List ListEntry) (hs : List Held) (d : Disk) → batch_reads base rs ≡ batch_reads start rs → base.rid ≡ start.rid → IsSaidOn rs base l es hs d → IsSaidOn rs start l es hs d
rebased rs base start l es hs d same rid s = record {
  reads = s.reads;
  read = subst (λ (xs : List Read). IsRead l (s.reads ++ xs) d) same s.read;
  undamaged = s.undamaged;
  batch = subst (λ (xs : List Read). map (λ r. r.what) xs ≡ with_fillers rs) same s.batch;
  entries = s.entries;
  held = s.held;
  below = subst (λ n. AllByRecursion (λ r. is_enqueue r.what.kind ≡ true → r.what.rid ≤ n) s.reads) rid s.below;
}

says_behind : (home : PoolId) (old : Option LogState) (base l : LogState) (rs : List Record) (R : Moment → Moment → Type 0) (a m b : Content) → IsBase home old base → Arrives R a m → Passes R m b → BeginsWhole old base a m
    → SaysOn (Some base) rs base l m b → SaysOn old rs (base_of home old) l a b
says_behind home old base l rs R a m b is p q begins s = record {
  adds = adds_then a m b (moments_since m b) begins.adds s.adds;
  says = λ unmarked es hs w.
      let front : AllUnmarked a.now (moments_since a m) = unmarked_front R R a m b (Passes-of R a m p) q unmarked in
      let rest : AllUnmarked m.now (moments_since m b) = unmarked_rest R R a m b p q unmarked in
      rebased rs base (base_of home old) l es hs b.now.disk (base_reads home old base rs is) (base_rid home old base is) (s.says rest es hs (begins.whole front es hs w));
}

pub told_says_behind : (home : PoolId) (old : Option LogState) (base l : LogState) (rs : List Record) (R : Moment → Moment → Type 0) (a m b : Option Content) → IsBase home old base → Tells (Arrives R) a m → Tells (Passes R) m b → Tells (BeginsWhole old base) a m
    → Tells (SaysOn (Some base) rs base l) m b → Tells (SaysBy old rs (base_of home old) (Some l)) a b
told_says_behind home old base l rs R None None None is p q w s = tt
told_says_behind home old base l rs R None None (Some z) is p q w s = absurd q
told_says_behind home old base l rs R None (Some y) b is p q w s = absurd p
told_says_behind home old base l rs R (Some x) None b is p q w s = absurd p
told_says_behind home old base l rs R (Some x) (Some y) None is p q w s = absurd q
told_says_behind home old base l rs R (Some x) (Some y) (Some z) is p q w s = says_behind home old base l rs R x y z is p q w s

-- ---- a first batch takes no further file

abbrev pub fresh_files : List Record → LogState → ℕ
fresh_files rs l = length (plan_of rs l.used (capacity_in l.opening) l.rid).fresh

roomy : (home : PoolId) → is_kib home.kib ≡ true → 4096 ≤ home.kib * 1024
roomy home kib =
    let least : 4 ≤ home.kib = leb-true 4 home.kib (and_parts _ _ (and_parts _ _ kib).0).0 in
    omega (arith, least)

one_block : (n : ℕ) → n ≤ 4096 → block_length n ≤ 4096
one_block n h = omega (arith, h)

no_quotient : (n cap : ℕ) → n ≤ 4096 → 4096 ≤ cap → (n - 1) / cap ≡ 0
no_quotient n cap h k = omega (arith, Rattle.std.proofs.lemmas.Nat.div_below (n - 1) cap 1 (omega (arith, k)) (omega (arith, h, k)))

none_fresh : (home : PoolId) (rs : List Record) (h : HeadedFile) → is_kib home.kib ≡ true → length_of rs ≤ 4096 → fresh_files rs (new_log (opening_of home) h) ≡ 0
none_fresh home rs h kib short =
    let cap : ℕ = home.kib * 1024 in
    let none : fresh_count cap (0 + block_length (length_of rs)) ≡ 0 = no_quotient (0 + block_length (length_of rs)) cap (omega (arith, one_block (length_of rs) short)) (roomy home kib) in
    ap (λ n. length (map (Rattle.qls_blocks.specs.Plans.fresh_file cap 0 0 (with_fillers rs)) (starts cap cap n))) none

pub first_fresh : (home : PoolId) (l : LogState) (rs : List Record) → is_kib home.kib ≡ true → IsNew (opening_of home) l → length_of rs ≤ 4096 → fresh_files rs l ≡ 0
first_fresh home l rs kib n short = ap (fresh_files rs) n.log ∙ none_fresh home rs n.file kib short

-- ---- the end

-- where the batch met the end, there was a log
pub spots_first : (cap newest used : ℕ) (rs : List Record) (spots : List Spot) → spots ≡ map (spot_of cap newest) (laid_from used rs) → 0 < length rs → 0 < length spots
spots_first cap newest used [] spots e some = absurd (omega (arith, some))
spots_first cap newest used (r ∷ rs) spots e some = subst (λ (ss : List Spot). 0 < length ss) (sym e) (omega arith)

pub first_is : (l : LogState) (rs : List Record) (spots : List Spot) → spots ≡ map (spot_of (capacity_in l.opening) l.newest) (laid_from l.used rs) → first_in spots ≡ first_spot l rs
first_is l [] spots e = ap first_in e
first_is l (r ∷ rs) spots e = ap first_in e

pub stops_behind : (home : PoolId) (old : Option LogState) (base : LogState) (rs : List Record) (left : PoolState) (a m b : Option Content) → is_kib home.kib ≡ true → FitsFirst old rs → IsBase home old base → (Rattle.std.specs.Prelude.IsSome old → m ≡ a)
    → MeetsEnd base.opening base.newest (fresh_files rs base) left → IfSome b (OnDisk (MeetsEndWith base (block_length (length_of rs)))) → Tells (KeepsRoom base) m b → Tells (Passes NoneLeaves) m b → Tells (StopsBy home rs old) a b
stops_behind home None base rs left a m b kib first is same meets ends room stays = absurd (omega (arith, meets.fewer, first_fresh home base rs kib is first))
stops_behind home (Some k) base rs left a m b kib first is same meets ends room stays =
    subst (λ (o : Option Content). Tells (StopsBy home rs (Some k)) o b) (same refl)
    (subst (λ (l : LogState). Tells (StopsLog l rs) m b) is (stopped base rs m b ends room stays))
  where
    stopped : (l : LogState) (rs : List Record) (m b : Option Content) → IfSome b (OnDisk (MeetsEndWith l (block_length (length_of rs)))) → Tells (KeepsRoom l) m b → Tells (Passes NoneLeaves) m b → Tells (StopsLog l rs) m b
    stopped l rs None None ends room stays = tt
    stopped l rs None (Some y) ends room stays = absurd room
    stopped l rs (Some x) None ends room stays = absurd room
    stopped l rs (Some x) (Some y) ends room stays = record { ends = ends; room = room; stays = stays }

abbrev pub IsEnd : {X : Type 0} → Result X LogError → Type 0
IsEnd r = (r ≡ Err Spent) ⊎ (r ≡ Err Memory)

same_fault_back : (X : Type 0) {Y : Type 0} (e f : LogError) → ◌≡◌ {A = Result X LogError} (Err e) (Err f) → ◌≡◌ {A = Result Y LogError} (Err e) (Err f)
same_fault_back X {Y} e f k =
    let failed : LogError → Result Y LogError = λ x. Err x in
    ap failed (err_is k)
  where
    err_is : ◌≡◌ {A = Result X LogError} (Err e) (Err f) → e ≡ f
    err_is h = cc

-- at the end the log wasn't made, or no batch was written
end_handed : (X : Type 0) {Y : Type 0} (e : LogError) (r : Result Y LogError) → Err e ≡ r → IsEnd {X = X} (Err e) → IsEnd r
end_handed X {Y} e r is (inl k) = inl (sym is ∙ same_fault_back X e Spent k)
end_handed X {Y} e r is (inr k) = inr (sym is ∙ same_fault_back X e Memory k)

pub base_at_end : (X : Type 0) {Y : Type 0} (home : PoolId) (old : Option LogState) (rs : List Record) (pool : PoolState) (e : LogError) (r : Result Y LogError) → Err e ≡ r → (Rattle.std.specs.Prelude.IsSome old → true ≡ false)
    → (old ≡ None → IsSpent home pool → IsEnd {X = X} (Err e)) → IsAtEndBy home rs pool old → IsEnd r
base_at_end X home None rs pool e r is some h end = end_handed X e r is (h refl end)
base_at_end X home (Some k) rs pool e r is some h end =
    let both : true ≡ false = some refl in
    absurd (cc)

pub batch_at_end : {X Y : Type 0} (home : PoolId) (old : Option LogState) (base : LogState) (rs : List Record) (pool left : PoolState) (s : Result Y LogError) (r : Result X LogError) → IsBase home old base → (Rattle.std.specs.Prelude.IsSome old → left ≡ pool)
    → (old ≡ None → IsSpent home pool → ⊥) → (0 < fresh_files rs base → MeetsEnd base.opening base.newest 1 left → IsEnd s) → (IsEnd s → IsEnd r) → IsAtEndBy home rs pool old → IsEnd r
batch_at_end home None base rs pool left s r is same made h k end = absurd (made refl end)
batch_at_end home (Some l) base rs pool left s r is same made h k end =
    let at : (0 < fresh_files rs base) × MeetsEnd base.opening base.newest 1 pool = subst (λ (m : LogState). (0 < fresh_files rs m) × MeetsEnd m.opening m.newest 1 pool) (sym is) end in
    k (h at.0 (subst (λ (p : PoolState). MeetsEnd base.opening base.newest 1 p) (sym (same refl)) at.1))

-- ---- causes

pub causes_then : {X Y Z : Type 0} (v : X) (r : Result Y LogError) (q : Result Z LogError) (sites sites_mid sites_now draws draws_mid draws_now : ℕ) → (q ≡ Err Failed → r ≡ Err Failed) → (q ≡ Err Draw → r ≡ Err Draw)
    → LogCauses {X = X} sites sites_mid draws draws_mid (Ok v) → LogCauses sites_mid sites_now draws_mid draws_now r → LogCauses sites sites_now draws draws_now q
causes_then v r q sites sites_mid sites_now draws draws_mid draws_now f d c k = record {
  sites_kept = omega (arith, c.sites_kept, k.sites_kept);
  draws_kept = omega (arith, c.draws_kept, k.draws_kept);
  failed = λ e. rose_later sites sites_mid sites_now c.sites_kept (k.failed (f e));
  draw = λ e. rose_later draws draws_mid draws_now c.draws_kept (k.draw (d e));
}

-- ---- syncs

own_syncs : (home : PoolId) (rs : List Record) (h : HeadedFile) → is_kib home.kib ≡ true → length_of rs ≤ 4096 → syncs_of (new_log (opening_of home) h) rs ≡ 1
own_syncs home rs h kib short = ap (λ n. n + cond (eqb 0 (home.kib * 1024)) n (n + 1)) (none_fresh home rs h kib short) ∙ one (home.kib * 1024) (roomy home kib)
  where
    one : (cap : ℕ) → 4096 ≤ cap → 0 + cond (eqb 0 cap) 0 (0 + 1) ≡ 1
    one cap h = by (eqb 0 cap) refl
      where
        by : (b : Bool) → eqb 0 cap ≡ b → 0 + cond b 0 (0 + 1) ≡ 1
        by false e = refl
        by true e = absurd (omega (arith, h, Rattle.std.proofs.lemmas.Bool.eqb-true 0 cap e))

from_zero : (n : ℕ) → 0 + n ≡ n
from_zero n = omega arith

pub base_syncs : (home : PoolId) (old : Option LogState) (l : LogState) (rs : List Record) → is_kib home.kib ≡ true → FitsFirst old rs → IsBase home old l → begin_syncs old + syncs_of l rs ≡ syncs_in old rs
base_syncs home None l rs kib first n = ap (λ (k : LogState). 1 + syncs_of k rs) n.log ∙ ap (λ m. 1 + m) (own_syncs home rs n.file kib first)
base_syncs home (Some k) l rs kib first e = from_zero (syncs_of l rs) ∙ ap (λ (m : LogState). syncs_of m rs) e

-- whatever was answered
pub counts_as : (E : Type 0) {X Y : Type 0} (v : X) (w : Y) (a : Option Content) (n before now : ℕ) → Counts {X = X} {E = E} a (Ok v) n before now → Counts {X = Y} {E = E} a (Ok w) n before now
counts_as E v w None n before now c = c
counts_as E v w (Some x) n before now c = c
