-- The list's log before a batch: the one that there is, or a new one without a record.
use Rattle.std.proofs.Common.{◌≡◌, true, false, not, ◌&&◌, ◌==◌, eq-eqb, List, [], ◌∷◌, Option, Some, None, IfSome, IsErr, Result, Ok, Err, refl, sym, ap, ◌∙◌, subst, append-nil}
use Rattle.qls_model.specs.declared.machine.PoolId.{PoolId}
use Rattle.qls_record.specs.Record.{Record}
use Rattle.qls_site.specs.Disk.{Disk}
use Rattle.qls_site.specs.Content.{Moment, Content, Tells, moments_since}
use Rattle.qls_site.proofs.Told.{Tells-weaken}
use Rattle.qls_meaning.specs.History.{History}
use Rattle.qls_meaning.specs.Spent.{last_count, greatest_id, has_empty, new_journal_meets_end}
use Rattle.qls_pool.specs.Pools.{PoolState, IsSpent}
use Rattle.qls_pool.specs.Files.{IsWholePool, OnDisk}
use Rattle.qls_pool.specs.Moments.{Passes, Arrives}
use Rattle.qls_pool.proofs.Moments.{Passes-of, Passes-same, since_is}
use Rattle.qls_pool.proofs.Taken.{no_empty}
use Rattle.qls_log.specs.declared.fault.LogError.{LogError}
use Rattle.qls_log.specs.Logs.{LogState}
use Rattle.qls_log.specs.Logs as logs
use Rattle.qls_log.specs.Reads.{BeginsReading, batch_reads}
use Rattle.qls_log.specs.Soundness.{BeginsUndamaged}
use Rattle.qls_log.specs.Appending.{IsNew}
use Rattle.qls_log.specs.Leaving.{WritesInOrder}
use Rattle.qls_log.specs.Unwritten.{BeginsWritten, IsWrittenTo, history_with}
use Rattle.qls_prepared.specs.Lists.{opening_of, IsOwnLog}
use Rattle.qls_prepared.specs.Moments.{WritesOn}
use Rattle.qls_prepared.specs.Ends.{StopsBy}
use Rattle.qls_prepared.specs.Writing.{IsBase, base_of, BeginsWhole, first_spot}
use Rattle.qls_prepared.proofs.Then.{adds_of}

-- ---- a new log

pub new_own : (home : PoolId) (l : LogState) → IsNew (opening_of home) l → logs.IsSound l → IsOwnLog l
new_own home l n s = record {
  kind = ap (λ (k : LogState). k.opening.kind) n.log;
  name = ap (λ (k : LogState). k.opening.name) n.log;
  unended = ap (λ (k : LogState). k.ended) n.log;
  flushed = ap (λ (k : LogState). k.unsynced) n.log;
  sound = s;
}

pub new_opening : (home : PoolId) (l : LogState) → IsNew (opening_of home) l → l.opening ≡ opening_of home
new_opening home l n = ap (λ (k : LogState). k.opening) n.log

pub new_rid : (home : PoolId) (l : LogState) → IsNew (opening_of home) l → l.rid ≡ 0
new_rid home l n = ap (λ (k : LogState). k.rid) n.log

begins_whole : (R : Moment → Moment → Type 0) (l : LogState) (a b : Content) → Passes R a b → BeginsReading l a b → BeginsUndamaged l a b → BeginsWhole None l a b
begins_whole R l a b p r s = record {
  adds = adds_of R a b p;
  whole = λ unmarked es held w. record { reads = []; read = r unmarked; undamaged = s unmarked; entries = sym w.0; held = sym w.1 };
}

pub told_begins : (R : Moment → Moment → Type 0) (l : LogState) (a b : Option Content) → Tells (Arrives R) a b → Tells (BeginsReading l) a b → Tells (BeginsUndamaged l) a b → Tells (BeginsWhole None l) a b
told_begins R l None None p r s = tt
told_begins R l None (Some y) p r s = absurd p
told_begins R l (Some x) None p r s = absurd p
told_begins R l (Some x) (Some y) p r s = begins_whole R l x y (Passes-of R x y p) r s

pub begins_written : {X : Type 0} (r : Result X LogError) (log : X → LogState) (a b : Option Content) → Tells (BeginsWritten r log) a b → Tells (WritesOn r None (λ x. Some (log x))) a b
begins_written {X} r log a b h = Tells-weaken (BeginsWritten r log) (WritesOn r None (λ x. Some (log x))) a b h (λ x y w. λ areas g e p. w areas g e)

-- the error is handed on
pub writes_handed : (X : Type 0) {Y : Type 0} (e : LogError) (r : Result Y LogError) (old : Option LogState) (log : X → Option LogState) (new : Y → Option LogState) (a b : Option Content) → IsErr r
    → Tells (WritesOn {X = X} (Err e) old log) a b → Tells (WritesOn r old new) a b
writes_handed X {Y} e (Ok y) old log new a b i h = absurd (not_ok y i)
  where
    not_ok : (y : Y) → IsErr {T = Y} {E = LogError} (Ok y) → ⊥
    not_ok y i = cc
writes_handed X {Y} e (Err f) old log new a b i h = h

-- ---- a log that there was

all_same : (R : Moment → Moment → Type 0) (l : LogState) (a : Content) → BeginsWhole (Some l) l a a
all_same R l a = record { adds = adds_of R a a (Passes-same R a a refl); whole = λ unmarked es held w. w }

pub told_same_whole : (l : LogState) (a : Option Content) → Tells (BeginsWhole (Some l) l) a a
told_same_whole l None = tt
told_same_whole l (Some x) = all_same (λ m n. Unit {0}) l x

none_since : (c : Content) → moments_since c c ≡ []
none_since c = since_is (λ m n. Unit {0}) c c (record { since = []; moments = sym (append-nil c.moments); chain = tt })

history_none : (h : History) → history_with h [] ≡ h
history_none h = ap (λ (ms : List Moment). record h { since = ms }) (append-nil h.since)

same_writes : (l : LogState) (x : Content) → WritesOn {X = LogState} (Ok l) (Some l) (λ k. Some k) x x
same_writes l x = λ areas h e p. (
  subst (WritesInOrder areas h) (sym (none_since x)) tt,
  subst (λ (ms : List Moment). IsWrittenTo areas (history_with h ms) l) (sym (none_since x)) (subst (λ (k : History). IsWrittenTo areas k l) (sym (history_none h)) p),
)

pub told_same_writes : (l : LogState) (old : Option LogState) (a : Option Content) → old ≡ Some l → Tells (WritesOn {X = LogState} (Ok l) old (λ k. Some k)) a a
told_same_writes l old None e = tt
told_same_writes l old (Some x) e = subst (λ (o : Option LogState). WritesOn {X = LogState} (Ok l) o (λ k. Some k) x x) (sym e) (same_writes l x)

-- ---- none can be made

no_file_of : (home : PoolId) (pool : PoolState) (d : Disk) → IsWholePool pool d → IsSpent home pool → new_journal_meets_end home d ≡ true
no_file_of home pool d whole spent =
    let last : (greatest_id d == last_count) ≡ true = eq-eqb (greatest_id d) last_count (sym whole.1.greatest ∙ spent.last) in
    let none : has_empty home d ≡ false = no_empty home pool d whole.0 whole.1 spent.empty in
    λ i. last i && not (none i)

pub told_no_file : (home : PoolId) (rs : List Record) (pool left : PoolState) (a b : Option Content) → b ≡ a → left ≡ pool → IsSpent home left → IfSome a (OnDisk (IsWholePool pool)) → Tells (StopsBy home rs None) a b
told_no_file home rs pool left None b e p spent w = subst (λ (o : Option Content). Tells (StopsBy home rs None) None o) (sym e) tt
told_no_file home rs pool left (Some x) b e p spent w =
    subst (λ (o : Option Content). Tells (StopsBy home rs None) (Some x) o) (sym e) (refl, no_file_of home pool x.now.disk w (subst (IsSpent home) p spent))

-- ---- the base

pub base_reads : (home : PoolId) (old : Option LogState) (l : LogState) (rs : List Record) → IsBase home old l → batch_reads l rs ≡ batch_reads (base_of home old) rs
base_reads home None l rs n = ap (λ (k : LogState). batch_reads k rs) n.log
base_reads home (Some k) l rs e = ap (λ (m : LogState). batch_reads m rs) e

pub base_spot : (home : PoolId) (old : Option LogState) (l : LogState) (rs : List Record) → IsBase home old l → first_spot l rs ≡ first_spot (base_of home old) rs
base_spot home None l [] n = refl
base_spot home None l (r ∷ rs) n = ap (λ (k : LogState). first_spot k (r ∷ rs)) n.log
base_spot home (Some k) l rs e = ap (λ (m : LogState). first_spot m rs) e

pub base_rid : (home : PoolId) (old : Option LogState) (l : LogState) → IsBase home old l → l.rid ≡ (base_of home old).rid
base_rid home None l n = ap (λ (k : LogState). k.rid) n.log
base_rid home (Some k) l e = ap (λ (m : LogState). m.rid) e

-- ---- errors

pub same_fault : (X : Type 0) {Y : Type 0} (e f : LogError) (r : Result Y LogError) → Err e ≡ r → r ≡ Err f → ◌≡◌ {A = Result X LogError} (Err e) (Err f)
same_fault X {Y} e f r is h =
    let failed : LogError → Result X LogError = λ k. Err k in
    ap failed (err_is (is ∙ h))
  where
    err_is : ◌≡◌ {A = Result Y LogError} (Err e) (Err f) → e ≡ f
    err_is k = cc
