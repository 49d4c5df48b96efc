-- A batch that is appended and then flushed.
use Rattle.std.proofs.Common.{◌≡◌, inl, inr, ℕ, ◌+◌, ◌<◌, ◌≤◌, true, false, cond, eqb, List, [], ◌∷◌, ◌++◌, length, drop, Option, Some, None, Result, Ok, Err, IsErr, sym, ap, ◌∙◌, subst, append_assoc, append-nil, arith}
use Rattle.std.proofs.lemmas.List.{length-map, length-drop}
use Rattle.qls_record.specs.Record.{Record}
use Rattle.qls_site.specs.Content.{Moment, Content, Tells, Rose}
use Rattle.qls_meaning.specs.Reading.{Read}
use Rattle.qls_blocks.specs.Parts.{with_sync, with_syncs}
use Rattle.qls_pool.specs.Pools.{PoolState}
use Rattle.qls_pool.specs.Files.{HeadedFile, Carries}
use Rattle.qls_log.specs.Logs.{LogState, IsSound, capacity_in, ids}
use Rattle.qls_log.specs.Writing.{from_written}
use Rattle.qls_log.specs.Appending.{TakesAndWrites, SyncsAll, HasAppended, written_files, from_newest}
use Rattle.qls_log.specs.Reads.{IsRead, ReadsOn, batch_reads}
use Rattle.qls_blocks.specs.Plans.{plan_of}
use Rattle.qls_log.specs.Faults.{Counts}
use Rattle.qls_log.proofs.Appended.{headed_count, tail_length}
use Rattle.qls_log.proofs.Behind.{unmarked_first}
use Rattle.qls_prepared.specs.Writing.{WritesAndSyncs}
use Rattle.qls_prepared.proofs.Then.{adds_then}

-- ---- moments

syncs_moments : (ids : List ℕ) (c : Content) → (xs : List Moment) × ((with_syncs ids c).moments ≡ c.moments ++ xs)
syncs_moments [] c = ([], sym (append-nil c.moments))
syncs_moments (id ∷ ids) c =
    let one : Content = with_sync id c in
    let rest = syncs_moments ids one in
    (one.now ∷ rest.0, rest.1 ∙ append_assoc c.moments (one.now ∷ []) rest.0)

-- ---- what is read

reads_on : (rs : List Record) (old mid new : LogState) (ids : List ℕ) (x : Unit {0}) (a m b : Content) → ReadsOn rs old mid a m → SyncsAll ids (Ok x) m b
    → ((reads : List Read) → IsRead mid reads m.now.disk → IsRead new reads b.now.disk) → ReadsOn rs old new a b
reads_on rs old mid new ids x a m b r s k =
    let syncs = syncs_moments ids m in
    let more : b.moments ≡ m.moments ++ syncs.0 = ap (λ (c : Content). c.moments) s ∙ syncs.1 in
    record {
      batch = r.batch;
      adds = adds_then a m b syncs.0 r.adds more;
      read = λ unmarked reads read. k (reads ++ batch_reads old rs) (r.read (unmarked_first a m b syncs.0 r.adds more unmarked) reads read);
    }

pub told_reads_on : (rs : List Record) (old mid new : LogState) (ids : List ℕ) (x : Unit {0}) (a m b : Option Content) → Tells (ReadsOn rs old mid) a m → Tells (SyncsAll ids (Ok x)) m b
    → ((reads : List Read) → Carries (IsRead mid reads) (IsRead new reads) m b) → Tells (ReadsOn rs old new) a b
told_reads_on rs old mid new ids x None None None r s k = tt
told_reads_on rs old mid new ids x None None (Some z) r s k = absurd s
told_reads_on rs old mid new ids x None (Some y) b r s k = absurd r
told_reads_on rs old mid new ids x (Some w) None b r s k = absurd r
told_reads_on rs old mid new ids x (Some w) (Some y) None r s k = absurd s
told_reads_on rs old mid new ids x (Some w) (Some y) (Some z) r s k = reads_on rs old mid new ids x w y z r s k

-- ---- what is written

pub told_written : (rs : List Record) (old between : LogState) (pool left : PoolState) (taken : List HeadedFile) (x : Unit {0}) (a m b : Option Content) → Tells (TakesAndWrites rs old between pool left taken) a m
    → Tells (SyncsAll between.unsynced (Ok x)) m b → Tells (WritesAndSyncs rs old between pool left taken) a b
told_written rs old between pool left taken x None None None r s = tt
told_written rs old between pool left taken x None None (Some z) r s = absurd s
told_written rs old between pool left taken x None (Some y) b r s = absurd r
told_written rs old between pool left taken x (Some w) None b r s = absurd r
told_written rs old between pool left taken x (Some w) (Some y) None r s = absurd s
told_written rs old between pool left taken x (Some w) (Some y) (Some z) r s = record { pending = y; writes = r; syncs = s }

-- ---- the log

pub sound_flushed : (l new : LogState) → new ≡ record l { unsynced = [] } → IsSound l → IsSound new
sound_flushed l new e s =
    subst IsSound (sym e) (record {
      opening = s.opening;
      all = s.all;
      older = s.older;
      olds = s.olds;
      own = s.own;
      full = s.full;
      next = s.next;
      legal = s.legal;
      some = s.some;
      few = s.few;
      numbers = s.numbers;
      newest = s.newest;
      used = s.used;
      rid = s.rid;
      unsynced = tt;
    })

-- ---- causes

pub rose_later : (a b c : ℕ) → a ≤ b → Rose b c → Rose a c
rose_later a b c h (inl l) = inl (omega (arith, h, l))
rose_later a b c h (inr e) = inr e

-- ---- syncs

pub counts_then : (E : Type 0) {X Y : Type 0} (R : Content → Content → Type 0) (v : X) (w : Y) (a m : Option Content) (k j before between now : ℕ) → Tells R a m → Counts {X = X} {E = E} a (Ok v) k before between
    → Counts {X = Y} {E = E} m (Ok w) j between now → Counts {X = X} {E = E} a (Ok v) (k + j) before now
counts_then E R v w None None k j before between now t s u = (omega (arith, s.0, u.0), omega (arith, s.1, u.1))
counts_then E R v w None (Some y) k j before between now t s u = absurd t
counts_then E R v w (Some x) None k j before between now t s u = absurd t
counts_then E R v w (Some x) (Some y) k j before between now t s u = omega (arith, s, u)

pub counts_failed : (Y E F : Type 0) {X Z : Type 0} (R : Content → Content → Type 0) (v : X) (e : F) (r : Result Z E) (a m : Option Content) (k j before between now : ℕ) → IsErr r → Tells R a m → Counts {X = X} {E = E} a (Ok v) k before between
    → Counts {X = Y} {E = F} m (Err e) j between now → Counts {X = Z} {E = E} a r (k + j) before now
counts_failed Y E F R v e (Ok z) a m k j before between now i t s u = absurd (cc)
counts_failed Y E F R v e (Err f) None None k j before between now i t s u = (omega (arith, s.0, u.0), omega (arith, s.1, u.1))
counts_failed Y E F R v e (Err f) None (Some y) k j before between now i t s u = absurd t
counts_failed Y E F R v e (Err f) (Some x) None k j before between now i t s u = absurd t
counts_failed Y E F R v e (Err f) (Some x) (Some y) k j before between now i t s u = (omega (arith, s, u.0), omega (arith, s, u.1))

written_by : (cap used k : ℕ) (hs : List HeadedFile) → length hs ≡ k + 1 → length (from_written cap used hs) ≡ cond (eqb used cap) k (k + 1)
written_by cap used k hs e =
    elim (eqb used cap) as (λ b. length (cond b (drop 1 hs) hs) ≡ cond b k (k + 1)) [
      | true ↦ length-drop 1 hs ∙ omega (arith, e)
      | false ↦ e
    ]

-- the files with pending writes are those from the newest one on, but for a full one
pub pending_count : (rs : List Record) (old mid : LogState) (taken : List HeadedFile) → HasAppended rs old mid taken → 0 < length old.files
    → length mid.unsynced ≡ (let n = length (plan_of rs old.used (capacity_in old.opening) old.rid).fresh in cond (eqb old.used (capacity_in old.opening)) n (n + 1))
pending_count rs old mid taken p some =
    ap length p.unsynced ∙ length-map (written_files old taken) (λ (h : HeadedFile). h.id)
    ∙ written_by (capacity_in old.opening) old.used (length (plan_of rs old.used (capacity_in old.opening) old.rid).fresh) (from_newest old taken) (tail_length old.files taken _ some (headed_count old.opening old.newest _ taken p.headers))
