-- A batch that is appended and then flushed.
use Rattle.std.proofs.Common.{◌≡◌, inl, inr, ℕ, zero, suc, ◌+◌, ◌-◌, ◌<◌, ◌≤◌, Bool, true, false, cond, ◌||◌, ◌==◌, eqb, List, [], ◌∷◌, ◌++◌, length, drop, Option, Some, None, Result, Ok, Err, IsErr, refl, sym, ap, ◌∙◌, subst, append_assoc, append-nil, option_map, arith}
use Rattle.std.proofs.lemmas.List.{length-map, length-drop}
use Rattle.std.proofs.Math.Seq.{drop-append_seam}
use Rattle.qls_record.specs.Record.{Record}
use Rattle.qls_site.specs.Disk.{Disk, FileState, file_of, sync_at, changed, all_written}
use Rattle.qls_site.specs.Content.{Moment, Content, Tells, Rose, moments_since}
use Rattle.qls_site.proofs.Told.{file_of-change_file}
use Rattle.qls_meaning.specs.Reading.{Read}
use Rattle.qls_blocks.specs.Parts.{with_sync, with_syncs}
use Rattle.qls_pool.specs.Pools.{PoolState}
use Rattle.qls_pool.specs.Files.{HeadedFile, Carries, is_among}
use Rattle.qls_pool.proofs.Disks.{found_id}
use Rattle.qls_log.specs.Logs.{LogState, IsSound, capacity_in, ids}
use Rattle.qls_log.specs.Writing.{from_written}
use Rattle.qls_log.specs.Appending.{TakesAndWrites, SyncsAll, LeavesOthers, HasAppended, written_files, from_newest}
use Rattle.qls_log.specs.Reads.{IsRead, ReadsOn, batch_reads}
use Rattle.qls_blocks.specs.Plans.{plan_of}
use Rattle.qls_log.specs.Faults.{Counts}
use Rattle.qls_log.proofs.Appended.{headed_count, tail_length}
use Rattle.qls_log.proofs.Behind.{unmarked_first}
use Rattle.qls_queue.specs.Writing.{WritesAndSyncs}

-- ---- moments

syncs_moments : (ids : List ℕ) (c : Content) → (xs : List Moment) × ((with_syncs ids c).moments ≡ c.moments ++ xs)
syncs_moments [] c = ([], sym (append-nil c.moments))
syncs_moments (id ∷ ids) c =
    let one : Content = with_sync id c in
    let rest = syncs_moments ids one in
    (one.now ∷ rest.0, rest.1 ∙ append_assoc c.moments (one.now ∷ []) rest.0)

pub adds_then : (a m b : Content) (more : List Moment) → m.moments ≡ a.moments ++ moments_since a m → b.moments ≡ m.moments ++ more → b.moments ≡ a.moments ++ moments_since a b
adds_then a m b more e w =
    let all : b.moments ≡ a.moments ++ (moments_since a m ++ more) = w ∙ ap (λ (ms : List Moment). ms ++ more) e ∙ append_assoc a.moments (moments_since a m) more in
    all ∙ ap (λ (ms : List Moment). a.moments ++ ms) (sym (ap (drop (length a.moments)) all ∙ drop-append_seam a.moments (moments_since a m ++ more)))

-- ---- what is read

reads_on : (rs : List Record) (old mid new : LogState) (ids : List ℕ) (x : Unit {0}) (a m b : Content) → ReadsOn rs old mid a m → SyncsAll ids (Ok x) m b
    → ((reads : List Read) → IsRead mid reads m.now.disk → IsRead new reads b.now.disk) → ReadsOn rs old new a b
reads_on rs old mid new ids x a m b r s k =
    let syncs = syncs_moments ids m in
    let more : b.moments ≡ m.moments ++ syncs.0 = ap (λ (c : Content). c.moments) s ∙ syncs.1 in
    record {
      batch = r.batch;
      adds = adds_then a m b syncs.0 r.adds more;
      read = λ unmarked reads read. k (reads ++ batch_reads old rs) (r.read (unmarked_first a m b syncs.0 r.adds more unmarked) reads read);
    }

pub told_reads_on : (rs : List Record) (old mid new : LogState) (ids : List ℕ) (x : Unit {0}) (a m b : Option Content) → Tells (ReadsOn rs old mid) a m → Tells (SyncsAll ids (Ok x)) m b
    → ((reads : List Read) → Carries (IsRead mid reads) (IsRead new reads) m b) → Tells (ReadsOn rs old new) a b
told_reads_on rs old mid new ids x None None None r s k = tt
told_reads_on rs old mid new ids x None None (Some z) r s k = absurd s
told_reads_on rs old mid new ids x None (Some y) b r s k = absurd r
told_reads_on rs old mid new ids x (Some w) None b r s k = absurd r
told_reads_on rs old mid new ids x (Some w) (Some y) None r s k = absurd s
told_reads_on rs old mid new ids x (Some w) (Some y) (Some z) r s k = reads_on rs old mid new ids x w y z r s k

-- ---- what is written

pub told_written : (rs : List Record) (old between : LogState) (pool left : PoolState) (taken : List HeadedFile) (x : Unit {0}) (a m b : Option Content) → Tells (TakesAndWrites rs old between pool left taken) a m
    → Tells (SyncsAll between.unsynced (Ok x)) m b → Tells (WritesAndSyncs rs old between pool left taken) a b
told_written rs old between pool left taken x None None None r s = tt
told_written rs old between pool left taken x None None (Some z) r s = absurd s
told_written rs old between pool left taken x None (Some y) b r s = absurd r
told_written rs old between pool left taken x (Some w) None b r s = absurd r
told_written rs old between pool left taken x (Some w) (Some y) None r s = absurd s
told_written rs old between pool left taken x (Some w) (Some y) (Some z) r s = record { pending = y; writes = r; syncs = s }

-- ---- the log

pub sound_flushed : (l new : LogState) → new ≡ record l { unsynced = [] } → IsSound l → IsSound new
sound_flushed l new e s =
    subst IsSound (sym e) (record {
      opening = s.opening;
      all = s.all;
      older = s.older;
      olds = s.olds;
      own = s.own;
      full = s.full;
      next = s.next;
      legal = s.legal;
      some = s.some;
      few = s.few;
      numbers = s.numbers;
      newest = s.newest;
      used = s.used;
      rid = s.rid;
      unsynced = tt;
    })

-- ---- what stays

abbrev syncing : FileState → FileState
syncing f = record f { stable = all_written f.pending f.stable; pending = [] }

or_parts : (a b : Bool) → (a || b) ≡ false → (a ≡ false) × (b ≡ false)
or_parts true b e = absurd (cc)
or_parts false b e = (refl, e)

turned : (m n : ℕ) → (m == n) ≡ false → (n == m) ≡ false
turned m n e = grind (arith, Rattle.std.proofs.lemmas.Bool.Decides.nat_tests, e)

same_file : (id own : ℕ) (o : Option FileState) → ((f : FileState) → o ≡ Some f → f.id ≡ id) → (own == id) ≡ false → option_map (changed own syncing) o ≡ o
same_file id own None ids h = refl
same_file id own (Some f) ids h =
    ap (λ b. Some (cond b (syncing f) f)) (ap (λ n. n == own) (ids f refl) ∙ turned own id h)

one_sync : (id own : ℕ) (d : Disk) → (own == id) ≡ false → file_of id (sync_at own d) ≡ file_of id d
one_sync id own d h = file_of-change_file id own syncing (λ f. refl) d ∙ same_file id own (file_of id d) (λ f is. found_id id f d is) h

syncs_leave : (id : ℕ) (own : List ℕ) (c : Content) → is_among id own ≡ false → file_of id (with_syncs own c).now.disk ≡ file_of id c.now.disk
syncs_leave id [] c h = refl
syncs_leave id (k ∷ own) c h =
    let parts = or_parts (k == id) (is_among id own) h in
    syncs_leave id own (with_sync k c) parts.1 ∙ one_sync id k c.now.disk parts.0

syncs_answered : (own : List ℕ) (c : Content) → (with_syncs own c).now.answered ≡ c.now.answered
syncs_answered [] c = refl
syncs_answered (k ∷ own) c = syncs_answered own (with_sync k c)

drop_among : (id k : ℕ) (hs : List HeadedFile) → is_among id (ids hs) ≡ false → is_among id (ids (drop k hs)) ≡ false
drop_among id zero hs h = h
drop_among id (suc k) [] h = h
drop_among id (suc k) (g ∷ hs) h = drop_among id k hs (or_parts (g.id == id) (is_among id (ids hs)) h).1

written_among : (id cap used : ℕ) (hs : List HeadedFile) → is_among id (ids hs) ≡ false → is_among id (ids (from_written cap used hs)) ≡ false
written_among id cap used hs h = elim (eqb used cap) as (λ b. is_among id (ids (cond b (drop 1 hs) hs)) ≡ false) [ true ↦ drop_among id 1 hs h | false ↦ h ]

pending_among : (id : ℕ) (rs : List Record) (old mid : LogState) (taken : List HeadedFile) → HasAppended rs old mid taken → is_among id (ids mid.files) ≡ false → is_among id mid.unsynced ≡ false
pending_among id rs old mid taken p h =
    ap (is_among id) p.unsynced
    ∙ written_among id (capacity_in old.opening) old.used (from_newest old taken) (drop_among id (length old.files - 1) (old.files ++ taken) (ap (λ (hs : List HeadedFile). is_among id (ids hs)) (sym p.files) ∙ h))

others : (rs : List Record) (old mid new : LogState) (taken : List HeadedFile) (x : Unit {0}) (a m b : Content) → HasAppended rs old mid taken → new.files ≡ mid.files → LeavesOthers mid.files a m → SyncsAll mid.unsynced (Ok x) m b
    → LeavesOthers new.files a b
others rs old mid new taken x a m b p e o s = record {
  files = λ id h.
      let apart : is_among id (ids mid.files) ≡ false = ap (λ (hs : List HeadedFile). is_among id (ids hs)) (sym e) ∙ h in
      ap (λ (c : Content). file_of id c.now.disk) s ∙ syncs_leave id mid.unsynced m (pending_among id rs old mid taken p apart) ∙ o.files id apart;
  answered = ap (λ (c : Content). c.now.answered) s ∙ syncs_answered mid.unsynced m ∙ o.answered;
}

pub told_others : (rs : List Record) (old mid new : LogState) (taken : List HeadedFile) (x : Unit {0}) (a m b : Option Content) → HasAppended rs old mid taken → new.files ≡ mid.files → Tells (LeavesOthers mid.files) a m
    → Tells (SyncsAll mid.unsynced (Ok x)) m b → Tells (LeavesOthers new.files) a b
told_others rs old mid new taken x None None None p e r s = tt
told_others rs old mid new taken x None None (Some z) p e r s = absurd s
told_others rs old mid new taken x None (Some y) b p e r s = absurd r
told_others rs old mid new taken x (Some w) None b p e r s = absurd r
told_others rs old mid new taken x (Some w) (Some y) None p e r s = absurd s
told_others rs old mid new taken x (Some w) (Some y) (Some z) p e r s = others rs old mid new taken x w y z p e r s

-- ---- causes

pub rose_later : (a b c : ℕ) → a ≤ b → Rose b c → Rose a c
rose_later a b c h (inl l) = inl (omega (arith, h, l))
rose_later a b c h (inr e) = inr e

-- ---- syncs

pub counts_then : (E : Type 0) {X Y : Type 0} (R : Content → Content → Type 0) (v : X) (w : Y) (a m : Option Content) (k j before between now : ℕ) → Tells R a m → Counts {X = X} {E = E} a (Ok v) k before between
    → Counts {X = Y} {E = E} m (Ok w) j between now → Counts {X = X} {E = E} a (Ok v) (k + j) before now
counts_then E R v w None None k j before between now t s u = (omega (arith, s.0, u.0), omega (arith, s.1, u.1))
counts_then E R v w None (Some y) k j before between now t s u = absurd t
counts_then E R v w (Some x) None k j before between now t s u = absurd t
counts_then E R v w (Some x) (Some y) k j before between now t s u = omega (arith, s, u)

pub counts_failed : (Y E F : Type 0) {X Z : Type 0} (R : Content → Content → Type 0) (v : X) (e : F) (r : Result Z E) (a m : Option Content) (k j before between now : ℕ) → IsErr r → Tells R a m → Counts {X = X} {E = E} a (Ok v) k before between
    → Counts {X = Y} {E = F} m (Err e) j between now → Counts {X = Z} {E = E} a r (k + j) before now
counts_failed Y E F R v e (Ok z) a m k j before between now i t s u = absurd (cc)
counts_failed Y E F R v e (Err f) None None k j before between now i t s u = (omega (arith, s.0, u.0), omega (arith, s.1, u.1))
counts_failed Y E F R v e (Err f) None (Some y) k j before between now i t s u = absurd t
counts_failed Y E F R v e (Err f) (Some x) None k j before between now i t s u = absurd t
counts_failed Y E F R v e (Err f) (Some x) (Some y) k j before between now i t s u = (omega (arith, s, u.0), omega (arith, s, u.1))

written_by : (cap used k : ℕ) (hs : List HeadedFile) → length hs ≡ k + 1 → length (from_written cap used hs) ≡ cond (eqb used cap) k (k + 1)
written_by cap used k hs e =
    elim (eqb used cap) as (λ b. length (cond b (drop 1 hs) hs) ≡ cond b k (k + 1)) [
      | true ↦ length-drop 1 hs ∙ omega (arith, e)
      | false ↦ e
    ]

-- the files with pending writes are those from the newest one on, but for a full one
pub pending_count : (rs : List Record) (old mid : LogState) (taken : List HeadedFile) → HasAppended rs old mid taken → 0 < length old.files
    → length mid.unsynced ≡ (let n = length (plan_of rs old.used (capacity_in old.opening) old.rid).fresh in cond (eqb old.used (capacity_in old.opening)) n (n + 1))
pending_count rs old mid taken p some =
    ap length p.unsynced ∙ length-map (written_files old taken) (λ (h : HeadedFile). h.id)
    ∙ written_by (capacity_in old.opening) old.used (length (plan_of rs old.used (capacity_in old.opening) old.rid).fresh) (from_newest old taken) (tail_length old.files taken _ some (headed_count old.opening old.newest _ taken p.headers))
