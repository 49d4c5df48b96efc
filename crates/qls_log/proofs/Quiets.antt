-- What is pending after files are taken, and after a batch is written.
use Rattle.std.proofs.Common.{◌≡◌, ℕ, ◌+◌, ◌-◌, ◌*◌, Bool, true, false, cond, ◌||◌, ◌==◌, ltb, List, [], ◌∷◌, ◌++◌, take, drop, replicate, Option, Some, None, refl, sym, ap, ◌∙◌, subst}
use Rattle.std.specs.List.{AllByRecursion}
use Rattle.qls_model.specs.declared.machine.PoolId.{PoolId}
use Rattle.qls_site.specs.declared.site.Place.TheVariants.{InUse, Empty}
use Rattle.qls_site.specs.Disk.{Disk, FileState, IsQuiet, changed, with_file, all_written, write_at, sync_at, relocate_at}
use Rattle.qls_site.specs.Content.{Content, Tells}
use Rattle.qls_filehdr.specs.Header.{header_spelling}
use Rattle.qls_pool.specs.Pools.{PoolState, least_id}
use Rattle.qls_pool.specs.Files.{HeadedFile, Carries, is_among}
use Rattle.qls_pool.specs.Taking.{Obtains}
use Rattle.qls_pool.proofs.Disks.{eqb_is, eqb_own}
use Rattle.qls_log.specs.Appending.{IsQuietBut}
use Rattle.qls_log.specs.Taking.{TakesFile, TakesFiles}
use Rattle.qls_log.specs.Writing.{WritesAll, with_parts, with_write}

-- ---- ids among others

-- each of the ids is among the others
abbrev pub AreAmong : List ℕ → List ℕ → Type 0
AreAmong all ids = AllByRecursion (λ id. is_among id all ≡ true) ids

or_right : (a b : Bool) → b ≡ true → (a || b) ≡ true
or_right true b e = refl
or_right false b e = e

pub among_more : (n : ℕ) (all ids : List ℕ) → AreAmong all ids → AreAmong (n ∷ all) ids
among_more n all [] h = tt
among_more n all (id ∷ ids) h = (or_right (n == id) (is_among id all) h.0, among_more n all ids h.1)

pub among_self : (ids : List ℕ) → AreAmong ids ids
among_self [] = tt
among_self (id ∷ ids) = (ap (λ b. b || is_among id ids) (eqb_own id), among_more id ids ids (among_self ids))

-- ---- files are taken

quiet_with : (f : FileState) (d : Disk) → f.pending ≡ [] → IsQuiet d → IsQuiet (with_file f d)
quiet_with f [] p q = (p, tt)
quiet_with f (g ∷ d) p q = elim (ltb f.id g.id) as (λ b. IsQuiet (cond b (f ∷ g ∷ d) (g ∷ with_file f d))) [ true ↦ (p, q) | false ↦ (q.0, quiet_with f d p q.1) ]

abbrev writing : ℕ → List ℕ → FileState → FileState
writing at bytes f = record f { pending = f.pending ++ (record { at = at; bytes = bytes }) ∷ [] }

abbrev syncing : FileState → FileState
syncing f = record f { stable = all_written f.pending f.stable; pending = [] }

quiet_step : (id at : ℕ) (bytes : List ℕ) (f : FileState) (b : Bool) → (f.id == id) ≡ b → f.pending ≡ [] → (changed id syncing (cond b (writing at bytes f) f)).pending ≡ []
quiet_step id at bytes f true e p = ap (λ c. (cond c (syncing (writing at bytes f)) (writing at bytes f)).pending) e
quiet_step id at bytes f false e p = ap (λ c. (cond c (syncing f) f).pending) e ∙ p

-- a write that is synced leaves nothing pending
quiet_written : (id at : ℕ) (bytes : List ℕ) (d : Disk) → IsQuiet d → IsQuiet (sync_at id (write_at id at bytes d))
quiet_written id at bytes [] q = tt
quiet_written id at bytes (f ∷ d) q = (quiet_step id at bytes f (f.id == id) refl q.0, quiet_written id at bytes d q.1)

quiet_moved : (id : ℕ) (d : Disk) → IsQuiet d → IsQuiet (relocate_at id InUse d)
quiet_moved id [] q = tt
quiet_moved id (f ∷ d) q = (elim (f.id == id) as (λ b. (cond b (record f { place = InUse }) f).pending ≡ []) [ true ↦ q.0 | false ↦ q.0 ], quiet_moved id d q.1)

quiet_obtained : (home : PoolId) (greatest : ℕ) (o : Option ℕ) (a b : Content) → Obtains home greatest o a b → IsQuiet a.now.disk → IsQuiet b.now.disk
quiet_obtained home greatest (Some id) a b e q = subst (λ (c : Content). IsQuiet c.now.disk) (sym e) q
quiet_obtained home greatest None a b e q =
    subst (λ (c : Content). IsQuiet c.now.disk) (sym e)
    (quiet_with (record { id = greatest + 1; place = Empty home.part home.kib; stable = replicate (4096 + 1024 * home.kib) 0; pending = [] }) a.now.disk refl q)

quiet_file : (home : PoolId) (pool left : PoolState) (h : HeadedFile) (a b : Content) → TakesFile home pool left h a b → IsQuiet a.now.disk → IsQuiet b.now.disk
quiet_file home pool left h a b t q =
    let first : IsQuiet t.blank.now.disk = quiet_obtained home pool.greatest (least_id home pool.files) a t.blank t.obtains q in
    let second : IsQuiet t.headed.now.disk =
    subst (λ (c : Content). IsQuiet c.now.disk) (sym t.heads) (quiet_written h.id 0 (header_spelling h.header) t.blank.now.disk first) in
    subst (λ (c : Content). IsQuiet c.now.disk) (sym t.links) (quiet_moved h.id t.headed.now.disk second)

pub quiet_files : (home : PoolId) (pool left : PoolState) (hs : List HeadedFile) (a b : Content) → TakesFiles home pool left hs a b → IsQuiet a.now.disk → IsQuiet b.now.disk
quiet_files home pool left [] a b t q = subst (λ (c : Content). IsQuiet c.now.disk) (sym t.1) q
quiet_files home pool left (h ∷ hs) a b t q = quiet_files home t.0 left hs t.1 b t.3 (quiet_file home pool t.0 h a t.1 t.2 q)

pub told_quiet_files : (home : PoolId) (pool left : PoolState) (hs : List HeadedFile) (a b : Option Content) → Tells (TakesFiles home pool left hs) a b → Carries IsQuiet IsQuiet a b
told_quiet_files home pool left hs None b t = tt
told_quiet_files home pool left hs (Some x) None t = tt
told_quiet_files home pool left hs (Some x) (Some y) t = λ q. quiet_files home pool left hs x y t q

-- ---- a batch is written

not_both : (b : Bool) → b ≡ true → b ≡ false → ⊥
not_both b e k = cc

pending_one : (all : List ℕ) (id at : ℕ) (bytes : List ℕ) (f : FileState) → is_among id all ≡ true → (is_among f.id all ≡ false → f.pending ≡ []) → is_among (changed id (writing at bytes) f).id all ≡ false
    → (changed id (writing at bytes) f).pending ≡ []
pending_one all id at bytes f among h =
    elim (f.id == id) as (λ b. (f.id == id) ≡ b → is_among (cond b (writing at bytes f) f).id all ≡ false → (cond b (writing at bytes f) f).pending ≡ []) [
      | true ↦ λ e k. absurd (not_both (is_among id all) among (ap (λ n. is_among n all) (sym (eqb_is f.id id e)) ∙ k))
      | false ↦ λ e k. h k
    ] refl

pending_write : (all : List ℕ) (id at : ℕ) (bytes : List ℕ) (d : Disk) → is_among id all ≡ true → IsQuietBut all d → IsQuietBut all (write_at id at bytes d)
pending_write all id at bytes [] among h = tt
pending_write all id at bytes (f ∷ d) among h = (pending_one all id at bytes f among h.0, pending_write all id at bytes d among h.1)

pending_parts : (all : List ℕ) (capacity : ℕ) (ids : List ℕ) (from : ℕ) (bytes : List ℕ) (c : Content) → AreAmong all ids → IsQuietBut all c.now.disk → IsQuietBut all (with_parts capacity ids from bytes c).now.disk
pending_parts all capacity [] from bytes c among h = h
pending_parts all capacity (id ∷ ids) from bytes c among h =
    pending_parts all capacity ids 0 (drop (capacity - from) bytes) (with_write id (4096 + from) (take (capacity - from) bytes) c) among.1
    (pending_write all id (4096 + from) (take (capacity - from) bytes) c.now.disk among.0 h)

quiet_but : (all : List ℕ) (d : Disk) → IsQuiet d → IsQuietBut all d
quiet_but all [] q = tt
quiet_but all (f ∷ d) q = (λ e. q.0, quiet_but all d q.1)

pub told_pending : (home : PoolId) (pool left : PoolState) (hs : List HeadedFile) (capacity : ℕ) (ids : List ℕ) (from : ℕ) (bytes : List ℕ) (a m b : Option Content) → Tells (TakesFiles home pool left hs) a m
    → Tells (WritesAll capacity ids from bytes) m b → Carries IsQuiet (IsQuietBut ids) a b
told_pending home pool left hs capacity ids from bytes None m b t w = tt
told_pending home pool left hs capacity ids from bytes (Some x) m None t w = tt
told_pending home pool left hs capacity ids from bytes (Some x) None (Some z) t w = absurd t
told_pending home pool left hs capacity ids from bytes (Some x) (Some y) (Some z) t w = λ q.
    subst (λ (c : Content). IsQuietBut ids c.now.disk) (sym w) (pending_parts ids capacity ids from bytes y (among_self ids) (quiet_but ids y.now.disk (quiet_files home pool left hs x y t q)))
