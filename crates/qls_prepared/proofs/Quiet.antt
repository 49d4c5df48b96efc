-- Nothing is pending behind a batch that is appended and flushed, where nothing was before.
use Rattle.std.proofs.Common.{◌≡◌, ℕ, ◌+◌, ◌-◌, Bool, true, false, cond, ◌||◌, ◌==◌, eqb, ltb, List, [], ◌∷◌, ◌++◌, take, drop, Option, Some, None, Ok, refl, sym, ap, ◌∙◌, subst}
use Rattle.std.specs.List.{AllByRecursion}
use Rattle.qls_model.specs.declared.machine.PoolId.{PoolId}
use Rattle.qls_record.specs.Record.{Record}
use Rattle.qls_site.specs.Disk.{Disk, FileState, IsQuiet, changed, change_file, with_file, write_at, sync_at, all_written}
use Rattle.qls_site.specs.Content.{Content, Tells, Acts}
use Rattle.qls_site.specs.declared.site.Place.TheVariants.{InUse}
use Rattle.qls_filehdr.specs.Header.{header_spelling}
use Rattle.qls_filehdr.specs.declared.FileHeader.{FileHeader}
use Rattle.qls_pool.specs.Pools.{PoolState, least_id}
use Rattle.qls_pool.specs.Taking.{Obtains, Heads, put_in_use}
use Rattle.qls_pool.specs.Files.{HeadedFile, Carries, is_among}
use Rattle.qls_pool.proofs.Disks.{eqb_is, eqb_own}
use Rattle.qls_log.specs.Logs.{LogState, capacity_in, ids}
use Rattle.qls_log.specs.Taking.{TakesFile, TakesFiles}
use Rattle.qls_log.specs.Writing.{with_parts, with_write}
use Rattle.qls_log.specs.Appending.{HasAppended, TakesAndWrites, IsQuietBut, written_files, written_place, batch_bytes}

-- ---- a file that is taken

quiet_change : (own : ℕ) (c : FileState → FileState) → ((f : FileState) → f.pending ≡ [] → (c f).pending ≡ []) → (d : Disk) → IsQuiet d → IsQuiet (change_file own c d)
quiet_change own c h [] q = tt
quiet_change own c h (f ∷ d) q = (elim (f.id == own) as (λ b. (cond b (c f) f).pending ≡ []) [ true ↦ h f q.0 | false ↦ q.0 ], quiet_change own c h d q.1)

quiet_with : (f : FileState) (d : Disk) → f.pending ≡ [] → IsQuiet d → IsQuiet (with_file f d)
quiet_with f [] p q = (p, tt)
quiet_with f (g ∷ d) p q =
    elim (ltb f.id g.id) as (λ b. IsQuiet (cond b (f ∷ g ∷ d) (g ∷ with_file f d))) [
      | true ↦ (p, q)
      | false ↦ (q.0, quiet_with f d p q.1)
    ]

abbrev writing : ℕ → List ℕ → FileState → FileState
writing at bytes f = record f { pending = f.pending ++ (record { at = at; bytes = bytes }) ∷ [] }

abbrev syncing : FileState → FileState
syncing f = record f { stable = all_written f.pending f.stable; pending = [] }

one_written : (id at : ℕ) (bytes : List ℕ) (f : FileState) (b : Bool) → eqb f.id id ≡ b → f.pending ≡ [] → (changed id syncing (cond b (writing at bytes f) f)).pending ≡ []
one_written id at bytes f true e p = ap (λ c. (cond c (syncing (writing at bytes f)) (writing at bytes f)).pending) e
one_written id at bytes f false e p = ap (λ c. (cond c (syncing f) f).pending) e ∙ p

quiet_written : (id at : ℕ) (bytes : List ℕ) (d : Disk) → IsQuiet d → IsQuiet (sync_at id (write_at id at bytes d))
quiet_written id at bytes [] q = tt
quiet_written id at bytes (f ∷ d) q = (one_written id at bytes f (eqb f.id id) refl q.0, quiet_written id at bytes d q.1)

quiet_obtained : (home : PoolId) (greatest : ℕ) (o : Option ℕ) (a b : Content) → Obtains home greatest o a b → IsQuiet a.now.disk → IsQuiet b.now.disk
quiet_obtained home greatest (Some id) a b t q = subst (λ (c : Content). IsQuiet c.now.disk) (sym t) q
quiet_obtained home greatest None a b t q = subst (λ (c : Content). IsQuiet c.now.disk) (sym t) (quiet_with _ a.now.disk refl q)

quiet_headed : (id : ℕ) (h : FileHeader) (a b : Content) → Heads {X = Unit {0}} id h (Ok (tt {0})) a b → IsQuiet a.now.disk → IsQuiet b.now.disk
quiet_headed id h a b t q = subst (λ (c : Content). IsQuiet c.now.disk) (sym t) (quiet_written id 0 (header_spelling h) a.now.disk q)

quiet_linked : (id : ℕ) (a b : Content) → Acts (put_in_use id) a b → IsQuiet a.now.disk → IsQuiet b.now.disk
quiet_linked id a b t q = subst (λ (c : Content). IsQuiet c.now.disk) (sym t) (quiet_change id (λ f. record f { place = InUse }) (λ f p. p) a.now.disk q)

quiet_taken : (home : PoolId) (pool left : PoolState) (h : HeadedFile) (a b : Content) → TakesFile home pool left h a b → IsQuiet a.now.disk → IsQuiet b.now.disk
quiet_taken home pool left h a b t q = quiet_linked h.id t.headed b t.links (quiet_headed h.id h.header t.blank t.headed t.heads (quiet_obtained home pool.greatest (least_id home pool.files) a t.blank t.obtains q))

quiet_takes : (home : PoolId) (pool left : PoolState) (hs : List HeadedFile) (a b : Content) → TakesFiles home pool left hs a b → IsQuiet a.now.disk → IsQuiet b.now.disk
quiet_takes home pool left [] a b t q = subst (λ (c : Content). IsQuiet c.now.disk) (sym t.1) q
quiet_takes home pool left (h ∷ hs) a b t q = quiet_takes home t.0 left hs t.1 b t.3 (quiet_taken home pool t.0 h a t.1 t.2 q)

-- where the content is told, files are taken and nothing is pending then
pub told_quiet_taken : (home : PoolId) (pool left : PoolState) (hs : List HeadedFile) (a b : Option Content) → Tells (TakesFiles home pool left hs) a b → Carries IsQuiet IsQuiet a b
told_quiet_taken home pool left hs None b t = tt
told_quiet_taken home pool left hs (Some x) None t = tt
told_quiet_taken home pool left hs (Some x) (Some y) t = quiet_takes home pool left hs x y t

-- ---- the writes

no_both : (a : Bool) → a ≡ true → a ≡ false → ⊥
no_both true e f = absurd (cc)
no_both false e f = absurd (cc)

one_but : (own : List ℕ) (id at : ℕ) (bytes : List ℕ) (f : FileState) (b : Bool) → eqb f.id id ≡ b → is_among id own ≡ true → (is_among f.id own ≡ false → f.pending ≡ [])
    → is_among (cond b (writing at bytes f) f).id own ≡ false → (cond b (writing at bytes f) f).pending ≡ []
one_but own id at bytes f true e k p = λ none. absurd (no_both (is_among id own) k (ap (λ n. is_among n own) (sym (eqb_is f.id id e)) ∙ none))
one_but own id at bytes f false e k p = p

but_written : (own : List ℕ) (id at : ℕ) (bytes : List ℕ) (d : Disk) → is_among id own ≡ true → IsQuietBut own d → IsQuietBut own (write_at id at bytes d)
but_written own id at bytes [] k q = tt
but_written own id at bytes (f ∷ d) k q = (one_but own id at bytes f (eqb f.id id) refl k q.0, but_written own id at bytes d k q.1)

parts_but : (own : List ℕ) (cap : ℕ) (over : List ℕ) (at : ℕ) (bytes : List ℕ) (c : Content) → AllByRecursion (λ id. is_among id own ≡ true) over → IsQuietBut own c.now.disk → IsQuietBut own (with_parts cap over at bytes c).now.disk
parts_but own cap [] at bytes c k q = q
parts_but own cap (id ∷ over) at bytes c k q =
    parts_but own cap over 0 (drop (cap - at) bytes) (with_write id (4096 + at) (take (cap - at) bytes) c) k.1 (but_written own id (4096 + at) (take (cap - at) bytes) c.now.disk k.0 q)

or_left : (a b : Bool) → a ≡ true → (a || b) ≡ true
or_left true b e = refl
or_left false b e = absurd (cc)

or_right : (a b : Bool) → b ≡ true → (a || b) ≡ true
or_right true b e = refl
or_right false b e = e

all_more : (k : ℕ) (own over : List ℕ) → AllByRecursion (λ id. is_among id own ≡ true) over → AllByRecursion (λ id. is_among id (k ∷ own) ≡ true) over
all_more k own [] a = tt
all_more k own (id ∷ over) a = (or_right (k == id) (is_among id own) a.0, all_more k own over a.1)

all_own : (own : List ℕ) → AllByRecursion (λ id. is_among id own ≡ true) own
all_own [] = tt
all_own (id ∷ own) = (or_left (id == id) (is_among id own) (eqb_own id), all_more id own own (all_own own))

quiet_but : (own : List ℕ) (d : Disk) → IsQuiet d → IsQuietBut own d
quiet_but own [] q = tt
quiet_but own (f ∷ d) q = (λ none. q.0, quiet_but own d q.1)

appends_quiet : (rs : List Record) (old mid : LogState) (pool left : PoolState) (taken : List HeadedFile) (a m : Content) → HasAppended rs old mid taken → TakesAndWrites rs old mid pool left taken a m → IsQuiet a.now.disk
    → IsQuietBut mid.unsynced m.now.disk
appends_quiet rs old mid pool left taken a m p t q =
    let own : List ℕ = ids (written_files old taken) in
    subst (λ is. IsQuietBut is m.now.disk) (sym p.unsynced)
    (subst (λ (c : Content). IsQuietBut own c.now.disk) (sym t.writes)
    (parts_but own (capacity_in old.opening) own (written_place old) (batch_bytes old taken rs) t.mid (all_own own) (quiet_but own t.mid.now.disk (quiet_takes old.opening.home pool left taken a t.mid t.takes q))))

pub told_quiet_but : (rs : List Record) (old mid : LogState) (pool left : PoolState) (taken : List HeadedFile) (a m : Option Content) → HasAppended rs old mid taken → Tells (TakesAndWrites rs old mid pool left taken) a m
    → Carries IsQuiet (IsQuietBut mid.unsynced) a m
told_quiet_but rs old mid pool left taken None m p t = tt
told_quiet_but rs old mid pool left taken (Some x) None p t = tt
told_quiet_but rs old mid pool left taken (Some x) (Some y) p t = appends_quiet rs old mid pool left taken x y p t
