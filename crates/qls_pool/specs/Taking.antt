-- What each call on a pool or on a file's state does to the site and to the serials.
use Rattle.std.specs.Prelude.{◌≡◌, ◌⊎◌, ℕ, ◌+◌, ◌≤◌, List, [], ◌∷◌, ◌++◌, Option, Some, None, Result, Ok, Err}
use Rattle.qls_model.specs.declared.machine.PoolId.{PoolId}
use Rattle.qls_site.specs.declared.site.SiteError.{SiteError}
use Rattle.qls_site.specs.declared.site.SiteError.TheVariants as site
use Rattle.qls_site.specs.declared.serials.DrawError.{DrawError}
use Rattle.qls_site.specs.declared.serials.DrawError.TheVariants as draw
use Rattle.qls_site.specs.declared.site.Place.TheVariants.{InUse, Empty}
use Rattle.qls_site.specs.Disk.{create_at, write_at, sync_at, relocate_at}
use Rattle.qls_site.specs.Content.{Moment, Content, Acts, MayAct, Draws, Rose, on_disk}
use Rattle.qls_filehdr.specs.declared.FileHeader.{FileHeader}
use Rattle.qls_filehdr.specs.Header.{header_spelling}
use Rattle.qls_pool.specs.declared.fault.TakeFault.{TakeFault}
use Rattle.qls_pool.specs.declared.fault.TakeFault.TheVariants.{Failed, Draw, Spent, Memory}
use Rattle.qls_pool.specs.declared.pooled.PooledFile.{PooledFile}
use Rattle.qls_pool.specs.Pools.{PoolState, least_id}
use Rattle.qls_pool.specs.Files.{BlankFile}

abbrev pub fault_of_site : SiteError → TakeFault
fault_of_site site.Failed = Failed
fault_of_site site.Memory = Memory

-- ---- a blank file

-- the next id, in this pool
abbrev pub created : PoolId → ℕ → Moment → Moment
created home greatest = on_disk (create_at (greatest + 1) home.part home.kib)

-- where the pool has a file the site stays, else one is created
abbrev pub Obtains : PoolId → ℕ → Option ℕ → Content → Content → Type 0
Obtains home greatest (Some id) old new = new ≡ old
Obtains home greatest None old new = Acts (created home greatest) old new

-- by the answer of the calls on the site
abbrev pub Obtained : PoolId → PoolState → Result ℕ SiteError → Content → Content → Type 0
Obtained home pool (Ok id) old new = Obtains home pool.greatest (least_id home pool.files) old new
Obtained home pool (Err site.Failed) old new = (least_id home pool.files ≡ None) × MayAct (created home pool.greatest) old new
Obtained home pool (Err site.Memory) old new = new ≡ old

abbrev pub TakesBlank : PoolId → PoolState → Result BlankFile TakeFault → Content → Content → Type 0
TakesBlank home pool (Ok b) old new = Obtains home pool.greatest (least_id home pool.files) old new
TakesBlank home pool (Err Failed) old new = (least_id home pool.files ≡ None) × MayAct (created home pool.greatest) old new
TakesBlank home pool (Err Draw) old new = new ≡ old
TakesBlank home pool (Err Spent) old new = new ≡ old
TakesBlank home pool (Err Memory) old new = new ≡ old

-- the serial is the one number drawn; none is drawn where nothing is left
abbrev pub DrawsSerial : Result BlankFile TakeFault → Option (List ℕ) → Option (List ℕ) → Type 0
DrawsSerial (Ok b) old new = Draws {E = DrawError} old new (Ok b.serial)
DrawsSerial (Err Failed) old new = (serial : ℕ) × Draws {E = DrawError} old new (Ok serial)
DrawsSerial (Err Draw) old new = Draws {E = DrawError} old new (Err draw.Failed)
DrawsSerial (Err Spent) old new = new ≡ old
DrawsSerial (Err Memory) old new = (serial : ℕ) × Draws {E = DrawError} old new (Ok serial)

-- the counts don't fall, and a fault is answered only where its count rose
pub record TakeCauses {X : Type 0} (sites sites_now draws draws_now : ℕ) (result : Result X TakeFault) : Type 0 where
  pub sites_kept : sites ≤ sites_now
  pub draws_kept : draws ≤ draws_now
  pub failed : result ≡ Err Failed → Rose sites sites_now
  pub draw : result ≡ Err Draw → Rose draws draws_now

-- ---- a header

-- the moment after the write, and the one after the sync too
abbrev pub header_written : ℕ → FileHeader → Moment → Moment
header_written id h = on_disk (write_at id 0 (header_spelling h))

abbrev pub header_synced : ℕ → FileHeader → Moment → Moment
header_synced id h m = on_disk (sync_at id) (header_written id h m)

-- written and then synced; at an error the write is made or not, and the sync is not
abbrev pub Heads : {X : Type 0} → ℕ → FileHeader → Result X SiteError → Content → Content → Type 0
Heads id h (Ok x) old new =
    new ≡ record { now = header_synced id h old.now; moments = old.moments ++ header_written id h old.now ∷ header_synced id h old.now ∷ [] }
Heads id h (Err e) old new =
    (since : List Moment) × (new.moments ≡ old.moments ++ since)
    × ((since ≡ []) ⊎ (since ≡ header_written id h old.now ∷ []) ⊎ (since ≡ header_written id h old.now ∷ header_written id h old.now ∷ []))

-- one sync where the content is told and the header is stable, else one or none
abbrev pub SyncsOnce : {X : Type 0} → Option Content → Result X SiteError → ℕ → ℕ → Type 0
SyncsOnce (Some c) (Ok x) before now = now ≡ before + 1
SyncsOnce (Some c) (Err e) before now = (before ≤ now) × (now ≤ before + 1)
SyncsOnce None result before now = (before ≤ now) × (now ≤ before + 1)

-- ---- places

abbrev pub put_in_use : ℕ → Moment → Moment
put_in_use id = on_disk (relocate_at id InUse)

abbrev pub put_back : ℕ → FileHeader → Moment → Moment
put_back id h = on_disk (relocate_at id (Empty h.part h.kib))

abbrev pub put_home : PooledFile → Moment → Moment
put_home f = on_disk (relocate_at f.id (Empty f.part f.kib))
