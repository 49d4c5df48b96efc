-- What other calls leave of a file and of a pool.
use Rattle.std.specs.Prelude.{◌≡◌, ℕ, false, List, ◌==◌}
use Rattle.qls_site.specs.declared.site.Place.{Place}
use Rattle.qls_site.specs.Disk.{Disk, write_at, sync_at, relocate_at, create_at}
use Rattle.qls_pool.specs.Pools.{PoolState}
use Rattle.qls_pool.specs.Files.{HeadedFile, LinkedThere, RestsThere, IsPoolOf}

-- what holds of the disk holds after each call on the file of this id
abbrev pub StaysAfter : (Disk → Type 0) → ℕ → Disk → Type 0
StaysAfter P own d =
    P d → ((at : ℕ) (bytes : List ℕ) → P (write_at own at bytes d)) × P (sync_at own d) × ((to : Place) → P (relocate_at own to d)) × ((part kib : ℕ) → P (create_at own part kib d))

-- the calls on other files
abbrev pub StaysByOthers : (Disk → Type 0) → ℕ → Type 0
StaysByOthers P id = (own : ℕ) → (own == id) ≡ false → (d : Disk) → StaysAfter P own d

-- a file in use whose data area is written is linked still, and at rest once it is synced; no pool changes
pub record DataIsWritten (h : HeadedFile) (at : ℕ) (bytes : List ℕ) (d : Disk) : Type 0 where
  pub linked : LinkedThere h (write_at h.id at bytes d)
  pub rests : RestsThere h (sync_at h.id (write_at h.id at bytes d))
  pub pool : (pool : PoolState) (out : List ℕ) → IsPoolOf pool out d → IsPoolOf pool out (sync_at h.id (write_at h.id at bytes d))
