-- A file on its way into use and back, and how a pool stands to the disk.
use Rattle.std.specs.Prelude.{◌≡◌, ℕ, Bool, false, not, ◌&&◌, List, [], take, Option, Some, None, ◌==◌}
use Rattle.std.specs.List.{list_any, filter}
use Rattle.qls_model.specs.declared.machine.PoolId.{PoolId}
use Rattle.qls_model.specs.Limits.{file_size}
use Rattle.qls_site.specs.declared.site.Place.{Place}
use Rattle.qls_site.specs.declared.site.Place.TheVariants.{InUse, Empty}
use Rattle.qls_site.specs.Disk.{Disk, FileState, size_of, file_of, full, listing}
use Rattle.qls_site.specs.declared.site.FileAt.{FileAt}
use Rattle.qls_meaning.specs.Journals.{is_in_use}
use Rattle.qls_meaning.specs.Kept.{Differ, ids_of}
use Rattle.qls_site.specs.Content.{Content}
use Rattle.qls_filehdr.specs.declared.FileHeader.{FileHeader}
use Rattle.qls_filehdr.specs.Header.{header_spelling}
use Rattle.qls_meaning.specs.Spent.{greatest_id, is_pool_place}
use Rattle.qls_pool.specs.Pools.{PoolState, has}

-- ---- the states of a file

-- taken from its pool, with the serial drawn for it
pub record BlankFile : Type 0 where
  pub id : ℕ
  pub serial : ℕ
  pub home : PoolId

-- its header is stable: in its pool still, or in use
pub record HeadedFile : Type 0 where
  pub id : ℕ
  pub header : FileHeader

-- the header has the Blank's serial and names its pool
pub record HeadsBlank (b : BlankFile) (h : FileHeader) : Type 0 where
  pub serial : h.serial ≡ b.serial
  pub part : h.part ≡ b.home.part
  pub kib : h.kib ≡ b.home.kib

-- the size of a file of this header's pool, and the header stable in its first 4,096 bytes
pub record HasHeader (h : FileHeader) (f : FileState) : Type 0 where
  pub size : size_of f ≡ file_size h.kib
  pub stable : take 4096 f.stable ≡ header_spelling h

abbrev pub IsBlank : BlankFile → Option FileState → Type 0
IsBlank b None = ⊥
IsBlank b (Some f) = (f.place ≡ Empty b.home.part b.home.kib) × (size_of f ≡ file_size b.home.kib)

abbrev pub IsHeaded : HeadedFile → Option FileState → Type 0
IsHeaded h None = ⊥
IsHeaded h (Some f) = (f.place ≡ Empty h.header.part h.header.kib) × (f.pending ≡ []) × HasHeader h.header f

abbrev pub IsLinked : HeadedFile → Option FileState → Type 0
IsLinked h None = ⊥
IsLinked h (Some f) = (f.place ≡ InUse) × HasHeader h.header f

-- linked, with nothing pending
abbrev pub IsAtRest : HeadedFile → Option FileState → Type 0
IsAtRest h None = ⊥
IsAtRest h (Some f) = (f.place ≡ InUse) × (f.pending ≡ []) × HasHeader h.header f

-- the site has the file in the state that the value names
abbrev pub BlankThere : BlankFile → Disk → Type 0
BlankThere b d = IsBlank b (file_of b.id d)

abbrev pub HeadedThere : HeadedFile → Disk → Type 0
HeadedThere h d = IsHeaded h (file_of h.id d)

abbrev pub LinkedThere : HeadedFile → Disk → Type 0
LinkedThere h d = IsLinked h (file_of h.id d)

abbrev pub RestsThere : HeadedFile → Disk → Type 0
RestsThere h d = IsAtRest h (file_of h.id d)

-- ---- a pool and the disk

abbrev pub is_at : ℕ → ℕ → Option FileState → Bool
is_at part kib None = false
is_at part kib (Some f) = is_pool_place part kib f.place

abbrev pub is_among : ℕ → List ℕ → Bool
is_among id ids = list_any (λ n. n == id) ids

-- an empty file has the size of its pool
abbrev pub FitsPlace : Place → ℕ → Type 0
FitsPlace InUse size = Unit {0}
FitsPlace (Empty part kib) size = size ≡ file_size kib

abbrev pub IsSized : Option FileState → Type 0
IsSized None = Unit {0}
IsSized (Some f) = FitsPlace f.place (size_of f)

-- the pool's greatest id is the disk's, and its files are the disk's empty files, but for those out: the ids that a Blank or a
-- Headed names
pub record IsPoolOf (pool : PoolState) (out : List ℕ) (d : Disk) : Type 0 where
  pub greatest : pool.greatest ≡ greatest_id d
  pub files : (part kib id : ℕ) → has part kib id pool.files ≡ (is_at part kib (file_of id d) && not (is_among id out))
  pub sizes : (id : ℕ) → IsSized (file_of id d)

-- no two files have the same id
abbrev pub IdsDiffer : Disk → Type 0
IdsDiffer d = Differ (ids_of (full d))

abbrev pub is_listed_empty : FileAt → Bool
is_listed_empty f = not (is_in_use f.place)

-- this is the disk's greatest id, ids differ, and each empty file has the size of its pool
pub record FitsPools (most : ℕ) (d : Disk) : Type 0 where
  pub greatest : most ≡ greatest_id d
  pub differ : IdsDiffer d
  pub sizes : (id : ℕ) → IsSized (file_of id d)

-- and the list has the disk's empty files, in its order
pub record IsListingOf (most : ℕ) (listed : List FileAt) (d : Disk) : Type 0 where
  pub fits : FitsPools most d
  pub empties : filter is_listed_empty listed ≡ filter is_listed_empty (listing d)

-- ---- conditions on what a site tells

abbrev pub OnDisk : (Disk → Type 0) → Content → Type 0
OnDisk P c = P c.now.disk

-- the pool is the site's, whichever files are out
abbrev pub HasPool : PoolState → Disk → Type 0
HasPool pool d = (out : List ℕ) × IsPoolOf pool out d

-- ids differ, and no file is out: the pool has every empty file
abbrev pub IsWholePool : PoolState → Disk → Type 0
IsWholePool pool d = IdsDiffer d × IsPoolOf pool [] d

-- where the content is told, what holds of the disk at the start makes this hold at the end
abbrev pub Carries : (Disk → Type 0) → (Disk → Type 0) → Option Content → Option Content → Type 0
Carries P Q (Some old) (Some new) = P old.now.disk → Q new.now.disk
Carries P Q (Some old) None = Unit {0}
Carries P Q None new = Unit {0}
