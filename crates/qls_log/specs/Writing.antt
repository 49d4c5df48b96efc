-- What writing a batch over files does to the site: one write for each file, in order.
use Rattle.std.specs.Prelude.{ℕ, ◌+◌, ◌-◌, List, [], ◌∷◌, ◌++◌, take, drop, true, Result, Ok, Err, if◌then◌else◌, ◌==◌, ◌≡◌}
use Rattle.std.specs.List.{AllByRecursion}
use Rattle.qls_site.specs.Disk.{Disk, file_of, write_at}
use Rattle.qls_meaning.specs.History.{is_file_in_use}
use Rattle.qls_pool.specs.Files.{HeadedFile}
use Rattle.qls_site.specs.Content.{Moment, Content, HasRange, on_disk}

-- each of the files has a header and a data area of this size
abbrev pub HaveRoom : ℕ → List ℕ → Content → Type 0
HaveRoom capacity ids c = AllByRecursion (λ id. HasRange id 0 (4096 + capacity) c) ids

-- a write happened, and that is one more moment
abbrev pub with_write : ℕ → ℕ → List ℕ → Content → Content
with_write id at bytes c = let m = on_disk (write_at id at bytes) c.now in record { now = m; moments = c.moments ++ m ∷ [] }

-- the bytes over the data areas of these files, from a place of the first one on
abbrev pub with_parts : ℕ → List ℕ → ℕ → List ℕ → Content → Content
with_parts capacity [] from bytes c = c
with_parts capacity (id ∷ ids) from bytes c =
    with_parts capacity ids 0 (drop (capacity - from) bytes) (with_write id (4096 + from) (take (capacity - from) bytes) c)

-- only the first of the writes were made
pub record StopsParts (capacity : ℕ) (ids : List ℕ) (from : ℕ) (bytes : List ℕ) (old new : Content) : Type 0 where
  pub since : List Moment
  pub moments : new.moments ≡ old.moments ++ since
  pub rest : List Moment
  pub whole : (with_parts capacity ids from bytes old).moments ≡ new.moments ++ rest

-- at Ok each file has its part
abbrev pub WritesParts : {X E : Type 0} → ℕ → List ℕ → ℕ → List ℕ → Result X E → Content → Content → Type 0
WritesParts capacity ids from bytes (Ok x) old new = new ≡ with_parts capacity ids from bytes old
WritesParts capacity ids from bytes (Err e) old new = StopsParts capacity ids from bytes old new

-- the same, where it all went well
abbrev pub WritesAll : ℕ → List ℕ → ℕ → List ℕ → Content → Content → Type 0
WritesAll capacity ids from bytes old new = new ≡ with_parts capacity ids from bytes old

-- the files from the first one on that has room behind so many bytes
abbrev pub from_written : ℕ → ℕ → List HeadedFile → List HeadedFile
from_written capacity used hs = if used == capacity then drop 1 hs else hs

-- each of the files is in use
abbrev pub AreInUse : List ℕ → Disk → Type 0
AreInUse ids d = AllByRecursion (λ id. is_file_in_use (file_of id d) ≡ true) ids
