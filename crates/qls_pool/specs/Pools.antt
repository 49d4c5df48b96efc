-- What a pool knows: the greatest id of the site, and the empty files.
use Rattle.std.specs.Prelude.{◌≡◌, ℕ, ◌+◌, ◌-◌, ◌^◌, Bool, not, ◌&&◌, ◌||◌, List, [], ◌∷◌, Option, Some, None, if◌then◌else◌, ◌==◌, min}
use Rattle.std.specs.List.{list_any}
use Rattle.qls_model.specs.declared.machine.PoolId.{PoolId}
use Rattle.qls_site.specs.declared.site.FileAt.{FileAt}
use Rattle.qls_meaning.specs.Spent.{is_pool_place}
use Rattle.qls_pool.specs.declared.pooled.PooledFile.{PooledFile}

pub record PoolState : Type 0 where
  pub greatest : ℕ
  pub files : List PooledFile

-- the file is in the pool of this partition and these KiB
abbrev pub is_in : ℕ → ℕ → PooledFile → Bool
is_in part kib f = part == f.part && kib == f.kib

abbrev pub is_file : ℕ → ℕ → ℕ → PooledFile → Bool
is_file part kib id f = is_in part kib f && id == f.id

-- the file of this id is there, in the pool of this partition and these KiB
abbrev pub has : ℕ → ℕ → ℕ → List PooledFile → Bool
has part kib id files = list_any (is_file part kib id) files

abbrev pub lesser : ℕ → Option ℕ → Option ℕ
lesser id None = Some id
lesser id (Some other) = Some (min id other)

-- the least id in a pool, where it has a file
abbrev pub least_id : PoolId → List PooledFile → Option ℕ
least_id home [] = None
least_id home (f ∷ fs) = let rest = least_id home fs in if is_in home.part home.kib f then lesser f.id rest else rest

-- ---- what taking a file does to a pool

-- the least empty file, else the next id
abbrev pub first_or : Option ℕ → ℕ → ℕ
first_or (Some id) next = id
first_or None next = next

-- only a new file raises the greatest id
abbrev pub greatest_with : Option ℕ → ℕ → ℕ
greatest_with (Some id) greatest = greatest
greatest_with None greatest = greatest + 1

-- the pool has handed out the file of this id, its least or a new one
pub record HandsOut (home : PoolId) (old new : PoolState) (taken : ℕ) : Type 0 where
  pub id : taken ≡ first_or (least_id home old.files) (old.greatest + 1)
  pub greatest : new.greatest ≡ greatest_with (least_id home old.files) old.greatest
  pub files : (part kib other : ℕ) → has part kib other new.files ≡ (has part kib other old.files && not (is_file part kib other (record { part = home.part; kib = home.kib; id = taken })))

-- the pool has one more file
pub record TakesBack (part kib id : ℕ) (old new : PoolState) : Type 0 where
  pub greatest : new.greatest ≡ old.greatest
  pub files : (p k other : ℕ) → has p k other new.files ≡ (has p k other old.files || is_file p k other (record { part = part; kib = kib; id = id }))

-- the pool has no file, and there is no id for a new one
pub record IsSpent (home : PoolId) (pool : PoolState) : Type 0 where
  pub empty : least_id home pool.files ≡ None
  pub last : pool.greatest ≡ 2 ^ 62 - 1

-- ---- a pool as it is opened

abbrev pub is_listed_in : ℕ → ℕ → ℕ → FileAt → Bool
is_listed_in part kib id f = is_pool_place part kib f.place && f.id == id

-- the greatest id is this one, and the files are the empty ones of the list
pub record Opens (most : ℕ) (listed : List FileAt) (pool : PoolState) : Type 0 where
  pub greatest : pool.greatest ≡ most
  pub files : (part kib id : ℕ) → has part kib id pool.files ≡ list_any (is_listed_in part kib id) listed
