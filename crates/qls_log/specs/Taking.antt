-- What taking files does to the site, to the pool and to the serials.
use Rattle.std.specs.Prelude.{◌≡◌, ◌⊎◌, ℕ, ◌+◌, ◌-◌, ◌^◌, ◌<◌, List, [], ◌∷◌, length, take, Option, Ok, IsTrue}
use Rattle.std.specs.List.{AllByRecursion}
use Rattle.qls_model.specs.declared.machine.PoolId.{PoolId}
use Rattle.qls_site.specs.declared.serials.DrawError.{DrawError}
use Rattle.qls_site.specs.Content.{Content, Acts, Draws, Tells}
use Rattle.qls_filehdr.specs.Limits.{is_legal_header}
use Rattle.qls_blocks.specs.declared.plan.FreshFile.{FreshFile}
use Rattle.qls_pool.specs.Pools.{PoolState, HandsOut, IsSpent, least_id}
use Rattle.qls_pool.specs.Files.{HeadedFile, IsWholePool}
use Rattle.qls_pool.specs.Taking.{Obtains, Heads, put_in_use}
use Rattle.qls_pool.specs.Next.{IsEpochDue}
use Rattle.qls_site.specs.Disk.{Disk}
use Rattle.qls_meaning.specs.Dead.{newest_number}
use Rattle.qls_log.specs.declared.opening.Opening.{Opening}
use Rattle.qls_log.specs.Logs.{AreHeaded}
use Rattle.qls_log.specs.Standing.{files_on}

-- the pool isn't spent and hands the file out, its header is written and synced, and it is put into use
pub record TakesFile (home : PoolId) (pool left : PoolState) (h : HeadedFile) (old new : Content) : Type 0 where
  pub blank : Content
  pub headed : Content
  pub unspent : IsSpent home pool → ⊥
  pub hands : HandsOut home pool left h.id
  pub obtains : Obtains home pool.greatest (least_id home pool.files) old blank
  pub heads : Heads {X = Unit {0}} h.id h.header (Ok (tt {0})) blank headed
  pub links : Acts (put_in_use h.id) headed new

-- one after another
abbrev pub TakesFiles : PoolId → PoolState → PoolState → List HeadedFile → Content → Content → Type 0
TakesFiles home pool left [] old new = (left ≡ pool) × (new ≡ old)
TakesFiles home pool left (h ∷ hs) old new = (between : PoolState) × (mid : Content) × TakesFile home pool between h old mid × TakesFiles home between left hs mid new

-- the numbers drawn are the serials of the files, in order; the serials may stop telling
abbrev pub DrawsOne : HeadedFile → Option (List ℕ) → Option (List ℕ) → Type 0
DrawsOne h old new = Draws {E = DrawError} old new (Ok h.header.serial)

abbrev pub DrawsEach : List HeadedFile → Option (List ℕ) → Option (List ℕ) → Type 0
DrawsEach [] old new = new ≡ old
DrawsEach (h ∷ hs) old new = (mid : Option (List ℕ)) × DrawsOne h old mid × DrawsEach hs mid new

-- behind the file with this number no other can be had: its number would be 2 ^ 62, or its epoch, or its id
abbrev pub NoneNext : Opening → ℕ → PoolState → Type 0
NoneNext o number pool = (number ≡ 2 ^ 62 - 1) ⊎ ((o.epoch ≡ 2 ^ 62) ⊎ IsSpent o.home pool)

-- fewer than n files were taken, and the next one can't be had
pub record MeetsEnd (o : Opening) (newest n : ℕ) (pool : PoolState) : Type 0 where
  pub taken : ℕ
  pub fewer : taken < n
  pub last : NoneNext o (newest + taken) pool

-- the pool is the site's, and a file with this number is the next one of the journal, whose epoch is due
pub record MayTake (o : Opening) (pool : PoolState) (number : ℕ) (d : Disk) : Type 0 where
  pub whole : IsWholePool pool d
  pub next : newest_number (files_on o d) + 1 ≡ number
  pub lesser : AllByRecursion (λ f. f.header.number < number) (files_on o d)
  pub due : IsEpochDue o.epoch (files_on o d)

-- so many files were taken, fewer than n, and the next one can't be had
pub record StopsAfter (o : Opening) (newest n : ℕ) (pool : PoolState) (d : Disk) : Type 0 where
  pub taken : ℕ
  pub fewer : taken < n
  pub may : MayTake o pool (newest + taken + 1) d
  pub last : NoneNext o (newest + taken) pool

-- the first of the planned files were taken, and nothing else was done
pub record TakesFirst (o : Opening) (newest : ℕ) (fresh : List FreshFile) (pool left : PoolState) (old new : Option Content) : Type 0 where
  pub files : List HeadedFile
  pub headers : AreHeaded o newest (take (length files) fresh) files
  pub legal : AllByRecursion (λ h. IsTrue (is_legal_header h.header)) files
  pub told : Tells (TakesFiles o.home pool left files) old new
