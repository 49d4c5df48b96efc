-- What a call on the list needs that can't be had: a file, where neither an empty one nor an id nor a file number is left.
use Rattle.std.specs.Prelude.{◌≡◌, ℕ, ◌<◌, true, List, length, Option, Some, None}
use Rattle.std.specs.List.{AllByRecursion}
use Rattle.qls_model.specs.Limits.{is_partition, is_kib}
use Rattle.qls_model.specs.declared.machine.PoolId.{PoolId}
use Rattle.qls_record.specs.Record.{Record}
use Rattle.qls_site.specs.declared.site.Place.{Place}
use Rattle.qls_site.specs.declared.site.Place.TheVariants.{InUse, Empty}
use Rattle.qls_site.specs.Disk.{Disk}
use Rattle.qls_site.specs.Content.{Content}
use Rattle.qls_meaning.specs.Spent.{new_journal_meets_end}
use Rattle.qls_blocks.specs.Batching.{length_of, block_length}
use Rattle.qls_blocks.specs.Plans.{plan_of}
use Rattle.qls_pool.specs.Pools.{PoolState, IsSpent, has}
use Rattle.qls_pool.specs.Moments.{Passes}
use Rattle.qls_log.specs.Leaving.{NoneLeaves}
use Rattle.qls_log.specs.Logs.{LogState, capacity_in}
use Rattle.qls_log.specs.Steps.{MeetsEndWith, KeepsRoom}
use Rattle.qls_log.specs.Taking.{MeetsEnd}
use Rattle.qls_prepared.specs.Lists.{PreparedState}

-- these records are to be written behind the log's, and there is no further file; what is left for them is by the log's journal
pub record StopsLog (l : LogState) (rs : List Record) (a b : Content) : Type 0 where
  pub ends : MeetsEndWith l (block_length (length_of rs)) b.now.disk
  pub room : KeepsRoom l a b
  pub stays : Passes NoneLeaves a b

-- there is no file for the list's journal, or none behind its last one
abbrev pub StopsBy : PoolId → List Record → Option LogState → Content → Content → Type 0
StopsBy home rs None a b = (b ≡ a) × (new_journal_meets_end home b.now.disk ≡ true)
StopsBy home rs (Some l) a b = StopsLog l rs a b

abbrev pub Stops : PreparedState → List Record → Content → Content → Type 0
Stops p rs a b = StopsBy p.home rs p.log a b

-- before the call there is no file for the list's journal, or the records need one behind its last one, and it can't be had
abbrev pub IsAtEndBy : PoolId → List Record → PoolState → Option LogState → Type 0
IsAtEndBy home rs pool None = IsSpent home pool
IsAtEndBy home rs pool (Some l) = (0 < length (plan_of rs l.used (capacity_in l.opening) l.rid).fresh) × MeetsEnd l.opening l.newest 1 pool

abbrev pub IsAtEnd : PreparedState → List Record → PoolState → Type 0
IsAtEnd p rs pool = IsAtEndBy p.home rs pool p.log

-- each empty file is of a pool within the limits
abbrev pub IsFitPool : PoolState → Type 0
IsFitPool pool = (part kib id : ℕ) → has part kib id pool.files ≡ true → (is_partition part ≡ true) × (is_kib kib ≡ true)

-- the same of the empty files on a disk
abbrev pub IsFitPlace : Place → Type 0
IsFitPlace InUse = Unit {0}
IsFitPlace (Empty part kib) = (is_partition part ≡ true) × (is_kib kib ≡ true)

abbrev pub IsFitDisk : Disk → Type 0
IsFitDisk d = AllByRecursion (λ f. IsFitPlace f.place) d

-- where the content is told, the pool that is left has such files if the old one had
abbrev pub KeepsFit : PoolState → PoolState → Content → Content → Type 0
KeepsFit pool left a b = IsFitPool pool → IsFitPool left
