-- A batch that is appended and flushed.
use Rattle.std.specs.Prelude.{◌≡◌, ℕ, ◌+◌, List, [], length, Option, Ok, if◌then◌else◌, ◌==◌}
use Rattle.qls_record.specs.Record.{Record}
use Rattle.qls_site.specs.Content.{Content, Tells}
use Rattle.qls_pool.specs.Pools.{PoolState}
use Rattle.qls_pool.specs.Files.{HeadedFile}
use Rattle.qls_blocks.specs.Plans.{plan_of}
use Rattle.qls_log.specs.Logs.{LogState, capacity_in}
use Rattle.qls_log.specs.Taking.{DrawsEach}
use Rattle.qls_log.specs.Appending.{HasAppended, TakesAndWrites, SyncsAll}

-- all files are taken, each touched one gets one write, and then one sync
pub record WritesAndSyncs (rs : List Record) (old between : LogState) (pool left : PoolState) (taken : List HeadedFile) (a b : Content) : Type 0 where
  pub pending : Content
  pub writes : TakesAndWrites rs old between pool left taken a pending
  pub syncs : SyncsAll between.unsynced (Ok (tt {0})) pending b

-- the log behind the batch, with nothing pending; the numbers drawn are the serials of the files taken
pub record HasWritten (rs : List Record) (old new : LogState) (pool left : PoolState) (draws draws_now : Option (List ℕ)) (a b : Option Content) : Type 0 where
  pub taken : List HeadedFile
  pub between : LogState
  pub appended : HasAppended rs old between taken
  pub flushed : new ≡ record between { unsynced = [] }
  pub drawn : DrawsEach taken draws draws_now
  pub told : Tells (WritesAndSyncs rs old between pool left taken) a b

-- how many syncs a batch takes: one for each file that is taken, and one for each that is written
abbrev pub syncs_of : LogState → List Record → ℕ
syncs_of l rs = let taken = length (plan_of rs l.used (capacity_in l.opening) l.rid).fresh in taken + (if l.used == capacity_in l.opening then taken else taken + 1)
