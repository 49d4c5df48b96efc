-- A batch that is appended and flushed, and how many syncs that takes; before the list's first batch its log is made.
use Rattle.std.specs.Prelude.{◌≡◌, ℕ, ◌+◌, ◌≤◌, false, List, [], ◌∷◌, ◌++◌, length, Option, Some, None, Ok, if◌then◌else◌, ◌==◌}
use Rattle.qls_model.specs.declared.machine.PoolId.{PoolId}
use Rattle.qls_record.specs.Record.{Record}
use Rattle.qls_site.specs.Content.{Content, Tells, moments_since}
use Rattle.qls_decide.specs.declared.ListEntry.{ListEntry}
use Rattle.qls_enqmap.specs.declared.Held.{Held}
use Rattle.qls_meaning.specs.History.{AllUnmarked}
use Rattle.qls_pool.specs.Pools.{PoolState}
use Rattle.qls_pool.specs.Files.{HeadedFile}
use Rattle.qls_blocks.specs.Batching.{length_of, last_rid}
use Rattle.qls_blocks.specs.Plans.{plan_of}
use Rattle.qls_log.specs.declared.spot.Spot.{Spot}
use Rattle.qls_log.specs.Logs.{LogState, capacity_in}
use Rattle.qls_log.specs.Taking.{DrawsEach}
use Rattle.qls_log.specs.Appending.{HasAppended, TakesAndWrites, SyncsAll, IsNew}
use Rattle.qls_prepared.specs.Lists.{PreparedState, opening_of, IsOwnLog, WholeBy, IsReadSo}
use Rattle.qls_prepared.specs.Saying.{spot_at, SaysOn}

-- all files are taken, each touched one gets one write, and then one sync
pub record WritesAndSyncs (rs : List Record) (old between : LogState) (pool left : PoolState) (taken : List HeadedFile) (a b : Content) : Type 0 where
  pub pending : Content
  pub writes : TakesAndWrites rs old between pool left taken a pending
  pub syncs : SyncsAll between.unsynced (Ok (tt {0})) pending b

-- the log behind the batch, with nothing pending; the numbers drawn are the serials of the files taken
pub record HasWritten (rs : List Record) (old new : LogState) (pool left : PoolState) (draws draws_now : Option (List ℕ)) (a b : Option Content) : Type 0 where
  pub taken : List HeadedFile
  pub between : LogState
  pub appended : HasAppended rs old between taken
  pub flushed : new ≡ record between { unsynced = [] }
  pub drawn : DrawsEach taken draws draws_now
  pub told : Tells (WritesAndSyncs rs old between pool left taken) a b

-- one sync for each file that is taken, and one for each that is written
abbrev pub syncs_of : LogState → List Record → ℕ
syncs_of l rs = let taken = length (plan_of rs l.used (capacity_in l.opening) l.rid).fresh in taken + (if l.used == capacity_in l.opening then taken else taken + 1)

-- one for the list's first file and one for its batch, where there was none
abbrev pub syncs_in : Option LogState → List Record → ℕ
syncs_in None rs = 2
syncs_in (Some l) rs = syncs_of l rs

abbrev pub syncs_by : PreparedState → List Record → ℕ
syncs_by p rs = syncs_in p.log rs

-- ---- the log to which a batch is appended

-- the list's, and a new one where it has none
abbrev pub IsBase : PoolId → Option LogState → LogState → Type 0
IsBase home None l = IsNew (opening_of home) l
IsBase home (Some k) l = l ≡ k

abbrev pub base_of : PoolId → Option LogState → LogState
base_of home None = record { opening = opening_of home; files = []; older = 0; newest = 1; used = 0; rid = 0; unsynced = []; ended = false }
base_of home (Some l) = l

-- a list's first batch lies in one block
abbrev pub FitsFirst : Option LogState → List Record → Type 0
FitsFirst None rs = length_of rs ≤ 4096
FitsFirst (Some l) rs = Unit {0}

-- there is a log, of the list, and the rid in force is that of the batch
abbrev pub IsOwnBehind : ℕ → List Record → Option LogState → Type 0
IsOwnBehind rid rs None = ⊥
IsOwnBehind rid rs (Some l) = IsOwnLog l × (l.rid ≡ last_rid rid rs)

-- the first of these spots
abbrev pub first_in : List Spot → Spot
first_in [] = record { file = 0; at = 0; end_file = 0 }
first_in (s ∷ ss) = s

-- where the first record of a batch lies
abbrev pub first_spot : LogState → List Record → Spot
first_spot l [] = record { file = 0; at = 0; end_file = 0 }
first_spot l (r ∷ rs) = spot_at l r

abbrev pub begin_syncs : Option LogState → ℕ
begin_syncs None = 1
begin_syncs (Some l) = 0

-- ---- what is read

-- where every file that came into use was unmarked, the log's journal says the entries if the old one did; moments are only added
pub record BeginsWhole (old : Option LogState) (l : LogState) (a b : Content) : Type 0 where
  pub adds : b.moments ≡ a.moments ++ moments_since a b
  pub whole : AllUnmarked a.now (moments_since a b) → (es : List ListEntry) (hs : List Held) → WholeBy old es hs a.now.disk → IsReadSo l es hs b.now.disk

-- the batch is read behind what the old log's journal said
abbrev pub SaysBy : Option LogState → List Record → LogState → Option LogState → Content → Content → Type 0
SaysBy old rs base None a b = ⊥
SaysBy old rs base (Some l) a b = SaysOn old rs base l a b
