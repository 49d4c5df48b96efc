-- The home of each journal in an opening: the pool and the epoch of its next file. A journal that is there keeps its pool, and its epoch is
-- one more than the greatest that the opening found; a queue that is made has the pool that its command named, else the default one, and
-- the first epoch, and so has the list, in the default pool.
use Rattle.std.specs.Prelude.{◌≡◌, ℕ, ◌+◌, true, false, List, [], ◌∷◌, take, Option, Some, None, Ok, option_map, if◌then◌else◌}
use Rattle.std.specs.List.{AllByRecursion}
use Rattle.qls_model.specs.Bytes.{same}
use Rattle.qls_model.specs.declared.machine.PoolId.{PoolId}
use Rattle.qls_site.specs.Disk.{Disk, FileState, file_of}
use Rattle.qls_site.specs.Content.{Moment}
use Rattle.qls_filehdr.specs.declared.FileHeader.{FileHeader}
use Rattle.qls_filehdr.specs.declared.JournalKind.{JournalKind}
use Rattle.qls_filehdr.specs.declared.JournalKind.TheVariants as journal
use Rattle.qls_filehdr.specs.Header.{header_of}
use Rattle.qls_meaning.specs.Journals.{Headed, is_in_use}
use Rattle.qls_meaning.specs.Dead.{newest_number}
use Rattle.qls_meaning.specs.Orderly.{journal_on}
use Rattle.qls_meaning.specs.Spent.{greatest_epoch}
use Rattle.qls_pool.specs.Next.{IsEpochDue}
use Rattle.qls_log.specs.declared.opening.Opening.{Opening}
use Rattle.qls_prepared.specs.Lists.{opening_by}
use Rattle.qls_journals.specs.State.{JournalsState, queue_held}

-- the pool and the epoch of a journal's next file
pub record Home : Type 0 where
  pub pool : PoolId
  pub epoch : ℕ

-- the default pool, the home of each queue that there is, by name, and that of the list
pub record Homes : Type 0 where
  pub default : PoolId
  pub queue : List ℕ → Option Home
  pub list : Home

-- a journal that is made in this opening
abbrev pub new_home : PoolId → Home
new_home pool = record { pool = pool; epoch = 1 }

-- no journal yet
abbrev pub no_homes : PoolId → Homes
no_homes default = record { default = default; queue = λ name. None; list = new_home default }

-- a queue is made, or goes
abbrev pub with_home : List ℕ → Option PoolId → Homes → Homes
with_home name pool homes = record homes { queue = λ other. if same name other then option_map new_home pool else homes.queue other }

abbrev pub home_by : JournalKind → List ℕ → Homes → Option Home
home_by journal.Queue name homes = homes.queue name
home_by journal.List name homes = Some homes.list

-- ---- a file that comes into use

-- it has its journal's home, the number after that of the journal's newest file, and an epoch that may come behind that one's
pub record IsFromHome (homes : Homes) (d : Disk) (g : FileState) (header : FileHeader) : Type 0 where
  pub legal : header_of (take 4096 g.stable) ≡ Ok header
  pub home : home_by header.kind header.name homes ≡ Some (record { pool = record { part = header.part; kib = header.kib }; epoch = header.epoch })
  pub due : IsEpochDue header.epoch (journal_on d header.kind header.name).files
  pub number : header.number ≡ newest_number (journal_on d header.kind header.name).files + 1

abbrev pub TakesFrom : Homes → Disk → Option FileState → FileState → Type 0
TakesFrom homes d None g = Unit {0}
TakesFrom homes d (Some f) g = is_in_use f.place ≡ false → is_in_use g.place ≡ true → (header : FileHeader) × IsFromHome homes d g header

abbrev pub TakesFromHome : Homes → Moment → Moment → Type 0
TakesFromHome homes m n = AllByRecursion (λ g. TakesFrom homes m.disk (file_of g.id m.disk) g) n.disk

-- ---- the homes of open journals

abbrev pub home_for : Opening → Home
home_for o = record { pool = o.home; epoch = o.epoch }

abbrev pub homes_of : JournalsState → Homes
homes_of s = record { default = s.home; queue = λ name. option_map (λ q. home_for q.log.opening) (queue_held name s.queues); list = home_for (opening_by s.list.home s.list.log) }

-- both have the same home for each journal
pub record SameHomes (a b : Homes) : Type 0 where
  pub default : a.default ≡ b.default
  pub queue : (name : List ℕ) → a.queue name ≡ b.queue name
  pub list : a.list ≡ b.list

-- ---- the homes that an opening gives the journals that it finds

-- behind these files, the first of which is f
abbrev pub home_behind : Headed → List Headed → Home
home_behind f fs = record { pool = record { part = f.header.part; kib = f.header.kib }; epoch = greatest_epoch (f ∷ fs) + 1 }

abbrev pub queue_home : List Headed → Option Home
queue_home [] = None
queue_home (f ∷ fs) = Some (home_behind f fs)

abbrev pub list_home : PoolId → List Headed → Home
list_home default [] = new_home default
list_home default (f ∷ fs) = home_behind f fs

abbrev pub homes_on : PoolId → Disk → Homes
homes_on default d = record {
  default = default;
  queue = λ name. queue_home (journal_on d journal.Queue name).files;
  list = list_home default (journal_on d journal.List []).files;
}
