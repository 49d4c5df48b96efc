-- The open journals of a store: the queues and the prepared list over one pool, and how they stand on a disk.
use Rattle.std.specs.Prelude.{◌≡◌, ◌⊎◌, ℕ, ◌^◌, ◌<◌, true, false, List, [], ◌∷◌, map, length, Option, Some, IsTrue}
use Rattle.std.specs.List.{AllByRecursion, find}
use Rattle.qls_model.specs.Bytes.{same, comes_before}
use Rattle.qls_model.specs.Limits.{is_partition, is_kib, is_queue_name}
use Rattle.qls_model.specs.declared.machine.PoolId.{PoolId}
use Rattle.qls_model.specs.declared.machine.QueueState.{QueueState}
use Rattle.qls_site.specs.Disk.{Disk, FileState, file_of, full, full_file}
use Rattle.qls_filehdr.specs.declared.JournalKind.TheVariants as journal
use Rattle.qls_filehdr.specs.declared.FileHeader.{FileHeader}
use Rattle.qls_meaning.specs.Journals.{is_in_use, headed, journals_of}
use Rattle.qls_meaning.specs.Dead.{has_dead_oldest, past_files}
use Rattle.qls_meaning.specs.Orderly.{journal_on}
use Rattle.qls_pool.specs.Pools.{PoolState}
use Rattle.qls_pool.specs.Files.{IsWholePool}
use Rattle.qls_log.specs.Logs.{IsSound as IsSoundLog}
use Rattle.qls_queue.specs.Live.{LiveState, IsSound as IsSoundQueue, QueueThere}
use Rattle.qls_queue.specs.Releasing.{IsQueueWhole}
use Rattle.qls_prepared.specs.Lists.{PreparedState, IsSound as IsSoundList, ListThere, IsListWhole, AliveBy}
use Rattle.qls_prepared.specs.Ends.{IsFitPool}

-- the default pool, to which the list's files belong, the pools of the site, the queues by name, and the list
pub record JournalsState : Type 0 where
  pub home : PoolId
  pub pool : PoolState
  pub queues : List LiveState
  pub list : PreparedState

abbrev pub queues_of : JournalsState → List QueueState
queues_of s = map (λ q. q.queue) s.queues

abbrev pub queue_held : List ℕ → List LiveState → Option LiveState
queue_held name qs = find (λ q. same q.queue.name name) qs

-- ---- what holds of all open journals

-- a queue of a legal name
pub record IsKept (q : LiveState) : Type 0 where
  pub unended : q.ended ≡ false
  pub sound : IsSoundQueue q
  pub log : IsSoundLog q.log
  pub name : IsTrue (is_queue_name q.queue.name)

-- the first file of a list that has none is taken from the default pool
pub record IsKeptList (default : PoolId) (p : PreparedState) : Type 0 where
  pub unended : p.ended ≡ false
  pub sound : IsSoundList p
  pub home : p.home ≡ default

-- each name comes before all that follow
abbrev pub NamesRise : List (List ℕ) → Type 0
NamesRise [] = Unit {0}
NamesRise (n ∷ ns) = AllByRecursion (λ m. comes_before n m ≡ true) ns × NamesRise ns

abbrev pub names_of : List LiveState → List (List ℕ)
names_of qs = map (λ q. q.queue.name) qs

pub record AreJournals (s : JournalsState) : Type 0 where
  pub home : (is_partition s.home.part ≡ true) × (is_kib s.home.kib ≡ true)
  pub kept : AllByRecursion IsKept s.queues
  pub rising : NamesRise (names_of s.queues)
  pub list : IsKeptList s.home s.list

-- a queue without a message has one file: its dead files went back
abbrev pub IsReleased : LiveState → Type 0
IsReleased q = q.queue.messages ≡ [] → length q.log.files ≡ 1

abbrev pub AreReleased : List LiveState → Type 0
AreReleased qs = AllByRecursion IsReleased qs

-- ---- on a disk

-- the header names a queue
pub record NamesQueue (qs : List LiveState) (h : FileHeader) : Type 0 where
  pub kind : h.kind ≡ journal.Queue
  pub queue : LiveState
  pub there : queue_held h.name qs ≡ Some queue

-- or the prepared list
pub record NamesList (h : FileHeader) : Type 0 where
  pub kind : h.kind ≡ journal.List
  pub name : h.name ≡ []

abbrev pub NamesJournal : List LiveState → FileHeader → Type 0
NamesJournal qs h = NamesQueue qs h ⊎ NamesList h

-- each file in use is one of an open journal
abbrev pub AllNamed : List LiveState → Disk → Type 0
AllNamed qs d = (id : ℕ) (f : FileState) → file_of id d ≡ Some f → is_in_use f.place ≡ true → NamesJournal qs (headed (full_file f)).header

-- The pool has every empty file, ids are within their limits, the site has each journal as its last call left it, and no other file is in
-- use
pub record Fits (s : JournalsState) (d : Disk) : Type 0 where
  pub pool : IsWholePool s.pool d
  pub limit : s.pool.greatest < 2 ^ 62
  pub fit : IsFitPool s.pool
  pub ids : AllByRecursion (λ f. 0 < f.id) d
  pub queues : AllByRecursion (λ q. QueueThere q d) s.queues
  pub list : ListThere s.list d
  pub own : AllNamed s.queues d

-- each queue's journal says the queue, and the list's journal its entries; none breaks a damage rule
pub record IsWhole (s : JournalsState) (d : Disk) : Type 0 where
  pub queues : AllByRecursion (λ q. IsQueueWhole q d) s.queues
  pub list : IsListWhole s.list d

-- no queue's oldest file is dead
abbrev pub AreQueuesAlive : List LiveState → Disk → Type 0
AreQueuesAlive qs d = AllByRecursion (λ q. has_dead_oldest (journal_on d q.log.opening.kind q.log.opening.name) ≡ false) qs

-- nor is the list's
pub record IsClean (s : JournalsState) (d : Disk) : Type 0 where
  pub whole : IsWhole s d
  pub queues : AreQueuesAlive s.queues d
  pub list : AliveBy s.list.log d

-- the list's oldest file isn't dead
abbrev pub IsListAlive : JournalsState → Disk → Type 0
IsListAlive s d = AliveBy s.list.log d

-- no file lies past the reading of its journal
abbrev pub NonePast : Disk → Type 0
NonePast d = AllByRecursion (λ j. past_files j ≡ []) (journals_of (full d))
