-- Dead files that go back, journal after journal: what is left behind so many of them.
use Rattle.std.specs.Prelude.{◌≡◌, ℕ, take, ◌+◌}
use Rattle.qls_site.specs.Disk.{Disk, IsQuiet}
use Rattle.qls_site.specs.Content.{Content, moments_since}
use Rattle.qls_pool.specs.Moments.{Arrives, Chain, Passes}
use Rattle.qls_pool.specs.Serials.{TakesNone}
use Rattle.qls_log.specs.Leaving.{LeavesInOrder}
use Rattle.qls_prepared.specs.Lists.{AliveBy, rid_of}
use Rattle.qls_journals.specs.Homes.{SameHomes, homes_of}
use Rattle.qls_journals.specs.Moments.{IsStoreStep, StaysQuiet}
use Rattle.qls_journals.specs.State.{AreQueuesAlive, Fits, IsClean, IsListAlive, IsWhole, JournalsState, queues_of}

-- the queues, the entries, the list's record id and the homes are the same
pub record AreSame (was s : JournalsState) : Type 0 where
  pub queues : queues_of s ≡ queues_of was
  pub entries : s.list.entries ≡ was.list.entries
  pub rid : rid_of s.list ≡ rid_of was.list
  pub homes : SameHomes (homes_of s) (homes_of was)

-- Whatever was answered: no file came into use, and where nothing was pending and the journals were whole each file that left use did so
-- in order
pub record GivesBack (was : JournalsState) (a b : Content) : Type 0 where
  pub passes : Passes IsStoreStep a b
  pub none : TakesNone a b
  pub leaves : IsQuiet a.now.disk → IsWhole was a.now.disk → Chain LeavesInOrder a.now (moments_since a b)

-- At Ok the call arrived, and the journals fit the site, whole if they were; then no oldest file is dead that wasn't, and where none was all
-- is as it was
pub record HasGivenBack (was s : JournalsState) (a b : Content) : Type 0 where
  pub back : GivesBack was a b
  pub arrives : Arrives IsStoreStep a b
  pub quiet : StaysQuiet a b
  pub fits : Fits s b.now.disk
  pub whole : IsWhole was a.now.disk → IsWhole s b.now.disk
  pub queues : IsWhole was a.now.disk → AreQueuesAlive was.queues a.now.disk → AreQueuesAlive s.queues b.now.disk
  pub list : IsWhole was a.now.disk → IsListAlive was a.now.disk → IsListAlive s b.now.disk
  pub still : IsClean was a.now.disk → b ≡ a

-- where they were whole, the list's oldest file isn't dead now
abbrev pub ListComesAlive : JournalsState → JournalsState → Content → Content → Type 0
ListComesAlive was s a b = IsWhole was a.now.disk → IsListAlive s b.now.disk

-- the oldest files of the list and of the first n queues by name aren't dead
abbrev pub AreAliveUpTo : ℕ → JournalsState → Disk → Type 0
AreAliveUpTo n s d = AliveBy s.list.log d × AreQueuesAlive (take n s.queues) d

-- where they were whole, the next queue's isn't dead either now
abbrev pub NextComesAlive : ℕ → JournalsState → JournalsState → Content → Content → Type 0
NextComesAlive n was s a b = IsWhole was a.now.disk → AreAliveUpTo n was a.now.disk → AreAliveUpTo (n + 1) s b.now.disk
