-- What a store knows, the machine's state that it holds, and how it stands on a disk.
use Rattle.std.specs.Prelude.{◌≡◌, ℕ, true, List, [], ◌∷◌, map, Some}
use Rattle.std.specs.List.{AllByRecursion, filter}
use Rattle.qls_model.specs.Bytes.{comes_before}
use Rattle.qls_model.specs.Machine.{MachineState, XidState, xid_named, is_prepared}
use Rattle.qls_model.specs.Sound.{IsSound}
use Rattle.qls_model.specs.declared.machine.Phase.{Phase}
use Rattle.qls_model.specs.declared.machine.PoolId.{PoolId}
use Rattle.qls_model.specs.declared.machine.QueueState.{QueueState}
use Rattle.qls_model.specs.declared.machine.Status.{Status}
use Rattle.qls_model.specs.declared.machine.Status.TheVariants.{Ready, Coming, Going}
use Rattle.qls_site.specs.Disk.{Disk}
use Rattle.qls_decide.specs.declared.ListState.TheVariants.{Prepared}
use Rattle.qls_queue.specs.Answers.{is_pending}
use Rattle.qls_queue.specs.Records.{IsXid}
use Rattle.qls_prepared.specs.Lists.{rid_of as rid_of_list}
use Rattle.qls_journals.specs.State.{JournalsState, queues_of, AreJournals, AreReleased, Fits as JournalsFit, IsClean as AreClean}

-- an open or prepared transaction, and the names of the queues in which a message is coming or going by it
pub record TransactionState : Type 0 where
  pub xid : List ℕ
  pub phase : Phase
  pub queues : List (List ℕ)

-- the open journals, and the transactions in byte order of xid
pub record StoreState : Type 0 where
  pub journals : JournalsState
  pub transactions : List TransactionState

-- the default pool
abbrev pub home_of : StoreState → PoolId
home_of s = s.journals.home

abbrev pub xids_of : List TransactionState → List XidState
xids_of ts = map (λ t. record { xid = t.xid; phase = t.phase }) ts

abbrev pub state_of : StoreState → MachineState
state_of s = record { queues = queues_of s.journals; xids = xids_of s.transactions }

-- the record id in force in the prepared list
abbrev pub rid_of : StoreState → ℕ
rid_of s = rid_of_list s.journals.list

-- ---- what holds of every store

-- the queues in which a message is coming or going by x, in order of their names
abbrev pub touched : List ℕ → List QueueState → List (List ℕ)
touched x qs = map (λ q. q.name) (filter (is_pending x) qs)

-- each xid comes before all that follow
abbrev pub XidsRise : List TransactionState → Type 0
XidsRise [] = Unit {0}
XidsRise (t ∷ ts) = AllByRecursion (λ u. comes_before t.xid u.xid ≡ true) ts × XidsRise ts

-- a message comes or goes by a transaction that there is
abbrev pub IsKnown : List XidState → Status → Type 0
IsKnown xs Ready = Unit {0}
IsKnown xs (Coming x) = (e : XidState) × (xid_named x xs ≡ Some e)
IsKnown xs (Going x) = (e : XidState) × (xid_named x xs ≡ Some e)

-- The journals are open and their dead files went back, and the machine's state is sound; each transaction has an xid within the limits and its queues, and no message one
-- that isn't there. The list has just the transactions that are prepared, each as prepared
pub record IsStore (s : StoreState) : Type 0 where
  pub journals : AreJournals s.journals
  pub released : AreReleased s.journals.queues
  pub sound : IsSound (queues_of s.journals) (xids_of s.transactions)
  pub rising : XidsRise s.transactions
  pub xids : AllByRecursion (λ t. IsXid t.xid) s.transactions
  pub queues : AllByRecursion (λ t. t.queues ≡ touched t.xid (queues_of s.journals)) s.transactions
  pub known : AllByRecursion (λ q. AllByRecursion (λ m. IsKnown (xids_of s.transactions) m.status) q.messages) (queues_of s.journals)
  pub listed : map (λ e. e.xid) s.journals.list.entries ≡ map (λ t. t.xid) (filter (λ t. is_prepared t.phase) s.transactions)
  pub prepared : AllByRecursion (λ e. e.state ≡ Prepared) s.journals.list.entries

-- ---- on a disk

-- the site is as the store's last call left it
abbrev pub Fits : StoreState → Disk → Type 0
Fits s d = JournalsFit s.journals d

-- each journal says what the store holds of it, breaks no damage rule, and has no dead oldest file
abbrev pub IsClean : StoreState → Disk → Type 0
IsClean s d = AreClean s.journals d
