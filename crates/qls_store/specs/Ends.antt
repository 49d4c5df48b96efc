-- What a command needs that can't be had: a file, where neither an empty one nor an id nor a file number is left, or a record id of the
-- prepared list.
use Rattle.std.specs.Prelude.{◌≡◌, ◌⊎◌, ℕ, ◌+◌, Bool, true, false, not, List, [], ◌∷◌, ◌++◌, map, Option, Some, None, if◌then◌else◌}
use Rattle.std.specs.List.{slice_get}
use Rattle.qls_model.specs.Machine.{MachineState, XidState, queue_named, xid_named, is_prepared, step}
use Rattle.qls_model.specs.declared.machine.PoolId.{PoolId}
use Rattle.qls_model.specs.declared.machine.QueueState.{QueueState}
use Rattle.qls_model.specs.declared.machine.Command.{Command}
use Rattle.qls_model.specs.declared.machine.Command.TheVariants as command
use Rattle.qls_record.specs.Record.{Record}
use Rattle.qls_site.specs.Disk.{Disk}
use Rattle.qls_site.specs.Content.{Content, moments_since}
use Rattle.qls_filehdr.specs.declared.JournalKind.{JournalKind}
use Rattle.qls_filehdr.specs.declared.JournalKind.TheVariants as journal
use Rattle.qls_meaning.specs.History.{AllUnmarked}
use Rattle.qls_meaning.specs.Spent.{new_journal_meets_end, prepare_meets_end}
use Rattle.qls_blocks.specs.Batching.{length_of, block_length}
use Rattle.qls_pool.specs.Moments.{Arrives}
use Rattle.qls_queue.specs.Records.{enqueue_of, dequeue_of}
use Rattle.qls_journals.specs.Ends.{at_end_for}
use Rattle.qls_journals.specs.Moments.{IsStoreStep}
use Rattle.qls_journals.specs.Homes.{Homes}
use Rattle.qls_store.specs.Stores.{StoreState, state_of, touched, IsClean}
use Rattle.qls_store.specs.Homes.{homes_of, pool_or, is_accepted}

-- ---- the batches of a command

-- so many bytes, in whole blocks, behind what a journal has
pub record Need : Type 0 where
  pub kind : JournalKind
  pub name : List ℕ
  pub bytes : ℕ

abbrev pub record_need : List ℕ → Record → Need
record_need name r = record { kind = journal.Queue; name = name; bytes = block_length (length_of (r ∷ [])) }

-- the end of a transaction in a queue, one block
abbrev pub end_need : List ℕ → Need
end_need name = record { kind = journal.Queue; name = name; bytes = 4096 }

-- each batch of the prepared list, one block
abbrev pub list_need : Need
list_need = record { kind = journal.List; name = []; bytes = 4096 }

abbrev pub put_needs : List ℕ → List ℕ → Option (List ℕ) → Option QueueState → List Need
put_needs name body xid None = []
put_needs name body xid (Some q) = record_need name (enqueue_of (q.last + 1) body xid) ∷ []

abbrev pub take_needs : List ℕ → ℕ → Option (List ℕ) → Option QueueState → List Need
take_needs name number xid None = []
take_needs name number xid (Some q) = record_need name (dequeue_of q.last number xid) ∷ []

-- in the list, in each queue of the transaction, and in the list again; an open transaction that aborts needs nothing of the list
abbrev pub all_needs : List (List ℕ) → List Need
all_needs names = list_need ∷ map end_need names ++ list_need ∷ []

abbrev pub abort_needs : List (List ℕ) → Option XidState → List Need
abort_needs names None = []
abort_needs names (Some e) = if is_prepared e.phase then all_needs names else map end_need names

-- what a command needs, where it is accepted, in this order
abbrev pub needs_of : MachineState → Command → List Need
needs_of S (command.Queue name home) = []
needs_of S (command.Drop name) = []
needs_of S (command.Put name body xid) = put_needs name body xid (queue_named name S.queues)
needs_of S (command.Take name number xid) = take_needs name number xid (queue_named name S.queues)
needs_of S (command.Begin x) = []
needs_of S (command.Prepare x) = list_need ∷ []
needs_of S (command.Commit x) = all_needs (touched x S.queues)
needs_of S (command.Abort x) = abort_needs (touched x S.queues) (xid_named x S.xids)
needs_of S (command.List name) = []
needs_of S command.Doubt = []

-- ---- a command that meets its end

abbrev pub is_open_by : Option XidState → Bool
is_open_by None = false
is_open_by (Some e) = not (is_prepared e.phase)

-- a prepare, and the commit of an open transaction, give one more record id of the list
abbrev pub raises_rid : MachineState → Command → Bool
raises_rid S (command.Queue name home) = false
raises_rid S (command.Drop name) = false
raises_rid S (command.Put name body xid) = false
raises_rid S (command.Take name number xid) = false
raises_rid S (command.Begin x) = false
raises_rid S (command.Prepare x) = is_accepted (step S (command.Prepare x)).1
raises_rid S (command.Commit x) = is_open_by (xid_named x S.xids)
raises_rid S (command.Abort x) = false
raises_rid S (command.List name) = false
raises_rid S command.Doubt = false

-- a new queue, for which there is neither an empty file nor an id
pub record NeedsFirst (homes : Homes) (S : MachineState) (c : Command) (d : Disk) : Type 0 where
  pub name : List ℕ
  pub home : Option PoolId
  pub makes : c ≡ command.Queue name home
  pub accepted : queue_named name S.queues ≡ None
  pub spent : new_journal_meets_end (pool_or homes.default home) d ≡ true

-- a batch of an accepted command, for which there is no further file
pub record NeedsRoom (homes : Homes) (S : MachineState) (c : Command) (at : ℕ) (d : Disk) : Type 0 where
  pub need : Need
  pub accepted : is_accepted (step S c).1 ≡ true
  pub there : slice_get (needs_of S c) at ≡ Some need
  pub spent : at_end_for homes need.kind need.name need.bytes d ≡ true

-- a record id of the list, of which the last one is given
pub record NeedsRid (S : MachineState) (c : Command) (d : Disk) : Type 0 where
  pub raises : raises_rid S c ≡ true
  pub spent : prepare_meets_end d ≡ true

-- one of the batches can't be written
abbrev pub MeetsItsEnd : Homes → MachineState → Command → Disk → Type 0
MeetsItsEnd homes S c d = NeedsFirst homes S c d ⊎ (NeedsRid S c d ⊎ ((at : ℕ) × NeedsRoom homes S c at d))

-- the first of them can't be written
abbrev pub MeetsAtOnce : Homes → MachineState → Command → Disk → Type 0
MeetsAtOnce homes S c d = NeedsFirst homes S c d ⊎ (NeedsRid S c d ⊎ NeedsRoom homes S c 0 d)

-- The command stopped there, with nothing answered. Where the store was clean and the files that came into use were unmarked, it needs
-- what can't be had on the disk as it is
pub record StopsAtEnd (was : StoreState) (c : Command) (old new : Content) : Type 0 where
  pub arrives : Arrives IsStoreStep old new
  pub meets : AllUnmarked old.now (moments_since old new) → IsClean was old.now.disk → MeetsItsEnd (homes_of was) (state_of was) c new.now.disk
