-- What the opening of a store answers, does and leaves.
use Rattle.std.specs.Prelude.{◌≡◌, ◌⊎◌, ℕ, ◌<◌, ◌≤◌, Bool, true, false, List, [], ◌∷◌, length, map, Option, Some, None, Result, Ok, Err, if◌then◌else◌}
use Rattle.std.specs.List.{AllByRecursion, filter, slice_get}
use Rattle.std.specs.List.Sorted.{IsStrictlySortedBy}
use Rattle.std.specs.Ordering.{nat_cmp}
use Rattle.std.specs.Cmp.Lexicographic.{slice_cmp}
use Rattle.qls_model.specs.Machine.{MachineState}
use Rattle.qls_model.specs.declared.machine.PoolId.{PoolId}
use Rattle.qls_model.specs.declared.machine.QueueState.{QueueState}
use Rattle.qls_model.specs.declared.machine.Verdict.TheVariants.{Doubt}
use Rattle.qls_site.specs.Disk.{Disk, IsQuiet, full}
use Rattle.qls_site.specs.Content.{Content, OnlyLooks, Rose, moments_since}
use Rattle.qls_filehdr.specs.declared.JournalKind.TheVariants as journal
use Rattle.qls_decide.specs.declared.End.{End}
use Rattle.qls_decide.specs.declared.ListEntry.{ListEntry}
use Rattle.qls_decide.specs.declared.ListState.{ListState}
use Rattle.qls_decide.specs.declared.ListState.TheVariants.{Prepared, OnePhase, DecidedCommit, DecidedAbort}
use Rattle.qls_decide.specs.Entries.{verdict_by}
use Rattle.qls_decide.specs.Ends.{end_by, end_of}
use Rattle.qls_meaning.specs.Journals.{journals_of}
use Rattle.qls_meaning.specs.Damage.{Damage}
use Rattle.qls_meaning.specs.Dead.{NoneDead}
use Rattle.qls_meaning.specs.History.{AllUnmarked}
use Rattle.qls_meaning.specs.Meaning.{entries_of, meaning, queues_of as queues_in}
use Rattle.qls_meaning.specs.Spent.{list_rid}
use Rattle.qls_pool.specs.Moments.{Arrives, Chain}
use Rattle.qls_log.specs.Leaving.{LeavesInOrder}
use Rattle.qls_queue.specs.Answers.{is_pending}
use Rattle.qls_queue.specs.Records.{end_records}
use Rattle.qls_prepared.specs.Records.{end_records as list_ends}
use Rattle.qls_journals.specs.Ends.{batch_at_end}
use Rattle.qls_journals.specs.Homes.{homes_on}
use Rattle.qls_journals.specs.Moments.{IsStoreStep}
use Rattle.qls_journals.specs.State.{NonePast}
use Rattle.qls_look.specs.declared.fault.OpenFault.{OpenFault}
use Rattle.qls_look.specs.declared.fault.OpenFault.TheVariants.{Failed, Draw, Spent, Memory, Damaged}
use Rattle.qls_store.specs.Stores.{StoreState, state_of, Fits, IsClean}

-- ---- what it answers

-- The store holds what its files mean, or this is their first damage. A store whose files mean nothing takes no file
abbrev pub OpensAs : Result MachineState Damage → Result StoreState OpenFault → Type 0
OpensAs m (Ok s) = m ≡ Ok (state_of s)
OpensAs m (Err (Damaged file rule)) = m ≡ Err (file, rule)
OpensAs m (Err Draw) = (S : MachineState) × (m ≡ Ok S)
OpensAs m (Err Spent) = (S : MachineState) × (m ≡ Ok S)
OpensAs m (Err Failed) = Unit {0}
OpensAs m (Err Memory) = Unit {0}

-- where they are damaged nothing changes
abbrev pub LooksIfDamaged : Content → Content → Type 0
LooksIfDamaged old new = (damage : Damage) → meaning (full old.now.disk) ≡ Err damage → OnlyLooks old new

-- each number drawn is the serial of a file, but where a call failed or memory was wanting
abbrev pub is_exact_opening : {X : Type 0} → Result X OpenFault → Bool
is_exact_opening (Ok x) = true
is_exact_opening (Err (Damaged file rule)) = true
is_exact_opening (Err Spent) = true
is_exact_opening (Err Failed) = false
is_exact_opening (Err Draw) = false
is_exact_opening (Err Memory) = false

-- no count falls, and a fault is answered only where its count rose
pub record OpeningCauses {X : Type 0} (sites sites_now draws draws_now : ℕ) (result : Result X OpenFault) : Type 0 where
  pub sites_kept : sites ≤ sites_now
  pub draws_kept : draws ≤ draws_now
  pub failed : result ≡ Err Failed → Rose sites sites_now
  pub draw : result ≡ Err Draw → Rose draws draws_now

-- ---- what it does

-- The store fits the site, nothing is pending, and nothing was answered. Where the files that came into use were unmarked the store is clean
pub record OpensStore (s : StoreState) (old new : Content) : Type 0 where
  pub arrives : Arrives IsStoreStep old new
  pub quiet : IsQuiet new.now.disk
  pub fits : Fits s new.now.disk
  pub clean : AllUnmarked old.now (moments_since old new) → IsClean s new.now.disk

-- where the files that came into use were unmarked, each file that leaves use does so in order
abbrev pub OpensLeaving : Content → Content → Type 0
OpensLeaving old new = AllUnmarked old.now (moments_since old new) → Chain LeavesInOrder old.now (moments_since old new)

-- Nothing is to be done on opening such a disk: no file lies past the reading of its journal, no journal has a dead oldest file, and
-- each transaction that is pending in a queue or has an entry is in doubt
pub record IsSettled (d : Disk) : Type 0 where
  pub past : NonePast d
  pub alive : NoneDead (full d)
  pub queues : AllByRecursion (λ q. (x : List ℕ) → is_pending x q ≡ true → verdict_by (entries_of (journals_of (full d))) x ≡ Doubt) (queues_in (journals_of (full d)))
  pub entries : AllByRecursion (λ e. e.state ≡ Prepared) (entries_of (journals_of (full d)))

-- no moment has another disk
abbrev pub StaysIfSettled : Content → Content → Type 0
StaysIfSettled old new = IsSettled old.now.disk → AllByRecursion (λ m. m ≡ old.now) (moments_since old new)

-- ---- an opening that meets its end

-- these are the ends of what is pending in a queue and isn't in doubt
abbrev pub AreItsEnds : List ListEntry → QueueState → List End → Type 0
AreItsEnds es q ends = (x : List ℕ) → end_of x ends ≡ (if is_pending x q then end_by (verdict_by es x) x else None)

-- they are there, in byte order and each once, so that these are the ends
pub record AreToWrite (ends : List End) : Type 0 where
  pub some : 0 < length ends
  pub once : IsStrictlySortedBy (slice_cmp nat_cmp) (map (λ e. e.xid) ends)

-- the batch of ends of a queue of the store as it was can't be had on the disk as it is
pub record NeedsQueueEnds (home : PoolId) (was d : Disk) : Type 0 where
  pub at : ℕ
  pub queue : QueueState
  pub there : slice_get (queues_in (journals_of (full was))) at ≡ Some queue
  pub ends : List End
  pub planned : AreItsEnds (entries_of (journals_of (full was))) queue ends
  pub written : AreToWrite ends
  pub spent : batch_at_end (homes_on home was) journal.Queue queue.name (end_records queue.last ends) d ≡ true

-- the entry isn't in doubt, and ends when the store is opened
abbrev pub is_settled_by : ListState → Bool
is_settled_by Prepared = false
is_settled_by OnePhase = true
is_settled_by DecidedCommit = true
is_settled_by DecidedAbort = true

abbrev pub settled_xids : List ListEntry → List (List ℕ)
settled_xids es = map (λ e. e.xid) (filter (λ e. is_settled_by e.state) es)

-- an entry of the prepared list ends, and the batch of such ends can't be had
pub record NeedsListEnds (home : PoolId) (was d : Disk) : Type 0 where
  pub some : 0 < length (settled_xids (entries_of (journals_of (full was))))
  pub spent : batch_at_end (homes_on home was) journal.List [] (list_ends (list_rid was) (settled_xids (entries_of (journals_of (full was))))) d ≡ true

abbrev pub NeedsEnds : PoolId → Disk → Disk → Type 0
NeedsEnds home was d = NeedsQueueEnds home was d ⊎ NeedsListEnds home was d

-- The opening stopped there, with nothing answered. Where the files that came into use were unmarked, the disk as it is has no room for one
-- of the batches of ends
pub record OpeningStops (home : PoolId) (old new : Content) : Type 0 where
  pub arrives : Arrives IsStoreStep old new
  pub meets : AllUnmarked old.now (moments_since old new) → NeedsEnds home old.now.disk new.now.disk
