-- What is settled as a store is opened: what is pending in the queues and not in doubt ends, and so do the entries of the list that are
-- decided or of one phase.
use Rattle.std.specs.Prelude.{◌≡◌, ◌⊎◌, ℕ, ◌<◌, true, not, List, [], length, map, Some}
use Rattle.std.specs.List.{AllByRecursion, filter, slice_get}
use Rattle.qls_model.specs.Machine.{XidState}
use Rattle.qls_model.specs.declared.machine.QueueState.{QueueState}
use Rattle.qls_model.specs.declared.machine.Phase.TheVariants as phase
use Rattle.qls_model.specs.declared.machine.Verdict.{Verdict}
use Rattle.qls_model.specs.declared.machine.Verdict.TheVariants.{Doubt}
use Rattle.qls_site.specs.Content.{Content, moments_since}
use Rattle.qls_filehdr.specs.declared.JournalKind.TheVariants as journal
use Rattle.qls_meaning.specs.History.{AllUnmarked}
use Rattle.qls_decide.specs.declared.End.{End}
use Rattle.qls_decide.specs.declared.ListEntry.{ListEntry}
use Rattle.qls_decide.specs.declared.ListState.TheVariants.{Prepared}
use Rattle.qls_decide.specs.Entries.{verdict_by}
use Rattle.qls_queue.specs.Answers.{is_pending}
use Rattle.qls_queue.specs.Records.{end_records}
use Rattle.qls_prepared.specs.Lists.{rid_of}
use Rattle.qls_prepared.specs.Records.{end_records as list_ends}
use Rattle.qls_journals.specs.Ends.{StopsAtEnd}
use Rattle.qls_journals.specs.State.{JournalsState, queues_of, IsWhole, IsClean}
use Rattle.qls_store.specs.Opening.{AreItsEnds, AreToWrite, is_settled_by, settled_xids}
use Rattle.qls_store.specs.Stores.{TransactionState, touched}

-- ---- what is in doubt

-- each transaction that is pending in the queue is in doubt
abbrev pub IsDoubted : (List ℕ → Verdict) → QueueState → Type 0
IsDoubted verdict q = (x : List ℕ) → is_pending x q ≡ true → verdict x ≡ Doubt

-- the entries that stay: those in doubt
abbrev pub entries_kept : List ListEntry → List ListEntry
entries_kept es = filter (λ e. not (is_settled_by e.state)) es

-- nothing is to end: each transaction of the queues and each entry is in doubt
pub record IsSettledSo (s : JournalsState) : Type 0 where
  pub queues : AllByRecursion (IsDoubted (verdict_by s.list.entries)) (queues_of s)
  pub entries : AllByRecursion (λ e. e.state ≡ Prepared) s.list.entries

-- the transaction of an entry in doubt, in the machine's table
abbrev pub doubt_of : ListEntry → XidState
doubt_of e = record { xid = e.xid; phase = phase.Prepared }

-- and in the store's, with the queues that it touched
abbrev pub doubt_in : List QueueState → ListEntry → TransactionState
doubt_in qs e = record { xid = e.xid; phase = phase.Prepared; queues = touched e.xid qs }

-- ---- a batch that can't be had

-- the ends of what is pending in this queue stopped there
pub record StopsInQueue (was : JournalsState) (q : QueueState) (old new : Content) : Type 0 where
  pub ends : List End
  pub planned : AreItsEnds was.list.entries q ends
  pub written : AreToWrite ends
  pub stops : StopsAtEnd was journal.Queue q.name (end_records q.last ends) old new

-- those of one of the queues
pub record StopsInQueues (was : JournalsState) (old new : Content) : Type 0 where
  pub at : ℕ
  pub queue : QueueState
  pub there : slice_get (queues_of was) at ≡ Some queue
  pub stops : StopsInQueue was queue old new

-- those of the list
pub record StopsInList (was : JournalsState) (old new : Content) : Type 0 where
  pub some : 0 < length (settled_xids was.list.entries)
  pub stops : StopsAtEnd was journal.List [] (list_ends (rid_of was.list) (settled_xids was.list.entries)) old new

abbrev pub StopsSettling : JournalsState → Content → Content → Type 0
StopsSettling was old new = StopsInQueues was old new ⊎ StopsInList was old new

-- ---- and released

-- where the journals were whole and the files that came into use were unmarked, the journals that are left are clean
abbrev pub EndsClean : JournalsState → JournalsState → Content → Content → Type 0
EndsClean was s old new = AllUnmarked old.now (moments_since old new) → IsWhole was old.now.disk → IsClean s new.now.disk

-- where the journals were clean no call was made
abbrev pub StaysIfClean : JournalsState → Content → Content → Type 0
StaysIfClean was old new = IsClean was old.now.disk → new ≡ old
