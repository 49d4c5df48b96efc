-- A queue held live, and what its journal on a disk says of it.
use Rattle.std.specs.Prelude.{◌≡◌, ◌+◌, ◌^◌, ◌<◌, Bool, false, List, [], ◌++◌, length}
use Rattle.std.specs.List.{AllByRecursion}
use Rattle.qls_model.specs.declared.machine.QueueState.{QueueState}
use Rattle.qls_site.specs.Disk.{Disk}
use Rattle.qls_site.specs.Content.{Content, moments_since}
use Rattle.qls_filehdr.specs.declared.JournalKind.TheVariants.{Queue}
use Rattle.qls_enqmap.specs.declared.Held.{Held}
use Rattle.qls_enqmap.specs.Records.{AllBelow}
use Rattle.qls_meaning.specs.Reading.{Read}
use Rattle.qls_meaning.specs.Meaning.{queue_of}
use Rattle.qls_meaning.specs.History.{AllUnmarked}
use Rattle.qls_meaning.specs.Orderly.{journal_on}
use Rattle.qls_replay.specs.Held.{messages_of, held_after_all}
use Rattle.qls_log.specs.Logs.{LogState}
use Rattle.qls_log.specs.Standing.{LogThere}
use Rattle.qls_log.specs.Reads.{IsRead}
use Rattle.qls_queue.specs.Records.{HasXid}

-- A log, the queue that its records make, and the records of the queue's messages, each with the files where it lies. A value that is
-- ended may not be used again
pub record LiveState : Type 0 where
  pub log : LogState
  pub queue : QueueState
  pub held : List Held
  pub ended : Bool

-- the queue has the log's name and the rid in force there as its last number, and its messages are those held
abbrev pub live : LogState → List Held → Bool → LiveState
live log held ended = record {
  log = log;
  queue = record { name = log.opening.name; last = log.rid; messages = messages_of held };
  held = held;
  ended = ended;
}

-- what holds of every live queue that isn't ended: the queue is that of its log, all is flushed, no number is above the last, and xids
-- are within their limits
pub record IsSound (q : LiveState) : Type 0 where
  pub name : q.queue.name ≡ q.log.opening.name
  pub rid : q.queue.last ≡ q.log.rid
  pub messages : q.queue.messages ≡ messages_of q.held
  pub unended : q.log.ended ≡ false
  pub kind : q.log.opening.kind ≡ Queue
  pub flushed : q.log.unsynced ≡ []
  pub some : 0 < length q.log.files
  pub last : q.log.rid < 2 ^ 62
  pub below : AllBelow (q.log.rid + 1) q.held
  pub xids : AllByRecursion (λ h. HasXid h.status) q.held

-- ---- on a disk

-- the site has the queue's journal as its last call left it
abbrev pub QueueThere : LiveState → Disk → Type 0
QueueThere q d = LogThere q.log d

-- the journal on the disk says this queue: the records that are read make it, and each message is held in the files of its enqueue
pub record IsQueueRead (q : LiveState) (d : Disk) : Type 0 where
  pub reads : List Read
  pub read : IsRead q.log reads d
  pub queue : queue_of (journal_on d q.log.opening.kind q.log.opening.name) ≡ q.queue
  pub held : held_after_all reads [] ≡ q.held

-- where every file that came into use was unmarked, the journal says the queue after the call if it did so before; moments are only added
pub record QueueReadsOn (old new : LiveState) (a b : Content) : Type 0 where
  pub adds : b.moments ≡ a.moments ++ moments_since a b
  pub read : AllUnmarked a.now (moments_since a b) → IsQueueRead old a.now.disk → IsQueueRead new b.now.disk
