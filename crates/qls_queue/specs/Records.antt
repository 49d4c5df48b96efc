-- The records that a queue writes, and what ends leave.
use Rattle.std.specs.Prelude.{ℕ, ◌+◌, ◌<◌, ◌≤◌, Bool, true, false, List, [], ◌∷◌, map, length, Option, Some, None}
use Rattle.qls_shape.specs.declared.Version.TheVariants.{Two}
use Rattle.qls_record.specs.declared.Kind.{Kind}
use Rattle.qls_record.specs.declared.Kind.TheVariants.{Enqueue, Dequeue, Commit, Abort}
use Rattle.qls_record.specs.Record.{Record, record_length}
use Rattle.qls_meaning.specs.Reading.{Read}
use Rattle.qls_model.specs.Messages.{decided, only}
use Rattle.qls_model.specs.declared.machine.PoolId.{PoolId}
use Rattle.qls_model.specs.declared.machine.Status.{Status}
use Rattle.qls_model.specs.declared.machine.Status.TheVariants.{Ready, Coming, Going}
use Rattle.qls_model.specs.declared.machine.QueueState.{QueueState}
use Rattle.qls_decide.specs.declared.End.{End}
use Rattle.qls_enqmap.specs.declared.Held.{Held}
use Rattle.qls_replay.specs.Held.{ended_held}
use Rattle.qls_replay.specs.Ops.{verdict_if}
use Rattle.qls_filehdr.specs.declared.JournalKind.TheVariants.{Queue}
use Rattle.qls_log.specs.declared.opening.Opening.{Opening}
use Rattle.qls_log.specs.Logs.{LogState, capacity_in}
use Rattle.qls_log.specs.Reads.{read_in}

-- a record without a transaction has an empty xid
abbrev pub xid_of : Option (List ℕ) → List ℕ
xid_of None = []
xid_of (Some x) = x

-- 1 to 128 bytes
abbrev pub IsXid : List ℕ → Type 0
IsXid x = (0 < length x) × (length x ≤ 128)

-- the xid by which a message is coming or going
abbrev pub HasXid : Status → Type 0
HasXid Ready = Unit {0}
HasXid (Coming x) = IsXid x
HasXid (Going x) = IsXid x

abbrev pub enqueue_of : ℕ → List ℕ → Option (List ℕ) → Record
enqueue_of number body xid = record { kind = Enqueue; flagged = false; rid = number; target = 0; xid = xid_of xid; props = []; body = body }

abbrev pub dequeue_of : ℕ → ℕ → Option (List ℕ) → Record
dequeue_of last number xid = record { kind = Dequeue; flagged = false; rid = last; target = number; xid = xid_of xid; props = []; body = [] }

-- the record as the log lays it, where it is alone in its batch
abbrev pub read_at : LogState → Record → Read
read_at l r = read_in (capacity_in l.opening) l.newest (record { what = r; at = l.used; after = l.used + record_length Two r })

-- what the files of a queue's first opening have in common
abbrev pub opening_of : List ℕ → PoolId → Opening
opening_of name home = record { kind = Queue; name = name; home = home; epoch = 1 }

-- ---- ends

abbrev pub end_kind : Bool → Kind
end_kind true = Commit
end_kind false = Abort

abbrev pub end_record : ℕ → End → Record
end_record last e = record { kind = end_kind e.commit; flagged = false; rid = last; target = 0; xid = e.xid; props = []; body = [] }

-- one record for each end, in order
abbrev pub end_records : ℕ → List End → List Record
end_records last ends = map (end_record last) ends

-- the queue after these ends, in order
abbrev pub ended_by : List End → QueueState → QueueState
ended_by [] q = q
ended_by (e ∷ es) q = ended_by es (decided (only e.xid (verdict_if e.commit)) q)

-- and the held records
abbrev pub held_ended : List End → List Held → List Held
held_ended [] hs = hs
held_ended (e ∷ es) hs = held_ended es (ended_held e.xid (verdict_if e.commit) hs)
