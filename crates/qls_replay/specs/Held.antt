-- What the records of a queue leave held: the messages of its replay, each with the files of its enqueue.
use Rattle.std.specs.Prelude.{ℕ, Bool, false, ◌&&◌, ◌==◌, List, [], ◌∷◌, ◌++◌, map, Option, Some, None}
use Rattle.std.specs.List.{filter_map}
use Rattle.qls_model.specs.Machine.{is_ready}
use Rattle.qls_model.specs.Messages.{status_of, left_by, only}
use Rattle.qls_model.specs.declared.machine.Message.{Message}
use Rattle.qls_model.specs.declared.machine.Verdict.{Verdict}
use Rattle.qls_model.specs.declared.machine.Verdict.TheVariants as verdict
use Rattle.qls_record.specs.declared.Kind.{Kind}
use Rattle.qls_record.specs.declared.Kind.TheVariants.{Enqueue, Dequeue, Commit, Abort, Filler}
use Rattle.qls_record.specs.Record.{is_enqueue}
use Rattle.qls_enqmap.specs.declared.Held.{Held}
use Rattle.qls_enqmap.specs.Records.{AllBelow, RidsRise}
use Rattle.qls_txnmap.specs.Pending.{Table}
use Rattle.qls_replay.specs.Ops.{Agrees}
use Rattle.qls_meaning.specs.Reading.{Read}
use Rattle.qls_meaning.specs.Replay.{xid_in, left_by_take}

-- the message of a held record
abbrev pub message_of : Held → Message
message_of h = record { number = h.rid; body = h.body; status = h.status }

abbrev pub messages_of : List Held → List Message
messages_of hs = map message_of hs

-- an enqueue, held with its files
abbrev pub held_of : Read → Held
held_of r = record { rid = r.what.rid; status = status_of (xid_in r.what.xid); body = r.what.body; file = r.file; end_file = r.end_file }

-- what is left of a held record where this is left of its message: its files stay
abbrev pub held_as : Held → Option Message → Option Held
held_as h None = None
held_as h (Some m) = Some (record h { status = m.status })

abbrev pub left_held : (Message → Option Message) → List Held → List Held
left_held change hs = filter_map (λ h. held_as h (change (message_of h))) hs

-- what the end of x leaves
abbrev pub ended_held : List ℕ → Verdict → List Held → List Held
ended_held x v hs = left_held (λ m. left_by (only x v) m.status m) hs

-- what is found may be taken
abbrev pub may_take : Option Held → Bool
may_take None = false
may_take (Some h) = is_ready h.status

-- the held records after one more record
abbrev pub held_after : Kind → Read → List Held → List Held
held_after Enqueue r hs = hs ++ held_of r ∷ []
held_after Dequeue r hs = left_held (left_by_take r.what.target (xid_in r.what.xid)) hs
held_after Commit r hs = ended_held r.what.xid verdict.Commit hs
held_after Abort r hs = ended_held r.what.xid verdict.Abort hs
held_after Filler r hs = hs

-- the held records after all these records
abbrev pub held_after_all : List Read → List Held → List Held
held_after_all [] hs = hs
held_after_all (r ∷ rs) hs = held_after_all rs (held_after r.what.kind r hs)

-- the held record is that of this enqueue: its id and its files are the enqueue's
abbrev pub is_of : Held → Read → Bool
is_of h r = is_enqueue r.what.kind && r.what.rid == h.rid && r.file == h.file && r.end_file == h.end_file

-- an enqueue's id is above those that are held
abbrev pub IsAbove : Kind → ℕ → List Held → Type 0
IsAbove Enqueue rid hs = AllBelow rid hs
IsAbove Dequeue rid hs = Unit {0}
IsAbove Commit rid hs = Unit {0}
IsAbove Abort rid hs = Unit {0}
IsAbove Filler rid hs = Unit {0}

-- a queue's records replayed: what is held, and the operations of pending transactions
pub record Replayed : Type 0 where
  pub held : List Held
  pub txns : Table

-- the ids rise, and the operations are just those that the held records show
pub record IsSound (hs : List Held) (t : Table) : Type 0 where
  pub rising : RidsRise hs
  pub agrees : Agrees hs t
