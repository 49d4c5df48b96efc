-- What small lists of records make.
use Rattle.std.proofs.Common.{◌≡◌, ℕ, List, [], ◌∷◌, ◌++◌, refl}
use Rattle.std.specs.List.{filter_map}
use Rattle.qls_model.specs.declared.machine.Status.TheVariants.{Ready, Coming, Going}
use Rattle.qls_model.specs.declared.machine.Message.{Message}
use Rattle.qls_model.specs.declared.machine.QueueState.{QueueState}
use Rattle.qls_model.specs.declared.machine.Phase.TheVariants as phase
use Rattle.qls_model.specs.Machine.{MachineState}
use Rattle.qls_record.specs.declared.Kind.TheVariants.{Commit, Abort}
use Rattle.qls_record.specs.Record.{Record}
use Rattle.qls_decide.specs.declared.ListEntry.{ListEntry}
use Rattle.qls_decide.specs.declared.ListState.TheVariants.{Prepared, OnePhase, DecidedCommit, DecidedAbort}
use Rattle.qls_meaning.specs.Replay.{queue_after, entries_after}
use Rattle.qls_meaning.specs.Meaning.{in_doubt, meaning_of}
use Rattle.qls_meaning.proofs.Small.{plain, put, take_of, filler, by, flagged, spelled, queue_file, list_file, queue, prepared_list}

-- ---- a queue

-- the messages after these records, in a queue whose last number was 3
abbrev after : List Record → QueueState
after rs = queue_after rs (record { name = []; last = 3; messages = [] })

abbrev holding : ℕ → List Message → QueueState
holding last ms = record { name = []; last = last; messages = ms }

abbrev ready : ℕ → Message
ready n = record { number = n; body = []; status = Ready }

abbrev coming : ℕ → ℕ → Message
coming n x = record { number = n; body = []; status = Coming (x ∷ []) }

abbrev going : ℕ → ℕ → Message
going n x = record { number = n; body = []; status = Going (x ∷ []) }

puts : after (put 4 ∷ by 1 (put 5) ∷ filler 5 ∷ []) ≡ holding 5 (ready 4 ∷ coming 5 1 ∷ [])
puts = refl

-- without a record the last number is that of the oldest file's header
numbers_go_on : after (filler 3 ∷ []) ≡ holding 3 []
numbers_go_on = refl

takes : after (put 4 ∷ put 5 ∷ take_of 5 4 ∷ by 2 (take_of 5 5) ∷ []) ≡ holding 5 (going 5 2 ∷ [])
takes = refl

-- a dequeue leaves a message that isn't ready, and a number that isn't there
leaves_coming : after (by 1 (put 4) ∷ take_of 4 4 ∷ by 2 (take_of 4 4) ∷ take_of 4 9 ∷ []) ≡ holding 4 (coming 4 1 ∷ [])
leaves_coming = refl

leaves_going : after (put 4 ∷ by 1 (take_of 4 4) ∷ by 2 (take_of 4 4) ∷ take_of 4 4 ∷ []) ≡ holding 4 (going 4 1 ∷ [])
leaves_going = refl

-- the end of one xid leaves the others
commits : after (by 1 (put 4) ∷ by 2 (put 5) ∷ put 6 ∷ by 1 (take_of 6 6) ∷ by 1 (plain Commit 6) ∷ []) ≡ holding 6 (ready 4 ∷ coming 5 2 ∷ [])
commits = refl

aborts : after (by 1 (put 4) ∷ by 2 (put 5) ∷ put 6 ∷ by 1 (take_of 6 6) ∷ by 1 (plain Abort 6) ∷ []) ≡ holding 6 (coming 5 2 ∷ ready 6 ∷ [])
aborts = refl

-- ---- the prepared list

abbrev entries : List Record → List ListEntry
entries rs = entries_after rs []

-- entries stand in byte order
both_ways : entries (by 2 (put 1) ∷ by 1 (flagged (put 2)) ∷ []) ≡ record { xid = 1 ∷ []; rid = 2; state = OnePhase } ∷ record { xid = 2 ∷ []; rid = 1; state = Prepared } ∷ []
both_ways = refl

decides : entries (by 1 (put 1) ∷ flagged (by 1 (take_of 1 1)) ∷ []) ≡ record { xid = 1 ∷ []; rid = 1; state = DecidedCommit } ∷ []
decides = refl

decides_abort : entries (by 1 (put 1) ∷ by 1 (take_of 1 1) ∷ []) ≡ record { xid = 1 ∷ []; rid = 1; state = DecidedAbort } ∷ []
decides_abort = refl

-- an entry is decided once
decided_once : entries (by 1 (put 1) ∷ flagged (by 1 (take_of 1 1)) ∷ by 1 (take_of 1 1) ∷ []) ≡ record { xid = 1 ∷ []; rid = 1; state = DecidedCommit } ∷ []
decided_once = refl

-- the target and the xid are those of the entry
other_target : entries (by 1 (put 1) ∷ by 2 (put 2) ∷ flagged (by 1 (take_of 2 2)) ∷ []) ≡ record { xid = 1 ∷ []; rid = 1; state = Prepared } ∷ record { xid = 2 ∷ []; rid = 2; state = Prepared } ∷ []
other_target = refl

-- a later enqueue replaces the entry, a commit ends it, and an abort and an enqueue without xid say nothing
replaced : entries (by 1 (put 1) ∷ by 1 (take_of 1 1) ∷ by 1 (put 2) ∷ by 1 (plain Abort 2) ∷ put 3 ∷ []) ≡ record { xid = 1 ∷ []; rid = 2; state = Prepared } ∷ []
replaced = refl

ends : entries (by 1 (put 1) ∷ by 1 (plain Commit 1) ∷ []) ≡ []
ends = refl

-- ---- both together

prepared_is_in_doubt : filter_map in_doubt (entries (by 1 (put 1) ∷ [])) ≡ record { xid = 1 ∷ []; phase = phase.Prepared } ∷ []
prepared_is_in_doubt = refl

one_phase_is_not : filter_map in_doubt (entries (flagged (by 1 (put 1)) ∷ [])) ≡ []
one_phase_is_not = refl

-- a queue with a put by xid 1 and one by xid 2, and a list with this record for xid 1
abbrev pending_two : Record → MachineState
pending_two r = meaning_of (prepared_list (list_file 1 1 9 0 4096 (spelled 9 r) ∷ []) ∷ queue (queue_file 1 1 7 3 4096 (spelled 7 (by 1 (put 4)) ++ spelled 7 (by 2 (put 5))) ∷ []) ∷ [])

in_doubt_stays : pending_two (by 1 (put 1)) ≡ record { queues = holding 5 (coming 4 1 ∷ []) ∷ []; xids = record { xid = 1 ∷ []; phase = phase.Prepared } ∷ [] }
in_doubt_stays = refl

one_phase_aborts : pending_two (flagged (by 1 (put 1))) ≡ record { queues = holding 5 [] ∷ []; xids = [] }
one_phase_aborts = refl

-- a queue whose messages are all gone with their files goes on with its numbers
numbers_are_kept : meaning_of (queue (queue_file 2 1 8 3 4096 (spelled 8 (filler 3)) ∷ []) ∷ []) ≡ record { queues = holding 3 [] ∷ []; xids = [] }
numbers_are_kept = refl
