-- What a queue answers of its messages.
use Rattle.std.specs.Prelude.{◌≡◌, ℕ, Bool, List, Option, Some, None, Result, Ok, Err, option_map, if◌then◌else◌}
use Rattle.std.specs.List.{list_any}
use Rattle.qls_model.specs.Messages.{message_at}
use Rattle.qls_model.specs.Machine.{is_ready}
use Rattle.qls_model.specs.declared.machine.Status.{Status}
use Rattle.qls_model.specs.declared.machine.Message.{Message}
use Rattle.qls_model.specs.declared.machine.QueueState.{QueueState}
use Rattle.qls_replay.specs.Ops.{is_moved}
use Rattle.qls_queue.specs.declared.fault.QueueError.{QueueError}
use Rattle.qls_queue.specs.declared.fault.QueueError.TheVariants.{Unknown, Locked, Memory}

-- only a ready message is taken
abbrev pub take_answer : Option Message → Result (Unit {0}) QueueError
take_answer None = Err Unknown
take_answer (Some m) = if is_ready m.status then Ok tt else Err Locked

abbrev pub body_at : QueueState → ℕ → Option (List ℕ)
body_at q number = option_map (λ m. m.body) (message_at q.messages number)

-- a copy of what is found, Unknown exactly where nothing is; memory may be wanting for the copy
abbrev pub BodyAnswer : Option (List ℕ) → Result (List ℕ) QueueError → Type 0
BodyAnswer None result = result ≡ Err Unknown
BodyAnswer (Some body) (Ok copy) = copy ≡ body
BodyAnswer (Some body) (Err e) = e ≡ Memory

-- a message's number and status
abbrev pub numbered : Message → ℕ × Status
numbered m = (m.number, m.status)

-- a message is coming or going by x
abbrev pub is_pending : List ℕ → QueueState → Bool
is_pending x q = list_any (λ m. is_moved x m.status) q.messages
