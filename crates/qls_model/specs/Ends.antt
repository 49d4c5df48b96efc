-- What the end of a transaction leaves of a status, and of messages.
use Rattle.std.specs.Prelude.{ℕ, Bool, List, Option, Some, None, is_some}
use Rattle.std.specs.List.{filter_map}
use Rattle.qls_model.specs.Messages.{left_by}
use Rattle.qls_model.specs.declared.machine.Status.{Status}
use Rattle.qls_model.specs.declared.machine.Status.TheVariants.{Ready, Coming, Going}
use Rattle.qls_model.specs.declared.machine.Message.{Message}
use Rattle.qls_model.specs.declared.machine.Verdict.{Verdict}
use Rattle.qls_model.specs.declared.machine.Verdict.TheVariants.{Commit, Abort, Doubt}

abbrev pub coming_left : List ℕ → Verdict → Option Status
coming_left x Commit = Some Ready
coming_left x Abort = None
coming_left x Doubt = Some (Coming x)

abbrev pub going_left : List ℕ → Verdict → Option Status
going_left x Commit = None
going_left x Abort = Some Ready
going_left x Doubt = Some (Going x)

-- the status that is left of this one where each xid has a verdict
abbrev pub status_left : (List ℕ → Verdict) → Status → Option Status
status_left verdict Ready = Some Ready
status_left verdict (Coming x) = coming_left x (verdict x)
status_left verdict (Going x) = going_left x (verdict x)

-- the message with the status, where there is one
abbrev pub with_status : Message → Option Status → Message
with_status m None = m
with_status m (Some s) = record m { status = s }

abbrev pub with_status_left : (List ℕ → Verdict) → Message → Message
with_status_left verdict m = with_status m (status_left verdict m.status)

abbrev pub stays : (List ℕ → Verdict) → Message → Bool
stays verdict m = is_some (status_left verdict m.status)

abbrev pub messages_left : (List ℕ → Verdict) → List Message → List Message
messages_left verdict ms = filter_map (λ m. left_by verdict m.status m) ms
