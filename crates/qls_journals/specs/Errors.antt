-- What the errors of a queue and of a log are here: refusals, or what ends the journals.
use Rattle.std.specs.Prelude.{Result, Ok, Err}
use Rattle.qls_model.specs.declared.machine.Refusal.{Refusal}
use Rattle.qls_model.specs.declared.machine.Refusal.TheVariants as refusal
use Rattle.qls_log.specs.declared.fault.LogError.{LogError}
use Rattle.qls_log.specs.declared.fault.LogError.TheVariants as log
use Rattle.qls_queue.specs.declared.fault.QueueError.{QueueError}
use Rattle.qls_queue.specs.declared.fault.QueueError.TheVariants as queue
use Rattle.qls_journals.specs.declared.cause.Cause.{Cause}
use Rattle.qls_journals.specs.declared.cause.Cause.TheVariants.{Failed, Draw, Spent, Memory}

abbrev pub cause_by : LogError → Cause
cause_by log.Failed = Failed
cause_by log.Draw = Draw
cause_by log.Spent = Spent
cause_by log.Memory = Memory

abbrev pub by_error : QueueError → Result Refusal Cause
by_error queue.Unknown = Ok refusal.Message
by_error queue.Locked = Ok refusal.Locked
by_error queue.Numbers = Ok refusal.Spent
by_error queue.Failed = Err Failed
by_error queue.Draw = Err Draw
by_error queue.Spent = Err Spent
by_error queue.Memory = Err Memory
