-- What the calls answer.
use Rattle.std.specs.Prelude.{◌≡◌, ℕ, ◌≤◌, ◌+◌, ◌-◌, ◌^◌, ◌==◌, Bool, true, false, Result, Ok, Err, Option, Some, None, if◌then◌else◌}
use Rattle.qls_model.specs.Messages.{message_at}
use Rattle.qls_model.specs.Machine.{is_ready}
use Rattle.qls_model.specs.declared.machine.Message.{Message}
use Rattle.qls_model.specs.declared.machine.QueueState.{QueueState}
use Rattle.qls_model.specs.declared.machine.Refusal.{Refusal}
use Rattle.qls_model.specs.declared.machine.Refusal.TheVariants as refusal
use Rattle.qls_site.specs.Content.{Rose}
use Rattle.qls_journals.specs.declared.cause.Cause.{Cause}
use Rattle.qls_journals.specs.declared.cause.Cause.TheVariants.{Failed, Draw, Spent, Memory}

-- a put gives the number after the last one, up to the greatest
abbrev pub put_answer : QueueState → Result ℕ Refusal
put_answer q = if q.last == 2 ^ 62 - 1 then Err refusal.Spent else Ok (q.last + 1)

-- a take meets a ready message
abbrev pub take_by : Option Message → Result (Unit {0}) Refusal
take_by None = Err refusal.Message
take_by (Some m) = if is_ready m.status then Ok tt else Err refusal.Locked

abbrev pub take_answer : QueueState → ℕ → Result (Unit {0}) Refusal
take_answer q number = take_by (message_at q.messages number)

-- where the site and the serials failed or memory was wanting one number may be without a file
abbrev pub is_exact : {X : Type 0} → Result X Cause → Bool
is_exact (Ok x) = true
is_exact (Err Spent) = true
is_exact (Err Failed) = false
is_exact (Err Draw) = false
is_exact (Err Memory) = false

-- no count falls, and a fault is answered only where its count rose
pub record StoreCauses {X : Type 0} (sites sites_now draws draws_now : ℕ) (result : Result X Cause) : Type 0 where
  pub sites_kept : sites ≤ sites_now
  pub draws_kept : draws ≤ draws_now
  pub failed : result ≡ Err Failed → Rose sites sites_now
  pub draw : result ≡ Err Draw → Rose draws draws_now

-- the same of a call without serials
pub record SiteCauses {X : Type 0} (sites sites_now : ℕ) (result : Result X Cause) : Type 0 where
  pub kept : sites ≤ sites_now
  pub failed : result ≡ Err Failed → Rose sites sites_now
  pub no_draw : result ≡ Err Draw → ⊥
  pub no_end : result ≡ Err Spent → ⊥
