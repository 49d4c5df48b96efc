-- Answers that aren't Ok.
use Rattle.std.specs.Prelude.{◌≡◌, ℕ, ◌≤◌, Bool, true, false, Result, Ok, Err}
use Rattle.qls_site.specs.Content.{Rose}
use Rattle.qls_log.specs.declared.fault.LogError.{LogError}
use Rattle.qls_log.specs.declared.fault.LogError.TheVariants as log
use Rattle.qls_queue.specs.declared.fault.QueueError.{QueueError}
use Rattle.qls_queue.specs.declared.fault.QueueError.TheVariants.{Unknown, Locked, Numbers, Failed, Draw, Spent, Memory}

abbrev pub fault_of_log : LogError → QueueError
fault_of_log log.Failed = Failed
fault_of_log log.Draw = Draw
fault_of_log log.Spent = Spent
fault_of_log log.Memory = Memory

-- a refusal leaves the queue open; each other error ends it
abbrev pub is_fault : QueueError → Bool
is_fault Unknown = false
is_fault Locked = false
is_fault Numbers = false
is_fault Failed = true
is_fault Draw = true
is_fault Spent = true
is_fault Memory = true

abbrev pub is_end : {X : Type 0} → Result X QueueError → Bool
is_end (Ok x) = false
is_end (Err e) = is_fault e

-- the counts don't fall, and a fault is answered only where its count rose
pub record QueueCauses {X : Type 0} (sites sites_now draws draws_now : ℕ) (result : Result X QueueError) : Type 0 where
  pub sites_kept : sites ≤ sites_now
  pub draws_kept : draws ≤ draws_now
  pub failed : result ≡ Err Failed → Rose sites sites_now
  pub draw : result ≡ Err Draw → Rose draws draws_now

-- the same of a call that takes no serials
pub record SiteCauses {X : Type 0} (sites sites_now : ℕ) (result : Result X QueueError) : Type 0 where
  pub kept : sites ≤ sites_now
  pub failed : result ≡ Err Failed → Rose sites sites_now
