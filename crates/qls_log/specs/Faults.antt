-- Answers that aren't Ok, and counts.
use Rattle.std.specs.Prelude.{◌≡◌, ℕ, ◌+◌, ◌≤◌, Option, Some, None, Result, Ok, Err}
use Rattle.qls_site.specs.declared.site.SiteError.{SiteError}
use Rattle.qls_site.specs.declared.site.SiteError.TheVariants as site
use Rattle.qls_site.specs.Content.{Content, Rose}
use Rattle.qls_pool.specs.declared.fault.TakeFault.{TakeFault}
use Rattle.qls_pool.specs.declared.fault.TakeFault.TheVariants as take
use Rattle.qls_log.specs.declared.fault.LogError.{LogError}
use Rattle.qls_log.specs.declared.fault.LogError.TheVariants.{Failed, Draw, Spent, Memory}

abbrev pub fault_of_site : SiteError → LogError
fault_of_site site.Failed = Failed
fault_of_site site.Memory = Memory

abbrev pub fault_of_take : TakeFault → LogError
fault_of_take take.Failed = Failed
fault_of_take take.Draw = Draw
fault_of_take take.Spent = Spent
fault_of_take take.Memory = Memory

-- the counts don't fall, and a fault is answered only where its count rose
pub record LogCauses {X : Type 0} (sites sites_now draws draws_now : ℕ) (result : Result X LogError) : Type 0 where
  pub sites_kept : sites ≤ sites_now
  pub draws_kept : draws ≤ draws_now
  pub failed : result ≡ Err Failed → Rose sites sites_now
  pub draw : result ≡ Err Draw → Rose draws draws_now

-- the same of a call that takes no serials
pub record SiteCauses {X : Type 0} (sites sites_now : ℕ) (result : Result X LogError) : Type 0 where
  pub kept : sites ≤ sites_now
  pub failed : result ≡ Err Failed → Rose sites sites_now
  pub no_draw : result ≡ Err Draw → ⊥
  pub no_end : result ≡ Err Spent → ⊥

-- where the content is told and all went well, n calls were counted, else n at most
abbrev pub Counts : {X E : Type 0} → Option Content → Result X E → ℕ → ℕ → ℕ → Type 0
Counts (Some c) (Ok x) n before now = now ≡ before + n
Counts (Some c) (Err e) n before now = (before ≤ now) × (now ≤ before + n)
Counts None result n before now = (before ≤ now) × (now ≤ before + n)
