-- The counts of faults of a call on the site and the serials.
use Rattle.std.specs.Prelude.{◌≡◌, ℕ, ◌≤◌, Result, Err}
use Rattle.qls_site.specs.Content.{Rose}
use Rattle.qls_top.specs.declared.fault.Fault.{Fault}
use Rattle.qls_top.specs.declared.fault.Fault.TheVariants as fault

-- no count falls, and a fault is answered only where its count rose
pub record CausesOfLine {X : Type 0} (sites sites_now draws draws_now : ℕ) (result : Result X Fault) : Type 0 where
  pub sites_kept : sites ≤ sites_now
  pub draws_kept : draws ≤ draws_now
  pub site : result ≡ Err fault.Site → Rose sites sites_now
  pub draw : result ≡ Err fault.Draw → Rose draws draws_now
