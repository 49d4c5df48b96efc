-- What a look at a store answers.
use Rattle.std.specs.Prelude.{◌≡◌, ℕ, ◌≤◌, Result, Ok, Err}
use Rattle.qls_site.specs.Content.{Rose}
use Rattle.qls_meaning.specs.Damage.{Damage}
use Rattle.qls_scan.specs.declared.answers.ScanFault.{ScanFault}
use Rattle.qls_scan.specs.declared.answers.ScanFault.TheVariants as scan
use Rattle.qls_reading.specs.declared.fault.LogFault.{LogFault}
use Rattle.qls_reading.specs.declared.fault.LogFault.TheVariants as log
use Rattle.qls_look.specs.declared.fault.OpenFault.{OpenFault}
use Rattle.qls_look.specs.declared.fault.OpenFault.TheVariants.{Failed, Draw, Spent, Memory, Damaged}

-- what the store means, or the first damage; nothing is said where a call failed or memory was wanting
abbrev pub Says : {X : Type 0} → Result X Damage → Result X OpenFault → Type 0
Says m (Err Failed) = Unit {0}
Says m (Err Memory) = Unit {0}
Says m (Err Draw) = ⊥
Says m (Err Spent) = ⊥
Says m (Err (Damaged file rule)) = m ≡ Err (file, rule)
Says m (Ok state) = m ≡ Ok state

-- a look draws no number and takes no file
abbrev pub NeverTakes : {X : Type 0} → Result X OpenFault → Type 0
NeverTakes (Ok state) = Unit {0}
NeverTakes (Err Failed) = Unit {0}
NeverTakes (Err Memory) = Unit {0}
NeverTakes (Err Draw) = ⊥
NeverTakes (Err Spent) = ⊥
NeverTakes (Err (Damaged file rule)) = Unit {0}

-- the count of faults doesn't fall, and Failed is answered only where it rose
pub record LookCauses {X : Type 0} (before now : ℕ) (result : Result X OpenFault) : Type 0 where
  pub kept : before ≤ now
  pub failed : result ≡ Err Failed → Rose before now

-- the same fault, of a scan and of a reading
abbrev pub of_scan : ScanFault → OpenFault
of_scan scan.Failed = Failed
of_scan scan.Memory = Memory
of_scan (scan.Damaged file rule) = Damaged file rule

abbrev pub of_log : LogFault → OpenFault
of_log log.Failed = Failed
of_log log.Memory = Memory
of_log (log.Damaged file rule) = Damaged file rule
