-- The statuses of a run that ended early.
use Rattle.std.specs.Prelude.{◌≡◌, ℕ, Bool, true, false}
use Rattle.qls_site.specs.declared.site.SiteError.{SiteError}
use Rattle.qls_site.specs.declared.site.SiteError.TheVariants as site
use Rattle.qls_top.specs.declared.fault.Fault.{Fault}
use Rattle.qls_journals.specs.declared.cause.Cause.{Cause}
use Rattle.qls_journals.specs.declared.cause.Cause.TheVariants as cause
use Rattle.qls_look.specs.declared.fault.OpenFault.{OpenFault}
use Rattle.qls_look.specs.declared.fault.OpenFault.TheVariants as opening
use Rattle.qls_top.specs.declared.fault.Fault.TheVariants.{Damaged, Source, Site, Memory, TooLong, Draw, Spent}

abbrev pub status_of : Fault → ℕ
status_of Damaged = 3
status_of Source = 4
status_of Site = 5
status_of Memory = 6
status_of TooLong = 7
status_of Draw = 8
status_of Spent = 9

abbrev pub fault_of_site : SiteError → Fault
fault_of_site site.Failed = Site
fault_of_site site.Memory = Memory

abbrev pub fault_of_cause : Cause → Fault
fault_of_cause cause.Failed = Site
fault_of_cause cause.Draw = Draw
fault_of_cause cause.Spent = Spent
fault_of_cause cause.Memory = Memory

abbrev pub fault_of_opening : OpenFault → Fault
fault_of_opening opening.Failed = Site
fault_of_opening opening.Draw = Draw
fault_of_opening opening.Spent = Spent
fault_of_opening opening.Memory = Memory
fault_of_opening (opening.Damaged file rule) = Damaged

-- the faults of a call on the site
abbrev pub is_of_site : Fault → Bool
is_of_site Site = true
is_of_site Memory = true
is_of_site Source = false
is_of_site TooLong = false
is_of_site Draw = false
is_of_site Spent = false
is_of_site Damaged = false

abbrev pub IsOfSite : Fault → Type 0
IsOfSite f = is_of_site f ≡ true

-- the faults of a line that is run
abbrev pub is_of_line : Fault → Bool
is_of_line Site = true
is_of_line Memory = true
is_of_line Draw = true
is_of_line Spent = true
is_of_line Source = false
is_of_line TooLong = false
is_of_line Damaged = false

abbrev pub IsOfLine : Fault → Type 0
IsOfLine f = is_of_line f ≡ true

-- the faults of lines that are read and run
abbrev pub is_of_lines : Fault → Bool
is_of_lines Site = true
is_of_lines Memory = true
is_of_lines Draw = true
is_of_lines Spent = true
is_of_lines Source = true
is_of_lines TooLong = true
is_of_lines Damaged = false

abbrev pub IsOfLines : Fault → Type 0
IsOfLines f = is_of_lines f ≡ true

-- the faults of a show
abbrev pub is_of_show : Fault → Bool
is_of_show Site = true
is_of_show Memory = true
is_of_show Damaged = true
is_of_show Draw = false
is_of_show Spent = false
is_of_show Source = false
is_of_show TooLong = false

abbrev pub IsOfShow : Fault → Type 0
IsOfShow f = is_of_show f ≡ true
