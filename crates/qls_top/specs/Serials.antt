-- When the numbers drawn are just the serials of the files that came into use.
use Rattle.std.specs.Prelude.{Bool, true, false, Result, Ok, Err}
use Rattle.qls_top.specs.declared.fault.Fault.{Fault}
use Rattle.qls_top.specs.declared.fault.Fault.TheVariants as fault

-- one number may be without a file where a site or the serials failed, or memory was wanting
abbrev pub is_exact : {X : Type 0} → Result X Fault → Bool
is_exact (Ok x) = true
is_exact (Err fault.Spent) = true
is_exact (Err fault.Source) = true
is_exact (Err fault.TooLong) = true
is_exact (Err fault.Damaged) = true
is_exact (Err fault.Site) = false
is_exact (Err fault.Draw) = false
is_exact (Err fault.Memory) = false
