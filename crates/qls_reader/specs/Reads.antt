-- Reads on a site: the disk stays.
use Rattle.std.specs.Prelude.{◌≡◌, ℕ, ◌≤◌, ◌++◌, replicate, Result, Err}
use Rattle.qls_site.specs.Content.{Content, Rose}
use Rattle.qls_reader.specs.declared.fault.ReadFault.{ReadFault}
use Rattle.qls_reader.specs.declared.fault.ReadFault.TheVariants.{Failed}

-- the moment that is now stays, and each read adds it once more
pub record OnlyReads (old new : Content) : Type 0 where
  pub now : new.now ≡ old.now
  pub count : ℕ
  pub moments : new.moments ≡ old.moments ++ replicate count old.now

-- the count of faults doesn't fall, and Failed is answered only where it rose
pub record ReadCauses {X : Type 0} (before now : ℕ) (result : Result X ReadFault) : Type 0 where
  pub kept : before ≤ now
  pub failed : result ≡ Err Failed → Rose before now
