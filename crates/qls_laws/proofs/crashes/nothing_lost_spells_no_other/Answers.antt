use Rattle.qls_laws.proofs.Own.{spells_its_own}
use Rattle.qls_laws.proofs.crashes.nothing_lost_spells_no_other.Goals as goal

pub returns : goal.returns
returns c = record { own = spells_its_own }
