use Rattle.qls_journals.proofs.TestedOpening.{found_fits}
use Rattle.qls_journals.proofs.opening_tests.open_again.Goals as goal

pub open-requires-2-clause-fit : goal.open-requires-2-clause-fit
open-requires-2-clause-fit c = found_fits _ _ c.in_ok-pool.pool c.in_ok-pool.ensures.opened c.in_ok-greatest.ensures.sound.empties
