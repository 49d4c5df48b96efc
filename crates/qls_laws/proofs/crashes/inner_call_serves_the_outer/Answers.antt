use Rattle.qls_laws.proofs.HistoryLaws.{unwritten_within, AllUnmarked-within}
use Rattle.qls_laws.proofs.crashes.inner_call_serves_the_outer.Goals as goal

pub returns-clause-unwritten : goal.returns-clause-unwritten
returns-clause-unwritten c = unwritten_within

pub returns-clause-unmarked : goal.returns-clause-unmarked
returns-clause-unmarked c = AllUnmarked-within
