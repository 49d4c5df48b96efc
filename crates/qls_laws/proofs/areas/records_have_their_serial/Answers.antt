use Rattle.qls_laws.proofs.Unmarked.{marked, none_unmarked, held_unmarked, none_behind}
use Rattle.qls_laws.proofs.areas.records_have_their_serial.Goals as goal

pub returns-clause-marked : goal.returns-clause-marked
returns-clause-marked c = marked

pub returns-clause-none : goal.returns-clause-none
returns-clause-none c = none_unmarked

pub returns-clause-held : goal.returns-clause-held
returns-clause-held c = held_unmarked

pub returns-clause-behind : goal.returns-clause-behind
returns-clause-behind c = none_behind
