use Rattle.qls_blocks.proofs.Stream.{spelled_behind, placed-laid, places-laid, first_in-shifted, rid_before-shifted}
use Rattle.qls_blocks.proofs.laws.batch_over_files.Goals as goal

pub returns-clause-spelled : goal.returns-clause-spelled
returns-clause-spelled c = spelled_behind

pub returns-clause-placed : goal.returns-clause-placed
returns-clause-placed c = placed-laid

pub returns-clause-places : goal.returns-clause-places
returns-clause-places c = places-laid

pub returns-clause-first : goal.returns-clause-first
returns-clause-first c = first_in-shifted

pub returns-clause-rid : goal.returns-clause-rid
returns-clause-rid c = rid_before-shifted
