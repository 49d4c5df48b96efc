use Rattle.qls_laws.proofs.CleanAreas.{same_write, same_sync, same_relocate, same_create, absent_unnamed, clean_same}
use Rattle.qls_laws.proofs.areas.other_calls_leave_the_areas.Goals as goal

pub returns-clause-write : goal.returns-clause-write
returns-clause-write c = same_write

pub returns-clause-sync : goal.returns-clause-sync
returns-clause-sync c = same_sync

pub returns-clause-relocate : goal.returns-clause-relocate
returns-clause-relocate c = same_relocate

pub returns-clause-create : goal.returns-clause-create
returns-clause-create c = same_create

pub returns-clause-absent : goal.returns-clause-absent
returns-clause-absent c = absent_unnamed

pub returns-clause-clean : goal.returns-clause-clean
returns-clause-clean c = clean_same
