use Rattle.qls_laws.proofs.CleanAreas.{clean_write, clean_sync, clean_relocate, clean_create, clean_create_new}
use Rattle.qls_laws.proofs.areas.clean_areas_stay_clean.Goals as goal

pub returns-clause-write : goal.returns-clause-write
returns-clause-write c = clean_write

pub returns-clause-sync : goal.returns-clause-sync
returns-clause-sync c = clean_sync

pub returns-clause-relocate : goal.returns-clause-relocate
returns-clause-relocate c = clean_relocate

pub returns-clause-create : goal.returns-clause-create
returns-clause-create c = clean_create

pub returns-clause-create_new : goal.returns-clause-create_new
returns-clause-create_new c = clean_create_new
