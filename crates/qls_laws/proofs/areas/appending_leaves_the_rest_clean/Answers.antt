use Rattle.qls_site.specs.Disk.{file_of}
use Rattle.qls_laws.proofs.CleanAreas.{later_clean, free_clean, front_write, front_sync, areas_write, areas_sync}
use Rattle.qls_laws.proofs.areas.appending_leaves_the_rest_clean.Goals as goal

pub returns-clause-later : goal.returns-clause-later
returns-clause-later c = λ id from more d. later_clean from more (file_of id d)

pub returns-clause-free : goal.returns-clause-free
returns-clause-free c = free_clean

pub returns-clause-write : goal.returns-clause-write
returns-clause-write c = front_write

pub returns-clause-sync : goal.returns-clause-sync
returns-clause-sync c = front_sync

pub returns-clause-areas_write : goal.returns-clause-areas_write
returns-clause-areas_write c = areas_write

pub returns-clause-areas_sync : goal.returns-clause-areas_sync
returns-clause-areas_sync c = areas_sync
