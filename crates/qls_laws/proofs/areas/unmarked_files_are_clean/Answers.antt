use Rattle.qls_laws.proofs.CleanAreas.{clean_full, clean_bare, clean_there, clean_area, newly_unmarked}
use Rattle.qls_laws.proofs.areas.unmarked_files_are_clean.Goals as goal

pub returns-clause-full : goal.returns-clause-full
returns-clause-full c = clean_full

pub returns-clause-bare : goal.returns-clause-bare
returns-clause-bare c = clean_bare

pub returns-clause-there : goal.returns-clause-there
returns-clause-there c = clean_there

pub returns-clause-area : goal.returns-clause-area
returns-clause-area c = clean_area

pub returns-clause-newly : goal.returns-clause-newly
returns-clause-newly c = newly_unmarked
