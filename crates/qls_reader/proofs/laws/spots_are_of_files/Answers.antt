use Rattle.qls_reader.proofs.Stream.{begin_there}
use Rattle.qls_reader.proofs.Ending.{end_file, end_place}
use Rattle.qls_reader.proofs.laws.spots_are_of_files.Goals as goal

pub returns-clause-begin : goal.returns-clause-begin
returns-clause-begin c = begin_there

pub returns-clause-file : goal.returns-clause-file
returns-clause-file c = end_file

pub returns-clause-place : goal.returns-clause-place
returns-clause-place c = end_place
