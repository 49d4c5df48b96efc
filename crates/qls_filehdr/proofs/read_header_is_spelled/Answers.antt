use Rattle.qls_filehdr.proofs.HeaderBack.{header_of_spells}
use Rattle.qls_filehdr.proofs.read_header_is_spelled.Goals as goal

pub returns : goal.returns
returns c = header_of_spells
