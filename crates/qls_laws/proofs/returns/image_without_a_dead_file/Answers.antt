use Rattle.qls_laws.proofs.GoingBack.{file_goes_back}
use Rattle.qls_laws.proofs.returns.image_without_a_dead_file.Goals as goal

pub returns : goal.returns
returns c = record { back = λ before after f part kib. file_goes_back before f part kib after }
