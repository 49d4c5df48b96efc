use Rattle.qls_laws.proofs.Layers.{fair_within}
use Rattle.qls_laws.proofs.crashes.fair_for_the_inner_call.Goals as goal

pub returns : goal.returns
returns c = record { fair = λ areas inner_areas h ys i free. fair_within areas inner_areas h free ys i }
