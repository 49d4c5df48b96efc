use Rattle.qls_laws.proofs.Settled as laws
use Rattle.qls_laws.proofs.states.meaning_is_settled.Goals as goal

pub returns : goal.returns
returns c = record { settled = laws.meaning_is_settled }
