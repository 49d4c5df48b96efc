use Rattle.qls_epochs.proofs.Joined as laws
use Rattle.qls_epochs.proofs.joins.later_epoch_goes_on.Goals as goal

pub returns : goal.returns
returns c = record { rules = laws.joined_rules; reading = laws.joined_reading; past = laws.joined_past; whole = laws.joined_whole }
