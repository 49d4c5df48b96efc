use Rattle.qls_epochs.proofs.Trimmed as laws
use Rattle.qls_epochs.proofs.trims.file_past_the_reading_may_go.Goals as goal

pub returns : goal.returns
returns c = record { newest = laws.newest_is; rules = laws.trimmed_rules; past = laws.trimmed_past; reading = laws.trimmed_reading }
