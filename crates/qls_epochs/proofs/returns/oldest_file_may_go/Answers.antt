use Rattle.qls_epochs.proofs.Oldest as laws
use Rattle.qls_epochs.proofs.returns.oldest_file_may_go.Goals as goal

pub returns : goal.returns
returns c = record { whole = laws.returned_is_whole; reading = laws.returned_reads }
