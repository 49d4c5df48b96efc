use Rattle.qls_laws.proofs.Returned as laws
use Rattle.qls_laws.proofs.returns.oldest_file_may_go.Goals as goal

pub returns : goal.returns
returns c = record { whole = laws.returned_is_whole; reading = laws.returned_reads }
