use Rattle.qls_reading.proofs.Others.{stands_kept, reads_kept}
use Rattle.qls_reading.proofs.laws.other_logs_leave_what_was_read.Goals as goal

pub returns : goal.returns
returns c = record { stands = λ o log m n step other. stands_kept o log m n step other; reads = λ o log records m n step other. reads_kept o log m n step other records }
