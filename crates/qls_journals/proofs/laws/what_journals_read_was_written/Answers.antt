use Rattle.qls_journals.proofs.ReadWritten.{reads_were_written}
use Rattle.qls_journals.proofs.laws.what_journals_read_was_written.Goals as goal

pub returns : goal.returns
returns c = record { written = reads_were_written c.what_is_read_was_written.ensures.written }
