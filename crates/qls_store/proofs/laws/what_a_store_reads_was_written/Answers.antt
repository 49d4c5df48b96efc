use Rattle.qls_store.proofs.MeansSettled.{clean_whole}
use Rattle.qls_store.proofs.laws.what_a_store_reads_was_written.Goals as goal

pub returns : goal.returns
returns c = record { written = λ areas h s i f w a. c.what_journals_read_was_written.ensures.written areas h s.journals i.journals f (clean_whole s.journals _ w) a }
