use Rattle.qls_laws.proofs.CrashReading.{crash_reads_prefix}
use Rattle.qls_laws.proofs.crashes.image_reads_prefix.Goals as goal

pub returns : goal.returns
returns c = record { prefix = crash_reads_prefix }
