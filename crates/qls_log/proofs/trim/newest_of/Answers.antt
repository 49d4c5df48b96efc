use Rattle.qls_log.proofs.Trimmed.{newest_at}
use Rattle.qls_log.proofs.trim.newest_of.Goals as goal

pub returns-clause-epoch : goal.returns-clause-epoch
returns-clause-epoch c = (newest_at c.args.files.now c.index-files-files.result c.requires.some c.index-files-files.is).0

pub returns-clause-number : goal.returns-clause-number
returns-clause-number c = (newest_at c.args.files.now c.index-files-files.result c.requires.some c.index-files-files.is).1
