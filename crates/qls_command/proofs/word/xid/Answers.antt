use Rattle.std.proofs.Common.{arith, sym}
use Rattle.qls_command.proofs.HexWords.{within-short, within-long}
use Rattle.qls_command.proofs.word.xid.Goals.{then-size-lt1-via-then-size-lt1, then-size-lt1-via-else-size-lt1+then-size-gt-XID_LIMIT}
use Rattle.qls_command.proofs.word.xid.Goals as goal

pub returns-then-size-lt1 : goal.returns-then-size-lt1
returns-then-size-lt1 c = elim c.then-size-lt1.branch [
  | then-size-lt1-via-then-size-lt1 w ↦ sym (within-short 128 c.args.word.now (omega arith))
  | then-size-lt1-via-else-size-lt1+then-size-gt-XID_LIMIT w ↦ sym (within-long 128 c.args.word.now (omega arith))
]
