use Rattle.std.proofs.Common.{arith}
use Rattle.qls_blocks.proofs.Lengths.{before_end}
use Rattle.qls_blocks.proofs.spell.records.Goals as goal

pub serial_of-serial-requires-clause-held : goal.serial_of-serial-requires-clause-held
serial_of-serial-requires-clause-held c =
    c.requires.held c.loop-entry.place (before_end c.args.entries.now c.loop-entry.entry-index c.loop-entry.place c.args.end c.loop-entry-test.true (omega arith))
