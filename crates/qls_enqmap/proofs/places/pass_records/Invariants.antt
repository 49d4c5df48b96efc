use Rattle.std.proofs.Common.{◌+◌}
use Rattle.qls_enqmap.specs.Slots.{IsPlace, before}
use Rattle.qls_enqmap.proofs.places.pass_records.Given as goal

abbrev pub invariant-loop-passed : goal.invariant-loop-passed
invariant-loop-passed l = IsPlace l.slots.entries (before l.slots.entries l.from + l._passed) l.place
