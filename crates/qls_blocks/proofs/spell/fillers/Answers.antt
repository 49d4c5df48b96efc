use Rattle.std.proofs.Common.{arith}
use Rattle.qls_blocks.specs.Entries.{record_of}
use Rattle.qls_blocks.proofs.Lengths.{before_filler}
use Rattle.qls_blocks.proofs.Spelling.{filler_length, filler_spelled}
use Rattle.qls_blocks.proofs.spell.fillers.Goals as goal

pub serial_of-serial-requires-clause-held : goal.serial_of-serial-requires-clause-held
serial_of-serial-requires-clause-held c =
    c.requires.held c.loop.place (before_filler c.loop.counter c.args.count c.loop.place c.args.end 0 (record_of c.args.filler.now) c.loop-test.true (omega arith))

pub overflow_add-place : goal.overflow_add-place
overflow_add-place c =
    let rest = filler_length c.args.count c.loop.counter c.loop.place c.length-place.result _ (record_of c.args.filler.now) c.loop-test.true c.length-place.ensures.exact c.loop.invariant.rest in
    omega (arith, rest, c.ranges.end.fits)

pub loop-preserved : goal.loop-preserved
loop-preserved c = record {
  rest = filler_length c.args.count c.loop.counter c.loop.place c.length-place.result _ (record_of c.args.filler.now) c.loop-test.true c.length-place.ensures.exact c.loop.invariant.rest;
  spelled = filler_spelled c.args.capacity c.args.count c.loop.counter c.loop.place c.length-place.result c.serial_of-serial.result c.args.serials.now c.loop.into.items c.spell_onto.new.into.items _ (record_of c.args.filler.now)
      c.loop-test.true c.length-place.ensures.exact c.serial_of-serial.ensures.exact c.in_ok-spell_onto.ensures.spelled c.loop.invariant.spelled;
}
