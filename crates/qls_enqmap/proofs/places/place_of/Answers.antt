use Rattle.std.proofs.Common.{subst, arith}
use Rattle.qls_enqmap.specs.Slots.{IsPlace}
use Rattle.qls_enqmap.proofs.Blocking.{place_within, all_before}
use Rattle.qls_enqmap.proofs.Counted.{place_in_row}
use Rattle.qls_enqmap.proofs.places.place_of.Goals as goal

pub returns-then-len-start : goal.returns-then-len-start
returns-then-len-start c = record {
  place = place_in_row c.args.slots.now.entries c.args.start c.args.at c.requires.within c.requires.holes
      (omega (arith, c.len.ensures.len, c.if-len-start.true, c.requires.counted)) (omega (arith, c.requires.counted));
}

pub pass_records-requires : goal.pass_records-requires
pass_records-requires c =
    let es = c.args.slots.now.entries in
    let p = c.pass_blocks-passed.ensures.passed es c.requires.blocks (omega (arith, c.len.ensures.len, c.len.ensures.small)) (omega (arith, c.requires.counted, all_before es)) in
    let w = place_within es c.pass_blocks-passed.result.place c.pass_blocks-passed.result.left c.args.at p (omega (arith, c.requires.counted, all_before es)) in
    record { within = omega (arith, w); enough = omega (arith, p, c.requires.counted) }

pub returns : goal.returns
returns c =
    let es = c.args.slots.now.entries in
    let p = c.pass_blocks-passed.ensures.passed es c.requires.blocks (omega (arith, c.len.ensures.len, c.len.ensures.small)) (omega (arith, c.requires.counted, all_before es)) in
    record { place = subst (λ n. IsPlace es n c.pass_records.result) p c.pass_records.ensures.place }
