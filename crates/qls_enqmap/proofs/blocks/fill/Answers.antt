use Rattle.std.proofs.Common.{arith}
use Rattle.qls_enqmap.proofs.Blocking.{counted_all, filled_all}
use Rattle.qls_enqmap.proofs.blocks.fill.Goals as goal

pub returns : goal.returns
returns c = record {
  counted = λ es us i e l m a.
      let counts = c.loop-block.counts.items in
      let old = c.args.counts.now.items in
      counted_all c.args.width c.args.slots counts old es us i c.loop-block.invariant.long l m a
      (λ b h. filled_all c.args.width c.args.slots c.args.were c.loop-block.block b counts old es c.requires.wide i e (omega (arith, e, l, m)) (omega (arith, c.loop-block-test.false, c.loop-block.auto.block-end, c.min-blocks.ensures, c.len.ensures, c.len.type_inv, c.saturating_add.ensures)) (omega (arith, h, c.loop-block.invariant.long)) c.loop-block.invariant.filled c.loop-block.invariant.kept);
}
