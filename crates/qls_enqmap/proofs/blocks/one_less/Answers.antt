use Rattle.std.proofs.Common.{◌/◌, arith}
use Rattle.qls_enqmap.proofs.Blocking.{counted_less, any_default}
use Rattle.qls_enqmap.proofs.blocks.one_less.Goals as goal

pub returns-then-block-len : goal.returns-then-block-len
returns-then-block-len c = record {
  counted = λ es us i r n g.
      counted_less c.args.width c.args.place c.saturating_sub.result c.args.counts.now.items es us c.requires.wide i r
      (omega (arith, c.saturating_sub.ensures, c.index.ensures, any_default c.args.counts.now.items (c.args.place / c.args.width) c.index.result.now 0 (omega (arith, c.if-block-len.true)))) n g;
}
