use Rattle.std.proofs.Common.{◌/◌, arith}
use Rattle.qls_enqmap.proofs.Blocking.{counted_more, count_small, any_default}
use Rattle.qls_enqmap.proofs.blocks.one_more.Goals as goal

pub returns-then-block-len : goal.returns-then-block-len
returns-then-block-len c = record {
  counted = λ es us i r s n g.
      counted_more c.args.width c.args.place c.saturating_add.result c.args.counts.now.items es us c.requires.wide i r
      (omega (arith, count_small c.args.width c.args.place c.args.counts.now.items es i, c.saturating_add.ensures, c.index.ensures, any_default c.args.counts.now.items (c.args.place / c.args.width) c.index.result.now 0 (omega (arith, c.if-block-len.true)))) n g;
}
