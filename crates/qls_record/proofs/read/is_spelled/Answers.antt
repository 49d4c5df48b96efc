use Rattle.std.proofs.Common.{◌∙◌, sym, ap, ◌&&◌}
use Rattle.qls_record.proofs.WholeRead.{both_tests, first_test}
use Rattle.qls_record.proofs.read.is_spelled.Goals as goal

pub returns-then-has_tail : goal.returns-then-has_tail
returns-then-has_tail c = record {
  exact =
      sym (ap (λ b. b && c.is_padding.result) c.if-has_tail.true)
      ∙ both_tests c.args.serial c.args.from.now c.args.head c.covered_length-covered.result c.tail_length.result c.length-whole.result c.has_tail.result c.is_padding.result
      c.requires.headed c.requires.room c.covered_length-covered.ensures c.tail_length.ensures c.length-whole.ensures c.has_tail.ensures.exact c.is_padding.ensures.exact;
}

pub returns-else-has_tail : goal.returns-else-has_tail
returns-else-has_tail c = record {
  exact =
      first_test c.args.serial c.args.from.now c.args.head c.covered_length-covered.result c.has_tail.result
      c.requires.headed c.requires.room c.covered_length-covered.ensures c.has_tail.ensures.exact c.if-has_tail.false;
}
