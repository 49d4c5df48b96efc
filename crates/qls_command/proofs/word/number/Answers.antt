use Rattle.std.proofs.Common.{arith, sym, ◌∙◌}
use Rattle.qls_command.proofs.Numbers.{AllBytes, number-digits, number-long, number-empty, number-zero_first}
use Rattle.qls_command.proofs.word.number.Goals.{then-is_empty-via-then-is_empty, then-is_empty-via-else-is_empty+then-word-gt-NUMBER_DIGITS}
use Rattle.qls_command.proofs.word.number.Goals as goal

pub returns-then-is_empty : goal.returns-then-is_empty
returns-then-is_empty c = elim c.then-is_empty.branch [
  | then-is_empty-via-then-is_empty w ↦ sym (number-empty c.args.word.now (grind arith))
  | then-is_empty-via-else-is_empty+then-word-gt-NUMBER_DIGITS w ↦ sym (number-long c.args.word.now (omega arith))
]

pub returns-then-has_leading_zero : goal.returns-then-has_leading_zero
returns-then-has_leading_zero c =
    let bytes : AllBytes c.args.word.now = λ i. omega (arith, c.type_inv.word i) in
    sym (number-zero_first c.args.word.now bytes (omega arith) (sym c.has_leading_zero.ensures ∙ c.if-has_leading_zero.true))

pub returns : goal.returns
returns c =
    let bytes : AllBytes c.args.word.now = λ i. omega (arith, c.type_inv.word i) in
    c.digits.ensures
    ∙ number-digits c.args.word.now bytes (grind arith) (omega arith) (sym c.has_leading_zero.ensures ∙ c.if-has_leading_zero.false)
