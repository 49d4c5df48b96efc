use Rattle.std.proofs.Common.{◌<◌, arith}
use Rattle.qls_command.proofs.Numbers.{with_digit-fits}
use Rattle.qls_command.proofs.word.digits.Goals as goal

pub overflow_mul-value : goal.overflow_mul-value
overflow_mul-value c =
    omega (arith, with_digit-fits c.loop-byte.value 0 c.loop-byte.byte-index c.loop-byte.invariant.below (omega arith) (omega arith))

pub overflow_add-value : goal.overflow_add-value
overflow_add-value c =
    let digit : c.from.result < 10 = omega (arith, c.if-not-is_ascii_digit.ensures.cases) in
    omega (arith, with_digit-fits c.loop-byte.value c.from.result c.loop-byte.byte-index c.loop-byte.invariant.below digit (omega arith))
