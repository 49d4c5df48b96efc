use Rattle.std.proofs.Common.{◌<◌, Some, None, cond, length, sym, ap, ◌∙◌, arith}
use Rattle.qls_record.specs.Head.{head_record_length}
use Rattle.qls_record.proofs.WholeRead.{whole_there, none_headed, none_whole}
use Rattle.qls_record.proofs.read.read_whole.Goals as goal

pub returns-in_err-head : goal.returns-in_err-head
returns-in_err-head c = record {
  exact = c.from_residual.ensures ∙ sym (none_headed c.args.serial c.args.from.now (sym c.in_err-head.ensures.exact));
  limits = rw c.from_residual.ensures tt;
}

pub returns-then-from-length : goal.returns-then-from-length
returns-then-from-length c =
    let short : length c.args.from.now < head_record_length c.in_ok-head.head = omega (arith, c.length.ensures, c.if-from-length.true) in
    record { exact = sym (none_whole c.args.serial c.args.from.now c.in_ok-head.head (sym c.in_ok-head.ensures.exact) short); limits = tt }

pub returns-then-is_spelled : goal.returns-then-is_spelled
returns-then-is_spelled c = record {
  exact =
      sym (ap (λ b. cond b (Some c.in_ok-head.head) None) c.if-is_spelled.true)
      ∙ sym (whole_there c.args.serial c.args.from.now c.in_ok-head.head c.is_spelled.result (sym c.in_ok-head.ensures.exact) (omega (arith, c.length.ensures, c.if-from-length.false)) c.is_spelled.ensures.exact);
  limits = c.in_ok-head.ensures.limits;
}

pub returns-else-is_spelled : goal.returns-else-is_spelled
returns-else-is_spelled c = record {
  exact =
      sym (ap (λ b. cond b (Some c.in_ok-head.head) None) c.if-is_spelled.false)
      ∙ sym (whole_there c.args.serial c.args.from.now c.in_ok-head.head c.is_spelled.result (sym c.in_ok-head.ensures.exact) (omega (arith, c.length.ensures, c.if-from-length.false)) c.is_spelled.ensures.exact);
  limits = tt;
}
