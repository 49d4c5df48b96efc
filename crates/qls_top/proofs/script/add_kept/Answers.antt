use Rattle.std.proofs.Common.{◌∙◌, ap, length, arith}
use Rattle.qls_top.proofs.CutLines.{kept_whole, kept_front}
use Rattle.qls_top.proofs.script.add_kept.Goals as goal

pub returns-then-more-room-clause-kept : goal.returns-then-more-room-clause-kept
returns-then-more-room-clause-kept c =
    c.in_ok-extend_from_slice.ensures.items ∙ kept_whole 2100001 c.args.line.now.items c.args.more.now (omega (arith, c.as_slice.ensures.value))

pub returns-clause-kept : goal.returns-clause-kept
returns-clause-kept c =
    c.in_ok-extend_from_slice-2.ensures.items ∙ kept_front 2100001 c.args.line.now.items c.args.more.now _ (omega (arith, ap length c.as_slice.ensures.value))
