use Rattle.std.proofs.Common.{◌<◌, length, sym, ◌∙◌, arith}
use Rattle.qls_shape.specs.declared.Version.TheVariants.{Two}
use Rattle.qls_record.specs.Record.{header_length}
use Rattle.qls_record.proofs.HeadRead.{too_few, no_room}
use Rattle.qls_record.proofs.read.read_head.Goals as goal

pub returns-then-from-lt24 : goal.returns-then-from-lt24
returns-then-from-lt24 c = record { exact = sym (too_few c.args.serial c.args.from.now c.if-from-lt24.true); limits = tt }

pub returns-then-from-header_length : goal.returns-then-from-header_length
returns-then-from-header_length c =
    let short : length c.args.from.now < header_length Two c.in_ok-kind.kind = omega (arith, c.header_length.ensures, c.if-from-header_length.true) in
    record { exact = sym (no_room c.args.serial c.args.from.now c.in_ok-kind.kind (sym c.kind_at.ensures.exact ∙ c.in_ok-kind.was) short); limits = tt }
