use Rattle.std.proofs.Common.{◌∙◌, ap, length, arith, lit<}
use Rattle.qls_filehdr.proofs.HeaderTable.{numbers_fit, numbers_put}
use Rattle.qls_filehdr.proofs.encode.put_numbers.Goals as goal

pub put_fields-requires : goal.put_fields-requires
put_fields-requires c = (
  lit< tt,
  (
    lit< tt,
    (
      omega (arith, ap (λ t. t.total) c.fixed.ensures.exact),
      numbers_fit c.args.header.now _ _ _ _ c.from.ensures c.from-2.ensures c.kind_number.ensures.exact (ap length c.as_slice.ensures.same) c.fixed.result c.fixed.ensures.exact c.requires.legal,
    ),
  ),
)

pub returns : goal.returns
returns c = record { exact = c.put_fields.ensures.exact ∙ numbers_put c.args.header.now _ _ _ _ c.from.ensures c.from-2.ensures c.kind_number.ensures.exact (ap length c.as_slice.ensures.same) c.fixed.result c.args.into.now c.fixed.ensures.exact c.requires.room }
