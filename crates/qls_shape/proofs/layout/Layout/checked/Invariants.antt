use Rattle.std.proofs.Common.{◌≡◌, drop}
use Rattle.qls_shape.specs.Tables.{are_in_order, is_table}
use Rattle.qls_shape.proofs.layout.Layout.checked.Given as goal

abbrev pub invariant-loop-field : goal.invariant-loop-field
invariant-loop-field g l = record {
  left : are_in_order l.end l.total (drop l.field-index l.field-items) ≡ is_table l.fn.total l.fn.fields;
  total : l.total ≡ l.fn.total;
  items : l.field-items ≡ l.fn.fields;
}
