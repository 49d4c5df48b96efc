use Rattle.std.proofs.Common.{◌≡◌, drop, length}
use Rattle.qls_shape.specs.Tables.{with_numbers}
use Rattle.qls_shape.proofs.layout.Layout.put_fields.Given as goal

abbrev pub invariant-loop-i : goal.invariant-loop-i
invariant-loop-i g l = record {
  left : with_numbers (drop l.i l.self-inside.fields) (drop l.i l.values) l.into ≡ with_numbers l.self-inside.fields l.values l.initial.into;
  same_length : length l.into ≡ length l.initial.into;
}
