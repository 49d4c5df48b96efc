use Rattle.std.proofs.Common.{◌≡◌, take, length}
use Rattle.qls_shape.specs.Tables.{numbers_of}
use Rattle.qls_shape.proofs.layout.Layout.get_fields.Given as goal

abbrev pub invariant-loop-i : goal.invariant-loop-i
invariant-loop-i g l = record {
  size : length l.numbers ≡ length l.self-inside.fields;
  done : take l.i l.numbers ≡ numbers_of (take l.i l.self-inside.fields) l.from;
}
