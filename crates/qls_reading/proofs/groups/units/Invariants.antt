use Rattle.std.proofs.Common.{◌≡◌, ◌+◌, ◌*◌, ◌≤◌, drop}
use Rattle.qls_reading.specs.Groups.{units_of}
use Rattle.qls_reading.proofs.groups.units.Given as goal

abbrev pub invariant-loop-file : goal.invariant-loop-file
invariant-loop-file l = record {
  sum : l.units + units_of (drop l.file-index l.files) ≡ units_of l.files;
  few : l.units ≤ 34359738368 * l.file-index;
}
