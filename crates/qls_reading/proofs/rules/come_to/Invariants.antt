use Rattle.std.proofs.Common.{◌≡◌, ◌+◌, drop, length}
use Rattle.qls_reading.specs.Tested.{come_by, fronts, last_id}
use Rattle.qls_reading.proofs.rules.come_to.Given as goal

abbrev pub invariant-loop-file : goal.invariant-loop-file
invariant-loop-file l = record {
  fronts : fronts l.course.given l.rid l.spot (come_by l.spot l.ahead) ≡ fronts l.course.given l.rid l.spot (come_by l.spot (drop l.file-index l.ahead));
  count : l.came.came + length (come_by l.spot (drop l.file-index l.ahead)) ≡ l.course.came + length (come_by l.spot l.ahead);
  index : l.came.came ≡ l.course.came + l.file-index;
  id : last_id l.came.id (come_by l.spot (drop l.file-index l.ahead)) ≡ last_id l.course.id (come_by l.spot l.ahead);
}
