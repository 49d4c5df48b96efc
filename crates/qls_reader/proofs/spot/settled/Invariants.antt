use Rattle.std.proofs.Common.{◌≡◌, ◌+◌, ◌-◌, ◌≤◌, length, take, drop}
use Rattle.qls_reader.specs.Spots.{all_length}
use Rattle.qls_reader.proofs.spot.settled.Given as goal

abbrev pub invariant-loop-at : goal.invariant-loop-at
invariant-loop-at l = record {
  within : l.at.file ≤ length l.files;
  range : l.at.within ≤ all_length (drop l.at.file l.files);
  same : all_length (take l.at.file l.files) + l.at.within ≡ all_length (take l.fn.from.file l.files) + l.fn.from.within;
}

abbrev pub decreases-loop-at : goal.decreases-loop-at
decreases-loop-at l = length l.files - l.at.file
