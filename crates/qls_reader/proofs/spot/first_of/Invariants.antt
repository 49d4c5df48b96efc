use Rattle.std.proofs.Common.{◌≡◌, ◌+◌, ◌-◌, ◌≤◌, length, take, drop}
use Rattle.qls_reader.specs.Spots.{all_length, first_spot}
use Rattle.qls_reader.proofs.spot.first_of.Given as goal

abbrev pub invariant-loop-file : goal.invariant-loop-file
invariant-loop-file l = record {
  within : l.file ≤ length l.files;
  place : all_length (take l.file l.files) + first_spot (drop l.file l.files) ≡ first_spot l.files;
}

abbrev pub decreases-loop-file : goal.decreases-loop-file
decreases-loop-file l = length l.files - l.file
