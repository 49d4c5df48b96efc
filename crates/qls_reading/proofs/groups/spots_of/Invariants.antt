use Rattle.std.proofs.Common.{◌≡◌, ◌++◌, drop, map}
use Rattle.qls_reading.specs.Groups.{spot_of}
use Rattle.qls_reading.proofs.groups.spots_of.Given as goal

abbrev pub invariant-loop-file : goal.invariant-loop-file
invariant-loop-file l = l.spots ++ map spot_of (drop l.file-index l.files) ≡ map spot_of l.files
