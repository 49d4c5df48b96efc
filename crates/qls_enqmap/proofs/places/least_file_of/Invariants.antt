use Rattle.std.proofs.Common.{◌≡◌, take}
use Rattle.qls_enqmap.specs.Records.{least_file}
use Rattle.qls_enqmap.specs.Slots.{held_in}
use Rattle.qls_enqmap.proofs.places.least_file_of.Given as goal

abbrev pub invariant-loop-place : goal.invariant-loop-place
invariant-loop-place l = l.least ≡ least_file (held_in (take l.place l.slots.entries))
