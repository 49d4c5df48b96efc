use Rattle.std.proofs.Common.{◌≤◌, ◌-◌, length}
use Rattle.qls_memsite.specs.Seen.{before}
use Rattle.qls_memsite.proofs.files.place_of.Given as goal

abbrev pub invariant-loop-low : goal.invariant-loop-low
invariant-loop-low l = (l.low ≤ before l.id l.files) × (before l.id l.files ≤ l.high) × (l.high ≤ length l.files)

abbrev pub decreases-loop-low : goal.decreases-loop-low
decreases-loop-low l = l.high - l.low
