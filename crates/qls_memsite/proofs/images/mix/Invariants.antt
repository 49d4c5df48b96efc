use Rattle.std.proofs.Common.{◌≡◌, ◌++◌, ◌/◌, length}
use Rattle.qls_site.specs.Chosen.{mixed}
use Rattle.qls_memsite.proofs.images.mix.Given as goal

abbrev pub invariant-loop-left : goal.invariant-loop-left
invariant-loop-left l = l.out.items ++ mixed l.left l.choices l.news l.olds ≡ mixed (length l.new / 512) l.choice l.new l.old

abbrev pub decreases-loop-left : goal.decreases-loop-left
decreases-loop-left l = l.left
