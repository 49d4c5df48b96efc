use Rattle.qls_memsite.specs.Log.{begun}
use Rattle.qls_memsite.specs.Scenes.{moment_of}
use Rattle.qls_memsite.proofs.Moments.{At}
use Rattle.qls_memsite.proofs.past.scene_at.Given as goal

abbrev pub invariant-loop-call : goal.invariant-loop-call
invariant-loop-call l = At l.calls l.call-index l.moment l.left (begun l.start) (moment_of l.scene)
