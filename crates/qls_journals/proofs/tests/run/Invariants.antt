use Rattle.std.proofs.Common.{IfSome}
use Rattle.qls_pool.specs.Files.{OnDisk}
use Rattle.qls_journals.specs.State.{AreReleased, Fits}
use Rattle.qls_journals.proofs.tests.run.Given as goal

abbrev pub invariant-loop-word : goal.invariant-loop-word
invariant-loop-word g l = record { fits : IfSome (g.S.Site.told l.site) (OnDisk (Fits l.open)); released : AreReleased l.open.queues }
