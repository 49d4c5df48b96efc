use Rattle.std.proofs.Common.{IfSome}
use Rattle.qls_pool.specs.Files.{OnDisk}
use Rattle.qls_store.specs.Stores.{Fits}
use Rattle.qls_store.proofs.tests.run.Given as goal

abbrev pub invariant-loop-line : goal.invariant-loop-line
invariant-loop-line g l = record { fits : IfSome (g.S.Site.told l.site) (OnDisk (Fits l.open)) }
