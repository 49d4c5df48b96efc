use Rattle.std.proofs.Common.{◌≡◌, false, IfSome}
use Rattle.qls_pool.specs.Files.{IsWholePool, OnDisk}
use Rattle.qls_prepared.specs.Lists.{ListThere}
use Rattle.qls_prepared.proofs.tests.run.Given as goal

abbrev pub invariant-loop-word : goal.invariant-loop-word
invariant-loop-word g l = record {
  there : l.list.ended ≡ false → IfSome (g.S.Site.told l.site) (OnDisk (ListThere l.list));
  pool : l.list.ended ≡ false → IfSome (g.S.Site.told l.site) (OnDisk (IsWholePool l.pool));
}
