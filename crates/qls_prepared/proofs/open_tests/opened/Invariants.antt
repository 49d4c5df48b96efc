use Rattle.std.proofs.Common.{◌≡◌, IfSome}
use Rattle.qls_pool.specs.Files.{IsWholePool, OnDisk}
use Rattle.qls_prepared.specs.Lists.{rid_of_log, IsOwn, ThereBy}
use Rattle.qls_prepared.proofs.open_tests.opened.Given as goal

abbrev pub invariant-loop-word : goal.invariant-loop-word
invariant-loop-word g l = record {
  rid : rid_of_log l.log ≡ l.rid;
  own : IsOwn l.log;
  there : IfSome (g.S.Site.told l.site) (OnDisk (ThereBy (record { part = 1; kib = 4 }) l.log));
  pool : IfSome (g.S.Site.told l.site) (OnDisk (IsWholePool l.pool));
}
