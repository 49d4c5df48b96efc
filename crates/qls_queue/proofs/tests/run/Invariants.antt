use Rattle.std.proofs.Common.{◌≡◌, [], false, IfSome}
use Rattle.qls_pool.specs.Files.{IsPoolOf, OnDisk}
use Rattle.qls_queue.specs.Live.{QueueThere}
use Rattle.qls_queue.proofs.tests.run.Given as goal

abbrev pub invariant-loop-word : goal.invariant-loop-word
invariant-loop-word g l = record {
  there : l.queue.ended ≡ false → IfSome (g.S.Site.told l.site) (OnDisk (QueueThere l.queue));
  pool : l.queue.ended ≡ false → IfSome (g.S.Site.told l.site) (OnDisk (IsPoolOf l.pool []));
}
