use Rattle.std.proofs.Common.{◌≡◌, ◌+◌, ◌-◌, ◌^◌, ◌<◌, ◌≤◌, true, [], take, length, Ok, IfSome, IsTrue}
use Rattle.std.specs.List.{AllByRecursion}
use Rattle.qls_site.specs.Content.{Tells}
use Rattle.qls_filehdr.specs.Limits.{is_legal_header}
use Rattle.qls_pool.specs.Pools.{IsSpent}
use Rattle.qls_pool.specs.Files.{IsPoolOf, IsWholePool, OnDisk, Carries}
use Rattle.qls_pool.specs.Discipline.{Orderly}
use Rattle.qls_log.specs.declared.fault.LogError.{LogError}
use Rattle.qls_log.specs.Logs.{AreHeaded}
use Rattle.qls_log.specs.Taking.{TakesFiles, DrawsEach, MayTake}
use Rattle.qls_pool.specs.Moments.{Arrives}
use Rattle.qls_pool.specs.Serials.{DrawsTaken}
use Rattle.qls_log.specs.Steps.{IsLogStep}
use Rattle.qls_log.specs.Keeping.{IsTakeStep}
use Rattle.qls_log.specs.Faults.{Counts}
use Rattle.qls_log.proofs.take.take_files.Given as goal

abbrev pub invariant-loop-at : goal.invariant-loop-at
invariant-loop-at g l = record {
  count : length l.files.items ≡ l.at;
  number : l.number ≡ l.newest + l.at;
  last : l.number < 2 ^ 62;
  headers : AreHeaded l.opening l.newest (take l.at l.fresh) l.files.items;
  legal : AllByRecursion (λ h. IsTrue (is_legal_header h.header)) l.files.items;
  told : Tells (TakesFiles l.opening.home l.fn.pool l.pool l.files.items) (g.S.Site.told l.fn.site) (g.S.Site.told l.site);
  drawn : DrawsEach l.files.items (g.N.Serials.drawn l.fn.serials) (g.N.Serials.drawn l.serials);
  pool : IfSome (g.S.Site.told l.site) (OnDisk (IsPoolOf l.pool []));
  whole : Carries (IsWholePool l.fn.pool) (IsWholePool l.pool) (g.S.Site.told l.fn.site) (g.S.Site.told l.site);
  none : l.at ≡ 0 → l.pool ≡ l.fn.pool;
  limit : l.fn.pool.greatest < 2 ^ 62 → l.pool.greatest < 2 ^ 62;
  some : 0 < l.at → IsSpent l.opening.home l.fn.pool → ⊥;
  below : 0 < l.at → l.newest < 2 ^ 62 - 1;
  unspent : 0 < l.at → l.opening.epoch < 2 ^ 62;
  sites : g.S.Site.faults l.fn.site ≤ g.S.Site.faults l.site;
  draws : g.N.Serials.faults l.fn.serials ≤ g.N.Serials.faults l.serials;
  syncs : Counts {E = LogError} (g.S.Site.told l.fn.site) (Ok (tt {0})) l.at (g.S.Site.syncs l.fn.site) (g.S.Site.syncs l.site);
  reads : g.S.Site.reads l.site ≡ g.S.Site.reads l.fn.site;
  went : Tells (Arrives (IsLogStep l.opening)) (g.S.Site.told l.fn.site) (g.S.Site.told l.site);
  kept : Tells (Arrives (IsTakeStep l.opening)) (g.S.Site.told l.fn.site) (g.S.Site.told l.site);
  drew : DrawsTaken true (g.S.Site.told l.fn.site) (g.S.Site.told l.site) (g.N.Serials.drawn l.fn.serials) (g.N.Serials.drawn l.serials);
  next : IfSome (g.S.Site.told l.site) (OnDisk (MayTake l.opening l.pool (l.number + 1)));
  same : l.at ≡ 0 → l.site ≡ l.fn.site;
  orderly : Orderly {E = LogError} (IsPoolOf l.fn.pool []) (Ok (tt {0})) (g.S.Site.told l.fn.site) (g.S.Site.told l.site);
}
