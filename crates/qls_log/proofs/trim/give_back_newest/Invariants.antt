use Rattle.std.proofs.Common.{◌≡◌, ◌-◌, ◌+◌, ◌≤◌, length, take}
use Rattle.qls_log.proofs.Trims.{TrimSo}
use Rattle.qls_log.proofs.trim.give_back_newest.Given as goal

abbrev pub invariant-loop-at : goal.invariant-loop-at
invariant-loop-at g l = record {
  count : length l.files.items + l.at ≡ length l.fn.files.items;
  kept : l.files.items ≡ take (length l.fn.files.items - l.at) l.fn.files.items;
  so : TrimSo l.fn.pool l.pool l.many l.fn.files.items (l.many - l.at) l.files.items (g.S.Site.told l.fn.site) (g.S.Site.told l.site);
  greatest : l.pool.greatest ≡ l.fn.pool.greatest;
  faults : g.S.Site.faults l.fn.site ≤ g.S.Site.faults l.site;
  syncs : g.S.Site.syncs l.site ≡ g.S.Site.syncs l.fn.site;
  reads : g.S.Site.reads l.site ≡ g.S.Site.reads l.fn.site;
}
