use Rattle.std.proofs.Common.{◌≡◌, ◌++◌, ◌≤◌, length}
use Rattle.std.specs.Vec.Iter.{into_iter_items, into_iter_len}
use Rattle.qls_site.specs.Content.{Tells}
use Rattle.qls_log.specs.Returning.{with_backs}
use Rattle.qls_log.proofs.Returns.{BackSo}
use Rattle.qls_log.proofs.release.give_back_each.Given as goal

abbrev pub invariant-loop-file : goal.invariant-loop-file
invariant-loop-file g l = record {
  items : l.yielded ++ into_iter_items l.file-iterator ≡ into_iter_items l.initial.file-iterator;
  len : into_iter_len l.file-iterator ≡ length (into_iter_items l.file-iterator);
  told : Tells (λ x y. y ≡ with_backs l.yielded x) (g.S.Site.told l.fn.site) (g.S.Site.told l.site);
  back : BackSo l.fn.pool l.pool l.yielded (into_iter_items l.file-iterator) (g.S.Site.told l.fn.site) (g.S.Site.told l.site);
  greatest : l.pool.greatest ≡ l.fn.pool.greatest;
  faults : g.S.Site.faults l.fn.site ≤ g.S.Site.faults l.site;
  syncs : g.S.Site.syncs l.site ≡ g.S.Site.syncs l.fn.site;
  reads : g.S.Site.reads l.site ≡ g.S.Site.reads l.fn.site;
}
