use Rattle.std.proofs.Common.{◌≡◌, ◌<◌, ◌≤◌, ◌^◌, length}
use Rattle.std.specs.Vec.Iter.{into_iter_items, into_iter_len}
use Rattle.qls_site.specs.Content.{Tells}
use Rattle.qls_journals.proofs.OpenedAll.{SoFar}
use Rattle.qls_journals.proofs.OpenedSteps.{UnderWay}
use Rattle.qls_journals.proofs.journals.Journals.open.Given as goal

abbrev pub invariant-loop-reading : goal.invariant-loop-reading
invariant-loop-reading g l = record {
  len : into_iter_len l.reading-iterator ≡ length (into_iter_items l.reading-iterator);
  so_far : SoFar l.fn.home l.fn.readings.items (into_iter_items l.reading-iterator) l.queues.items l.list;
  limit : l.pool.greatest < 2 ^ 62;
  told : Tells (UnderWay l.fn.home l.fn.readings.items (into_iter_items l.reading-iterator) l.pool l.queues.items l.list) (g.S.Site.told l.fn.site) (g.S.Site.told l.site);
  kept : g.S.Site.faults l.fn.site ≤ g.S.Site.faults l.site;
}
