use Rattle.std.proofs.Common.{◌≡◌, ◌≤◌, ◌++◌, length, IfSome}
use Rattle.std.specs.List.{AllByRecursion}
use Rattle.std.specs.Vec.Iter.{into_iter_items, into_iter_len}
use Rattle.qls_site.specs.Content.{Tells, OnlyLooks}
use Rattle.qls_scan.specs.Found.{IsInOrder}
use Rattle.qls_pool.specs.Files.{OnDisk}
use Rattle.qls_journals.specs.Opening.{journals_in}
use Rattle.qls_journals.proofs.ReadingAll.{AllThere, AllSoFar, StandSoFar}
use Rattle.qls_journals.proofs.opening.read_all.Given as goal

abbrev pub invariant-loop-files : goal.invariant-loop-files
invariant-loop-files g l = record {
  len : into_iter_len l.files-iterator ≡ length (into_iter_items l.files-iterator);
  order : AllByRecursion IsInOrder (into_iter_items l.files-iterator);
  there : IfSome (g.S.Site.told l.fn.site) (AllThere (into_iter_items l.files-iterator));
  journals : journals_in l.readings.items ++ into_iter_items l.files-iterator ≡ l.fn.journals;
  says : IfSome (g.S.Site.told l.fn.site) (AllSoFar l.fn.journals (into_iter_items l.files-iterator));
  stand : IfSome (g.S.Site.told l.fn.site) (OnDisk (StandSoFar l.readings.items));
  told : Tells OnlyLooks (g.S.Site.told l.fn.site) (g.S.Site.told l.site);
  kept : g.S.Site.faults l.fn.site ≤ g.S.Site.faults l.site;
  syncs : g.S.Site.syncs l.site ≡ g.S.Site.syncs l.fn.site;
}
