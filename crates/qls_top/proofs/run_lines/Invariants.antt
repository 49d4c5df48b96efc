use Rattle.std.proofs.Common.{◌≤◌, true, Ok, IfSome}
use Rattle.qls_site.specs.Content.{Tells}
use Rattle.qls_pool.specs.Files.{OnDisk}
use Rattle.qls_pool.specs.Moments.{Arrives}
use Rattle.qls_pool.specs.Serials.{DrawsTaken}
use Rattle.qls_store.specs.Stores.{Fits}
use Rattle.qls_top.specs.Cutting.{Counted, measured, script_limit}
use Rattle.qls_top.specs.Moments.{IsRunStep}
use Rattle.qls_top.specs.Run.{UnderWay, StaysClean, RepliesClean}
use Rattle.qls_top.proofs.DueRuns.{TakenSoFar}
use Rattle.qls_top.proofs.Having.{HadWay}
use Rattle.qls_top.proofs.Lines.{Quieted}
use Rattle.qls_top.proofs.RunDiscipline.{KeptSoFar}
use Rattle.qls_top.proofs.Working.{WorkedWay}
use Rattle.qls_top.proofs.run_lines.Given as goal

abbrev pub invariant-loop-store : goal.invariant-loop-store
invariant-loop-store g l = record {
  fits : IfSome (g.S.Site.told l.site) (OnDisk (Fits l.store));
  went : Tells (Arrives IsRunStep) (g.S.Site.told l.fn.site) (g.S.Site.told l.site);
  quieted : Tells Quieted (g.S.Site.told l.fn.site) (g.S.Site.told l.site);
  clean : Tells (StaysClean l.fn.store l.store) (g.S.Site.told l.fn.site) (g.S.Site.told l.site);
  drawn : DrawsTaken true (g.S.Site.told l.fn.site) (g.S.Site.told l.site) (g.N.Serials.drawn l.fn.serials) (g.N.Serials.drawn l.serials);
  replied : RepliesClean l.fn.store (g.S.Site.told l.fn.site) (g.S.Site.told l.site) (g.R.Source.left l.fn.source);
  under_way : UnderWay l.fn.store (g.S.Site.told l.fn.site) (g.S.Site.told l.site) (g.R.Source.left l.fn.source) l.script.waiting (g.R.Source.left l.source) l.store;
  had : HadWay l.fn.store (g.S.Site.told l.fn.site) (g.S.Site.told l.site) (g.R.Source.left l.fn.source) l.script.waiting (g.R.Source.left l.source) l.store;
  kept : Tells (KeptSoFar l.fn.store l.store) (g.S.Site.told l.fn.site) (g.S.Site.told l.site);
  taken : Tells (TakenSoFar l.fn.store l.store) (g.S.Site.told l.fn.site) (g.S.Site.told l.site);
  worked : WorkedWay l.fn.store (g.S.Site.told l.fn.site) (g.S.Site.told l.site) (g.R.Source.left l.fn.source) l.script.waiting (g.R.Source.left l.source) l.store;
  counted : Counted script_limit (g.R.Source.left l.fn.source) l.script.budget (g.R.Source.left l.source) (Ok true);
  sources : g.R.Source.faults l.fn.source ≤ g.R.Source.faults l.source;
  sites : g.S.Site.faults l.fn.site ≤ g.S.Site.faults l.site;
  draws : g.N.Serials.faults l.fn.serials ≤ g.N.Serials.faults l.serials;
}

abbrev pub decreases-loop-store : goal.decreases-loop-store
decreases-loop-store g l = measured l.script
