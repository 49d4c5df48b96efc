use Rattle.std.proofs.Common.{◌≡◌, ◌-◌, ◌≤◌}
use Rattle.std.specs.Prelude.{IfSome}
use Rattle.qls_site.specs.Content.{Tells}
use Rattle.qls_reader.specs.Spots.{all_length}
use Rattle.qls_reader.specs.Places.{place_at}
use Rattle.qls_reader.specs.Windows.{IsWindow, IsAhead, ReadsOnce}
use Rattle.qls_reader.specs.Reads.{OnlyReads}
use Rattle.qls_reader.proofs.window.read_ahead.Given as goal

abbrev pub invariant-loop-window : goal.invariant-loop-window
invariant-loop-window g l = record {
  sound : IsWindow l.files l.window;
  at : l.window.at ≡ l.fn.window.at;
  ahead : IfSome (g.S.Site.told l.fn.site) (λ c. IsAhead c.now.disk l.files l.window);
  once : ReadsOnce l.files l.fn.window l.window (g.S.Site.reads l.fn.site) (g.S.Site.reads l.site);
  told : Tells OnlyReads (g.S.Site.told l.fn.site) (g.S.Site.told l.site);
  faults : g.S.Site.faults l.fn.site ≤ g.S.Site.faults l.site;
  syncs : g.S.Site.syncs l.site ≡ g.S.Site.syncs l.fn.site;
  reads : g.S.Site.reads l.fn.site ≤ g.S.Site.reads l.site;
}

abbrev pub decreases-loop-window : goal.decreases-loop-window
decreases-loop-window g l = all_length l.files - place_at l.files l.window.end
