use Rattle.std.proofs.Common.{◌≤◌, take, Ok}
use Rattle.qls_site.specs.Content.{Tells}
use Rattle.qls_journals.specs.declared.cause.Cause.{Cause}
use Rattle.qls_journals.specs.Moments.{StaysWritten}
use Rattle.qls_journals.specs.Releasing.{AreSame}
use Rattle.qls_journals.specs.State.{AreJournals, AreReleased, JournalsState}
use Rattle.qls_journals.proofs.Releases.{GivenUpTo}
use Rattle.qls_journals.proofs.journals.Journals.release.Given as goal

abbrev pub invariant-loop-at : goal.invariant-loop-at
invariant-loop-at g l = record {
  same : AreSame l.fn.self l.journals;
  kept : AreJournals l.journals;
  given : Tells (GivenUpTo l.at l.fn.self l.journals) (g.S.Site.told l.fn.site) (g.S.Site.told l.site);
  writes : Tells (StaysWritten {X = JournalsState} {E = Cause} (Ok l.journals) (λ x. x) l.fn.self) (g.S.Site.told l.fn.site) (g.S.Site.told l.site);
  released : AreReleased (take l.at l.journals.queues);
  faults : g.S.Site.faults l.fn.site ≤ g.S.Site.faults l.site;
}
