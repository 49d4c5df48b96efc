use Rattle.std.proofs.Common.{◌≡◌, ℕ, ◌-◌, ◌<◌, ◌≤◌, length, IfSome}
use Rattle.qls_site.specs.Content.{Tells, OnlyLooks}
use Rattle.qls_reading.specs.Groups.{last_run}
use Rattle.qls_reading.specs.Tested.{IsTallied}
use Rattle.qls_reading.proofs.Runs.{LeftAt}
use Rattle.qls_reading.proofs.log.read_epochs.Given as goal

abbrev pub invariant-loop-from : goal.invariant-loop-from
invariant-loop-from g l = record {
  rest : IfSome (g.S.Site.told l.fn.site) (LeftAt l.files l.fn.tally l.from l.tally l.past);
  within : l.from ≤ length l.files;
  past : l.from ≡ length l.files → l.past < length (last_run l.files);
  given : (rid : ℕ) → IsTallied rid l.fn.tally → IsTallied rid l.tally;
  told : Tells OnlyLooks (g.S.Site.told l.fn.site) (g.S.Site.told l.site);
  kept : g.S.Site.faults l.fn.site ≤ g.S.Site.faults l.site;
  syncs : g.S.Site.syncs l.site ≡ g.S.Site.syncs l.fn.site;
}

abbrev pub decreases-loop-from : goal.decreases-loop-from
decreases-loop-from g l = length l.files - l.from
