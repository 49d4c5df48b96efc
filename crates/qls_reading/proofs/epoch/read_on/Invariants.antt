use Rattle.std.proofs.Common.{◌≡◌, ℕ, ◌-◌, ◌<◌, ◌≤◌, false, length, map, IfSome}
use Rattle.qls_site.specs.Content.{Tells, OnlyLooks}
use Rattle.qls_reader.specs.States.{ReadsAhead}
use Rattle.qls_reading.specs.Groups.{spot_of}
use Rattle.qls_reading.specs.Tested.{IsTallied}
use Rattle.qls_reading.proofs.Way.{IsUnderWay}
use Rattle.qls_reading.proofs.epoch.read_on.Given as goal

abbrev pub invariant-loop : goal.invariant-loop
invariant-loop g l = record {
  way : IfSome (g.S.Site.told l.fn.site) (λ c. IsUnderWay c.now.disk l.files l.fn.from l.fn.tally l.tally l.course (l.end - l.counter) l.reader.place);
  files : l.reader.files ≡ map spot_of l.files;
  going : l.reader.ended ≡ false;
  ahead : IfSome (g.S.Site.told l.site) (λ c. ReadsAhead c.now.disk l.reader);
  within : l.course.came ≤ length l.files;
  some : 0 < l.course.came;
  given : (rid : ℕ) → IsTallied rid l.fn.tally → IsTallied rid l.tally;
  told : Tells OnlyLooks (g.S.Site.told l.fn.site) (g.S.Site.told l.site);
  kept : g.S.Site.faults l.fn.site ≤ g.S.Site.faults l.site;
  syncs : g.S.Site.syncs l.site ≡ g.S.Site.syncs l.fn.site;
}
