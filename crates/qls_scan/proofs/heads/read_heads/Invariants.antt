use Rattle.std.proofs.Common.{◌≡◌, ◌++◌, ◌≤◌, map, drop, IfSome}
use Rattle.std.specs.List.{AllByRecursion, filter}
use Rattle.qls_site.specs.Content.{Tells, OnlyLooks}
use Rattle.qls_meaning.specs.Journals.{is_in_use}
use Rattle.qls_scan.specs.Found.{IsSpelledOn}
use Rattle.qls_scan.specs.Heads.{HasLegalHeader}
use Rattle.qls_scan.proofs.HeadSteps.{AreReadSoFar}
use Rattle.qls_scan.proofs.heads.read_heads.Given as goal

abbrev pub invariant-loop-file : goal.invariant-loop-file
invariant-loop-file g l = record {
  read : IfSome (g.S.Site.told l.initial.site) (λ c. AreReadSoFar c.now.disk l.file-index l.heads);
  told : Tells OnlyLooks (g.S.Site.told l.initial.site) (g.S.Site.told l.site);
  kept : g.S.Site.faults l.initial.site ≤ g.S.Site.faults l.site;
  syncs : g.S.Site.syncs l.site ≡ g.S.Site.syncs l.initial.site;
  legal : AllByRecursion HasLegalHeader l.heads;
  spelled : IfSome (g.S.Site.told l.initial.site) (λ c. AllByRecursion (IsSpelledOn c.now.disk) l.heads);
  ids : map (λ h. h.id) l.heads ++ map (λ f. f.id) (filter (λ f. is_in_use f.place) (drop l.file-index l.files)) ≡ map (λ f. f.id) (filter (λ f. is_in_use f.place) l.files);
}
