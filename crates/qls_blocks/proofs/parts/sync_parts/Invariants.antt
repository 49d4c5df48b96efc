use Rattle.std.proofs.Common.{◌≡◌, ◌≤◌, Ok}
use Rattle.qls_site.specs.Content.{Tells}
use Rattle.qls_blocks.specs.Parts.{CountsUpTo}
use Rattle.qls_blocks.proofs.Syncs.{SyncedFirst}
use Rattle.qls_blocks.proofs.parts.sync_parts.Given as goal

abbrev pub invariant-loop-id : goal.invariant-loop-id
invariant-loop-id g l = record {
  told : Tells (SyncedFirst l.id-index l.id-items) (g.S.Site.told l.fn.site) (g.S.Site.told l.site);
  items : l.id-items ≡ l.ids;
  faults : g.S.Site.faults l.fn.site ≤ g.S.Site.faults l.site;
  syncs : CountsUpTo (g.S.Site.told l.fn.site) (Ok (tt {0})) l.id-index (g.S.Site.syncs l.fn.site) (g.S.Site.syncs l.site);
  reads : g.S.Site.reads l.site ≡ g.S.Site.reads l.fn.site;
}
