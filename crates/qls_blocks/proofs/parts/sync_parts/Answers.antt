use Rattle.std.proofs.Common.{ℕ, List, subst, sym, rules}
use Rattle.std.specs.Prelude.{IfSome}
use Rattle.qls_blocks.specs.Parts.{HasFiles}
use Rattle.qls_blocks.proofs.Syncs.{next_there, one_more_synced, one_more_counted}
use Rattle.qls_blocks.proofs.parts.sync_parts.Goals as goal

pub sync-requires : goal.sync-requires
sync-requires g c =
    next_there c.as_slice-id-items.result.now c.loop-id.id-index (g.S.Site.told c.args.site.now) (g.S.Site.told c.loop-id.site)
    (subst (λ (ids : List ℕ). IfSome (g.S.Site.told c.args.site.now) (HasFiles ids)) (sym c.as_slice-id-items.ensures.same) c.requires.there) c.loop-id-test.true c.loop-id.invariant.told

pub loop-id-preserved : goal.loop-id-preserved
loop-id-preserved g c = record {
  told = one_more_synced c.as_slice-id-items.result.now c.loop-id.id-index _ (g.S.Site.told c.args.site.now) (g.S.Site.told c.loop-id.site) (g.S.Site.told c.sync.new.self) c.loop-id-test.true c.loop-id.invariant.told c.in_ok-sync.ensures.told;
  items = c.as_slice-id-items.ensures.same;
  faults = search rules;
  syncs = one_more_counted c.as_slice-id-items.result.now c.loop-id.id-index _ (g.S.Site.told c.args.site.now) (g.S.Site.told c.loop-id.site) _ _ _ c.loop-id.invariant.told c.loop-id.invariant.syncs c.in_ok-sync.ensures.syncs;
  reads = search rules;
}
