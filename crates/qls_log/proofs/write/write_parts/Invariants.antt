use Rattle.std.proofs.Common.{◌≡◌, ℕ, ◌+◌, ◌-◌, ◌*◌, ◌%◌, ◌<◌, ◌≤◌, drop, length, IfSome}
use Rattle.qls_site.specs.Content.{Tells}
use Rattle.qls_log.proofs.Writes.{WritesOn, Adds, InOrder}
use Rattle.qls_log.proofs.OwnWrites.{KeptSo}
use Rattle.qls_log.specs.Writing.{HaveRoom}
use Rattle.qls_log.proofs.write.write_parts.Given as goal

abbrev pub invariant-loop-id : goal.invariant-loop-id
invariant-loop-id g l = record {
  told : Tells (WritesOn l.capacity (drop l.id-index l.ids) l.at (drop l.done l.bytes) l.fn.ids l.fn.from l.fn.bytes) (g.S.Site.told l.fn.site) (g.S.Site.told l.site);
  added : Tells Adds (g.S.Site.told l.fn.site) (g.S.Site.told l.site);
  there : IfSome (g.S.Site.told l.site) (HaveRoom l.capacity l.ids);
  at : (l.at % 4096 ≡ 0) × (l.at < l.capacity);
  done : (l.done ≤ length l.bytes) × ((length l.bytes - l.done) % 4096 ≡ 0);
  some : l.id-index < length l.ids → 0 < length l.bytes - l.done;
  each : (i : ℕ) → i < length (drop l.id-index l.ids) → l.capacity * i < l.at + (length l.bytes - l.done);
  faults : g.S.Site.faults l.fn.site ≤ g.S.Site.faults l.site;
  syncs : g.S.Site.syncs l.site ≡ g.S.Site.syncs l.fn.site;
  reads : g.S.Site.reads l.site ≡ g.S.Site.reads l.fn.site;
  orderly : InOrder l.ids (g.S.Site.told l.fn.site) (g.S.Site.told l.site);
  own : KeptSo l.ids (g.S.Site.told l.fn.site) (g.S.Site.told l.site);
}
