use Rattle.std.proofs.Common.{◌≡◌, ◌<◌, false, map, drop, Ok, IfSome}
use Rattle.std.specs.List.{AllByRecursion}
use Rattle.qls_site.specs.Content.{Tells}
use Rattle.qls_pool.specs.Files.{OnDisk, Carries}
use Rattle.qls_journals.specs.State.{queues_of, AreJournals, Fits, IsListAlive}
use Rattle.qls_store.specs.Ends.{end_need}
use Rattle.qls_store.specs.Stores.{touched}
use Rattle.qls_store.specs.Calls.{ended_in, Calls, HadFirst}
use Rattle.qls_store.proofs.Named.{AreNamed}
use Rattle.qls_store.proofs.ending.end_in_each.Given as goal

abbrev pub invariant-loop-name : goal.invariant-loop-name
invariant-loop-name g l = record {
  queues : ended_in (drop l.name-index l.names) l.ends (queues_of l.journals) ≡ ended_in l.names l.ends (queues_of l.fn.journals);
  list : l.journals.list ≡ l.fn.journals.list;
  kept : AreJournals l.journals;
  left : AllByRecursion (λ e. touched e.xid (queues_of l.journals) ≡ drop l.name-index l.names) l.ends;
  there : AreNamed (drop l.name-index l.names) (queues_of l.journals);
  fits : IfSome (g.S.Site.told l.site) (OnDisk (Fits l.journals));
  called : Calls (Ok l.journals) l.fn.journals (g.S.Site.told l.fn.site) (g.S.Site.told l.site) (g.N.Serials.drawn l.fn.serials) (g.N.Serials.drawn l.serials) (g.S.Site.faults l.fn.site) (g.S.Site.faults l.site) (g.N.Serials.faults l.fn.serials) (g.N.Serials.faults l.serials);
  alive : Carries (IsListAlive l.fn.journals) (IsListAlive l.journals) (g.S.Site.told l.fn.site) (g.S.Site.told l.site);
  first : l.name-index ≡ 0 → (l.journals ≡ l.fn.journals) × (g.S.Site.told l.site ≡ g.S.Site.told l.fn.site);
  had : 0 < l.name-index → Tells (HadFirst l.fn.journals false (map end_need l.names)) (g.S.Site.told l.fn.site) (g.S.Site.told l.site);
}
