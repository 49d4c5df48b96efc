use Rattle.std.proofs.Common.{◌≡◌, ◌≤◌, length, Ok, IfSome}
use Rattle.std.specs.List.{AllByRecursion}
use Rattle.qls_decide.specs.Entries.{verdict_by}
use Rattle.qls_pool.specs.Files.{OnDisk}
use Rattle.qls_journals.specs.State.{queues_of, AreJournals, Fits}
use Rattle.qls_store.specs.Calls.{Calls}
use Rattle.qls_store.specs.Settling.{IsDoubted}
use Rattle.qls_store.proofs.SettledQueues.{settled_to}
use Rattle.qls_store.proofs.settling.settle_queues.Given as goal

abbrev pub invariant-loop-at : goal.invariant-loop-at
invariant-loop-at g l = record {
  count : l.count ≡ length l.fn.journals.queues;
  queues : queues_of l.settled ≡ settled_to (verdict_by l.entries) l.at (queues_of l.fn.journals);
  list : l.settled.list ≡ l.fn.journals.list;
  kept : AreJournals l.settled;
  fits : IfSome (g.S.Site.told l.site) (OnDisk (Fits l.settled));
  called : Calls (Ok l.settled) l.fn.journals (g.S.Site.told l.fn.site) (g.S.Site.told l.site) (g.N.Serials.drawn l.fn.serials) (g.N.Serials.drawn l.serials) (g.S.Site.faults l.fn.site) (g.S.Site.faults l.site) (g.N.Serials.faults l.fn.serials) (g.N.Serials.faults l.serials);
  still : AllByRecursion (IsDoubted (verdict_by l.entries)) (queues_of l.fn.journals) → (l.settled ≡ l.fn.journals) × (l.site ≡ l.fn.site);
}
