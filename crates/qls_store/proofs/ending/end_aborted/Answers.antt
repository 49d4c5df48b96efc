use Rattle.std.proofs.Common.{List, false, IfOk, refl, subst}
use Rattle.qls_site.specs.Content.{Tells}
use Rattle.qls_store.specs.Ends.{Need}
use Rattle.qls_store.specs.Calls.{HadFirst, StopsInOne}
use Rattle.qls_journals.specs.State.{JournalsState, queues_of}
use Rattle.qls_store.proofs.Aborted.{one_of, xids_of, queues_by, list_stays, rid_stays, alive_clean, becomes_clean, rid_decided, open_needs, decided_had, decided_stops}
use Rattle.qls_store.proofs.Deciding.{all_touched, carried_none, not_open}
use Rattle.qls_store.proofs.ending.end_aborted.Goals as goal

pub end_decided-requires-clause-commits : goal.end_decided-requires-clause-commits
end_decided-requires-clause-commits g c = not_open c.args.phase c.in-Prepared.is

pub end_in_each-requires : goal.end_in_each-requires
end_in_each-requires g c = record {
  one = one_of (record { xid = c.args.xid; commit = false }) c.args.ends.now c.requires.one;
  xids = xids_of (record { xid = c.args.xid; commit = false }) c.args.ends.now c.requires.one c.requires.xid;
  decided = carried_none c.args.phase c.args.xid c.args.journals.list.entries c.args.ends.now c.in-Open.is c.requires.entry c.requires.one;
  journals = c.requires.journals;
  all = all_touched c.args.xid false c.args.ends.now c.requires.one c.args.names.now (queues_of c.args.journals) (queues_of c.args.journals) c.requires.all refl;
  there = c.requires.there;
  fits = c.requires.fits;
}

pub returns-in-Open : goal.returns-in-Open
returns-in-Open g c = record {
  queues = queues_by (record { xid = c.args.xid; commit = false }) c.args.ends.now c.requires.one c.args.names.now (queues_of c.args.journals) c.end_in_each.result c.end_in_each.ensures.queues;
  entries = list_stays c.args.xid c.args.phase c.args.journals.list c.in-Open.is c.requires.entry c.end_in_each.result c.end_in_each.ensures.list;
  rid = rid_stays c.args.journals.list c.end_in_each.result c.end_in_each.ensures.list;
  kept = c.end_in_each.ensures.kept;
  called = c.end_in_each.ensures.called;
  clean = alive_clean c.args.journals c.end_in_each.result _ _ c.end_in_each.ensures.called.told c.end_in_each.ensures.alive;
  had = subst (λ (ns : List Need). IfOk c.end_in_each.result (λ (_ : JournalsState). Tells (HadFirst c.args.journals false ns) (g.S.Site.told c.args.site.now) (g.S.Site.told c.end_in_each.new.site))) (open_needs c.args.phase c.in-Open.is c.args.names.now) c.end_in_each.ensures.had;
  spent = λ e. subst (λ (ns : List Need). Tells (StopsInOne c.args.journals false ns) (g.S.Site.told c.args.site.now) (g.S.Site.told c.end_in_each.new.site)) (open_needs c.args.phase c.in-Open.is c.args.names.now) (c.end_in_each.ensures.spent e);
}

pub returns-in-Prepared : goal.returns-in-Prepared
returns-in-Prepared g c = record {
  queues = c.end_decided.ensures.queues;
  entries = c.end_decided.ensures.entries;
  rid = rid_decided c.args.phase c.in-Prepared.is _ c.end_decided.result c.end_decided.ensures.rid;
  kept = c.end_decided.ensures.kept;
  called = c.end_decided.ensures.called;
  clean = becomes_clean c.args.journals c.end_decided.result _ _ c.end_decided.ensures.clean;
  had = decided_had c.args.journals c.args.phase c.in-Prepared.is c.args.names.now c.end_decided.result _ _ c.end_decided.ensures.had;
  spent = λ e. decided_stops c.args.journals c.args.phase c.in-Prepared.is c.args.names.now _ _ (c.end_decided.ensures.spent e);
}
