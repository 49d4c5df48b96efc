use Rattle.std.proofs.Common.{◌≡◌, ◌+◌, ◌∷◌, [], Bool, true, false, not, IfOk, refl, sym, ap, subst}
use Rattle.qls_site.specs.Content.{Tells}
use Rattle.qls_model.specs.Machine.{is_prepared}
use Rattle.qls_filehdr.specs.declared.JournalKind.TheVariants as journal
use Rattle.qls_decide.specs.declared.ListState.TheVariants as listed
use Rattle.qls_journals.specs.State.{JournalsState}
use Rattle.qls_prepared.specs.Lists.{rid_of}
use Rattle.qls_prepared.specs.Records.{one_phase_records, decision_of}
use Rattle.qls_journals.specs.Ends.{StopsAtEnd, HadRoom}
use Rattle.qls_store.specs.Ends.{list_need}
use Rattle.qls_store.specs.Calls.{HadFirst, StopsInOne}
use Rattle.qls_store.proofs.Batches.{RidIs, one_phase_size, decision_size, ok_had_rid, ok_had_one, stops_rid, told_stops_one}
use Rattle.qls_store.proofs.Entries.{entered_gone, entered_ends, decided_gone, decided_ends, the_entry, at_entry, ok_map}
use Rattle.qls_store.proofs.Deciding.{carried_open, carried_prepared}
use Rattle.qls_store.proofs.Together.{same_released}
use Rattle.qls_store.proofs.ending.decide_in_list.Goals as goal

pub returns-in-Open-clause-carried : goal.returns-in-Open-clause-carried
returns-in-Open-clause-carried g c =
    carried_open c.args.xid c.args.journals.list.entries (rid_of c.args.journals.list + 1) c.args.commit (c.requires.commits c.in-Open.is) c.one_phase.result c.one_phase.ensures.entries

pub returns-in-Prepared-clause-carried : goal.returns-in-Prepared-clause-carried
returns-in-Prepared-clause-carried g c =
    carried_prepared c.args.phase c.args.xid c.args.journals.list.entries c.args.commit c.in-Prepared.is c.requires.entry c.decide.result c.decide.ensures.entries

pub returns-in-Open-clause-called : goal.returns-in-Open-clause-called
returns-in-Open-clause-called g c = record {
  told = c.one_phase.ensures.told;
  drawn = c.one_phase.ensures.drawn;
  leaves = c.one_phase.ensures.leaves;
  writes = c.one_phase.ensures.writes;
  homes = c.one_phase.ensures.homes;
  released = same_released c.args.journals c.one_phase.result c.one_phase.ensures.queues;
  pools = c.one_phase.ensures.pools;
  causes = c.one_phase.ensures.causes;
}

pub returns-in-Open-clause-entries : goal.returns-in-Open-clause-entries
returns-in-Open-clause-entries g c =
    entered_gone c.args.xid c.args.journals.list.entries (record { xid = c.args.xid; rid = rid_of c.args.journals.list + 1; state = listed.DecidedCommit }) refl c.one_phase.result c.one_phase.ensures.entries

pub returns-in-Open-clause-decided : goal.returns-in-Open-clause-decided
returns-in-Open-clause-decided g c =
    entered_ends c.args.xid c.args.journals.list.entries (record { xid = c.args.xid; rid = rid_of c.args.journals.list + 1; state = listed.DecidedCommit }) refl tt c.one_phase.result c.one_phase.ensures.entries

pub returns-in-Open-clause-had : goal.returns-in-Open-clause-had
returns-in-Open-clause-had g c =
    let rs = one_phase_records (rid_of c.args.journals.list) c.args.xid in
    let law : RidIs c.args.journals = λ d f w. c.whole_journals_are_their_meaning.ensures.rid c.args.journals d c.requires.journals f w in
    let raises : true ≡ not (is_prepared c.args.phase) = ap (λ p. not (is_prepared p)) (sym c.in-Open.is) in
    subst (λ (b : Bool). IfOk c.one_phase.result (λ (x : JournalsState). Tells (HadFirst c.args.journals b (list_need ∷ [])) (g.S.Site.told c.args.site.now) (g.S.Site.told c.one_phase.new.site))) raises
    (ok_had_rid c.args.journals rs (one_phase_size (rid_of c.args.journals.list) c.args.xid c.requires.xid) law c.one_phase.result _ _ c.requires.fits (λ e. (c.one_phase.ensures.last e).0) c.one_phase.ensures.had)

pub returns-in-Open-clause-spent : goal.returns-in-Open-clause-spent
returns-in-Open-clause-spent g c = λ e.
    let rs = one_phase_records (rid_of c.args.journals.list) c.args.xid in
    let law : RidIs c.args.journals = λ d f w. c.whole_journals_are_their_meaning.ensures.rid c.args.journals d c.requires.journals f w in
    let raises : true ≡ not (is_prepared c.args.phase) = ap (λ p. not (is_prepared p)) (sym c.in-Open.is) in
    subst (λ (b : Bool). Tells (StopsInOne c.args.journals b (list_need ∷ [])) (g.S.Site.told c.args.site.now) (g.S.Site.told c.one_phase.new.site)) raises
    (stops_rid c.args.journals rs (one_phase_size (rid_of c.args.journals.list) c.args.xid c.requires.xid) law _ _ c.requires.fits (λ l. ap (λ s. g.S.Site.told s) (c.one_phase.ensures.last l).1) (c.one_phase.ensures.spent e))

pub returns-in-Prepared-clause-called : goal.returns-in-Prepared-clause-called
returns-in-Prepared-clause-called g c = record {
  told = c.decide.ensures.told;
  drawn = c.decide.ensures.drawn;
  leaves = c.decide.ensures.leaves;
  writes = c.decide.ensures.writes;
  homes = c.decide.ensures.homes;
  released = same_released c.args.journals c.decide.result c.decide.ensures.queues;
  pools = c.decide.ensures.pools;
  causes = c.decide.ensures.causes;
}

pub returns-in-Prepared-clause-entries : goal.returns-in-Prepared-clause-entries
returns-in-Prepared-clause-entries g c = decided_gone c.args.phase c.args.xid c.args.journals.list.entries c.args.commit c.in-Prepared.is c.requires.entry c.decide.result c.decide.ensures.entries

pub returns-in-Prepared-clause-decided : goal.returns-in-Prepared-clause-decided
returns-in-Prepared-clause-decided g c = decided_ends c.args.phase c.args.xid c.args.journals.list.entries c.args.commit c.in-Prepared.is c.requires.entry c.decide.result c.decide.ensures.entries

pub returns-in-Prepared-clause-had : goal.returns-in-Prepared-clause-had
returns-in-Prepared-clause-had g c =
    let es = c.args.journals.list.entries in
    let e = the_entry c.args.phase c.args.xid es c.in-Prepared.is c.requires.entry in
    let rs = decision_of (rid_of c.args.journals.list) e.0.rid c.args.xid c.args.commit ∷ [] in
    let raises : false ≡ not (is_prepared c.args.phase) = ap (λ p. not (is_prepared p)) (sym c.in-Prepared.is) in
    subst (λ (b : Bool). IfOk c.decide.result (λ (x : JournalsState). Tells (HadFirst c.args.journals b (list_need ∷ [])) (g.S.Site.told c.args.site.now) (g.S.Site.told c.decide.new.site))) raises
    (ok_had_one c.args.journals journal.List [] rs (decision_size (rid_of c.args.journals.list) e.0.rid c.args.xid c.args.commit c.requires.xid) c.decide.result _ _
    (ok_map (λ (x : JournalsState). _) (λ (x : JournalsState). Tells (HadRoom c.args.journals journal.List [] rs) (g.S.Site.told c.args.site.now) (g.S.Site.told c.decide.new.site))
    (λ x k. at_entry c.args.xid es (λ f. Tells (HadRoom c.args.journals journal.List [] (decision_of (rid_of c.args.journals.list) f.rid c.args.xid c.args.commit ∷ [])) (g.S.Site.told c.args.site.now) (g.S.Site.told c.decide.new.site)) e.0 e.1 k) c.decide.result c.decide.ensures.had))

pub returns-in-Prepared-clause-spent : goal.returns-in-Prepared-clause-spent
returns-in-Prepared-clause-spent g c = λ s.
    let es = c.args.journals.list.entries in
    let e = the_entry c.args.phase c.args.xid es c.in-Prepared.is c.requires.entry in
    let rs = decision_of (rid_of c.args.journals.list) e.0.rid c.args.xid c.args.commit ∷ [] in
    let raises : false ≡ not (is_prepared c.args.phase) = ap (λ p. not (is_prepared p)) (sym c.in-Prepared.is) in
    subst (λ (b : Bool). Tells (StopsInOne c.args.journals b (list_need ∷ [])) (g.S.Site.told c.args.site.now) (g.S.Site.told c.decide.new.site)) raises
    (told_stops_one c.args.journals journal.List [] rs (decision_size (rid_of c.args.journals.list) e.0.rid c.args.xid c.args.commit c.requires.xid) false _ _
    (at_entry c.args.xid es (λ f. Tells (StopsAtEnd c.args.journals journal.List [] (decision_of (rid_of c.args.journals.list) f.rid c.args.xid c.args.commit ∷ [])) (g.S.Site.told c.args.site.now) (g.S.Site.told c.decide.new.site)) e.0 e.1 (c.decide.ensures.spent s)))
