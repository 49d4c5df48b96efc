use Rattle.std.proofs.Common.{◌≡◌, List, sym, ap, subst, ◌∙◌}
use Rattle.qls_decide.specs.declared.ListEntry.{ListEntry}
use Rattle.qls_prepared.specs.Lists.{XidsRise as EntriesRise}
use Rattle.qls_store.specs.Stores.{TransactionState, XidsRise}
use Rattle.qls_store.specs.Table.{begun, phase_in, prepared_in}
use Rattle.qls_store.proofs.DoubtTable.{begun_rises, entry_prepared, not_begun, so_far_rises}
use Rattle.qls_store.proofs.doubts.prepare_each.Goals as goal

pub begin-requires-clause-rising : goal.begin-requires-clause-rising
begin-requires-clause-rising c =
    let xs = c.as_slice-list.result.now in
    let rising : EntriesRise xs = subst EntriesRise (sym (c.as_slice-list.ensures.same ∙ c.in_ok-entries.ensures.exact)) c.requires.rising in
    subst XidsRise (sym c.loop-entry.invariant) (so_far_rises xs rising c.loop-entry.entry-index c.entry-item.result c.loop-entry-test.true c.entry-item.is)

pub begin-requires-clause-none : goal.begin-requires-clause-none
begin-requires-clause-none c =
    let xs = c.as_slice-list.result.now in
    let rising : EntriesRise xs = subst EntriesRise (sym (c.as_slice-list.ensures.same ∙ c.in_ok-entries.ensures.exact)) c.requires.rising in
    ap (phase_in c.entry-item.result.xid) c.loop-entry.invariant ∙ not_begun xs rising c.loop-entry.entry-index c.entry-item.result c.loop-entry-test.true c.entry-item.is

pub prepare-requires : goal.prepare-requires
prepare-requires c =
    let xs = c.as_slice-list.result.now in
    let rising : EntriesRise xs = subst EntriesRise (sym (c.as_slice-list.ensures.same ∙ c.in_ok-entries.ensures.exact)) c.requires.rising in
    record {
      rising = subst XidsRise (sym (c.in_ok-begin.ensures.begun ∙ ap (begun c.entry-item.result.xid) c.loop-entry.invariant))
          (begun_rises xs rising c.loop-entry.entry-index c.entry-item.result c.loop-entry-test.true c.entry-item.is);
    }

pub loop-entry-preserved : goal.loop-entry-preserved
loop-entry-preserved c =
    let xs = c.as_slice-list.result.now in
    let x = c.entry-item.result.xid in
    let rising : EntriesRise xs = subst EntriesRise (sym (c.as_slice-list.ensures.same ∙ c.in_ok-entries.ensures.exact)) c.requires.rising in
    c.prepare.ensures.prepared ∙ ap (prepared_in x) (c.in_ok-begin.ensures.begun ∙ ap (begun x) c.loop-entry.invariant)
    ∙ entry_prepared xs rising c.loop-entry.entry-index c.entry-item.result c.loop-entry-test.true c.entry-item.is
