use Rattle.std.proofs.Common.{◌≡◌, ◌<◌, ◌+◌, ◌^◌, List, [], ◌∷◌, ◌++◌, false, None, Ok, refl, sym, ap, subst, ◌∙◌, arith}
use Rattle.qls_record.specs.Record.{Record}
use Rattle.qls_site.specs.Content.{Tells}
use Rattle.qls_decide.specs.declared.ListEntry.{ListEntry}
use Rattle.qls_decide.specs.declared.ListState.{ListState}
use Rattle.qls_decide.specs.Entries.{entry_of, with_entry}
use Rattle.qls_pool.specs.Moments.{Arrives}
use Rattle.qls_pool.proofs.Serials.{drawn_any}
use Rattle.qls_log.specs.declared.spot.Spot.{Spot}
use Rattle.qls_log.specs.Steps.{IsLogStep, is_exact}
use Rattle.qls_log.proofs.Going.{draws_nothing}
use Rattle.qls_prepared.specs.Lists.{PreparedState, IsSound, StaysWhole, opening_by, rid_of}
use Rattle.qls_prepared.specs.Records.{entry_records, entered_state}
use Rattle.qls_prepared.specs.Moments.{WritesOn}
use Rattle.qls_prepared.specs.Table.{held_at_spot}
use Rattle.qls_prepared.specs.Writing.{base_of, first_spot, IsOwnBehind, SaysBy}
use Rattle.qls_prepared.proofs.Entered.{told_entered, list_is}
use Rattle.qls_prepared.proofs.Fitting.{told_fit}
use Rattle.qls_prepared.proofs.Follows.{entry_last}
use Rattle.qls_prepared.proofs.Sounds.{sound_entered}
use Rattle.qls_prepared.proofs.list.PreparedList.enter.Goals as goal

pub returns-in_err-batch-clause-drew : goal.returns-in_err-batch-clause-drew
returns-in_err-batch-clause-drew g c = draws_nothing (IsLogStep (opening_by c.args.self.now.home c.args.self.now.log)) (is_exact c.from_residual.result) _ _

pub returns-in_err-add-clause-drew : goal.returns-in_err-add-clause-drew
returns-in_err-add-clause-drew g c = drawn_any (is_exact c.from_residual-in_err-add.result) _ _ _ _ c.in_ok-spot.ensures.drew

pub invariant_of-self-2 : goal.invariant_of-self-2
invariant_of-self-2 g c = λ _.
    let q : PreparedState = record { home = c.self.inside.home; log = c.self.inside.log; entries = c.self.inside.entries.entries; held = c.self.inside.entries.held; ended = c.self.inside.ended } in
    let s : IsSound q = c.self.invariant (ap (λ (p : PreparedState). p.ended) c.self.view_is ∙ c.requires.unended) in
    let rid : c.rid-rid.result ≡ rid_of q = c.rid-rid.ensures.exact ∙ ap rid_of (sym c.self.view_is) in
    let batch : c.in_ok-batch.batch ≡ entry_records (rid_of q) c.args.xid c.args.one_phase = c.in_ok-batch.ensures.exact ∙ ap (λ n. entry_records n c.args.xid c.args.one_phase) rid in
    let own : IsOwnBehind (rid_of q) (entry_records (rid_of q) c.args.xid c.args.one_phase) c.write.new.log = subst (λ (rs : List Record). IsOwnBehind (rid_of q) rs c.write.new.log) batch c.in_ok-spot.ensures.own in
    let e : ListEntry = record { xid = c.args.xid; rid = rid_of q + 1; state = entered_state c.args.one_phase } in
    let entries : c.add.new.self.entries ≡ with_entry e q.entries =
    c.in_ok-add.ensures.entries ∙ ap (λ n. with_entry (record { xid = c.args.xid; rid = n + 1; state = c.entered_state-state.result }) q.entries) rid
    ∙ ap (λ (t : ListState). with_entry (record { xid = c.args.xid; rid = rid_of q + 1; state = t }) q.entries) c.entered_state-state.ensures.exact in
    let held : c.add.new.self.held ≡ q.held ++ held_at_spot (rid_of q + 1) c.in_ok-spot.spot ∷ [] = c.in_ok-add.ensures.held ∙ ap (λ n. q.held ++ held_at_spot (n + 1) c.in_ok-spot.spot ∷ []) rid in
    let below : rid_of q < 2 ^ 62 = s.rid in
    let more = c.if-rid-eq-LAST_RID.false in
    let fits : rid_of q + 1 < 2 ^ 62 = omega (arith, below, more, rid) in
    list_is q.home c.write.new.log c.add.new.self.entries (with_entry e q.entries) c.add.new.self.held (q.held ++ held_at_spot (rid_of q + 1) c.in_ok-spot.spot ∷ []) entries held
    (sound_entered q s (entry_records (rid_of q) c.args.xid c.args.one_phase) c.write.new.log own e (held_at_spot (rid_of q + 1) c.in_ok-spot.spot) (entry_last (rid_of q) c.args.xid c.args.one_phase) fits c.requires.xid refl refl)

pub returns-clause-sound : goal.returns-clause-sound
returns-clause-sound g c = invariant_of-self-2 g c refl

pub returns-clause-whole : goal.returns-clause-whole
returns-clause-whole g c =
    let q : PreparedState = record { home = c.self.inside.home; log = c.self.inside.log; entries = c.self.inside.entries.entries; held = c.self.inside.entries.held; ended = c.self.inside.ended } in
    let new : PreparedState = record { home = c.self.inside.home; log = c.write.new.log; entries = c.add.new.self.entries; held = c.add.new.self.held; ended = false } in
    let rid : c.rid-rid.result ≡ rid_of q = c.rid-rid.ensures.exact ∙ ap rid_of (sym c.self.view_is) in
    let rs : List Record = entry_records (rid_of q) c.args.xid c.args.one_phase in
    let batch : c.in_ok-batch.batch ≡ rs = c.in_ok-batch.ensures.exact ∙ ap (λ n. entry_records n c.args.xid c.args.one_phase) rid in
    let spot : c.in_ok-spot.spot ≡ first_spot (base_of q.home q.log) rs = c.in_ok-spot.ensures.spot ∙ ap (λ (qs : List Record). first_spot (base_of q.home q.log) qs) batch in
    let e : ListEntry = record { xid = c.args.xid; rid = rid_of q + 1; state = entered_state c.args.one_phase } in
    let entries : c.add.new.self.entries ≡ with_entry e q.entries =
    c.in_ok-add.ensures.entries ∙ ap (λ n. with_entry (record { xid = c.args.xid; rid = n + 1; state = c.entered_state-state.result }) q.entries) rid
    ∙ ap (λ (t : ListState). with_entry (record { xid = c.args.xid; rid = rid_of q + 1; state = t }) q.entries) c.entered_state-state.ensures.exact in
    let held : c.add.new.self.held ≡ q.held ++ held_at_spot (rid_of q + 1) (first_spot (base_of q.home q.log) rs) ∷ [] =
    c.in_ok-add.ensures.held ∙ ap (λ n. q.held ++ held_at_spot (n + 1) c.in_ok-spot.spot ∷ []) rid ∙ ap (λ (t : Spot). q.held ++ held_at_spot (rid_of q + 1) t ∷ []) spot in
    let none : entry_of c.args.xid q.entries ≡ None = subst (λ (p : PreparedState). entry_of c.args.xid p.entries ≡ None) (sym c.self.view_is) c.requires.none in
    let says : Tells (SaysBy q.log rs (base_of q.home q.log) c.write.new.log) (g.S.Site.told c.args.site.now) (g.S.Site.told c.write.new.site) =
    subst (λ (qs : List Record). Tells (SaysBy q.log qs (base_of q.home q.log) c.write.new.log) (g.S.Site.told c.args.site.now) (g.S.Site.told c.write.new.site)) batch c.in_ok-spot.ensures.whole in
    subst (λ (p : PreparedState). Tells (StaysWhole p new) (g.S.Site.told c.args.site.now) (g.S.Site.told c.write.new.site)) c.self.view_is
    (told_entered q new c.args.one_phase c.args.xid c.write.new.log _ _ c.requires.xid none says refl entries held)

pub returns-clause-writes : goal.returns-clause-writes
returns-clause-writes g c =
    subst (λ (p : PreparedState). Tells (WritesOn {X = Unit {0}} (Ok tt) p.log (λ _. c.write.new.log)) (g.S.Site.told c.args.site.now) (g.S.Site.told c.write.new.site)) c.self.view_is c.in_ok-spot.ensures.writes

pub returns-clause-fit : goal.returns-clause-fit
returns-clause-fit g c = told_fit c.args.pool.now c.write.new.pool (Arrives (IsLogStep (opening_by c.self.inside.home c.self.inside.log))) _ _ c.in_ok-spot.ensures.went c.requires.pool c.in_ok-spot.ensures.pool c.in_ok-spot.ensures.fit
