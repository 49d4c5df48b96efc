use Rattle.std.proofs.Common.{◌≡◌, List, [], ◌∷◌, false, Some, Ok, refl, sym, ap, subst, ◌∙◌}
use Rattle.std.specs.Prelude.{option_copied}
use Rattle.qls_record.specs.Record.{Record}
use Rattle.qls_site.specs.Content.{Tells}
use Rattle.qls_decide.specs.declared.ListEntry.{ListEntry}
use Rattle.qls_decide.specs.declared.ListState.TheVariants.{Prepared}
use Rattle.qls_decide.specs.Entries.{entry_of, state_of, with_entry}
use Rattle.qls_meaning.specs.Replay.{decision}
use Rattle.qls_pool.specs.Moments.{Arrives}
use Rattle.qls_log.specs.Steps.{IsLogStep, is_exact}
use Rattle.qls_log.proofs.Going.{draws_nothing}
use Rattle.qls_prepared.specs.Lists.{PreparedState, IsSound, StaysWhole, opening_by, rid_of}
use Rattle.qls_prepared.specs.Records.{decision_of}
use Rattle.qls_prepared.specs.Moments.{WritesOn}
use Rattle.qls_prepared.specs.Writing.{base_of, IsOwnBehind, SaysBy}
use Rattle.qls_prepared.proofs.Entered.{told_decision, list_is}
use Rattle.qls_prepared.proofs.Fitting.{told_fit}
use Rattle.qls_prepared.proofs.Present.{entry_xid, of_there}
use Rattle.qls_prepared.proofs.Sounds.{sound_decided}
use Rattle.qls_prepared.proofs.list.PreparedList.decide.Goals as goal

pub decision_batch-requires-clause-xid : goal.decision_batch-requires-clause-xid
decision_batch-requires-clause-xid g c =
    let q : PreparedState = record { home = c.self.inside.home; log = c.self.inside.log; entries = c.self.inside.entries.entries; held = c.self.inside.entries.held; ended = c.self.inside.ended } in
    let s : IsSound q = c.self.invariant (ap (λ (p : PreparedState). p.ended) c.self.view_is ∙ c.requires.unended) in
    let e : ListEntry = c.unwrap.result.now in
    let found : entry_of c.args.xid q.entries ≡ Some e = sym c.get.ensures.exact ∙ ap option_copied c.unwrap.ensures in
    entry_xid c.args.xid e q.entries s.xids found

pub returns-in_err-batch-clause-drew : goal.returns-in_err-batch-clause-drew
returns-in_err-batch-clause-drew g c = draws_nothing (IsLogStep (opening_by c.args.self.now.home c.args.self.now.log)) (is_exact c.from_residual.result) _ _

pub invariant_of-self-2 : goal.invariant_of-self-2
invariant_of-self-2 g c = λ _.
    let q : PreparedState = record { home = c.self.inside.home; log = c.self.inside.log; entries = c.self.inside.entries.entries; held = c.self.inside.entries.held; ended = c.self.inside.ended } in
    let s : IsSound q = c.self.invariant (ap (λ (p : PreparedState). p.ended) c.self.view_is ∙ c.requires.unended) in
    let e : ListEntry = c.unwrap.result.now in
    let found : entry_of c.args.xid q.entries ≡ Some e = sym c.get.ensures.exact ∙ ap option_copied c.unwrap.ensures in
    let rid : c.rid-rid.result ≡ rid_of q = c.rid-rid.ensures.exact ∙ ap rid_of (sym c.self.view_is) in
    let rs : List Record = decision_of (rid_of q) e.rid c.args.xid c.args.commit ∷ [] in
    let batch : c.in_ok-batch.batch ≡ rs = c.in_ok-batch.ensures.exact ∙ ap (λ n. decision_of n e.rid c.args.xid c.args.commit ∷ []) rid in
    let entries : c.decide.new.self.entries ≡ with_entry (record e { state = decision c.args.commit }) q.entries =
    of_there (λ (f : ListEntry). c.decide.new.self.entries ≡ with_entry (record f { state = decision c.args.commit }) q.entries) (entry_of c.args.xid q.entries) e found c.decide.ensures.entries in
    let own : IsOwnBehind (rid_of q) rs c.write.new.log = subst (λ (xs : List Record). IsOwnBehind (rid_of q) xs c.write.new.log) batch c.in_ok-_spot.ensures.own in
    list_is q.home c.write.new.log c.decide.new.self.entries (with_entry (record e { state = decision c.args.commit }) q.entries) c.decide.new.self.held q.held entries c.decide.ensures.held
    (sound_decided q s rs c.write.new.log own e c.args.xid (decision c.args.commit) refl found)

pub returns-clause-sound : goal.returns-clause-sound
returns-clause-sound g c = invariant_of-self-2 g c refl

pub returns-clause-fit : goal.returns-clause-fit
returns-clause-fit g c = told_fit c.args.pool.now c.write.new.pool (Arrives (IsLogStep (opening_by c.self.inside.home c.self.inside.log))) _ _ c.in_ok-_spot.ensures.went c.requires.pool c.in_ok-_spot.ensures.pool c.in_ok-_spot.ensures.fit

pub returns-clause-whole : goal.returns-clause-whole
returns-clause-whole g c =
    let q : PreparedState = record { home = c.self.inside.home; log = c.self.inside.log; entries = c.self.inside.entries.entries; held = c.self.inside.entries.held; ended = c.self.inside.ended } in
    let s : IsSound q = c.self.invariant (ap (λ (p : PreparedState). p.ended) c.self.view_is ∙ c.requires.unended) in
    let e : ListEntry = c.unwrap.result.now in
    let found : entry_of c.args.xid q.entries ≡ Some e = sym c.get.ensures.exact ∙ ap option_copied c.unwrap.ensures in
    let rid : c.rid-rid.result ≡ rid_of q = c.rid-rid.ensures.exact ∙ ap rid_of (sym c.self.view_is) in
    let rs : List Record = decision_of (rid_of q) e.rid c.args.xid c.args.commit ∷ [] in
    let batch : c.in_ok-batch.batch ≡ rs = c.in_ok-batch.ensures.exact ∙ ap (λ n. decision_of n e.rid c.args.xid c.args.commit ∷ []) rid in
    let entries : c.decide.new.self.entries ≡ with_entry (record e { state = decision c.args.commit }) q.entries =
    of_there (λ (f : ListEntry). c.decide.new.self.entries ≡ with_entry (record f { state = decision c.args.commit }) q.entries) (entry_of c.args.xid q.entries) e found c.decide.ensures.entries in
    let new : PreparedState = record { home = c.self.inside.home; log = c.write.new.log; entries = c.decide.new.self.entries; held = c.decide.new.self.held; ended = false } in
    let prepared : state_of (entry_of c.args.xid q.entries) ≡ Some Prepared = subst (λ (p : PreparedState). state_of (entry_of c.args.xid p.entries) ≡ Some Prepared) (sym c.self.view_is) c.requires.prepared in
    let says : Tells (SaysBy q.log rs (base_of q.home q.log) c.write.new.log) (g.S.Site.told c.args.site.now) (g.S.Site.told c.write.new.site) =
    subst (λ (xs : List Record). Tells (SaysBy q.log xs (base_of q.home q.log) c.write.new.log) (g.S.Site.told c.args.site.now) (g.S.Site.told c.write.new.site)) batch c.in_ok-_spot.ensures.whole in
    subst (λ (p : PreparedState). Tells (StaysWhole p new) (g.S.Site.told c.args.site.now) (g.S.Site.told c.write.new.site)) c.self.view_is
    (told_decision q new c.args.xid c.args.commit e c.write.new.log _ _ s.rising found prepared says refl entries c.decide.ensures.held)

pub returns-clause-writes : goal.returns-clause-writes
returns-clause-writes g c =
    subst (λ (p : PreparedState). Tells (WritesOn {X = Unit {0}} (Ok tt) p.log (λ _. c.write.new.log)) (g.S.Site.told c.args.site.now) (g.S.Site.told c.write.new.site)) c.self.view_is c.in_ok-_spot.ensures.writes
