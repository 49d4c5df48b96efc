use Rattle.std.proofs.Common.{rules, ◌≡◌, ℕ, ◌<◌, List, None, length, sym, ap, subst, ◌∙◌}
use Rattle.qls_decide.specs.declared.ListEntry.{ListEntry}
use Rattle.qls_decide.specs.declared.ListState.{ListState}
use Rattle.qls_decide.specs.Entries.{entry_of, with_entry}
use Rattle.qls_enqmap.specs.Records.{AllBelow}
use Rattle.qls_meaning.specs.Reading.{read_of}
use Rattle.qls_meaning.specs.Replay.{entry_state, prepare_entry}
use Rattle.qls_prepared.proofs.HeldBehind.{below_one}
use Rattle.qls_prepared.proofs.Opened.{none_own, with_twice, xid_is}
use Rattle.qls_prepared.proofs.entries.Entries.enter.Goals as goal

pub add-requires-clause-none : goal.add-requires-clause-none
add-requires-clause-none c = subst (λ (es : List ListEntry). entry_of c.args.got.now.xid es ≡ None) (sym c.end.ensures.entries) (none_own c.args.got.now.xid c.args.self.now.entries)

pub add-requires-clause-above : goal.add-requires-clause-above
add-requires-clause-above c = subst (AllBelow c.args.got.now.head.rid) (sym c.end.ensures.held) (below_one c.args.got.now.head.rid (entry_of c.args.got.now.xid c.args.self.now.entries) c.args.self.now.held c.requires.above)

pub returns-clause-entries : goal.returns-clause-entries
returns-clause-entries c =
    let x : List ℕ = c.args.got.now.xid in
    let es : List ListEntry = c.args.self.now.entries in
    let e : ListEntry = record { xid = x; rid = c.args.got.now.head.rid; state = entry_state c.args.got.now.head.flagged } in
    let some : 0 < length x = search (rules) in
    c.in_ok-add.ensures.entries ∙ ap (λ (s : ListState). with_entry (record e { state = s }) c.end.new.self.entries) c.entry_state.ensures.exact
    ∙ ap (with_entry e) c.end.ensures.entries ∙ with_twice e es ∙ sym (ap (λ o. prepare_entry (read_of c.args.got.now).what o es) (xid_is x some))
