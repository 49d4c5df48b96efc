use Rattle.std.proofs.Common.{Some, option_map, sym, ap, subst, ◌∙◌}
use Rattle.qls_store.specs.Stores.{TransactionState, XidsRise}
use Rattle.qls_store.specs.Table.{phase_in}
use Rattle.qls_store.proofs.Placed.{named_in, none_in}
use Rattle.qls_store.proofs.transactions.Transactions.phase.Goals as goal

pub returns-in-Ok : goal.returns-in-Ok
returns-in-Ok c =
    let x = c.args.xid.now in
    let ts = c.self.inside.items.items in
    let rising : XidsRise ts = subst XidsRise (sym c.self.view_is) c.requires.rising in
    let found = named_in x c.deref.result.now ts c.deref.ensures.value c.in-Ok.place rising c.in-Ok.ensures.place c.index-item.result.now c.index-item.ensures in
    record { found = ap (λ (t : TransactionState). Some t.phase) c.item.view_is ∙ sym (ap (option_map (λ (t : TransactionState). t.phase)) found) ∙ ap (phase_in x) c.self.view_is }

pub returns-in-Err : goal.returns-in-Err
returns-in-Err c =
    let x = c.args.xid.now in
    let ts = c.self.inside.items.items in
    let none = none_in x c.deref.result.now ts c.deref.ensures.value c.in-Err.field-0 c.in-Err.ensures.place in
    record { found = sym (ap (option_map (λ (t : TransactionState). t.phase)) none) ∙ ap (phase_in x) c.self.view_is }
