use Rattle.std.proofs.Common.{◌≡◌, sym, ap, subst, ◌∙◌}
use Rattle.qls_store.specs.Stores.{TransactionState, XidsRise}
use Rattle.qls_store.specs.Table.{queues_by, queues_in, without}
use Rattle.qls_store.proofs.Placed.{named_in, none_in, removed_in, kept_in}
use Rattle.qls_store.proofs.transactions.Transactions.end.Goals as goal

pub returns-in-Ok-clause-names : goal.returns-in-Ok-clause-names
returns-in-Ok-clause-names c =
    let x = c.args.xid.now in
    let ts = c.self.inside.items.items in
    let rising : XidsRise ts = subst XidsRise (sym c.self.view_is) c.requires.rising in
    let found = named_in x c.deref.result.now ts c.deref.ensures.value c.in-Ok.place rising c.in-Ok.ensures.place c.remove.result c.remove.ensures.value in
    ap (λ (t : TransactionState). t.queues) c.result.view_is ∙ sym (ap queues_by found) ∙ ap (queues_in x) c.self.view_is

pub returns-in-Ok-clause-without : goal.returns-in-Ok-clause-without
returns-in-Ok-clause-without c =
    let x = c.args.xid.now in
    let ts = c.self.inside.items.items in
    let rising : XidsRise ts = subst XidsRise (sym c.self.view_is) c.requires.rising in
    c.remove.ensures.items ∙ removed_in x c.deref.result.now ts c.deref.ensures.value c.in-Ok.place rising c.in-Ok.ensures.place ∙ ap (without x) c.self.view_is

pub returns-in-Err-clause-names : goal.returns-in-Err-clause-names
returns-in-Err-clause-names c =
    let x = c.args.xid.now in
    let ts = c.self.inside.items.items in
    let none = none_in x c.deref.result.now ts c.deref.ensures.value c.in-Err.field-0 c.in-Err.ensures.place in
    c.new.ensures.items ∙ sym (ap queues_by none) ∙ ap (queues_in x) c.self.view_is

pub returns-in-Err-clause-without : goal.returns-in-Err-clause-without
returns-in-Err-clause-without c =
    let x = c.args.xid.now in
    let ts = c.self.inside.items.items in
    subst (λ us. us ≡ without x us) c.self.view_is (kept_in x c.deref.result.now ts c.deref.ensures.value c.in-Err.field-0 c.in-Err.ensures.place)
