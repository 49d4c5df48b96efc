use Rattle.std.proofs.Common.{◌≡◌, set, sym, ap, subst, ◌∙◌}
use Rattle.qls_store.specs.Stores.{XidsRise}
use Rattle.qls_store.specs.Table.{prepared, prepared_in}
use Rattle.qls_store.proofs.Placed.{changed_in, unchanged_in}
use Rattle.qls_store.proofs.transactions.Transactions.prepare.Goals as goal

pub returns-in-Ok : goal.returns-in-Ok
returns-in-Ok c =
    let x = c.args.xid.now in
    let ts = c.self.inside.items.items in
    let rising : XidsRise ts = subst XidsRise (sym c.self.view_is) c.requires.rising in
    record {
      prepared = ap (λ t. set ts c.in-Ok.place (prepared t)) c.behind-self.view_is
          ∙ changed_in x c.deref.result.now ts c.deref.ensures.value c.in-Ok.place prepared rising c.in-Ok.ensures.place c.index_mut.result.now c.index_mut.ensures.value
          ∙ ap (prepared_in x) c.self.view_is;
    }

pub returns-in_default : goal.returns-in_default
returns-in_default c =
    let x = c.args.xid.now in
    let ts = c.self.inside.items.items in
    record { prepared = subst (λ us. us ≡ prepared_in x us) c.self.view_is (unchanged_in x c.deref.result.now ts c.deref.ensures.value c.in_default.field-0 prepared c.in_default.ensures.place) }
