use Rattle.std.proofs.Common.{sym, subst, ◌∙◌}
use Rattle.qls_store.specs.Table.{StandsAt, WouldStandAt}
use Rattle.qls_store.proofs.Placed.{name_of, with_name_at, with_name_there}
use Rattle.qls_store.proofs.transactions.insert_name.Goals as goal

pub returns-in_ok-insert : goal.returns-in_ok-insert
returns-in_ok-insert c =
    let ns = c.args.names.now.items in
    let w : WouldStandAt name_of ns c.args.name c.in-Err.place = subst (λ ms. WouldStandAt name_of ms c.args.name c.in-Err.place) c.deref.ensures.value c.in-Err.ensures.place in
    record { inserted = c.in_ok-insert.ensures.items ∙ sym (with_name_at c.args.name ns c.in-Err.place w) }

pub returns-in_default : goal.returns-in_default
returns-in_default c =
    let ns = c.args.names.now.items in
    let w : StandsAt name_of ns c.args.name c.in_default.field-0 = subst (λ ms. StandsAt name_of ms c.args.name c.in_default.field-0) c.deref.ensures.value c.in_default.ensures.place in
    record { inserted = sym (with_name_there c.args.name ns c.in_default.field-0 c.requires.rising w) }
