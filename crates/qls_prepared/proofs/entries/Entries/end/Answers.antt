use Rattle.std.proofs.Common.{◌≡◌, ap, subst, ◌∙◌}
use Rattle.qls_decide.specs.Entries.{entry_of}
use Rattle.qls_prepared.specs.Places.{StandsAt}
use Rattle.qls_prepared.specs.Table.{TableState, held_without}
use Rattle.qls_prepared.proofs.Places.{left_held}
use Rattle.qls_prepared.proofs.entries.Entries.end.Goals as goal
use Rattle.qls_prepared.proofs.entries.Entries.end.Goals.{in-Ok-1, in-Err-1}

pub returns-in-Ok-clause-held : goal.returns-in-Ok-clause-held
returns-in-Ok-clause-held c =
    let place : StandsAt c.self.inside.list.items c.args.xid.now c.in-Ok.place = subst (λ es. StandsAt es c.args.xid.now c.in-Ok.place) c.deref.ensures.value c.in-Ok.ensures.place in
    let left : c.remove-held.new.self ≡ held_without (entry_of c.args.xid.now c.args.self.now.entries) c.args.self.now.held =
    subst (λ (t : TableState). c.remove-held.new.self ≡ held_without (entry_of c.args.xid.now t.entries) t.held) c.self.view_is
    (left_held c.args.xid.now c.self.inside.list.items c.in-Ok.place c.remove-entry.result c.self.inside.held c.remove-held.new.self c.remove-held.result place c.remove-entry.ensures.value
    c.remove-held.ensures.answer c.remove-held.ensures.left c.remove-held.ensures.refused)
    in
    elim c.match-held.branch [
      | in-Ok-1 w ↦ ap (λ (t : TableState). t.held) w.self-is ∙ left
      | in-Err-1 w ↦ ap (λ (t : TableState). t.held) w.self-is ∙ left
    ]
