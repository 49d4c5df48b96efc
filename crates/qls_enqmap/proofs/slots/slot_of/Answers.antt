use Rattle.std.proofs.Common.{Some, ap, sym, ◌∙◌}
use Rattle.qls_enqmap.proofs.Rising.{flat, found, key_found}
use Rattle.qls_enqmap.proofs.slots.slot_of.Goals as goal

pub returns-in-Some-clause-slot : goal.returns-in-Some-clause-slot
returns-in-Some-clause-slot c =
    (c.in-Some.field-0-2.now, c.in-Some.ensures.entry ∙ ap (λ k. Some (k, c.in-Some.field-0-2.now)) (key_found c.args.rid c.in-Some.field-0-1.now c.args.slots.now.entries c.in-Some.ensures.key))

pub returns-in-None-clause-none : goal.returns-in-None-clause-none
returns-in-None-clause-none c = found c.args.rid 0 c.args.slots.now.entries c.requires.rises ∙ ap flat (sym c.in-None.ensures.value)
