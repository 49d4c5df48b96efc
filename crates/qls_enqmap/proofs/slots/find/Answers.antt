use Rattle.std.proofs.Common.{ap, sym, ◌∙◌}
use Rattle.qls_enqmap.proofs.Rising.{flat, found}
use Rattle.qls_enqmap.proofs.slots.find.Goals as goal

pub returns-in-Some : goal.returns-in-Some
returns-in-Some c = record { found = c.as_ref.ensures.value ∙ ap flat c.in-Some.ensures.value ∙ sym (found c.args.rid 0 c.args.slots.now.entries c.requires.rises) }

pub returns-in-None : goal.returns-in-None
returns-in-None c = record { found = ap flat c.in-None.ensures.value ∙ sym (found c.args.rid 0 c.args.slots.now.entries c.requires.rises) }
