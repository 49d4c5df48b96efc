use Rattle.std.proofs.Common.{not, ap, ◌∙◌}
use Rattle.qls_enqmap.proofs.Ends.{flip, last_at}
use Rattle.qls_enqmap.proofs.slots.last_is_hole.Goals as goal

pub returns-in-Some : goal.returns-in-Some
returns-in-Some c = record {
  hole = flip _ c.is_none.result c.is_none.ensures ∙ ap not (last_at c.args.slots.now.entries c.in-Some.field-0-0.now c.in-Some.slot.now c.in-Some.ensures.entry);
}
