use Rattle.std.proofs.Common.{take, ◌+◌, refl, ap, ◌∙◌, arith}
use Rattle.qls_enqmap.specs.Records.{lesser, least_file}
use Rattle.qls_enqmap.specs.Slots.{held_in}
use Rattle.qls_enqmap.proofs.Counted.{least_step}
use Rattle.qls_enqmap.proofs.places.least_file_of.Goals as goal

pub loop-place-preserved : goal.loop-place-preserved
loop-place-preserved c =
    c.lesser_file-least.ensures.least ∙ ap (λ a. lesser a c.file_at_place.result) c.loop-place.invariant ∙ ap (λ b. lesser (least_file (held_in (take c.loop-place.place c.args.slots.now.entries))) b) c.file_at_place.ensures.file
    ∙ least_step c.args.slots.now.entries c.loop-place.place (c.loop-place.place + 1) refl (omega arith)
