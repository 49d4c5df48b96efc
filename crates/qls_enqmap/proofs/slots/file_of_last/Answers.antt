use Rattle.std.proofs.Common.{◌∙◌}
use Rattle.qls_enqmap.proofs.Ends.{file_of_last, no_file}
use Rattle.qls_enqmap.proofs.slots.file_of_last.Goals as goal

pub returns-in-Some : goal.returns-in-Some
returns-in-Some c = record {
  file = c.file_of.ensures.file ∙ file_of_last c.args.slots.now.entries c.in-Some.field-0-0.now c.in-Some.slot.now c.in-Some.ensures.entry c.requires.last;
}

pub returns-in-None : goal.returns-in-None
returns-in-None c = record { file = no_file c.args.slots.now.entries c.in-None.ensures.entry }
