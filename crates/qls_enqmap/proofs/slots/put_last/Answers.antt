use Rattle.std.proofs.Common.{nat_eq, Some, ◌∙◌}
use Rattle.indexmap.proofs.CallerLemmas.{insert_entry-new}
use Rattle.qls_enqmap.proofs.Ends.{absent_above}
use Rattle.qls_enqmap.proofs.slots.put_last.Goals as goal

pub returns-clause-put : goal.returns-clause-put
returns-clause-put c =
    c.in_ok-insert.ensures.entries ∙ insert_entry-new nat_eq c.args.slots.now c.args.held.rid (Some c.args.held) (absent_above c.args.held.rid c.args.slots.now.entries c.requires.above)
