use Rattle.std.proofs.Common.{ap, ◌∙◌}
use Rattle.qls_decide.specs.Entries.{verdict_for}
use Rattle.qls_model.proofs.XidKeys.{looked_up-as}
use Rattle.qls_look.proofs.settle.verdict.Goals as goal

pub returns : goal.returns
returns c = record { verdict = c.verdict_of.ensures.table ∙ ap verdict_for (c.copied.ensures ∙ c.get.ensures.value ∙ looked_up-as c.args.states.now c.args.xid.now) }
