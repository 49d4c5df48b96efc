use Rattle.std.proofs.Common.{arith}
use Rattle.std.proofs.lemmas.Grind.{common_steps}
use Rattle.qls_model.specs.Messages.{only}
use Rattle.qls_model.proofs.EndLaws.{messages_left-staying}
use Rattle.qls_model.proofs.ends.end_in_messages.Goals as goal

pub returns : goal.returns
returns c = grind (arith, common_steps, messages_left-staying (only c.args.xid.now c.args.verdict) c.args.messages.now.items)
