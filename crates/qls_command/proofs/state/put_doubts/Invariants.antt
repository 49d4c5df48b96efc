use Rattle.std.proofs.Common.{◌≡◌, ◌++◌, drop}
use Rattle.std.specs.List.{flat_map}
use Rattle.qls_model.specs.Machine.{doubts}
use Rattle.qls_command.specs.Texts.{xid_line}
use Rattle.qls_command.proofs.state.put_doubts.Given as goal

abbrev pub invariant-loop-at : goal.invariant-loop-at
invariant-loop-at l = l.out.items ++ flat_map xid_line (doubts (drop l.at l.state.xids)) ≡ l.initial.out.items ++ flat_map xid_line (doubts l.state.xids)
