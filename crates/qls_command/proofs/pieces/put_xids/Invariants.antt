use Rattle.std.proofs.Common.{◌≡◌, ◌++◌, drop}
use Rattle.std.specs.List.{flat_map}
use Rattle.qls_command.specs.Texts.{xid_line}
use Rattle.qls_command.proofs.pieces.put_xids.Given as goal

abbrev pub invariant-loop-xid : goal.invariant-loop-xid
invariant-loop-xid l = l.out.items ++ flat_map xid_line (drop l.xid-index l.xids) ≡ l.initial.out.items ++ flat_map xid_line l.xids
