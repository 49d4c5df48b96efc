use Rattle.std.proofs.Common.{◌≡◌, ◌++◌, map, take, drop}
use Rattle.qls_model.specs.Machine.{prepared}
use Rattle.qls_model.proofs.tables.prepare.Given as goal

abbrev pub invariant-loop-entry : goal.invariant-loop-entry
invariant-loop-entry l =
    take l.entry-index l.xids ++ map (prepared l.xid) (drop l.entry-index l.xids) ≡ map (prepared l.xid) l.initial.xids
