use Rattle.std.proofs.Common.{◌≡◌, ◌≤◌, ◌+◌, ◌++◌, length, map, vec_len}
use Rattle.std.specs.Vec.{vec_capacity}
use Rattle.qls_replay.specs.Entries.{entry_for}
use Rattle.qls_replay.proofs.list.listed.Given as goal

abbrev pub invariant-loop-xid : goal.invariant-loop-xid
invariant-loop-xid l = record {
  listed : l.list.items ++ map entry_for l.xid-iterator ≡ map entry_for l.initial.xid-iterator;
  fits : vec_len l.list + length l.xid-iterator ≤ vec_capacity l.list;
}
