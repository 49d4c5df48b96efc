use Rattle.std.proofs.Common.{◌≡◌, drop}
use Rattle.qls_prepared.specs.Ending.{ended_entries, ended_held}
use Rattle.qls_prepared.proofs.enter.end_each.Given as goal

abbrev pub invariant-loop-xid : goal.invariant-loop-xid
invariant-loop-xid l = record {
  entries : ended_entries (drop l.xid-index l.xids) l.entries.entries ≡ ended_entries l.xids l.initial.entries.entries;
  held : ended_held (drop l.xid-index l.xids) l.entries.entries l.entries.held ≡ ended_held l.xids l.initial.entries.entries l.initial.entries.held;
}
