use Rattle.std.proofs.Common.{◌≡◌, ◌++◌, length}
use Rattle.std.specs.List.{filter_map}
use Rattle.qls_decide.specs.Entries.{verdict_by}
use Rattle.qls_decide.specs.Ends.{end_by}
use Rattle.qls_decide.proofs.plan.plan_settle.Given as goal

abbrev pub invariant-loop-xid : goal.invariant-loop-xid
invariant-loop-xid l = l.ends ++ filter_map (λ x. end_by (verdict_by l.entries x) x) l.xids.keys ≡ filter_map (λ x. end_by (verdict_by l.entries x) x) l.initial.xids.keys

abbrev pub decreases-loop-xid : goal.decreases-loop-xid
decreases-loop-xid l = length l.xids.keys
