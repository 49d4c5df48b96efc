use Rattle.std.proofs.Common.{Ok, true, ◌+◌, ◌≤◌, length}
use Rattle.qls_top.specs.Cutting.{measured, SoFar, Counted}
use Rattle.qls_top.proofs.script.Script.next_line.Given as goal

abbrev pub invariant-loop-self : goal.invariant-loop-self
invariant-loop-self g l = record {
  read : SoFar l.fn.self (g.R.Source.left l.fn.source) l.self (g.R.Source.left l.source) l.line.items;
  counted : Counted l.fn.self.budget (g.R.Source.left l.fn.source) l.self.budget (g.R.Source.left l.source) (Ok true);
  nearer : measured l.self + length l.line.items ≤ measured l.fn.self;
  short : length l.line.items ≤ 2100001;
  faults : g.R.Source.faults l.fn.source ≤ g.R.Source.faults l.source;
}

abbrev pub decreases-loop-self : goal.decreases-loop-self
decreases-loop-self g l = measured l.self
