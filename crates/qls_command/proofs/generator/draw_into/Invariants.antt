use Rattle.std.proofs.Common.{◌≡◌, ◌++◌, ◌+◌, ◌-◌}
use Rattle.qls_command.specs.Generated.{begun, drawn_from, AllAtMost}
use Rattle.qls_command.proofs.generator.draw_into.Given as goal

abbrev pub invariant-loop-place : goal.invariant-loop-place
invariant-loop-place l = record {
  drawn : l.commands ++ drawn_from l.generator l.place (l.count + 1 - l.place) ≡ l.initial.commands ++ drawn_from (begun l.seed) 5 (l.count - 4);
  counts : AllAtMost l.place l.generator.puts;
}
