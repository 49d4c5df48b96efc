use Rattle.std.proofs.Common.{◌≡◌, ◌++◌, ◌+◌, ◌-◌}
use Rattle.qls_command.specs.Generated.{body_from}
use Rattle.qls_command.proofs.generator.body.Given as goal

abbrev pub invariant-loop-place : goal.invariant-loop-place
invariant-loop-place l = l.bytes.items ++ body_from (l.size - l.place) (l.drawn + l.place) ≡ body_from l.size l.drawn
