use Rattle.std.proofs.Common.{◌≡◌, [], map, drop}
use Rattle.qls_meaning.specs.Reading.{read_of}
use Rattle.qls_meaning.specs.Replay.{entries_after}
use Rattle.qls_look.proofs.list.entries_left.Given as goal

abbrev pub invariant-loop-got : goal.invariant-loop-got
invariant-loop-got l = entries_after (map (λ got. (read_of got).what) (drop l.got-index l.reads)) l.replay ≡ entries_after (map (λ got. (read_of got).what) l.reads) []
