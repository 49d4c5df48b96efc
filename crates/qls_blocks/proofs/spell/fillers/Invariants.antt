use Rattle.std.proofs.Common.{◌≡◌, ◌+◌, ◌-◌, ◌++◌, replicate}
use Rattle.qls_blocks.specs.Entries.{record_of}
use Rattle.qls_blocks.specs.Batching.{length_of}
use Rattle.qls_blocks.specs.Spelled.{spelled_over}
use Rattle.qls_blocks.proofs.spell.fillers.Given as goal

abbrev pub invariant-loop : goal.invariant-loop
invariant-loop l = record {
  rest : l.place + length_of (replicate (l.count - l.counter) (record_of l.filler)) ≡ l.from + length_of (replicate l.count (record_of l.filler));
  spelled : l.into.items ++ spelled_over l.capacity l.serials l.place (replicate (l.count - l.counter) (record_of l.filler)) ≡ l.initial.into.items ++ spelled_over l.capacity l.serials l.from (replicate l.count (record_of l.filler));
}
