use Rattle.std.proofs.Common.{◌≡◌, ◌+◌, ◌++◌, map, drop}
use Rattle.qls_blocks.specs.Entries.{record_of}
use Rattle.qls_blocks.specs.Batching.{length_of}
use Rattle.qls_blocks.specs.Spelled.{spelled_over}
use Rattle.qls_blocks.proofs.spell.records.Given as goal

abbrev pub invariant-loop-entry : goal.invariant-loop-entry
invariant-loop-entry l = record {
  rest : l.place + length_of (map record_of (drop l.entry-index l.entries)) ≡ l.from + length_of (map record_of l.entries);
  spelled : l.into.items ++ spelled_over l.capacity l.serials l.place (map record_of (drop l.entry-index l.entries)) ≡ l.initial.into.items ++ spelled_over l.capacity l.serials l.from (map record_of l.entries);
}
