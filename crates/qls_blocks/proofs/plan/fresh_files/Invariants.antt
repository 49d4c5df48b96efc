use Rattle.std.proofs.Common.{◌≡◌, ◌+◌, ◌-◌, ◌*◌, ◌≤◌, List, ◌++◌, map, length, drop}
use Rattle.qls_record.specs.Record.{Record}
use Rattle.qls_blocks.specs.Entries.{record_of}
use Rattle.qls_blocks.specs.Batching.{length_of}
use Rattle.qls_blocks.specs.Plans.{fresh_file, starts}
use Rattle.qls_blocks.proofs.plan.fresh_files.Given as goal

abbrev pub invariant-loop : goal.invariant-loop
invariant-loop l = record {
  start : l.start ≡ l.capacity * (l.counter + 1);
  within : l.reached.records ≤ length l.entries;
  rest : l.reached.place + length_of (map record_of (drop l.reached.records l.entries)) ≡ l.fn.from.place + length_of (map record_of l.entries);
  done : (fs : List Record) → l.fresh ++ map (fresh_file l.capacity l.reached.rid l.reached.place (map record_of (drop l.reached.records l.entries) ++ fs)) (starts l.capacity l.start (l.count - l.counter))
      ≡ map (fresh_file l.capacity l.fn.from.rid l.fn.from.place (map record_of l.entries ++ fs)) (starts l.capacity l.capacity l.count);
}
