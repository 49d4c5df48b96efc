use Rattle.std.proofs.Common.{◌≡◌, ℕ, ◌+◌, ◌-◌, ◌≤◌, List, ◌++◌, map, length, drop}
use Rattle.qls_record.specs.Record.{Record}
use Rattle.qls_blocks.specs.Entries.{record_of}
use Rattle.qls_blocks.specs.Batching.{length_of}
use Rattle.qls_blocks.specs.Plans.{fresh_file}
use Rattle.qls_blocks.proofs.plan.passed.Given as goal

abbrev pub invariant-loop-reached : goal.invariant-loop-reached
invariant-loop-reached l = record {
  within : l.reached.records ≤ length l.entries;
  rest : l.reached.place + length_of (map record_of (drop l.reached.records l.entries)) ≡ l.fn.from.place + length_of (map record_of (drop l.fn.from.records l.entries));
  same : (capacity s : ℕ) (fs : List Record) → l.start ≤ s
      → fresh_file capacity l.reached.rid l.reached.place (map record_of (drop l.reached.records l.entries) ++ fs) s ≡ fresh_file capacity l.fn.from.rid l.fn.from.place (map record_of (drop l.fn.from.records l.entries) ++ fs) s;
}

abbrev pub decreases-loop-reached : goal.decreases-loop-reached
decreases-loop-reached l = length l.entries - l.reached.records
