use Rattle.std.proofs.Common.{◌≡◌, ℕ, suc, ◌+◌, ◌-◌, ◌*◌, ◌<◌, ◌++◌, map, drop, rules, arith}
use Rattle.qls_blocks.specs.Entries.{record_of}
use Rattle.qls_blocks.specs.Plans.{fresh_file}
use Rattle.qls_blocks.proofs.Fresh.{one_more_file, all_files}
use Rattle.qls_blocks.proofs.plan.fresh_files.Goals as goal

next_start : (capacity start k : ℕ) → start ≡ capacity * (k + 1) → start + capacity ≡ capacity * (k + 1 + 1)
next_start capacity start k h = grind arith

one_less : (count k : ℕ) → k < count → count - k ≡ suc (count - (k + 1))
one_less count k h = omega arith

pub loop-preserved : goal.loop-preserved
loop-preserved c = record {
  start = next_start c.args.capacity c.loop.start c.loop.counter c.loop.invariant.start;
  within = c.passed-reached.ensures.within;
  rest = search rules;
  done = λ fs.
      one_more_file (fresh_file c.args.capacity c.loop.reached.rid c.loop.reached.place (map record_of (drop c.loop.reached.records c.args.entries.now) ++ fs))
      (fresh_file c.args.capacity c.passed-reached.result.rid c.passed-reached.result.place (map record_of (drop c.passed-reached.result.records c.args.entries.now) ++ fs))
      c.args.capacity c.loop.start (c.args.count - (c.loop.counter + 1)) (c.args.count - c.loop.counter) c.loop.fresh _ _ _
      (one_less c.args.count c.loop.counter c.loop-test.true)
      (λ s le. c.passed-reached.ensures.same c.args.capacity s fs le)
      (c.fresh_at.ensures.exact (map record_of (drop c.passed-reached.result.records c.args.entries.now) ++ fs))
      c.in_ok-push.ensures.pushed
      (c.loop.invariant.done fs);
}

pub returns : goal.returns
returns c = record {
  exact = λ fs.
      all_files (fresh_file c.args.capacity c.loop.reached.rid c.loop.reached.place (map record_of (drop c.loop.reached.records c.args.entries.now) ++ fs))
      c.args.capacity c.loop.start (c.args.count - c.loop.counter) c.loop.fresh _ (omega arith) (c.loop.invariant.done fs);
}
