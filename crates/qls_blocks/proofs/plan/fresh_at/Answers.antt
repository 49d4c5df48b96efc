use Rattle.std.proofs.Common.{◌≡◌, ℕ, ◌+◌, ◌-◌, ◌<◌, ◌≤◌, cond, ltb, arith}
use Rattle.std.proofs.lemmas.Bool.Decides.{nat_tests}
use Rattle.qls_blocks.proofs.Fresh.{there}
use Rattle.qls_blocks.proofs.plan.fresh_at.Goals as goal

in_it : (capacity p s : ℕ) → s ≤ p → p - s < capacity → p - s + 4096 ≡ cond (ltb p (s + capacity)) (4096 + (p - s)) 0
in_it capacity p s le h = grind (arith, nat_tests)

not_in_it : (capacity p s : ℕ) → s ≤ p → capacity ≤ p - s → 0 ≡ cond (ltb p (s + capacity)) (4096 + (p - s)) 0
not_in_it capacity p s le h = grind (arith, nat_tests)

pub returns-then-within-capacity : goal.returns-then-within-capacity
returns-then-within-capacity c = record { exact = λ rs. there c.args.capacity c.args.reached.rid c.args.reached.place c.args.start _ rs c.requires.there.1 (in_it c.args.capacity c.args.reached.place c.args.start c.requires.there.1 (omega arith)) }

pub returns-else-within-capacity : goal.returns-else-within-capacity
returns-else-within-capacity c = record { exact = λ rs. there c.args.capacity c.args.reached.rid c.args.reached.place c.args.start _ rs c.requires.there.1 (not_in_it c.args.capacity c.args.reached.place c.args.start c.requires.there.1 (omega arith)) }
