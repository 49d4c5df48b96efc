use Rattle.std.proofs.Common.{◌≡◌, ◌≤◌, ℕ, true, arith, subst}
use lib.Dec.{leb}
use Rattle.qls_enqmap.proofs.Kept.{files_more}
use Rattle.qls_enqmap.specs.Slots.{held_in}
use Rattle.qls_enqmap.proofs.slots.still_rising.Goals as goal

le_by : (a b : ℕ) → leb a b ≡ true → a ≤ b
le_by a b h = grind arith

pub returns-then-rising : goal.returns-then-rising
returns-then-rising c = record {
  small = omega arith;
  rising = λ t h e.
      files_more (held_in c.args.slots.now.entries) h c.args.file e (c.requires.files c.if-rising.true)
      (subst (λ n. n ≤ c.args.file) c.file_of_last.ensures.file (le_by c.file_of_last.result c.args.file t));
}
