use Rattle.std.proofs.Common.{◌≡◌, ◌-◌, ◌+◌, ◌*◌, ℕ, length}
use Rattle.qls_enqmap.specs.Slots.{Slots, before, IsCounted}
use Rattle.qls_enqmap.proofs.blocks.pass.Given as goal

abbrev pub invariant-loop-block : goal.invariant-loop-block
invariant-loop-block l = (width : ℕ) (es : Slots) (n : ℕ) → IsCounted width l.counts es → before es (l.from * width) + l.records ≡ n → before es (l.block * width) + l.left ≡ n

abbrev pub decreases-loop-block : goal.decreases-loop-block
decreases-loop-block l = length l.counts - l.block
