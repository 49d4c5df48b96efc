use Rattle.std.proofs.Common.{◌≡◌, ◌-◌, ◌*◌, ◌<◌, ◌≤◌, ℕ, min, length, slice_index_or}
use Rattle.qls_enqmap.proofs.blocks.fill.Given as goal

abbrev pub invariant-loop-block : goal.invariant-loop-block
invariant-loop-block l = record {
  left : l.left ≡ l.slots - l.block * l.width;
  filled : (b : ℕ) → b < l.block → slice_index_or l.counts.items b 0 ≡ min l.width (l.slots - b * l.width);
  kept : (b : ℕ) → l.block ≤ b → slice_index_or l.counts.items b 0 ≡ slice_index_or l.initial.counts.items b 0;
  long : length l.counts.items ≡ length l.initial.counts.items;
}
