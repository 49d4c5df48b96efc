-- How many files a batch comes to, and where they start.
use Rattle.std.proofs.Common.{◌≡◌, ℕ, ◌+◌, ◌-◌, ◌*◌, ◌/◌, ◌%◌, ◌<◌, ◌≤◌, ap, ◌∙◌, arith}
use Rattle.std.proofs.Math.Nat.{le-div_iff_mul-le, div-mul-le_self, mul_left_comm, mul_comm}
use Rattle.qls_blocks.specs.Batching.{block_length}

-- the files before the last one that has a byte of the batch start before its last record ends
pub reach : (capacity used n end i : ℕ) → 0 < capacity → capacity % 4096 ≡ 0 → used % 4096 ≡ 0 → end ≡ used + block_length n → i < (end - 1) / capacity → capacity * (i + 1) ≤ used + n
reach capacity used n end i some blocks at e h =
    let before : (i + 1) * capacity ≤ end - 1 = (le-div_iff_mul-le {k = capacity} {x = i + 1} {y = end - 1} some).0 (omega arith) in
    let blocks_of : capacity ≡ 4096 * (capacity / 4096) = omega arith in
    let product : (i + 1) * capacity ≡ 4096 * ((i + 1) * (capacity / 4096)) = ap (λ k. (i + 1) * k) blocks_of ∙ mul_left_comm (i + 1) 4096 (capacity / 4096) in
    let start : capacity * (i + 1) ≡ 4096 * ((i + 1) * (capacity / 4096)) = mul_comm capacity (i + 1) ∙ product in
    omega (arith, before, product, start, e)

-- the file that holds a place before the end is at most the one that holds the last byte
pub held : (capacity p end : ℕ) → 0 < capacity → p < end → p / capacity < (end - 1) / capacity + 1
held capacity p end some h =
    let before : p / capacity * capacity ≤ end - 1 = omega (arith, div-mul-le_self p capacity) in
    let most : p / capacity ≤ (end - 1) / capacity = (le-div_iff_mul-le {k = capacity} {x = p / capacity} {y = end - 1} some).1 before in
    omega arith
