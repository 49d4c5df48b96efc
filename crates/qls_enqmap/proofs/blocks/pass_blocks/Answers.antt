use Rattle.std.proofs.Common.{◌≡◌, ◌+◌, ◌*◌, arith, sym, subst}
use Rattle.qls_enqmap.specs.Slots.{before, IsCounted}
use Rattle.qls_enqmap.proofs.Blocking.{place_within, at_same}
use Rattle.qls_enqmap.proofs.blocks.pass_blocks.Goals as goal

pub returns : goal.returns
returns c = record {
  passed = λ es a s r.
      let n = c.args.records in
      let v = c.pass-huge.result.block in
      let x = c.pass-large.result.block in
      let y = c.pass-middle.result.block in
      let z = c.pass-small.result.block in
      let h : before es (v * 16777216) + c.pass-huge.result.left ≡ n =
      c.pass-huge.ensures.passed 16777216 es n (subst (λ k. IsCounted 16777216 k es) (sym c.as_slice.ensures.value) a.huge) (omega arith) in
      let hw = place_within es (v * 16777216) c.pass-huge.result.left n h r in
      let hm : c.saturating_mul.result * 262144 ≡ v * 16777216 = omega (arith, c.saturating_mul.ensures) in
      let l : before es (x * 262144) + c.pass-large.result.left ≡ n =
      c.pass-large.ensures.passed 262144 es n (subst (λ k. IsCounted 262144 k es) (sym c.as_slice-2.ensures.value) a.large)
      (at_same es (c.saturating_mul.result * 262144) (v * 16777216) c.pass-huge.result.left n hm h) in
      let lw = place_within es (x * 262144) c.pass-large.result.left n l r in
      let lm : c.saturating_mul-2.result * 4096 ≡ x * 262144 = omega (arith, c.saturating_mul-2.ensures) in
      let m : before es (y * 4096) + c.pass-middle.result.left ≡ n =
      c.pass-middle.ensures.passed 4096 es n (subst (λ k. IsCounted 4096 k es) (sym c.as_slice-3.ensures.value) a.middle)
      (at_same es (c.saturating_mul-2.result * 4096) (x * 262144) c.pass-large.result.left n lm l) in
      let mw = place_within es (y * 4096) c.pass-middle.result.left n m r in
      let mm : c.saturating_mul-3.result * 64 ≡ y * 4096 = omega (arith, c.saturating_mul-3.ensures) in
      let t : before es (z * 64) + c.pass-small.result.left ≡ n =
      c.pass-small.ensures.passed 64 es n (subst (λ k. IsCounted 64 k es) (sym c.as_slice-4.ensures.value) a.small)
      (at_same es (c.saturating_mul-3.result * 64) (y * 4096) c.pass-middle.result.left n mm m) in
      let tw = place_within es (z * 64) c.pass-small.result.left n t r in
      at_same es c.saturating_mul-4.result (z * 64) c.pass-small.result.left n (omega (arith, c.saturating_mul-4.ensures)) t;
}
