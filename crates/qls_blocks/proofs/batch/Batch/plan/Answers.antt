use Rattle.std.proofs.Common.{◌≡◌, ◌+◌, ◌-◌, ◌/◌, ◌<◌, [], map, length, sym, ap, ap₂, ◌∙◌, subst, arith}
use Rattle.qls_blocks.specs.Entries.{record_of}
use Rattle.qls_blocks.specs.Batching.{length_of, block_length}
use Rattle.qls_blocks.proofs.Files.{reach}
use Rattle.qls_blocks.proofs.Fresh.{length-starts}
use Rattle.qls_blocks.proofs.batch.Batch.plan.Goals as goal

pub fresh_files-requires-clause-reach : goal.fresh_files-requires-clause-reach
fresh_files-requires-clause-reach c = λ i lt.
    let size : length_of (map record_of c.deref.result.now) ≡ c.self.inside.length = ap (λ es. length_of (map record_of es)) c.deref.ensures.value ∙ sym c.self.invariant.0 in
    let end : c.in_ok-end.end ≡ c.args.used + block_length c.self.inside.length = c.in_ok-end.ensures.exact ∙ ap (λ k. c.args.used + k) c.whole_blocks-length.ensures.exact in
    let within : i < (c.in_ok-end.end - 1) / c.args.capacity = subst (λ k. i < k / c.args.capacity) c.saturating_sub.ensures lt in
    let start = reach c.args.capacity c.args.used c.self.inside.length c.in_ok-end.end i c.requires.capacity.0 c.requires.capacity.1 c.requires.used.0 end within in
    omega (arith, start, size)

pub returns-clause-own : goal.returns-clause-own
returns-clause-own c =
    let size : c.self.inside.length ≡ length_of c.args.self.now = c.self.invariant.0 ∙ ap length_of c.self.view_is in
    let bytes : c.whole_blocks-length.result ≡ block_length (length_of c.args.self.now) = c.whole_blocks-length.ensures.exact ∙ ap block_length size in
    let count : length c.in_ok-fresh.fresh ≡ c.saturating_sub.result / c.args.capacity =
    ap length (c.in_ok-fresh.ensures.exact []) ∙ length-starts _ c.args.capacity c.args.capacity (c.saturating_sub.result / c.args.capacity) in
    record {
      bytes = bytes;
      fillers = ap₂ (λ a b. (a - b) / 128) bytes size;
      files = count ∙ ap (λ k. k / c.args.capacity) (c.saturating_sub.ensures ∙ ap (λ k. k - 1) c.in_ok-end.ensures.exact);
    }
