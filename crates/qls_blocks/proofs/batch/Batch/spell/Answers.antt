use Rattle.std.proofs.Common.{◌≡◌, ℕ, ◌*◌, List, map, length, replicate, sym, ap, ap₂, ◌∙◌, arith}
use Rattle.qls_record.specs.Record.{Record}
use Rattle.qls_blocks.specs.Entries.{record_of}
use Rattle.qls_blocks.specs.Batching.{length_of, filler_count, filler_of, last_rid, with_fillers}
use Rattle.qls_blocks.specs.Spelled.{spelled_over}
use Rattle.qls_blocks.proofs.Lengths.{length_of-replicate, length_of-with_fillers}
use Rattle.qls_blocks.proofs.Spelling.{joined, length-spelled_over}
use Rattle.qls_blocks.proofs.batch.Batch.spell.Goals as goal

pub fillers-requires-clause-within : goal.fillers-requires-clause-within
fillers-requires-clause-within c =
    let size : length_of (map record_of c.deref.result.now) ≡ length_of c.args.self.now = ap length_of (ap (map record_of) c.deref.ensures.value ∙ c.self.view_is) in
    let fillers : length_of (replicate c.args.plan.now.fillers (record_of c.filler-filler.result)) ≡ 128 * c.args.plan.now.fillers =
    ap (λ (r : Record). length_of (replicate c.args.plan.now.fillers r)) c.filler-filler.ensures.exact ∙ length_of-replicate c.args.plan.now.fillers c.self.inside.last_rid in
    omega (arith, size, fillers, c.in_ok-place.ensures.place, c.in_ok-end.ensures.exact, c.requires.planned.bytes, c.requires.planned.fillers)

whole : (c : goal.After-drop-filler-2) → c.from_vec.result ≡ spelled_over c.args.capacity c.args.serials.now c.args.used (with_fillers c.args.self.now)
whole c =
    let rs : map record_of c.deref.result.now ≡ c.args.self.now = ap (map record_of) c.deref.ensures.value ∙ c.self.view_is in
    let last : c.self.inside.last_rid ≡ last_rid 0 (map record_of c.deref.result.now) = c.self.invariant.2 ∙ ap (λ es. last_rid 0 (map record_of es)) (sym c.deref.ensures.value) in
    let all : c.fillers.new.into.items ≡ spelled_over c.args.capacity c.as_slice-serials.result.now c.args.used (with_fillers (map record_of c.deref.result.now)) =
    joined c.args.capacity c.args.used c.in_ok-place.place c.args.plan.now.fillers c.as_slice-serials.result.now (map record_of c.deref.result.now) (record_of c.filler-filler.result)
    c.reserve.new.self.items c.records.new.into.items c.fillers.new.into.items (c.in_ok-reserve.ensures.items ∙ c.new-bytes.ensures.items)
    c.in_ok-place.ensures.spelled c.in_ok-fillers.ensures.spelled c.in_ok-place.ensures.place (c.requires.planned.fillers ∙ ap filler_count (sym rs)) (c.filler-filler.ensures.exact ∙ ap filler_of last) in
    c.from_vec.ensures.same ∙ all ∙ ap₂ (λ (ss : List ℕ) (qs : List Record). spelled_over c.args.capacity ss c.args.used (with_fillers qs)) c.as_slice-serials.ensures.same rs

pub returns-clause-exact : goal.returns-clause-exact
returns-clause-exact c = whole c

pub returns-clause-length : goal.returns-clause-length
returns-clause-length c =
    ap length (whole c) ∙ length-spelled_over c.args.capacity c.args.serials.now c.args.used (with_fillers c.args.self.now) ∙ length_of-with_fillers c.args.self.now ∙ sym c.requires.planned.bytes
