use Rattle.std.proofs.Common.{◌≡◌, ℕ, ◌+◌, ◌-◌, ◌/◌, List, length, IfSome, Err, if◌then◌else◌, ◌==◌, sym, ap, ◌∙◌, subst, rules}
use Rattle.qls_model.specs.declared.bytes.Seq.{Seq}
use Rattle.qls_pool.specs.Files.{OnDisk}
use Rattle.qls_log.specs.Faults.{fault_of_site}
use Rattle.qls_log.specs.Steps.{AreOwn}
use Rattle.qls_log.specs.Writing.{from_written}
use Rattle.qls_log.proofs.AppendSteps.{told_roomy}
use Rattle.qls_log.proofs.OwnWrites.{stopped_own, ended_own}
use Rattle.qls_log.specs.Logs.{ids, serials}
use Rattle.qls_log.proofs.Sizes.{block_facts, each_part}
use Rattle.qls_log.proofs.Writes.{told_no_parts, room_orderly}
use Rattle.qls_blocks.specs.Spelled.{spelled_over}
use Rattle.qls_blocks.specs.Batching.{with_fillers}
use Rattle.qls_log.proofs.write.write_batch.Goals as goal

pub write_parts-requires-clause-blocks : goal.write_parts-requires-clause-blocks
write_parts-requires-clause-blocks g c =
    block_facts c.args.batch.now (length c.as_slice-2.result.now) c.requires.some (ap length c.as_slice-2.ensures.same ∙ c.in_ok-bytes.ensures.length ∙ c.requires.planned.bytes)

pub write_parts-requires-clause-each : goal.write_parts-requires-clause-each
write_parts-requires-clause-each g c =
    let size : length c.as_slice-2.result.now ≡ c.args.plan.now.length = ap length c.as_slice-2.ensures.same ∙ c.in_ok-bytes.ensures.length in
    each_part c.args.capacity c.args.used (length c.as_slice-2.result.now) (length c.args.plan.now.fresh) c.args.files.now c.as_slice.result.now c.place_behind-from.result c.requires.capacity.0
    (block_facts c.args.batch.now (length c.as_slice-2.result.now) c.requires.some (size ∙ c.requires.planned.bytes)).0 c.requires.files
    (c.requires.planned.files ∙ ap (λ n. (c.args.used + n - 1) / c.args.capacity) (sym size))
    (c.as_slice.ensures.same ∙ c.in_ok-written.ensures.exact ∙ ap ids c.with_room.ensures.exact) c.place_behind-from.ensures.exact

pub returns-in_err-write_parts-clause-own : goal.returns-in_err-write_parts-clause-own
returns-in_err-write_parts-clause-own g c = λ o h.
    let there : c.as_slice.result.now ≡ ids (from_written c.args.capacity c.args.used c.args.files.now) = c.as_slice.ensures.same ∙ c.in_ok-written.ensures.exact ∙ ap ids c.with_room.ensures.exact in
    let roomy = subst (λ (xs : List ℕ). IfSome (g.S.Site.told c.args.site.now) (OnDisk (AreOwn o xs))) (sym there) (told_roomy o c.args.capacity c.args.used c.args.files.now _ h) in
    let is : Err (fault_of_site c.in_err-write_parts.field-0.0) ≡ c.from_residual-in_err-write_parts.result = search (rules, c.from_residual-in_err-write_parts.ensures) in
    stopped_own o c.as_slice.result.now c.in_err-write_parts.field-0.0 c.from_residual-in_err-write_parts.result _ _ is (c.in_err-write_parts.ensures.own o roomy)

pub returns-clause-own : goal.returns-clause-own
returns-clause-own g c = λ o h.
    let there : c.as_slice.result.now ≡ ids (from_written c.args.capacity c.args.used c.args.files.now) = c.as_slice.ensures.same ∙ c.in_ok-written.ensures.exact ∙ ap ids c.with_room.ensures.exact in
    let roomy = subst (λ (xs : List ℕ). IfSome (g.S.Site.told c.args.site.now) (OnDisk (AreOwn o xs))) (sym there) (told_roomy o c.args.capacity c.args.used c.args.files.now _ h) in
    ended_own (Seq ℕ) o c.as_slice.result.now c.in_ok-write_parts.field-0 c.in_ok-written.written _ _ (c.in_ok-write_parts.ensures.own o roomy)

pub returns-in_err-list-clause-parts : goal.returns-in_err-list-clause-parts
returns-in_err-list-clause-parts g c =
    told_no_parts c.args.capacity (ids (from_written c.args.capacity c.args.used c.args.files.now)) (if c.args.used == c.args.capacity then 0 else c.args.used)
    (spelled_over c.args.capacity (serials c.args.files.now) c.args.used (with_fillers c.args.batch.now)) c.from_residual.result _ (search (rules, c.from_residual.ensures))

pub returns-in_err-bytes-clause-parts : goal.returns-in_err-bytes-clause-parts
returns-in_err-bytes-clause-parts g c =
    told_no_parts c.args.capacity (ids (from_written c.args.capacity c.args.used c.args.files.now)) (if c.args.used == c.args.capacity then 0 else c.args.used)
    (spelled_over c.args.capacity (serials c.args.files.now) c.args.used (with_fillers c.args.batch.now)) c.from_residual-in_err-bytes.result _ (search (rules, c.from_residual-in_err-bytes.ensures))

pub returns-in_err-written-clause-parts : goal.returns-in_err-written-clause-parts
returns-in_err-written-clause-parts g c =
    told_no_parts c.args.capacity (ids (from_written c.args.capacity c.args.used c.args.files.now)) (if c.args.used == c.args.capacity then 0 else c.args.used)
    (spelled_over c.args.capacity (serials c.args.files.now) c.args.used (with_fillers c.args.batch.now)) c.from_residual-in_err-written.result _ (search (rules, c.from_residual-in_err-written.ensures))

pub returns-in_err-write_parts-clause-orderly : goal.returns-in_err-write_parts-clause-orderly
returns-in_err-write_parts-clause-orderly g c =
    room_orderly (c.args.used == c.args.capacity) c.args.files.now c.as_slice.result.now c.in_err-write_parts.field-0.0 c.from_residual-in_err-write_parts.result _ _
    (c.as_slice.ensures.same ∙ c.in_ok-written.ensures.exact ∙ ap ids c.with_room.ensures.exact) (search (rules, c.from_residual-in_err-write_parts.ensures)) c.in_err-write_parts.ensures.orderly
