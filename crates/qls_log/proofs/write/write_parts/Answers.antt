use Rattle.std.proofs.Common.{◌≡◌, ◌+◌, ◌-◌, length, drop, take, get_or, rules}
use Rattle.qls_site.specs.Disk.{write_at}
use Rattle.qls_site.specs.Content.{on_disk}
use Rattle.qls_log.proofs.Writes.{told_next, told_adds, told_stops, told_err_parts, part_sectors, part_size, part_is, room_next, failed_in_order, in_order_next, range_there, some_left, each_next, each_next_done}
use Rattle.qls_log.proofs.OwnWrites.{kept_next, failed_own}
use Rattle.qls_log.proofs.write.write_parts.Goals as goal

pub write_part-requires-clause-sectors : goal.write_part-requires-clause-sectors
write_part-requires-clause-sectors g c =
    part_sectors c.loop-id.at c.args.capacity (length c.args.bytes.now - c.loop-id.done) c.part_length-more.result (take (c.loop-id.done + c.part_length-more.result - c.loop-id.done) (drop c.loop-id.done c.args.bytes.now))
    (part_size c.loop-id.done c.part_length-more.result (c.args.capacity - c.loop-id.at) c.args.bytes.now c.part_length-more.ensures.exact) c.part_length-more.ensures.exact
    c.loop-id.invariant.at.0 c.requires.capacity.0 c.loop-id.invariant.at.1 c.loop-id.invariant.done.1
    (c.loop-id.invariant.some c.loop-id-test.true)

pub returns-in_err-write_part-clause-orderly : goal.returns-in_err-write_part-clause-orderly
returns-in_err-write_part-clause-orderly g c =
    failed_in_order c.loop-id.id-index (4096 + c.loop-id.at) c.args.ids.now (take (c.loop-id.done + c.part_length-more.result - c.loop-id.done) (drop c.loop-id.done c.args.bytes.now)) c.in_err-write_part.field-0.0 c.from_residual.result _ _ _
    c.loop-id-test.true c.from_residual.ensures.0 c.loop-id.invariant.orderly c.in_err-write_part.ensures.told

pub loop-id-preserved : goal.loop-id-preserved
loop-id-preserved g c =
    let part = take (c.loop-id.done + c.part_length-more.result - c.loop-id.done) (drop c.loop-id.done c.args.bytes.now) in
    let size : length part ≡ c.part_length-more.result = part_size c.loop-id.done c.part_length-more.result (c.args.capacity - c.loop-id.at) c.args.bytes.now c.part_length-more.ensures.exact in
    record {
      told =
          told_next c.args.capacity c.loop-id.at c.loop-id.id-index c.loop-id.done c.part_length-more.result c.args.ids.now c.args.bytes.now part c.args.from _ _ _
          c.loop-id-test.true c.part_length-more.ensures.exact (part_is c.loop-id.done c.part_length-more.result c.args.bytes.now) c.loop-id.invariant.told c.in_ok-write_part.ensures.told;
      added = told_adds (on_disk (write_at (get_or c.args.ids.now c.loop-id.id-index 0) (4096 + c.loop-id.at) part)) _ _ _ c.loop-id.invariant.added c.in_ok-write_part.ensures.told;
      there =
          room_next c.args.capacity (get_or c.args.ids.now c.loop-id.id-index 0) c.loop-id.at (length c.args.bytes.now - c.loop-id.done) c.part_length-more.result part c.args.ids.now _ _ size
          c.part_length-more.ensures.exact c.loop-id.invariant.at.1 c.in_ok-write_part.ensures.told c.loop-id.invariant.there;
      at = search rules;
      done =
          each_next_done c.loop-id.at c.args.capacity c.loop-id.done c.part_length-more.result (length c.args.bytes.now) c.part_length-more.ensures.exact c.loop-id.invariant.done.0 c.loop-id.invariant.at.0 c.requires.capacity.0 c.loop-id.invariant.at.1 c.loop-id.invariant.done.1;
      some = some_left c.args.capacity c.loop-id.id-index c.loop-id.done c.part_length-more.result (length c.args.bytes.now) c.args.ids.now (each_next c.args.capacity c.loop-id.id-index c.loop-id.at c.loop-id.done c.part_length-more.result (length c.args.bytes.now) c.args.ids.now c.loop-id-test.true c.part_length-more.ensures.exact c.loop-id.invariant.at.1 c.loop-id.invariant.each);
      each =
          each_next c.args.capacity c.loop-id.id-index c.loop-id.at c.loop-id.done c.part_length-more.result (length c.args.bytes.now) c.args.ids.now c.loop-id-test.true c.part_length-more.ensures.exact c.loop-id.invariant.at.1 c.loop-id.invariant.each;
      faults = search rules;
      syncs = search rules;
      reads = search rules;
      orderly = in_order_next c.loop-id.id-index (4096 + c.loop-id.at) c.args.ids.now part _ _ _ c.loop-id-test.true c.loop-id.invariant.orderly c.in_ok-write_part.ensures.told;
      own = kept_next c.loop-id.id-index c.loop-id.at c.args.ids.now part _ _ _ c.loop-id-test.true c.loop-id.invariant.own
          (range_there c.args.capacity c.loop-id.id-index c.loop-id.at (length c.args.bytes.now - c.loop-id.done) c.part_length-more.result c.args.ids.now part _ c.loop-id-test.true size c.part_length-more.ensures.exact c.loop-id.invariant.at.1 c.loop-id.invariant.there) c.in_ok-write_part.ensures.told;
    }

pub returns-in_err-write_part-clause-own : goal.returns-in_err-write_part-clause-own
returns-in_err-write_part-clause-own g c =
    let part = take (c.loop-id.done + c.part_length-more.result - c.loop-id.done) (drop c.loop-id.done c.args.bytes.now) in
    let size : length part ≡ c.part_length-more.result = part_size c.loop-id.done c.part_length-more.result (c.args.capacity - c.loop-id.at) c.args.bytes.now c.part_length-more.ensures.exact in
    failed_own c.loop-id.id-index c.loop-id.at c.args.ids.now part c.in_err-write_part.field-0.0 c.from_residual.result _ _ _ c.loop-id-test.true c.from_residual.ensures.0 c.loop-id.invariant.own
    (range_there c.args.capacity c.loop-id.id-index c.loop-id.at (length c.args.bytes.now - c.loop-id.done) c.part_length-more.result c.args.ids.now part _ c.loop-id-test.true size c.part_length-more.ensures.exact c.loop-id.invariant.at.1 c.loop-id.invariant.there)
    c.in_err-write_part.ensures.told

pub returns-in_err-write_part-clause-told : goal.returns-in_err-write_part-clause-told
returns-in_err-write_part-clause-told g c =
    let part = take (c.loop-id.done + c.part_length-more.result - c.loop-id.done) (drop c.loop-id.done c.args.bytes.now) in
    told_err_parts c.args.capacity c.args.ids.now c.args.from c.args.bytes.now c.from_residual.result _ _ c.from_residual.ensures.0
    (told_stops c.args.capacity c.loop-id.at c.loop-id.id-index c.loop-id.done c.part_length-more.result c.args.ids.now c.args.bytes.now part c.args.from c.loop-id-test.true c.part_length-more.ensures.exact (part_is c.loop-id.done c.part_length-more.result c.args.bytes.now)
    c.in_err-write_part.field-0.0 _ _ _ c.loop-id.invariant.told c.loop-id.invariant.added c.in_err-write_part.ensures.told)
