use Rattle.std.proofs.Common.{arith, sym, ◌≡◌, Some, slice_get}
use Rattle.std.proofs.lemmas.Grind.{common_steps}
use Rattle.qls_command.proofs.Listing.{drop-item}
use Rattle.qls_command.proofs.state.put_queues.Goals as goal

pub loop-at-preserved : goal.loop-at-preserved
loop-at-preserved c =
    let here : slice_get c.args.state.now.queues c.loop-at.at ≡ Some c.unwrap-queue.result.now = sym (rw c.unwrap-queue.ensures at c.queue_at.ensures.queue) in
    let item = drop-item c.args.state.now.queues c.loop-at.at c.unwrap-queue.result.now here in
    grind (arith, common_steps, item, c.in_ok-put_queue.ensures.put)
