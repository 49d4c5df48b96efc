use Rattle.std.proofs.Common.{◌<◌, ◌^◌, sym, subst}
use Rattle.qls_model.specs.declared.machine.QueueState.{QueueState}
use Rattle.qls_look.specs.Seen.{verdict_in}
use Rattle.qls_look.proofs.Queues.{last_below}
use Rattle.qls_look.proofs.Whole.{queue_told}
use Rattle.qls_look.proofs.queue.queue_in.Goals as goal

pub returns-clause-says : goal.returns-clause-says
returns-clause-says g c =
    queue_told (g.S.Site.told c.args.site.now) (verdict_in c.args.states.now) c.args.files c.in_ok-log.log c.in_ok-log.reads c.in_ok-queue_left.field-0 c.in_ok-log.ensures.says
    c.in_ok-queue_left.ensures.left

pub returns-clause-numbered : goal.returns-clause-numbered
returns-clause-numbered g c = record {
  last = subst (λ (q : QueueState). q.last < 2 ^ 62) (sym c.in_ok-queue_left.ensures.left) (last_below c.args.files c.in_ok-log.log c.in_ok-log.reads c.requires.order c.in_ok-log.ensures.given);
  rising = c.in_ok-queue_left.ensures.rising;
}
