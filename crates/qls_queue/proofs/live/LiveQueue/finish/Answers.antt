use Rattle.std.proofs.Common.{◌≡◌, Err, IfOk, IfSome, refl, ap, ◌∙◌, subst, rules}
use Rattle.qls_site.specs.Disk.{IsQuiet}
use Rattle.qls_site.specs.Content.{Tells}
use Rattle.qls_pool.specs.Files.{OnDisk, IsWholePool, Carries}
use Rattle.qls_pool.specs.Moments.{Arrives}
use Rattle.qls_pool.proofs.Serials.{drawn_then, drawn_none}
use Rattle.qls_log.specs.declared.opening.Opening.{Opening}
use Rattle.qls_log.specs.Appending.{ReadsInImages}
use Rattle.qls_log.specs.Steps.{IsLogStep}
use Rattle.qls_log.specs.Unwritten.{IsWrittenTo}
use Rattle.qls_log.proofs.Chains.{whole_then}
use Rattle.qls_queue.specs.declared.fault.QueueError.{QueueError}
use Rattle.qls_queue.specs.Live.{LiveState, QueueThere}
use Rattle.qls_queue.specs.Moments.{is_exact, GoesBy}
use Rattle.qls_queue.specs.Releasing.{after_release}
use Rattle.qls_queue.proofs.Applied.{behind}
use Rattle.qls_queue.proofs.Back.{only_faults, unless_ended, not_spent, no_end, caused, counts_same, released_queue, released_written, told_clean, told_images, told_none_dead, told_dead}
use Rattle.qls_queue.proofs.Finds.{ok_then}
use Rattle.qls_queue.proofs.Going.{told_passes, told_on, told_error, draws_error, writes_err}
use Rattle.qls_queue.proofs.Then.{told_writes}
use Rattle.qls_queue.specs.Records.{end_records, ended_by}
use Rattle.qls_queue.proofs.live.LiveQueue.finish.Goals as goal

-- ---- the batch wasn't written

pub returns-in_err-write_ends-clause-went : goal.returns-in_err-write_ends-clause-went
returns-in_err-write_ends-clause-went g c =
    let is : Err c.in_err-write_ends.field-0.0 ≡ c.from_residual.result = search (rules, c.from_residual.ensures) in
    told_error (IsLogStep c.args.self.now.log.opening) (Unit {0}) c.in_err-write_ends.field-0.0 c.from_residual.result _ _ is c.in_err-write_ends.ensures.went

pub returns-in_err-write_ends-clause-drew : goal.returns-in_err-write_ends-clause-drew
returns-in_err-write_ends-clause-drew g c =
    let is : Err c.in_err-write_ends.field-0.0 ≡ c.from_residual.result = search (rules, c.from_residual.ensures) in
    draws_error (Unit {0}) c.in_err-write_ends.field-0.0 c.from_residual.result _ _ _ _ is c.in_err-write_ends.ensures.drew

pub returns-in_err-write_ends-clause-leaves : goal.returns-in_err-write_ends-clause-leaves
returns-in_err-write_ends-clause-leaves g c = told_none_dead c.args.self.now _ _ c.in_err-write_ends.ensures.stays

pub returns-in_err-write_ends-clause-writes : goal.returns-in_err-write_ends-clause-writes
returns-in_err-write_ends-clause-writes g c =
    writes_err (λ areas h. IsWrittenTo areas h c.args.self.now.log) (λ areas h. IsWrittenTo areas h c.write_ends.new.self.log) c.from_residual.result _ _ c.from_residual.ensures.0 c.in_err-write_ends.ensures.writes

-- ---- the queue

pub returns-clause-refusals : goal.returns-clause-refusals
returns-clause-refusals g c = only_faults c.release.result c.release.ensures.only

pub returns-clause-queue : goal.returns-clause-queue
returns-clause-queue g c =
    ok_then c.release.result (c.release.new.self ≡ after_release c.write_ends.new.self) (c.release.new.self.queue ≡ ended_by c.args.ends.now c.args.self.now.queue)
    (λ e. ap (λ (q : LiveState). q.queue) e ∙ released_queue c.write_ends.new.self c.in_ok-write_ends.ensures.sound ∙ c.in_ok-write_ends.ensures.queue) c.release.ensures.queue

pub returns-clause-written : goal.returns-clause-written
returns-clause-written g c =
    released_written (end_records c.args.self.now.queue.last c.args.ends.now) c.args.self.now c.write_ends.new.self c.release.new.self c.args.pool.now c.write_ends.new.pool c.release.new.pool _ _ _ _ _ c.release.result c.in_ok-write_ends.ensures.written
    c.release.ensures.queue c.release.ensures.told c.in_ok-write_ends.ensures.others c.release.ensures.others

pub returns-clause-there : goal.returns-clause-there
returns-clause-there g c =
    unless_ended c.release.result c.release.new.self.ended (IfSome (g.S.Site.told c.release.new.site) (OnDisk (QueueThere c.release.new.self))) c.release.ensures.only c.release.ensures.ended c.release.ensures.there

pub returns-clause-pool : goal.returns-clause-pool
returns-clause-pool g c =
    unless_ended c.release.result c.release.new.self.ended (IfSome (g.S.Site.told c.release.new.site) (OnDisk (IsWholePool c.release.new.pool))) c.release.ensures.only c.release.ensures.ended c.release.ensures.pool

-- ---- the disk

pub returns-clause-clean : goal.returns-clause-clean
returns-clause-clean g c =
    told_clean c.args.self.now c.write_ends.new.self c.release.new.self (IsLogStep c.args.self.now.log.opening) (IsLogStep c.write_ends.new.self.log.opening) c.release.result _ _ _ c.in_ok-write_ends.ensures.went
    (told_passes (IsLogStep c.write_ends.new.self.log.opening) c.release.result _ _ c.release.ensures.went) c.in_ok-write_ends.ensures.whole c.release.ensures.clean

pub returns-clause-quiet : goal.returns-clause-quiet
returns-clause-quiet g c =
    ok_then c.release.result (Carries IsQuiet IsQuiet (g.S.Site.told c.write_ends.new.site) (g.S.Site.told c.release.new.site)) (Carries IsQuiet IsQuiet (g.S.Site.told c.args.site.now) (g.S.Site.told c.release.new.site))
    (whole_then IsQuiet IsQuiet IsQuiet (Arrives (IsLogStep c.args.self.now.log.opening)) _ _ _ c.in_ok-write_ends.ensures.went c.in_ok-write_ends.ensures.quiet) c.release.ensures.quiet

pub returns-clause-images : goal.returns-clause-images
returns-clause-images g c =
    ok_then c.release.result (Carries IsQuiet IsQuiet (g.S.Site.told c.args.site.now) (g.S.Site.told c.release.new.site)) (Carries IsQuiet (ReadsInImages c.release.new.self.log) (g.S.Site.told c.args.site.now) (g.S.Site.told c.release.new.site))
    (told_images c.release.new.self.log _ _) (returns-clause-quiet g c)

-- ---- the moments

pub returns-clause-went : goal.returns-clause-went
returns-clause-went g c =
    let opening : c.write_ends.new.self.log.opening ≡ c.args.self.now.log.opening = (behind (end_records c.args.self.now.queue.last c.args.ends.now) c.args.self.now.log c.write_ends.new.self.log _ _ _ _ _ _ c.in_ok-write_ends.ensures.written).opening in
    told_on (IsLogStep c.args.self.now.log.opening) c.release.result _ _ _ c.in_ok-write_ends.ensures.went
    (subst (λ (o : Opening). Tells (GoesBy (IsLogStep o) c.release.result) (g.S.Site.told c.write_ends.new.site) (g.S.Site.told c.release.new.site)) opening c.release.ensures.went)

pub returns-clause-drew : goal.returns-clause-drew
returns-clause-drew g c =
    drawn_then (IsLogStep c.args.self.now.log.opening) (IsLogStep c.write_ends.new.self.log.opening) (is_exact c.release.result) _ _ _ _ _ _ c.in_ok-write_ends.ensures.went
    (told_passes (IsLogStep c.write_ends.new.self.log.opening) c.release.result _ _ c.release.ensures.went) c.in_ok-write_ends.ensures.drew (drawn_none (is_exact c.release.result) _ _ _ _ c.release.ensures.none refl)

pub returns-clause-leaves : goal.returns-clause-leaves
returns-clause-leaves g c =
    told_dead c.args.self.now c.write_ends.new.self (IsLogStep c.args.self.now.log.opening) (IsLogStep c.write_ends.new.self.log.opening) _ _ _ c.in_ok-write_ends.ensures.went
    (told_passes (IsLogStep c.write_ends.new.self.log.opening) c.release.result _ _ c.release.ensures.went) c.in_ok-write_ends.ensures.stays c.in_ok-write_ends.ensures.quiet c.in_ok-write_ends.ensures.whole c.release.ensures.leaves

pub returns-clause-writes : goal.returns-clause-writes
returns-clause-writes g c =
    told_writes (λ areas h. IsWrittenTo areas h c.args.self.now.log) (λ areas h. IsWrittenTo areas h c.write_ends.new.self.log) (λ areas h. IfOk c.release.result (λ _. IsWrittenTo areas h c.release.new.self.log))
    (IsLogStep c.args.self.now.log.opening) (IsLogStep c.write_ends.new.self.log.opening) _ _ _ c.in_ok-write_ends.ensures.went (told_passes (IsLogStep c.write_ends.new.self.log.opening) c.release.result _ _ c.release.ensures.went)
    c.in_ok-write_ends.ensures.writes c.release.ensures.writes

-- ---- the answer

pub returns-clause-ends : goal.returns-clause-ends
returns-clause-ends g c = λ e. absurd (not_spent c.release.result c.release.ensures.only e)

pub returns-clause-room : goal.returns-clause-room
returns-clause-room g c = λ e. absurd (not_spent c.release.result c.release.ensures.only e)

pub returns-clause-spent : goal.returns-clause-spent
returns-clause-spent g c = λ e. absurd (not_spent c.release.result c.release.ensures.only e)

pub returns-clause-at_end : goal.returns-clause-at_end
returns-clause-at_end g c = λ more end. no_end c.in_ok-write_ends.field-0 _ (c.in_ok-write_ends.ensures.at_end more end)

pub returns-clause-cause : goal.returns-clause-cause
returns-clause-cause g c = caused c.in_ok-write_ends.field-0 c.release.result _ _ _ _ _ c.release.ensures.only c.in_ok-write_ends.ensures.cause c.release.ensures.cause

pub returns-clause-syncs : goal.returns-clause-syncs
returns-clause-syncs g c = counts_same QueueError c.in_ok-write_ends.field-0 c.release.result _ _ _ _ _ c.in_ok-write_ends.ensures.syncs c.release.ensures.syncs
