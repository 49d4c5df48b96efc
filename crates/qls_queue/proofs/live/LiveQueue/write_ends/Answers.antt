use Rattle.std.proofs.Common.{◌≡◌, List, false, Err, IfOk, IfSome, refl, sym, ap, subst, ◌∙◌, rules}
use Rattle.qls_record.specs.Record.{Record}
use Rattle.qls_site.specs.Content.{Tells}
use Rattle.qls_decide.specs.declared.End.{End}
use Rattle.qls_pool.specs.Files.{OnDisk}
use Rattle.qls_log.specs.Standing.{LogThere}
use Rattle.qls_log.specs.Leaving.{NoneLeaves}
use Rattle.qls_log.specs.Soundness.{StaysUndamaged}
use Rattle.qls_log.specs.Steps.{IsLogStep}
use Rattle.qls_log.specs.Unwritten.{IsWrittenTo}
use Rattle.qls_log.specs.declared.spot.Spot.{Spot}
use Rattle.qls_model.specs.declared.bytes.Seq.{Seq}
use Rattle.qls_pool.specs.Moments.{Arrives}
use Rattle.qls_pool.proofs.Moments.{told_of, told_same}
use Rattle.qls_log.specs.Appending.{FollowRids}
use Rattle.qls_log.specs.Reads.{ReadsOn}
use Rattle.qls_queue.specs.Live.{LiveState, live, IsSound}
use Rattle.qls_queue.specs.Faults.{fault_of_log}
use Rattle.qls_queue.specs.Moments.{is_exact, GoesBy}
use Rattle.qls_queue.specs.Releasing.{StaysWhole}
use Rattle.qls_queue.proofs.Back.{told_stays_whole}
use Rattle.qls_queue.proofs.Going.{told_fault, goes_nowhere, draws_fault, draws_nothing, writes_err}
use Rattle.qls_queue.proofs.Then.{Writes, writes_none}
use Rattle.qls_queue.specs.Records.{end_records, ended_by, held_ended}
use Rattle.qls_queue.proofs.Applied.{Behind, behind}
use Rattle.qls_queue.proofs.Ended.{ends_follow, ended_queue, ended_sound, ended_says}
use Rattle.qls_queue.proofs.live.LiveQueue.write_ends.Goals as goal

pub write_batch-requires-clause-rids : goal.write_batch-requires-clause-rids
write_batch-requires-clause-rids g c =
    let log = c.self.inside.log in
    let hs = c.self.inside.tables.held in
    let es = c.args.ends.now in
    let s : IsSound (live log hs c.self.inside.ended) = c.self.invariant (ap (λ (q : LiveState). q.ended) c.self.view_is ∙ c.requires.unended) in
    let batch : c.in_ok-batch.batch ≡ end_records log.rid es = c.in_ok-batch.ensures.exact ∙ ap (λ n. end_records n c.as_slice-ends.result.now) c.rid-last.ensures.exact ∙ ap (end_records log.rid) c.as_slice-ends.ensures.same in
    subst (FollowRids log.rid) (sym batch) (ends_follow log.rid es s.last)

pub invariant_of-self-2 : goal.invariant_of-self-2
invariant_of-self-2 g c = λ _.
    let log = c.self.inside.log in
    let hs = c.self.inside.tables.held in
    let es = c.args.ends.now in
    let s : IsSound (live log hs c.self.inside.ended) = c.self.invariant (ap (λ (q : LiveState). q.ended) c.self.view_is ∙ c.requires.unended) in
    let batch : c.in_ok-batch.batch ≡ end_records log.rid es = c.in_ok-batch.ensures.exact ∙ ap (λ n. end_records n c.as_slice-ends.result.now) c.rid-last.ensures.exact ∙ ap (end_records log.rid) c.as_slice-ends.ensures.same in
    let w : Behind (end_records log.rid es) log c.write_batch.new.log = subst (λ (rs : List Record). Behind rs log c.write_batch.new.log) batch (behind c.in_ok-batch.batch log c.write_batch.new.log _ _ _ _ _ _ c.in_ok-_spots.ensures.written) in
    let h : c.end_all.new.tables.held ≡ held_ended es hs = c.end_all.ensures.held ∙ ap (λ (xs : List End). held_ended xs hs) c.as_slice-ends.ensures.same in
    ended_sound log c.write_batch.new.log hs c.end_all.new.tables.held es c.self.inside.ended s w c.in_ok-_spots.ensures.ended h

pub returns-clause-queue : goal.returns-clause-queue
returns-clause-queue g c =
    let log = c.self.inside.log in
    let hs = c.self.inside.tables.held in
    let es = c.args.ends.now in
    let s : IsSound (live log hs c.self.inside.ended) = c.self.invariant (ap (λ (q : LiveState). q.ended) c.self.view_is ∙ c.requires.unended) in
    let batch : c.in_ok-batch.batch ≡ end_records log.rid es = c.in_ok-batch.ensures.exact ∙ ap (λ n. end_records n c.as_slice-ends.result.now) c.rid-last.ensures.exact ∙ ap (end_records log.rid) c.as_slice-ends.ensures.same in
    let w : Behind (end_records log.rid es) log c.write_batch.new.log = subst (λ (rs : List Record). Behind rs log c.write_batch.new.log) batch (behind c.in_ok-batch.batch log c.write_batch.new.log _ _ _ _ _ _ c.in_ok-_spots.ensures.written) in
    let h : c.end_all.new.tables.held ≡ held_ended es hs = c.end_all.ensures.held ∙ ap (λ (xs : List End). held_ended xs hs) c.as_slice-ends.ensures.same in
    ended_queue log c.write_batch.new.log hs c.end_all.new.tables.held es c.self.inside.ended false w s.last h ∙ ap (λ (q : LiveState). ended_by es q.queue) c.self.view_is

pub returns-clause-whole : goal.returns-clause-whole
returns-clause-whole g c =
    let log = c.self.inside.log in
    let hs = c.self.inside.tables.held in
    let es = c.args.ends.now in
    let s : IsSound (live log hs c.self.inside.ended) = c.self.invariant (ap (λ (q : LiveState). q.ended) c.self.view_is ∙ c.requires.unended) in
    let batch : c.in_ok-batch.batch ≡ end_records log.rid es = c.in_ok-batch.ensures.exact ∙ ap (λ n. end_records n c.as_slice-ends.result.now) c.rid-last.ensures.exact ∙ ap (end_records log.rid) c.as_slice-ends.ensures.same in
    let w : Behind (end_records log.rid es) log c.write_batch.new.log = subst (λ (rs : List Record). Behind rs log c.write_batch.new.log) batch (behind c.in_ok-batch.batch log c.write_batch.new.log _ _ _ _ _ _ c.in_ok-_spots.ensures.written) in
    let h : c.end_all.new.tables.held ≡ held_ended es hs = c.end_all.ensures.held ∙ ap (λ (xs : List End). held_ended xs hs) c.as_slice-ends.ensures.same in
    let there : IfSome (g.S.Site.told c.args.site.now) (OnDisk (LogThere log)) = subst (λ (q : LiveState). IfSome (g.S.Site.told c.args.site.now) (OnDisk (LogThere q.log))) (sym c.self.view_is) c.requires.there in
    let reads : Tells (ReadsOn (end_records log.rid es) log c.write_batch.new.log) (g.S.Site.told c.args.site.now) (g.S.Site.told c.write_batch.new.site) =
    subst (λ (rs : List Record). Tells (ReadsOn rs log c.write_batch.new.log) (g.S.Site.told c.args.site.now) (g.S.Site.told c.write_batch.new.site)) batch c.in_ok-_spots.ensures.reading in
    let sound : Tells (StaysUndamaged log c.write_batch.new.log) (g.S.Site.told c.args.site.now) (g.S.Site.told c.write_batch.new.site) = c.in_ok-_spots.ensures.sound in
    subst (λ (q : LiveState). Tells (StaysWhole q (live c.write_batch.new.log c.end_all.new.tables.held false)) (g.S.Site.told c.args.site.now) (g.S.Site.told c.write_batch.new.site)) c.self.view_is
    (told_stays_whole (live log hs c.self.inside.ended) (live c.write_batch.new.log c.end_all.new.tables.held false) _ _
    (ended_says log c.write_batch.new.log hs c.end_all.new.tables.held es c.self.inside.ended false _ _ s w h reads there c.in_ok-_spots.ensures.there) sound)

pub returns-clause-sound : goal.returns-clause-sound
returns-clause-sound g c = invariant_of-self-2 g c refl

-- ---- the moments

pub returns-in_err-batch-clause-went : goal.returns-in_err-batch-clause-went
returns-in_err-batch-clause-went g c = goes_nowhere (IsLogStep c.args.self.now.log.opening) c.from_residual.result _

pub returns-in_err-_spots-clause-went : goal.returns-in_err-_spots-clause-went
returns-in_err-_spots-clause-went g c =
    let is : Err (fault_of_log c.in_err-_spots.field-0.0) ≡ c.from_residual-in_err-_spots.result = search (rules, c.from_residual-in_err-_spots.ensures) in
    subst (λ (q : LiveState). Tells (GoesBy (IsLogStep q.log.opening) c.from_residual-in_err-_spots.result) (g.S.Site.told c.args.site.now) (g.S.Site.told c.write_batch.new.site)) c.self.view_is
    (told_fault (IsLogStep c.self.inside.log.opening) (Seq Spot) c.in_err-_spots.field-0.0 c.from_residual-in_err-_spots.result _ _ is c.in_err-_spots.ensures.went)

pub returns-clause-went : goal.returns-clause-went
returns-clause-went g c =
    subst (λ (q : LiveState). Tells (Arrives (IsLogStep q.log.opening)) (g.S.Site.told c.args.site.now) (g.S.Site.told c.write_batch.new.site)) c.self.view_is c.in_ok-_spots.ensures.went

pub returns-in_err-batch-clause-drew : goal.returns-in_err-batch-clause-drew
returns-in_err-batch-clause-drew g c = draws_nothing (is_exact c.from_residual.result) _ _

pub returns-in_err-_spots-clause-drew : goal.returns-in_err-_spots-clause-drew
returns-in_err-_spots-clause-drew g c =
    let is : Err (fault_of_log c.in_err-_spots.field-0.0) ≡ c.from_residual-in_err-_spots.result = search (rules, c.from_residual-in_err-_spots.ensures) in
    draws_fault (Seq Spot) c.in_err-_spots.field-0.0 c.from_residual-in_err-_spots.result _ _ _ _ is c.in_err-_spots.ensures.drew

pub returns-in_err-batch-clause-stays : goal.returns-in_err-batch-clause-stays
returns-in_err-batch-clause-stays g c = told_of NoneLeaves _ _ (told_same NoneLeaves _)

pub returns-in_err-batch-clause-writes : goal.returns-in_err-batch-clause-writes
returns-in_err-batch-clause-writes g c =
    writes_err (λ areas h. IsWrittenTo areas h c.args.self.now.log) (λ areas h. IsWrittenTo areas h c.self.inside.log) c.from_residual.result _ _ c.from_residual.ensures.0
    (writes_none (λ areas h. IsWrittenTo areas h c.args.self.now.log) _)

pub returns-in_err-_spots-clause-writes : goal.returns-in_err-_spots-clause-writes
returns-in_err-_spots-clause-writes g c =
    subst (λ (q : LiveState). Tells (Writes (λ areas h. IsWrittenTo areas h q.log) (λ areas h. IfOk c.from_residual-in_err-_spots.result (λ _. IsWrittenTo areas h c.write_batch.new.log))) (g.S.Site.told c.args.site.now) (g.S.Site.told c.write_batch.new.site)) c.self.view_is
    (writes_err (λ areas h. IsWrittenTo areas h c.self.inside.log) (λ areas h. IsWrittenTo areas h c.write_batch.new.log) c.from_residual-in_err-_spots.result _ _ c.from_residual-in_err-_spots.ensures.0 c.in_err-_spots.ensures.writes)

pub returns-clause-writes : goal.returns-clause-writes
returns-clause-writes g c =
    subst (λ (q : LiveState). Tells (Writes (λ areas h. IsWrittenTo areas h q.log) (λ areas h. IsWrittenTo areas h c.write_batch.new.log)) (g.S.Site.told c.args.site.now) (g.S.Site.told c.write_batch.new.site)) c.self.view_is
    c.in_ok-_spots.ensures.writes
