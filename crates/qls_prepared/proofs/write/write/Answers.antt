use Rattle.std.proofs.Common.{rules, ◌≡◌, ◌+◌, List, Option, Some, Result, Ok, Err, sym, ap, subst, ◌∙◌}
use Rattle.qls_site.specs.Content.{Tells}
use Rattle.qls_pool.specs.Moments.{Arrives}
use Rattle.qls_pool.proofs.Moments.{told_arrives}
use Rattle.qls_log.specs.declared.fault.LogError.{LogError}
use Rattle.qls_log.specs.declared.fault.LogError.TheVariants.{Spent}
use Rattle.qls_log.specs.declared.opening.Opening.{Opening}
use Rattle.qls_log.specs.declared.spot.Spot.{Spot}
use Rattle.qls_log.specs.Logs.{LogState, capacity_in}
use Rattle.qls_log.specs.Faults.{Counts}
use Rattle.qls_log.specs.Leaving.{NoneLeaves}
use Rattle.qls_log.specs.Steps.{IsLogStep, GoesBy}
use Rattle.qls_log.specs.Unwritten.{IsWrittenTo}
use Rattle.qls_log.proofs.Going.{told_on, told_handed, told_passes, draws_on, draws_handed}
use Rattle.qls_prepared.specs.Lists.{opening_by}
use Rattle.qls_prepared.specs.Ends.{StopsBy, IsAtEndBy}
use Rattle.qls_prepared.specs.Moments.{WrittenBy, WritesOn}
use Rattle.qls_prepared.specs.Writing.{base_of, FitsFirst, first_spot, SaysBy, begin_syncs, syncs_of, syncs_in}
use Rattle.qls_prepared.proofs.Based.{base_spot, same_fault}
use Rattle.qls_prepared.proofs.Batched.{told_says_behind, stops_behind, base_at_end, base_syncs, counts_as, spots_first, first_is}
use Rattle.qls_prepared.proofs.Batches.{told_says_on}
use Rattle.qls_prepared.proofs.Then.{Whatever, told_passes_by, told_writes, writes_err}
use Rattle.qls_prepared.proofs.Writes.{counts_then, counts_failed}
use Rattle.qls_prepared.proofs.write.write.Goals as goal

-- ---- the log wasn't made

pub returns-in_err-present-clause-spent : goal.returns-in_err-present-clause-spent
returns-in_err-present-clause-spent g c = λ e.
    let is : Err c.in_err-present.field-0.0 ≡ c.from_residual.result = search (rules, c.from_residual.ensures) in
    subst (λ (o : Option LogState). Tells (StopsBy c.args.home c.args.batch.now o) (g.S.Site.told c.args.site.now) (g.S.Site.told c.begun.new.site)) c.take.ensures.value
    (c.in_err-present.ensures.spent (same_fault LogState c.in_err-present.field-0.0 Spent c.from_residual.result is e) c.args.batch.now)

pub returns-in_err-present-clause-at_end : goal.returns-in_err-present-clause-at_end
returns-in_err-present-clause-at_end g c = λ end.
    let is : Err c.in_err-present.field-0.0 ≡ c.from_residual.result = search (rules, c.from_residual.ensures) in
    base_at_end LogState c.args.home c.take.result c.args.batch.now c.args.pool.now c.in_err-present.field-0.0 c.from_residual.result is (λ some. (c.in_err-present.ensures.same some).2) c.in_err-present.ensures.at_end
    (subst (IsAtEndBy c.args.home c.args.batch.now c.args.pool.now) (sym c.take.ensures.value) end)

-- ---- the batch wasn't written

pub returns-in_err-spots-clause-went : goal.returns-in_err-spots-clause-went
returns-in_err-spots-clause-went g c =
    let is : Err c.in_err-spots.field-0.0 ≡ c.from_residual-in_err-spots.result = search (rules, c.from_residual-in_err-spots.ensures) in
    let o : Opening = opening_by c.args.home c.take.result in
    let second : Tells (GoesBy {X = List Spot} (IsLogStep o) (Err c.in_err-spots.field-0.0)) (g.S.Site.told c.begun.new.site) (g.S.Site.told c.write_batch.new.site) =
    subst (λ (p : Opening). Tells (GoesBy {X = List Spot} (IsLogStep p) (Err c.in_err-spots.field-0.0)) (g.S.Site.told c.begun.new.site) (g.S.Site.told c.write_batch.new.site)) c.in_ok-present.ensures.opening c.in_err-spots.ensures.went in
    subst (λ (old : Option LogState). Tells (GoesBy (IsLogStep (opening_by c.args.home old)) c.from_residual-in_err-spots.result) (g.S.Site.told c.args.site.now) (g.S.Site.told c.write_batch.new.site)) c.take.ensures.value
    (told_handed (IsLogStep o) (List Spot) c.in_err-spots.field-0.0 c.from_residual-in_err-spots.result _ _ is (told_on (IsLogStep o) {X = List Spot} (Err c.in_err-spots.field-0.0) _ _ _ c.in_ok-present.ensures.went second))

pub returns-in_err-spots-clause-drew : goal.returns-in_err-spots-clause-drew
returns-in_err-spots-clause-drew g c =
    let is : Err c.in_err-spots.field-0.0 ≡ c.from_residual-in_err-spots.result = search (rules, c.from_residual-in_err-spots.ensures) in
    let o : Opening = opening_by c.args.home c.take.result in
    let second : Tells (GoesBy {X = List Spot} (IsLogStep o) (Err c.in_err-spots.field-0.0)) (g.S.Site.told c.begun.new.site) (g.S.Site.told c.write_batch.new.site) =
    subst (λ (p : Opening). Tells (GoesBy {X = List Spot} (IsLogStep p) (Err c.in_err-spots.field-0.0)) (g.S.Site.told c.begun.new.site) (g.S.Site.told c.write_batch.new.site)) c.in_ok-present.ensures.opening c.in_err-spots.ensures.went in
    draws_handed (List Spot) c.in_err-spots.field-0.0 c.from_residual-in_err-spots.result _ _ _ _ is
    (draws_on (IsLogStep o) {X = List Spot} (Err c.in_err-spots.field-0.0) _ _ _ _ _ _ c.in_ok-present.ensures.went second c.in_ok-present.ensures.drew c.in_err-spots.ensures.drew)

pub returns-in_err-spots-clause-stays : goal.returns-in_err-spots-clause-stays
returns-in_err-spots-clause-stays g c = told_passes_by NoneLeaves (IsLogStep (opening_by c.args.home c.take.result)) _ _ _ c.in_ok-present.ensures.went c.in_ok-present.ensures.stays c.in_err-spots.ensures.stays

pub returns-in_err-spots-clause-writes : goal.returns-in_err-spots-clause-writes
returns-in_err-spots-clause-writes g c =
    let old : Option LogState = c.take.result in
    subst (λ (o : Option LogState). Tells (WritesOn c.from_residual-in_err-spots.result o (λ _. c.take.new.self)) (g.S.Site.told c.args.site.now) (g.S.Site.told c.write_batch.new.site)) c.take.ensures.value
    (writes_err (λ areas h. WrittenBy areas h old) (λ areas h. WrittenBy areas h c.take.new.self) c.from_residual-in_err-spots.result _ _ c.from_residual-in_err-spots.ensures.0
    (told_writes (λ areas h. WrittenBy areas h old) (λ areas h. IsWrittenTo areas h c.in_ok-present.present) Whatever (IsLogStep (opening_by c.args.home c.take.result)) NoneLeaves _ _ _ c.in_ok-present.ensures.went c.in_err-spots.ensures.stays
    c.in_ok-present.ensures.writes c.in_err-spots.ensures.writes))

pub returns-in_err-spots-clause-spent : goal.returns-in_err-spots-clause-spent
returns-in_err-spots-clause-spent g c = λ e.
    let is : Err c.in_err-spots.field-0.0 ≡ c.from_residual-in_err-spots.result = search (rules, c.from_residual-in_err-spots.ensures) in
    let spent : ◌≡◌ {A = Result (List Spot) LogError} (Err c.in_err-spots.field-0.0) (Err Spent) = same_fault (List Spot) c.in_err-spots.field-0.0 Spent c.from_residual-in_err-spots.result is e in
    subst (λ (o : Option LogState). Tells (StopsBy c.args.home c.args.batch.now o) (g.S.Site.told c.args.site.now) (g.S.Site.told c.write_batch.new.site)) c.take.ensures.value
    (stops_behind c.args.home c.take.result c.in_ok-present.present c.args.batch.now c.write_batch.new.pool (g.S.Site.told c.args.site.now) (g.S.Site.told c.begun.new.site) (g.S.Site.told c.write_batch.new.site) c.requires.home.1
    (subst (λ (o : Option LogState). FitsFirst o c.args.batch.now) (sym c.take.ensures.value) c.requires.first) c.in_ok-present.ensures.base (λ some. ap g.S.Site.told (c.in_ok-present.ensures.same some).0) (c.in_err-spots.ensures.spent spent)
    (c.in_err-spots.ensures.ends spent) (c.in_err-spots.ensures.room spent) c.in_err-spots.ensures.stays)

pub returns-in_err-spots-clause-syncs : goal.returns-in_err-spots-clause-syncs
returns-in_err-spots-clause-syncs g c =
    let old : Option LogState = c.take.result in
    let n : begin_syncs old + syncs_of c.in_ok-present.present c.args.batch.now ≡ syncs_in c.args.log.now c.args.batch.now =
    base_syncs c.args.home old c.in_ok-present.present c.args.batch.now c.requires.home.1 (subst (λ (o : Option LogState). FitsFirst o c.args.batch.now) (sym c.take.ensures.value) c.requires.first) c.in_ok-present.ensures.base
    ∙ ap (λ (o : Option LogState). syncs_in o c.args.batch.now) c.take.ensures.value in
    subst (λ j. Counts (g.S.Site.told c.args.site.now) c.from_residual-in_err-spots.result j (g.S.Site.syncs c.args.site.now) (g.S.Site.syncs c.write_batch.new.site)) n
    (counts_failed (List Spot) LogError LogError (Arrives (IsLogStep (opening_by c.args.home c.take.result))) c.in_ok-present.present c.in_err-spots.field-0.0 c.from_residual-in_err-spots.result (g.S.Site.told c.args.site.now) (g.S.Site.told c.begun.new.site)
    (begin_syncs old) (syncs_of c.in_ok-present.present c.args.batch.now) _ (g.S.Site.syncs c.begun.new.site) _ c.from_residual-in_err-spots.ensures.0 c.in_ok-present.ensures.went c.in_ok-present.ensures.syncs c.in_err-spots.ensures.syncs)

-- ---- the batch is written

pub first_of-requires : goal.first_of-requires
first_of-requires g c = record {
  some = spots_first (capacity_in c.in_ok-present.present.opening) c.in_ok-present.present.newest c.in_ok-present.present.used c.args.batch.now c.in_ok-spots.spots c.in_ok-spots.ensures.spots c.requires.some;
}

pub returns-clause-spot : goal.returns-clause-spot
returns-clause-spot g c =
    c.first_of.ensures.first ∙ first_is c.in_ok-present.present c.args.batch.now c.in_ok-spots.spots c.in_ok-spots.ensures.spots
    ∙ base_spot c.args.home c.take.result c.in_ok-present.present c.args.batch.now c.in_ok-present.ensures.base
    ∙ ap (λ (o : Option LogState). first_spot (base_of c.args.home o) c.args.batch.now) c.take.ensures.value

pub returns-clause-whole : goal.returns-clause-whole
returns-clause-whole g c =
    let o : Opening = opening_by c.args.home c.take.result in
    let second : Tells (Arrives (IsLogStep o)) (g.S.Site.told c.begun.new.site) (g.S.Site.told c.write_batch.new.site) =
    subst (λ (p : Opening). Tells (Arrives (IsLogStep p)) (g.S.Site.told c.begun.new.site) (g.S.Site.told c.write_batch.new.site)) c.in_ok-present.ensures.opening c.in_ok-spots.ensures.went in
    subst (λ (old : Option LogState). Tells (SaysBy old c.args.batch.now (base_of c.args.home old) (Some c.write_batch.new.log)) (g.S.Site.told c.args.site.now) (g.S.Site.told c.write_batch.new.site)) c.take.ensures.value
    (told_says_behind c.args.home c.take.result c.in_ok-present.present c.write_batch.new.log c.args.batch.now (IsLogStep o) _ (g.S.Site.told c.begun.new.site) _ c.in_ok-present.ensures.base c.in_ok-present.ensures.went
    (told_passes (IsLogStep o) {X = List Spot} (Ok c.in_ok-spots.spots) _ _ second) c.in_ok-present.ensures.whole
    (told_says_on c.args.batch.now c.in_ok-present.present c.write_batch.new.log _ _ c.in_ok-present.ensures.own.sound c.in_ok-present.ensures.there c.in_ok-spots.ensures.reading c.in_ok-spots.ensures.sound))

pub returns-clause-went : goal.returns-clause-went
returns-clause-went g c =
    subst (λ (old : Option LogState). Tells (Arrives (IsLogStep (opening_by c.args.home old))) (g.S.Site.told c.args.site.now) (g.S.Site.told c.write_batch.new.site)) c.take.ensures.value
    (told_arrives (IsLogStep (opening_by c.args.home c.take.result)) _ _ _ c.in_ok-present.ensures.went
    (subst (λ (p : Opening). Tells (Arrives (IsLogStep p)) (g.S.Site.told c.begun.new.site) (g.S.Site.told c.write_batch.new.site)) c.in_ok-present.ensures.opening c.in_ok-spots.ensures.went))

pub returns-clause-drew : goal.returns-clause-drew
returns-clause-drew g c =
    draws_on (IsLogStep (opening_by c.args.home c.take.result)) {X = List Spot} (Ok c.in_ok-spots.spots) _ _ _ _ _ _ c.in_ok-present.ensures.went
    (subst (λ (p : Opening). Tells (Arrives (IsLogStep p)) (g.S.Site.told c.begun.new.site) (g.S.Site.told c.write_batch.new.site)) c.in_ok-present.ensures.opening c.in_ok-spots.ensures.went)
    c.in_ok-present.ensures.drew c.in_ok-spots.ensures.drew

pub returns-clause-stays : goal.returns-clause-stays
returns-clause-stays g c = told_passes_by NoneLeaves (IsLogStep (opening_by c.args.home c.take.result)) _ _ _ c.in_ok-present.ensures.went c.in_ok-present.ensures.stays c.in_ok-spots.ensures.stays

pub returns-clause-writes : goal.returns-clause-writes
returns-clause-writes g c =
    let old : Option LogState = c.take.result in
    subst (λ (o : Option LogState). Tells (WritesOn {X = Unit {0}} (Ok tt) o (λ _. Some c.write_batch.new.log)) (g.S.Site.told c.args.site.now) (g.S.Site.told c.write_batch.new.site)) c.take.ensures.value
    (told_writes (λ areas h. WrittenBy areas h old) (λ areas h. IsWrittenTo areas h c.in_ok-present.present) (λ areas h. IsWrittenTo areas h c.write_batch.new.log) (IsLogStep (opening_by c.args.home c.take.result)) NoneLeaves _ _ _ c.in_ok-present.ensures.went
    c.in_ok-spots.ensures.stays c.in_ok-present.ensures.writes c.in_ok-spots.ensures.writes)

pub returns-clause-syncs : goal.returns-clause-syncs
returns-clause-syncs g c =
    let old : Option LogState = c.take.result in
    let n : begin_syncs old + syncs_of c.in_ok-present.present c.args.batch.now ≡ syncs_in c.args.log.now c.args.batch.now =
    base_syncs c.args.home old c.in_ok-present.present c.args.batch.now c.requires.home.1 (subst (λ (o : Option LogState). FitsFirst o c.args.batch.now) (sym c.take.ensures.value) c.requires.first) c.in_ok-present.ensures.base
    ∙ ap (λ (o : Option LogState). syncs_in o c.args.batch.now) c.take.ensures.value in
    subst (λ j. Counts {X = Spot} {E = LogError} (g.S.Site.told c.args.site.now) (Ok c.first_of.result) j (g.S.Site.syncs c.args.site.now) (g.S.Site.syncs c.write_batch.new.site)) n
    (counts_as LogError c.in_ok-present.present c.first_of.result (g.S.Site.told c.args.site.now) (begin_syncs old + syncs_of c.in_ok-present.present c.args.batch.now) (g.S.Site.syncs c.args.site.now) (g.S.Site.syncs c.write_batch.new.site)
    (counts_then LogError (Arrives (IsLogStep (opening_by c.args.home c.take.result))) c.in_ok-present.present c.in_ok-spots.spots (g.S.Site.told c.args.site.now) (g.S.Site.told c.begun.new.site) (begin_syncs old) (syncs_of c.in_ok-present.present c.args.batch.now) _
    (g.S.Site.syncs c.begun.new.site) _ c.in_ok-present.ensures.went c.in_ok-present.ensures.syncs c.in_ok-spots.ensures.syncs))
