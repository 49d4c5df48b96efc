use Rattle.std.proofs.Common.{◌≡◌, ℕ, ◌+◌, true, [], length, Ok, Err, refl, subst, rules}
use Rattle.qls_site.specs.Content.{Tells}
use Rattle.qls_site.specs.Disk.{IsQuiet}
use Rattle.qls_pool.specs.Files.{IsPoolOf}
use Rattle.qls_pool.proofs.Calls.{carried}
use Rattle.qls_blocks.specs.Plans.{plan_of}
use Rattle.qls_log.specs.declared.fault.LogError.{LogError}
use Rattle.qls_log.specs.Faults.{Counts}
use Rattle.qls_log.specs.Logs.{IsLegalOpening, capacity_in}
use Rattle.qls_log.specs.Appending.{SyncsAll, IsQuietBut}
use Rattle.qls_log.specs.Reads.{ReadsOn}
use Rattle.qls_log.proofs.Chains.{whole_then}
use Rattle.qls_log.proofs.AppendSteps.{told_whole_after}
use Rattle.qls_log.proofs.Sound.{told_put_undamaged}
use Rattle.qls_log.proofs.Going.{told_on, told_handed, draws_on, draws_handed}
use Rattle.qls_log.specs.Leaving.{NoneLeaves}
use Rattle.qls_log.specs.Steps.{IsLogStep, GoesBy, is_exact}
use Rattle.qls_log.specs.Unwritten.{IsWrittenTo}
use Rattle.qls_log.specs.declared.opening.Opening.{Opening}
use Rattle.qls_log.specs.declared.spot.Spot.{Spot}
use Rattle.qls_model.specs.declared.bytes.Seq.{Seq}
use Rattle.qls_pool.proofs.Moments.{told_arrives}
use Rattle.qls_pool.proofs.Serials.{drawn_none}
use Rattle.qls_prepared.proofs.Then.{Whatever, told_passes_by, told_writes, writes_err}
use Rattle.qls_prepared.proofs.Fitting.{told_batch}
use Rattle.qls_prepared.proofs.Quiet.{told_quiet_but}
use Rattle.qls_prepared.proofs.Writes.{told_reads_on, sound_flushed, told_written, counts_then, counts_failed, pending_count}
use Rattle.qls_prepared.proofs.write.write_batch.Goals as goal

pub returns-clause-written : goal.returns-clause-written
returns-clause-written g c =
    let w = c.in_ok-spots.ensures.appended in
    record {
      taken = w.0;
      between = c.append.new.self;
      appended = w.1;
      flushed = c.in_ok-flush.ensures.log;
      drawn = w.2;
      told = told_written c.args.batch.now c.args.log.now c.append.new.self c.args.pool.now c.append.new.pool w.0 c.in_ok-flush.field-0 _ _ _ w.3 c.in_ok-flush.ensures.told;
    }

pub returns-clause-pool : goal.returns-clause-pool
returns-clause-pool g c =
    carried (SyncsAll c.append.new.self.unsynced (Ok c.in_ok-flush.field-0)) (IsPoolOf c.append.new.pool []) (IsPoolOf c.append.new.pool []) _ _ c.in_ok-flush.ensures.told
    (c.in_ok-flush.ensures.pool c.append.new.pool []) c.in_ok-spots.ensures.pool

pub returns-clause-reading : goal.returns-clause-reading
returns-clause-reading g c =
    told_reads_on c.args.batch.now c.args.log.now c.append.new.self c.flush.new.self c.append.new.self.unsynced c.in_ok-flush.field-0 _ _ _ c.in_ok-spots.ensures.reading c.in_ok-flush.ensures.told
    c.in_ok-flush.ensures.read

pub returns-clause-syncs : goal.returns-clause-syncs
returns-clause-syncs g c =
    let l = c.args.log.now in
    let n : ℕ = length (plan_of c.args.batch.now l.used (capacity_in l.opening) l.rid).fresh in
    let w = c.in_ok-spots.ensures.appended in
    subst (λ j. Counts {E = LogError} (g.S.Site.told c.args.site.now) (Ok c.in_ok-spots.spots) (n + j) (g.S.Site.syncs c.args.site.now) (g.S.Site.syncs c.flush.new.site)) (pending_count c.args.batch.now l c.append.new.self w.0 w.1 c.requires.files)
    (counts_then LogError (ReadsOn c.args.batch.now l c.append.new.self) c.in_ok-spots.spots c.in_ok-flush.field-0 (g.S.Site.told c.args.site.now) (g.S.Site.told c.append.new.site) n (length c.append.new.self.unsynced) _
    (g.S.Site.syncs c.append.new.site) _ c.in_ok-spots.ensures.reading c.in_ok-spots.ensures.syncs c.in_ok-flush.ensures.syncs)

pub returns-in_err-flush-clause-syncs : goal.returns-in_err-flush-clause-syncs
returns-in_err-flush-clause-syncs g c =
    let l = c.args.log.now in
    let n : ℕ = length (plan_of c.args.batch.now l.used (capacity_in l.opening) l.rid).fresh in
    let w = c.in_ok-spots.ensures.appended in
    subst (λ j. Counts {E = LogError} (g.S.Site.told c.args.site.now) c.from_residual-in_err-flush.result (n + j) (g.S.Site.syncs c.args.site.now) (g.S.Site.syncs c.flush.new.site)) (pending_count c.args.batch.now l c.append.new.self w.0 w.1 c.requires.files)
    (counts_failed (Unit {0}) LogError LogError (ReadsOn c.args.batch.now l c.append.new.self) c.in_ok-spots.spots _ c.from_residual-in_err-flush.result (g.S.Site.told c.args.site.now) (g.S.Site.told c.append.new.site) n (length c.append.new.self.unsynced) _
    (g.S.Site.syncs c.append.new.site) _ c.from_residual-in_err-flush.ensures.0 c.in_ok-spots.ensures.reading c.in_ok-spots.ensures.syncs c.in_err-flush.ensures.syncs)

pub returns-clause-fit : goal.returns-clause-fit
returns-clause-fit g c =
    let w = c.in_ok-spots.ensures.appended in
    let legal : IsLegalOpening c.args.log.now.opening = subst IsLegalOpening w.1.opening c.in_ok-spots.ensures.legal.opening in
    told_batch c.args.batch.now c.args.log.now c.append.new.self c.args.pool.now c.append.new.pool w.0 legal _ _
    (told_written c.args.batch.now c.args.log.now c.append.new.self c.args.pool.now c.append.new.pool w.0 c.in_ok-flush.field-0 _ _ _ w.3 c.in_ok-flush.ensures.told)

pub returns-clause-quiet : goal.returns-clause-quiet
returns-clause-quiet g c =
    let w = c.in_ok-spots.ensures.appended in
    whole_then IsQuiet (IsQuietBut c.append.new.self.unsynced) IsQuiet (ReadsOn c.args.batch.now c.args.log.now c.append.new.self) _ _ _ c.in_ok-spots.ensures.reading
    (told_quiet_but c.args.batch.now c.args.log.now c.append.new.self c.args.pool.now c.append.new.pool w.0 _ _ w.1 w.3) c.in_ok-flush.ensures.quiet

pub returns-clause-whole : goal.returns-clause-whole
returns-clause-whole g c = told_whole_after c.flush.new.self c.append.new.pool _ c.in_ok-flush.ensures.there (returns-clause-pool g c)

pub returns-clause-legal : goal.returns-clause-legal
returns-clause-legal g c = sound_flushed c.append.new.self c.flush.new.self c.in_ok-flush.ensures.log c.in_ok-spots.ensures.legal

pub returns-clause-sound : goal.returns-clause-sound
returns-clause-sound g c =
    told_put_undamaged c.args.batch.now c.args.log.now c.append.new.self c.flush.new.self c.append.new.self.unsynced c.in_ok-flush.field-0 _ _ _ c.in_ok-spots.ensures.reading c.in_ok-spots.ensures.sound c.in_ok-flush.ensures.told
    c.in_ok-flush.ensures.sound

-- ---- the moments

pub returns-in_err-spots-clause-went : goal.returns-in_err-spots-clause-went
returns-in_err-spots-clause-went g c =
    let is : Err c.in_err-spots.field-0.0 ≡ c.from_residual.result = search (rules, c.from_residual.ensures) in
    told_handed (IsLogStep c.args.log.now.opening) (Seq Spot) c.in_err-spots.field-0.0 c.from_residual.result _ _ is c.in_err-spots.ensures.went

pub returns-in_err-flush-clause-went : goal.returns-in_err-flush-clause-went
returns-in_err-flush-clause-went g c =
    let is : Err c.in_err-flush.field-0.0 ≡ c.from_residual-in_err-flush.result = search (rules, c.from_residual-in_err-flush.ensures) in
    let o : Opening = c.args.log.now.opening in
    let second : Tells (GoesBy {X = Unit {0}} (IsLogStep o) (Err c.in_err-flush.field-0.0)) (g.S.Site.told c.append.new.site) (g.S.Site.told c.flush.new.site) =
    subst (λ (p : Opening). Tells (GoesBy {X = Unit {0}} (IsLogStep p) (Err c.in_err-flush.field-0.0)) (g.S.Site.told c.append.new.site) (g.S.Site.told c.flush.new.site)) c.in_ok-spots.ensures.appended.1.opening c.in_err-flush.ensures.went in
    told_handed (IsLogStep o) (Unit {0}) c.in_err-flush.field-0.0 c.from_residual-in_err-flush.result _ _ is (told_on (IsLogStep o) {X = Unit {0}} (Err c.in_err-flush.field-0.0) _ _ _ c.in_ok-spots.ensures.went second)

pub returns-clause-went : goal.returns-clause-went
returns-clause-went g c =
    told_arrives (IsLogStep c.args.log.now.opening) _ _ _ c.in_ok-spots.ensures.went
    (subst (λ (p : Opening). Tells (GoesBy {X = Unit {0}} (IsLogStep p) (Ok c.in_ok-flush.field-0)) (g.S.Site.told c.append.new.site) (g.S.Site.told c.flush.new.site)) c.in_ok-spots.ensures.appended.1.opening c.in_ok-flush.ensures.went)

pub returns-in_err-spots-clause-drew : goal.returns-in_err-spots-clause-drew
returns-in_err-spots-clause-drew g c =
    let is : Err c.in_err-spots.field-0.0 ≡ c.from_residual.result = search (rules, c.from_residual.ensures) in
    draws_handed (Seq Spot) c.in_err-spots.field-0.0 c.from_residual.result _ _ _ _ is c.in_err-spots.ensures.drew

pub returns-in_err-flush-clause-drew : goal.returns-in_err-flush-clause-drew
returns-in_err-flush-clause-drew g c =
    let is : Err c.in_err-flush.field-0.0 ≡ c.from_residual-in_err-flush.result = search (rules, c.from_residual-in_err-flush.ensures) in
    let o : Opening = c.args.log.now.opening in
    let second : Tells (GoesBy {X = Unit {0}} (IsLogStep o) (Err c.in_err-flush.field-0.0)) (g.S.Site.told c.append.new.site) (g.S.Site.told c.flush.new.site) =
    subst (λ (p : Opening). Tells (GoesBy {X = Unit {0}} (IsLogStep p) (Err c.in_err-flush.field-0.0)) (g.S.Site.told c.append.new.site) (g.S.Site.told c.flush.new.site)) c.in_ok-spots.ensures.appended.1.opening c.in_err-flush.ensures.went in
    draws_handed (Unit {0}) c.in_err-flush.field-0.0 c.from_residual-in_err-flush.result _ _ _ _ is
    (draws_on (IsLogStep o) {X = Unit {0}} (Err c.in_err-flush.field-0.0) _ _ _ _ _ _ c.in_ok-spots.ensures.went second c.in_ok-spots.ensures.drew
    (drawn_none (is_exact {X = Unit {0}} (Err c.in_err-flush.field-0.0)) _ _ _ _ c.in_err-flush.ensures.none refl))

pub returns-clause-drew : goal.returns-clause-drew
returns-clause-drew g c =
    draws_on (IsLogStep c.args.log.now.opening) {X = Unit {0}} (Ok c.in_ok-flush.field-0) _ _ _ _ _ _ c.in_ok-spots.ensures.went
    (subst (λ (p : Opening). Tells (GoesBy {X = Unit {0}} (IsLogStep p) (Ok c.in_ok-flush.field-0)) (g.S.Site.told c.append.new.site) (g.S.Site.told c.flush.new.site)) c.in_ok-spots.ensures.appended.1.opening c.in_ok-flush.ensures.went)
    c.in_ok-spots.ensures.drew (drawn_none true _ _ _ _ c.in_ok-flush.ensures.none refl)

pub returns-in_err-flush-clause-stays : goal.returns-in_err-flush-clause-stays
returns-in_err-flush-clause-stays g c = told_passes_by NoneLeaves (IsLogStep c.args.log.now.opening) _ _ _ c.in_ok-spots.ensures.went c.in_ok-spots.ensures.stays c.in_err-flush.ensures.stays

pub returns-clause-stays : goal.returns-clause-stays
returns-clause-stays g c = told_passes_by NoneLeaves (IsLogStep c.args.log.now.opening) _ _ _ c.in_ok-spots.ensures.went c.in_ok-spots.ensures.stays c.in_ok-flush.ensures.stays

pub returns-in_err-spots-clause-writes : goal.returns-in_err-spots-clause-writes
returns-in_err-spots-clause-writes g c =
    writes_err (λ areas h. IsWrittenTo areas h c.args.log.now) (λ areas h. IsWrittenTo areas h c.append.new.self) c.from_residual.result _ _ c.from_residual.ensures.0 c.in_err-spots.ensures.writes

pub returns-in_err-flush-clause-writes : goal.returns-in_err-flush-clause-writes
returns-in_err-flush-clause-writes g c =
    writes_err (λ areas h. IsWrittenTo areas h c.args.log.now) (λ areas h. IsWrittenTo areas h c.flush.new.self) c.from_residual-in_err-flush.result _ _ c.from_residual-in_err-flush.ensures.0
    (told_writes (λ areas h. IsWrittenTo areas h c.args.log.now) (λ areas h. IsWrittenTo areas h c.append.new.self) Whatever (IsLogStep c.args.log.now.opening) NoneLeaves _ _ _ c.in_ok-spots.ensures.went c.in_err-flush.ensures.stays
    c.in_ok-spots.ensures.writes c.in_err-flush.ensures.writes)

pub returns-clause-writes : goal.returns-clause-writes
returns-clause-writes g c =
    told_writes (λ areas h. IsWrittenTo areas h c.args.log.now) (λ areas h. IsWrittenTo areas h c.append.new.self) (λ areas h. IsWrittenTo areas h c.flush.new.self) (IsLogStep c.args.log.now.opening) NoneLeaves _ _ _
    c.in_ok-spots.ensures.went c.in_ok-flush.ensures.stays c.in_ok-spots.ensures.writes c.in_ok-flush.ensures.writes
