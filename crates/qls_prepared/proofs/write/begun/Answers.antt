use Rattle.std.proofs.Common.{rules, ◌≡◌, Option, Some, Result, Ok, Err, sym, ap, subst}
use Rattle.qls_site.specs.Content.{Tells}
use Rattle.qls_log.specs.declared.fault.LogError.{LogError}
use Rattle.qls_log.specs.declared.fault.LogError.TheVariants.{Spent}
use Rattle.qls_log.specs.Logs.{LogState}
use Rattle.qls_prepared.specs.Ends.{StopsBy}
use Rattle.qls_prepared.specs.Moments.{WritesOn}
use Rattle.qls_prepared.specs.Writing.{BeginsWhole}
use Rattle.qls_prepared.proofs.Fitting.{told_taken}
use Rattle.qls_prepared.proofs.Based.{told_begins, begins_written, told_same_writes, told_no_file, same_fault}
use Rattle.qls_prepared.proofs.write.begun.Goals as goal

pub returns-in_err-create-in-None-clause-spent : goal.returns-in_err-create-in-None-clause-spent
returns-in_err-create-in-None-clause-spent g c = λ e rs.
    let is : Err c.in_err-create-in-None.field-0.0 ≡ c.from_residual.result = search (rules, c.from_residual.ensures) in
    let spent : ◌≡◌ {A = Result LogState LogError} (Err c.in_err-create-in-None.field-0.0) (Err Spent) = same_fault LogState c.in_err-create-in-None.field-0.0 Spent c.from_residual.result is e in
    subst (λ (o : Option LogState). Tells (StopsBy c.args.home rs o) (g.S.Site.told c.args.site.now) (g.S.Site.told c.create.new.site)) (sym c.in-None.is)
    (told_no_file c.args.home rs c.args.pool.now c.create.new.pool (g.S.Site.told c.args.site.now) (g.S.Site.told c.create.new.site) (ap g.S.Site.told (c.in_err-create-in-None.ensures.no_call spent)) (c.in_err-create-in-None.ensures.spent_pool spent)
    (c.in_err-create-in-None.ensures.spent spent) c.requires.pool)

pub returns-in-Some-clause-writes : goal.returns-in-Some-clause-writes
returns-in-Some-clause-writes g c = told_same_writes c.in-Some.log c.args.log _ c.in-Some.is

pub returns-in_ok-create-in-None-clause-fit : goal.returns-in_ok-create-in-None-clause-fit
returns-in_ok-create-in-None-clause-fit g c = told_taken c.args.home c.requires.home c.args.pool.now c.create.new.pool _ _ _ c.in_ok-create-in-None.ensures.told

pub returns-in_ok-create-in-None-clause-whole : goal.returns-in_ok-create-in-None-clause-whole
returns-in_ok-create-in-None-clause-whole g c =
    subst (λ (o : Option LogState). Tells (BeginsWhole o c.in_ok-create-in-None.field-0) (g.S.Site.told c.args.site.now) (g.S.Site.told c.create.new.site)) (sym c.in-None.is)
    (told_begins _ c.in_ok-create-in-None.field-0 _ _ c.in_ok-create-in-None.ensures.went c.in_ok-create-in-None.ensures.begins c.in_ok-create-in-None.ensures.sound)

pub returns-in_ok-create-in-None-clause-writes : goal.returns-in_ok-create-in-None-clause-writes
returns-in_ok-create-in-None-clause-writes g c =
    subst (λ (o : Option LogState). Tells (WritesOn {X = LogState} (Ok c.in_ok-create-in-None.field-0) o (λ l. Some l)) (g.S.Site.told c.args.site.now) (g.S.Site.told c.create.new.site)) (sym c.in-None.is)
    (begins_written {X = LogState} (Ok c.in_ok-create-in-None.field-0) (λ l. l) _ _ c.in_ok-create-in-None.ensures.writes)
