use Rattle.std.proofs.Common.{IfOk, refl, subst}
use Rattle.qls_log.specs.declared.opening.Opening.{Opening}
use Rattle.qls_site.specs.Content.{Tells}
use Rattle.qls_pool.proofs.Serials.{drawn_then, drawn_none}
use Rattle.qls_log.specs.Steps.{IsLogStep, GoesBy, is_exact}
use Rattle.qls_log.proofs.Going.{told_on, told_passes}
use Rattle.qls_prepared.specs.Lists.{opening_by}
use Rattle.qls_prepared.specs.Moments.{WrittenBy}
use Rattle.qls_prepared.proofs.Back.{told_becomes_then, told_none_dead, told_dead}
use Rattle.qls_prepared.proofs.Causes.{told_keeps_if}
use Rattle.qls_prepared.proofs.Then.{told_writes}
use Rattle.qls_prepared.proofs.list.PreparedList.prepare.Goals as goal

pub returns-in_err-enter-clause-leaves : goal.returns-in_err-enter-clause-leaves
returns-in_err-enter-clause-leaves g c = told_none_dead c.args.self.now _ _ c.in_err-enter.ensures.stays

pub returns-clause-fit : goal.returns-clause-fit
returns-clause-fit g c = told_keeps_if c.release.result c.args.pool.now c.enter.new.pool c.release.new.pool _ _ _ c.in_ok-enter.ensures.fit c.release.ensures.fit

pub returns-clause-clean : goal.returns-clause-clean
returns-clause-clean g c =
    told_becomes_then c.args.self.now c.enter.new.self c.release.new.self (IsLogStep (opening_by c.args.self.now.home c.args.self.now.log)) (IsLogStep (opening_by c.enter.new.self.home c.enter.new.self.log)) c.release.result _ _ _ c.in_ok-enter.ensures.went
    (told_passes (IsLogStep (opening_by c.enter.new.self.home c.enter.new.self.log)) c.release.result _ _ c.release.ensures.went) c.in_ok-enter.ensures.whole c.release.ensures.clean

pub returns-clause-went : goal.returns-clause-went
returns-clause-went g c =
    told_on (IsLogStep (opening_by c.args.self.now.home c.args.self.now.log)) c.release.result _ _ _ c.in_ok-enter.ensures.went
    (subst (λ (o : Opening). Tells (GoesBy (IsLogStep o) c.release.result) (g.S.Site.told c.enter.new.site) (g.S.Site.told c.release.new.site)) c.in_ok-enter.ensures.opening c.release.ensures.went)

pub returns-clause-drew : goal.returns-clause-drew
returns-clause-drew g c =
    drawn_then (IsLogStep (opening_by c.args.self.now.home c.args.self.now.log)) (IsLogStep (opening_by c.enter.new.self.home c.enter.new.self.log)) (is_exact c.release.result) _ _ _ _ _ _ c.in_ok-enter.ensures.went
    (told_passes (IsLogStep (opening_by c.enter.new.self.home c.enter.new.self.log)) c.release.result _ _ c.release.ensures.went) c.in_ok-enter.ensures.drew (drawn_none (is_exact c.release.result) _ _ _ _ c.release.ensures.none refl)

pub returns-clause-leaves : goal.returns-clause-leaves
returns-clause-leaves g c =
    told_dead c.args.self.now c.enter.new.self (IsLogStep (opening_by c.args.self.now.home c.args.self.now.log)) (IsLogStep (opening_by c.enter.new.self.home c.enter.new.self.log)) _ _ _ c.in_ok-enter.ensures.went
    (told_passes (IsLogStep (opening_by c.enter.new.self.home c.enter.new.self.log)) c.release.result _ _ c.release.ensures.went) c.in_ok-enter.ensures.stays c.in_ok-enter.ensures.quiet c.in_ok-enter.ensures.whole c.release.ensures.leaves

pub returns-clause-writes : goal.returns-clause-writes
returns-clause-writes g c =
    told_writes (λ areas h. WrittenBy areas h c.args.self.now.log) (λ areas h. WrittenBy areas h c.enter.new.self.log) (λ areas h. IfOk c.release.result (λ _. WrittenBy areas h c.release.new.self.log))
    (IsLogStep (opening_by c.args.self.now.home c.args.self.now.log)) (IsLogStep (opening_by c.enter.new.self.home c.enter.new.self.log)) _ _ _ c.in_ok-enter.ensures.went (told_passes (IsLogStep (opening_by c.enter.new.self.home c.enter.new.self.log)) c.release.result _ _ c.release.ensures.went)
    c.in_ok-enter.ensures.writes c.release.ensures.writes
