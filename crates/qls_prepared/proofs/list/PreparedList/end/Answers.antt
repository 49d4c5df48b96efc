use Rattle.std.proofs.Common.{◌≡◌, ℕ, List, IfOk, Err, refl, subst, ◌∙◌, rules}
use Rattle.qls_log.specs.declared.opening.Opening.{Opening}
use Rattle.qls_site.specs.Content.{Tells}
use Rattle.qls_pool.proofs.Serials.{drawn_then, drawn_none}
use Rattle.qls_log.specs.Steps.{IsLogStep, GoesBy, is_exact}
use Rattle.qls_log.proofs.Going.{told_on, told_passes}
use Rattle.qls_prepared.specs.Lists.{opening_by, rid_of}
use Rattle.qls_prepared.specs.Ends.{Stops}
use Rattle.qls_prepared.specs.Records.{end_records}
use Rattle.qls_prepared.specs.Moments.{WrittenBy}
use Rattle.qls_prepared.proofs.Back.{told_becomes_then, told_none_dead, told_dead}
use Rattle.qls_prepared.proofs.Causes.{told_keeps_if}
use Rattle.qls_prepared.proofs.Then.{told_writes}
use Rattle.qls_prepared.proofs.list.PreparedList.end.Goals as goal

pub returns-in_err-write_ends-clause-leaves : goal.returns-in_err-write_ends-clause-leaves
returns-in_err-write_ends-clause-leaves g c = told_none_dead c.args.self.now _ _ c.in_err-write_ends.ensures.stays

pub returns-in_err-write_ends-clause-spent : goal.returns-in_err-write_ends-clause-spent
returns-in_err-write_ends-clause-spent g c = λ e.
    let is : Err c.in_err-write_ends.field-0.0 ≡ c.from_residual.result = search (rules, c.from_residual.ensures) in
    subst (λ (xs : List (List ℕ)). Tells (Stops c.args.self.now (end_records (rid_of c.args.self.now) xs)) (g.S.Site.told c.args.site.now) (g.S.Site.told c.write_ends.new.site)) c.as_slice.ensures.same
    (c.in_err-write_ends.ensures.spent (is ∙ e))

pub returns-clause-fit : goal.returns-clause-fit
returns-clause-fit g c = told_keeps_if c.release.result c.args.pool.now c.write_ends.new.pool c.release.new.pool _ _ _ c.in_ok-write_ends.ensures.fit c.release.ensures.fit

pub returns-clause-clean : goal.returns-clause-clean
returns-clause-clean g c =
    told_becomes_then c.args.self.now c.write_ends.new.self c.release.new.self (IsLogStep (opening_by c.args.self.now.home c.args.self.now.log)) (IsLogStep (opening_by c.write_ends.new.self.home c.write_ends.new.self.log)) c.release.result _ _ _ c.in_ok-write_ends.ensures.went
    (told_passes (IsLogStep (opening_by c.write_ends.new.self.home c.write_ends.new.self.log)) c.release.result _ _ c.release.ensures.went) c.in_ok-write_ends.ensures.whole c.release.ensures.clean

pub returns-clause-went : goal.returns-clause-went
returns-clause-went g c =
    told_on (IsLogStep (opening_by c.args.self.now.home c.args.self.now.log)) c.release.result _ _ _ c.in_ok-write_ends.ensures.went
    (subst (λ (o : Opening). Tells (GoesBy (IsLogStep o) c.release.result) (g.S.Site.told c.write_ends.new.site) (g.S.Site.told c.release.new.site)) c.in_ok-write_ends.ensures.opening c.release.ensures.went)

pub returns-clause-drew : goal.returns-clause-drew
returns-clause-drew g c =
    drawn_then (IsLogStep (opening_by c.args.self.now.home c.args.self.now.log)) (IsLogStep (opening_by c.write_ends.new.self.home c.write_ends.new.self.log)) (is_exact c.release.result) _ _ _ _ _ _ c.in_ok-write_ends.ensures.went
    (told_passes (IsLogStep (opening_by c.write_ends.new.self.home c.write_ends.new.self.log)) c.release.result _ _ c.release.ensures.went) c.in_ok-write_ends.ensures.drew (drawn_none (is_exact c.release.result) _ _ _ _ c.release.ensures.none refl)

pub returns-clause-leaves : goal.returns-clause-leaves
returns-clause-leaves g c =
    told_dead c.args.self.now c.write_ends.new.self (IsLogStep (opening_by c.args.self.now.home c.args.self.now.log)) (IsLogStep (opening_by c.write_ends.new.self.home c.write_ends.new.self.log)) _ _ _ c.in_ok-write_ends.ensures.went
    (told_passes (IsLogStep (opening_by c.write_ends.new.self.home c.write_ends.new.self.log)) c.release.result _ _ c.release.ensures.went) c.in_ok-write_ends.ensures.stays c.in_ok-write_ends.ensures.quiet c.in_ok-write_ends.ensures.whole c.release.ensures.leaves

pub returns-clause-writes : goal.returns-clause-writes
returns-clause-writes g c =
    told_writes (λ areas h. WrittenBy areas h c.args.self.now.log) (λ areas h. WrittenBy areas h c.write_ends.new.self.log) (λ areas h. IfOk c.release.result (λ _. WrittenBy areas h c.release.new.self.log))
    (IsLogStep (opening_by c.args.self.now.home c.args.self.now.log)) (IsLogStep (opening_by c.write_ends.new.self.home c.write_ends.new.self.log)) _ _ _ c.in_ok-write_ends.ensures.went (told_passes (IsLogStep (opening_by c.write_ends.new.self.home c.write_ends.new.self.log)) c.release.result _ _ c.release.ensures.went)
    c.in_ok-write_ends.ensures.writes c.release.ensures.writes
