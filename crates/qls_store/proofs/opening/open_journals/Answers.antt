use Rattle.std.proofs.Common.{◌≡◌, ℕ, ◌≤◌, Option, Ok, Err, IfSome, refl, sym, ap, ◌∙◌, subst, rules, arith}
use Rattle.std.proofs.lemmas.Result.{err_from_is_err_and}
use Rattle.qls_site.specs.Content.{Content, OnlyLooks, Rose, Tells}
use Rattle.qls_site.proofs.Told.{OnlyLooks-then, Tells-then}
use Rattle.qls_journals.specs.State.{JournalsState}
use Rattle.qls_look.specs.declared.fault.OpenFault.{OpenFault}
use Rattle.qls_look.specs.declared.fault.OpenFault.TheVariants.{Failed, Memory}
use Rattle.qls_look.specs.Looking.{of_log, of_scan}
use Rattle.qls_look.proofs.There.{found_there, still_there}
use Rattle.qls_store.specs.Opened.{Begins, fault_by}
use Rattle.qls_store.proofs.OpeningSite.{fit_pool, told_may_open}
use Rattle.qls_store.proofs.OpeningBegins.{begins_done, begins_looked, begins_stopped, never_log, never_scan, nothing_said, rose_log, rose_scan, told_damage_read, told_damage_scanned, told_undamaged}
use Rattle.qls_store.proofs.opening.open_journals.Goals as goal

pub returns-in_err-found : goal.returns-in_err-found
returns-in_err-found g c =
    let a = g.S.Site.told c.args.site.now in
    let x = c.in_err-found.field-0.0 in
    let is : Err (of_scan x) ≡ c.from_residual.result = search (rules, c.from_residual.ensures) in
    record {
      begins = subst (λ r. Begins c.args.home r a (g.S.Site.told c.scan.new.site) (g.S.Site.faults c.args.site.now) (g.S.Site.faults c.scan.new.site)) is
          (begins_looked c.args.home (of_scan x) _ _ _ _ (told_damage_scanned a x c.scan.result c.in_err-found.was c.scan.ensures.damage) c.scan.ensures.rising c.scan.ensures.told c.scan.ensures.cause.kept
          (rose_scan _ _ x c.scan.result c.in_err-found.was c.scan.ensures.cause) (never_scan x));
    }

pub read_all-requires-clause-there : goal.read_all-requires-clause-there
read_all-requires-clause-there g c =
    let a = g.S.Site.told c.args.site.now in
    still_there c.in_ok-found.found.journals a (g.S.Site.told c.scan.new.site) c.scan.ensures.told (found_there a c.in_ok-found.found c.scan.ensures.rising c.in_ok-found.ensures.found)

pub returns-in_err-readings : goal.returns-in_err-readings
returns-in_err-readings g c =
    let a = g.S.Site.told c.args.site.now in
    let x = c.in_err-readings.field-0.0 in
    let is : Err (of_log x) ≡ c.from_residual-in_err-readings.result = search (rules, c.from_residual-in_err-readings.ensures) in
    record {
      begins = subst (λ r. Begins c.args.home r a (g.S.Site.told c.read_all.new.site) (g.S.Site.faults c.args.site.now) (g.S.Site.faults c.read_all.new.site)) is
          (begins_looked c.args.home (of_log x) _ _ _ _ (told_damage_read a (g.S.Site.told c.scan.new.site) c.in_ok-found.found x c.read_all.result c.in_err-readings.was c.scan.ensures.told c.in_ok-found.ensures.found c.read_all.ensures.says) c.scan.ensures.rising
          (Tells-then OnlyLooks OnlyLooks OnlyLooks _ _ _ c.scan.ensures.told c.read_all.ensures.told OnlyLooks-then) (omega (arith, c.scan.ensures.cause.kept, c.read_all.ensures.cause.kept))
          (rose_log _ _ _ x c.read_all.result c.in_err-readings.was c.scan.ensures.cause.kept c.read_all.ensures.cause) (never_log x));
    }

not_failed : Memory ≡ Failed → ⊥
not_failed e = cc

pub returns-in_err-pool : goal.returns-in_err-pool
returns-in_err-pool g c =
    let a = g.S.Site.told c.args.site.now in
    let p = err_from_is_err_and c.from_residual-in_err-pool.result c.from_residual-in_err-pool.ensures.1 in
    let is : Err Memory ≡ c.from_residual-in_err-pool.result = sym (p.1 ∙ ap (λ k. Err k) p.2) in
    record {
      begins = subst (λ r. Begins c.args.home r a (g.S.Site.told c.read_all.new.site) (g.S.Site.faults c.args.site.now) (g.S.Site.faults c.read_all.new.site)) is
          (begins_looked c.args.home Memory _ _ _ _ (nothing_said a) c.scan.ensures.rising (Tells-then OnlyLooks OnlyLooks OnlyLooks _ _ _ c.scan.ensures.told c.read_all.ensures.told OnlyLooks-then)
          (omega (arith, c.scan.ensures.cause.kept, c.read_all.ensures.cause.kept)) (λ e. absurd (not_failed e)) tt);
    }

pub open-requires-2-clause-fit : goal.open-requires-2-clause-fit
open-requires-2-clause-fit g c = fit_pool c.in_ok-found.found.greatest c.in_ok-found.found.empties c.in_ok-pool.pool c.in_ok-found.ensures.sound.empties c.in_ok-pool.ensures.opened

pub open-requires-2-clause-may : goal.open-requires-2-clause-may
open-requires-2-clause-may g c =
    told_may_open c.in_ok-found.found c.in_ok-pool.pool c.in_ok-readings.readings.items (λ d listing. c.in_ok-pool.ensures.pool d listing) c.in_ok-readings.ensures.journals (g.S.Site.told c.args.site.now) (g.S.Site.told c.scan.new.site) _
    c.scan.ensures.told c.read_all.ensures.told c.scan.ensures.rising c.in_ok-found.ensures.found c.requires.quiet c.in_ok-found.ensures.spelled c.in_ok-readings.ensures.stand

pub returns-in-Ok : goal.returns-in-Ok
returns-in-Ok g c =
    let a = g.S.Site.told c.args.site.now in
    let b = g.S.Site.told c.scan.new.site in
    let e = c.in-Ok.ensures in
    record {
      begins = begins_done c.args.home a (g.S.Site.told c.read_all.new.site) (g.S.Site.told c.open-2.new.site) (g.S.Site.faults c.args.site.now) (g.S.Site.faults c.read_all.new.site) (g.S.Site.faults c.open-2.new.site) c.scan.ensures.rising
          (Tells-then OnlyLooks OnlyLooks OnlyLooks _ _ _ c.scan.ensures.told c.read_all.ensures.told OnlyLooks-then)
          (told_undamaged a b c.in_ok-found.found c.in_ok-readings.readings.items c.scan.ensures.told c.in_ok-found.ensures.found c.in_ok-readings.ensures.says) (omega (arith, c.scan.ensures.cause.kept, c.read_all.ensures.cause.kept))
          c.in-Ok.journals e.kept e.home e.numbered e.told e.none e.leaves e.writes e.still e.causes;
    }

pub returns : goal.returns
returns g c =
    let a = g.S.Site.told c.args.site.now in
    let b = g.S.Site.told c.scan.new.site in
    let e = c.in-Err.ensures in
    record {
      begins = subst (λ x. Begins c.args.home (Err x) a (g.S.Site.told c.open-2.new.site) (g.S.Site.faults c.args.site.now) (g.S.Site.faults c.open-2.new.site)) (sym c.fault_of.ensures.exact)
          (begins_stopped c.args.home a (g.S.Site.told c.read_all.new.site) (g.S.Site.told c.open-2.new.site) (g.S.Site.faults c.args.site.now) (g.S.Site.faults c.read_all.new.site) (g.S.Site.faults c.open-2.new.site) c.scan.ensures.rising
          (Tells-then OnlyLooks OnlyLooks OnlyLooks _ _ _ c.scan.ensures.told c.read_all.ensures.told OnlyLooks-then)
          (told_undamaged a b c.in_ok-found.found c.in_ok-readings.readings.items c.scan.ensures.told c.in_ok-found.ensures.found c.in_ok-readings.ensures.says) (omega (arith, c.scan.ensures.cause.kept, c.read_all.ensures.cause.kept))
          c.in-Err.cause e.told e.none e.leaves e.writes e.causes);
    }
