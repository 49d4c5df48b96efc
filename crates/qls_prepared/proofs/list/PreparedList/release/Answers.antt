use Rattle.std.proofs.Common.{◌≡◌, length, false, Option, Some, Ok, Err, IfSome, refl, sym, ap, subst, ◌∙◌}
use Rattle.qls_site.specs.Content.{Tells}
use Rattle.qls_enqmap.specs.Records.{least_file}
use Rattle.qls_pool.specs.Files.{OnDisk}
use Rattle.qls_pool.specs.Moments.{Arrives}
use Rattle.qls_pool.proofs.Moments.{told_of}
use Rattle.qls_log.specs.Logs.{LogState, without_first}
use Rattle.qls_log.specs.Standing.{LogThere}
use Rattle.qls_log.specs.Steps.{IsLogStep}
use Rattle.qls_log.specs.Returning.{GivesAll, released}
use Rattle.qls_log.proofs.AppendSteps.{told_whole_after}
use Rattle.qls_prepared.specs.Lists.{PreparedState, IsSound, ThereBy, ListThere, BecomesClean, StaysStill}
use Rattle.qls_prepared.specs.Moments.{LeavesDead, WritesOn}
use Rattle.qls_prepared.specs.Releasing.{file_or, first_needed}
use Rattle.qls_prepared.proofs.Fitting.{told_fit, told_released}
use Rattle.qls_prepared.proofs.Released.{list_leaves, list_clean, list_sound, told_becomes, told_quiet}
use Rattle.qls_prepared.proofs.Still.{told_still}
use Rattle.qls_prepared.proofs.list.PreparedList.release.Goals as goal

pub returns-in_err-release_before-clause-leaves : goal.returns-in_err-release_before-clause-leaves
returns-in_err-release_before-clause-leaves g c =
    let q : PreparedState = record { home = c.self.inside.home; log = c.self.inside.log; entries = c.self.inside.entries.entries; held = c.self.inside.entries.held; ended = c.self.inside.ended } in
    let s : IsSound q = c.self.invariant (ap (λ (p : PreparedState). p.ended) c.self.view_is ∙ c.requires.unended) in
    let l : LogState = c.in-Some.log in
    let number : c.first_needed-number.result ≡ first_needed l q.held = c.first_needed-number.ensures.exact ∙ ap (λ n. file_or n (least_file q.held)) c.newest.ensures.exact in
    let there : IfSome (g.S.Site.told c.args.site.now) (OnDisk (LogThere l)) =
    subst (λ (o : Option LogState). IfSome (g.S.Site.told c.args.site.now) (OnDisk (ThereBy q.home o))) c.in-Some.is (subst (λ (p : PreparedState). IfSome (g.S.Site.told c.args.site.now) (OnDisk (ListThere p))) (sym c.self.view_is) c.requires.there) in
    let back : Tells (GivesAll (released (first_needed l q.held) l) (Err c.in_err-release_before.field-0.0)) (g.S.Site.told c.args.site.now) (g.S.Site.told c.release_before.new.site) =
    subst (λ n. Tells (GivesAll (released n l) (Err c.in_err-release_before.field-0.0)) (g.S.Site.told c.args.site.now) (g.S.Site.told c.release_before.new.site)) number c.in_err-release_before.ensures.told in
    subst (λ (p : PreparedState). Tells (LeavesDead p) (g.S.Site.told c.args.site.now) (g.S.Site.told c.release_before.new.site)) c.self.view_is (list_leaves q l c.in-Some.is s (Err c.in_err-release_before.field-0.0) _ _ there back)

pub invariant_of-self-2 : goal.invariant_of-self-2
invariant_of-self-2 g c = λ _.
    let q : PreparedState = record { home = c.self.inside.home; log = c.self.inside.log; entries = c.self.inside.entries.entries; held = c.self.inside.entries.held; ended = c.self.inside.ended } in
    let s : IsSound q = c.self.invariant (ap (λ (p : PreparedState). p.ended) c.self.view_is ∙ c.requires.unended) in
    let l : LogState = c.in-Some.log in
    let number : c.first_needed-number.result ≡ first_needed l q.held = c.first_needed-number.ensures.exact ∙ ap (λ n. file_or n (least_file q.held)) c.newest.ensures.exact in
    let is : c.release_before.new.self ≡ without_first (length (released (first_needed l q.held) l)) l =
    c.in_ok-release_before.ensures.log ∙ ap (λ n. without_first (length (released n l)) l) number in
    let new : PreparedState = record { home = c.self.inside.home; log = Some c.release_before.new.self; entries = c.self.inside.entries.entries; held = c.self.inside.entries.held; ended = false } in
    list_sound q l c.in-Some.is s new c.release_before.new.self refl refl refl is refl

pub returns-clause-sound : goal.returns-clause-sound
returns-clause-sound g c = invariant_of-self-2 g c refl

pub returns-clause-fit : goal.returns-clause-fit
returns-clause-fit g c =
    told_fit c.args.pool.now c.release_before.new.pool (Arrives (IsLogStep c.in-Some.log.opening)) _ _ c.in_ok-release_before.ensures.went c.requires.pool
    (told_whole_after c.release_before.new.self c.release_before.new.pool _ c.in_ok-release_before.ensures.there c.in_ok-release_before.ensures.pool)
    (told_released c.first_needed-number.result c.in-Some.log c.in_ok-release_before.ensures.legal c.in_ok-release_before.field-0 _ _ c.in_ok-release_before.ensures.told)

pub returns-clause-clean : goal.returns-clause-clean
returns-clause-clean g c =
    let q : PreparedState = record { home = c.self.inside.home; log = c.self.inside.log; entries = c.self.inside.entries.entries; held = c.self.inside.entries.held; ended = c.self.inside.ended } in
    let s : IsSound q = c.self.invariant (ap (λ (p : PreparedState). p.ended) c.self.view_is ∙ c.requires.unended) in
    let l : LogState = c.in-Some.log in
    let number : c.first_needed-number.result ≡ first_needed l q.held = c.first_needed-number.ensures.exact ∙ ap (λ n. file_or n (least_file q.held)) c.newest.ensures.exact in
    let is : c.release_before.new.self ≡ without_first (length (released (first_needed l q.held) l)) l =
    c.in_ok-release_before.ensures.log ∙ ap (λ n. without_first (length (released n l)) l) number in
    let new : PreparedState = record { home = c.self.inside.home; log = Some c.release_before.new.self; entries = c.self.inside.entries.entries; held = c.self.inside.entries.held; ended = false } in
    let there : IfSome (g.S.Site.told c.args.site.now) (OnDisk (LogThere l)) =
    subst (λ (o : Option LogState). IfSome (g.S.Site.told c.args.site.now) (OnDisk (ThereBy q.home o))) c.in-Some.is (subst (λ (p : PreparedState). IfSome (g.S.Site.told c.args.site.now) (OnDisk (ListThere p))) (sym c.self.view_is) c.requires.there) in
    let back : Tells (GivesAll (released (first_needed l q.held) l) (Ok c.in_ok-release_before.field-0)) (g.S.Site.told c.args.site.now) (g.S.Site.told c.release_before.new.site) =
    subst (λ n. Tells (GivesAll (released n l) (Ok c.in_ok-release_before.field-0)) (g.S.Site.told c.args.site.now) (g.S.Site.told c.release_before.new.site)) number c.in_ok-release_before.ensures.told in
    subst (λ (p : PreparedState). Tells (BecomesClean p new) (g.S.Site.told c.args.site.now) (g.S.Site.told c.release_before.new.site)) c.self.view_is
    (told_becomes q new (IsLogStep l.opening) _ _ (told_of (IsLogStep l.opening) _ _ c.in_ok-release_before.ensures.went) (list_clean q l c.in-Some.is s new c.release_before.new.self refl refl refl is c.in_ok-release_before.field-0 _ _ there back))

pub returns-clause-quiet : goal.returns-clause-quiet
returns-clause-quiet g c = told_quiet (released c.first_needed-number.result c.in-Some.log) c.in_ok-release_before.field-0 _ _ c.in_ok-release_before.ensures.told

pub returns-clause-leaves : goal.returns-clause-leaves
returns-clause-leaves g c =
    let q : PreparedState = record { home = c.self.inside.home; log = c.self.inside.log; entries = c.self.inside.entries.entries; held = c.self.inside.entries.held; ended = c.self.inside.ended } in
    let s : IsSound q = c.self.invariant (ap (λ (p : PreparedState). p.ended) c.self.view_is ∙ c.requires.unended) in
    let l : LogState = c.in-Some.log in
    let number : c.first_needed-number.result ≡ first_needed l q.held = c.first_needed-number.ensures.exact ∙ ap (λ n. file_or n (least_file q.held)) c.newest.ensures.exact in
    let there : IfSome (g.S.Site.told c.args.site.now) (OnDisk (LogThere l)) =
    subst (λ (o : Option LogState). IfSome (g.S.Site.told c.args.site.now) (OnDisk (ThereBy q.home o))) c.in-Some.is (subst (λ (p : PreparedState). IfSome (g.S.Site.told c.args.site.now) (OnDisk (ListThere p))) (sym c.self.view_is) c.requires.there) in
    let back : Tells (GivesAll (released (first_needed l q.held) l) (Ok c.in_ok-release_before.field-0)) (g.S.Site.told c.args.site.now) (g.S.Site.told c.release_before.new.site) =
    subst (λ n. Tells (GivesAll (released n l) (Ok c.in_ok-release_before.field-0)) (g.S.Site.told c.args.site.now) (g.S.Site.told c.release_before.new.site)) number c.in_ok-release_before.ensures.told in
    subst (λ (p : PreparedState). Tells (LeavesDead p) (g.S.Site.told c.args.site.now) (g.S.Site.told c.release_before.new.site)) c.self.view_is (list_leaves q l c.in-Some.is s (Ok c.in_ok-release_before.field-0) _ _ there back)

pub returns-clause-writes : goal.returns-clause-writes
returns-clause-writes g c =
    subst (λ (p : PreparedState). Tells (WritesOn {X = Unit {0}} (Ok tt) p.log (λ _. Some c.release_before.new.self)) (g.S.Site.told c.args.site.now) (g.S.Site.told c.release_before.new.site)) c.self.view_is
    (subst (λ (o : Option LogState). Tells (WritesOn {X = Unit {0}} (Ok tt) o (λ _. Some c.release_before.new.self)) (g.S.Site.told c.args.site.now) (g.S.Site.told c.release_before.new.site)) (sym c.in-Some.is) c.in_ok-release_before.ensures.writes)

pub returns-clause-still : goal.returns-clause-still
returns-clause-still g c =
    let q : PreparedState = record { home = c.self.inside.home; log = c.self.inside.log; entries = c.self.inside.entries.entries; held = c.self.inside.entries.held; ended = c.self.inside.ended } in
    let s : IsSound q = c.self.invariant (ap (λ (p : PreparedState). p.ended) c.self.view_is ∙ c.requires.unended) in
    let l : LogState = c.in-Some.log in
    let number : c.first_needed-number.result ≡ first_needed l q.held = c.first_needed-number.ensures.exact ∙ ap (λ n. file_or n (least_file q.held)) c.newest.ensures.exact in
    let there : IfSome (g.S.Site.told c.args.site.now) (OnDisk (LogThere l)) =
    subst (λ (o : Option LogState). IfSome (g.S.Site.told c.args.site.now) (OnDisk (ThereBy q.home o))) c.in-Some.is (subst (λ (p : PreparedState). IfSome (g.S.Site.told c.args.site.now) (OnDisk (ListThere p))) (sym c.self.view_is) c.requires.there) in
    let back : Tells (GivesAll (released (first_needed l q.held) l) (Ok c.in_ok-release_before.field-0)) (g.S.Site.told c.args.site.now) (g.S.Site.told c.release_before.new.site) =
    subst (λ n. Tells (GivesAll (released n l) (Ok c.in_ok-release_before.field-0)) (g.S.Site.told c.args.site.now) (g.S.Site.told c.release_before.new.site)) number c.in_ok-release_before.ensures.told in
    subst (λ (p : PreparedState). Tells (StaysStill p) (g.S.Site.told c.args.site.now) (g.S.Site.told c.release_before.new.site)) c.self.view_is
    (told_still q l c.in-Some.is s c.in_ok-release_before.field-0 _ _ there back)
