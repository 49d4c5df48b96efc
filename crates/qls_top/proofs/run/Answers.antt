use Rattle.std.proofs.Common.{ℕ, Option, Some, sym, ap, ◌∙◌, subst}
use Rattle.qls_pool.specs.Serials.{DrawsTaken}
use Rattle.qls_top.specs.declared.words.Job.{Job}
use Rattle.qls_top.specs.Complete.{Completes}
use Rattle.qls_top.specs.Run.{IfRun, is_exact_status}
use Rattle.qls_top.proofs.Completing.{run_completes}
use Rattle.qls_top.proofs.Lines.{exact_status}
use Rattle.qls_top.proofs.Shown.{told_quiet, told_in_order, told_writes, told_drawn}
use Rattle.qls_top.proofs.run.Goals as goal

-- ---- a run

pub returns-in-Err-clause-drawn : goal.returns-in-Err-clause-drawn
returns-in-Err-clause-drawn g c =
    subst (λ e. DrawsTaken e (g.S.Site.told c.args.site.now) (g.S.Site.told c.run_script.new.site) (g.N.Serials.drawn c.args.serials.now) (g.N.Serials.drawn c.run_script.new.serials))
    (sym (ap is_exact_status c.status.ensures.status ∙ exact_status c.in-Err.fault)) c.in-Err.ensures.drawn

pub returns-in-Err-clause-complete : goal.returns-in-Err-clause-complete
returns-in-Err-clause-complete g c = λ none.
    let e = c.in-Err.ensures in
    let old = g.S.Site.told c.args.site.now in
    let new = g.S.Site.told c.run_script.new.site in
    let script = g.R.Source.left c.args.source.now in
    subst (λ (job : Option Job). IfRun job (λ home. Completes c.status.result home old new script)) c.in-Some-Run.ensures.job
    (subst (λ (job : Job). IfRun (Some job) (λ home. Completes c.status.result home old new script)) (sym c.in-Some-Run.field-0-is)
    (subst (λ (n : ℕ). Completes n c.in-Some-Run.home old new script) (sym c.status.ensures.status)
    (run_completes c.in-Err.fault c.in-Some-Run.home old new script _ _ _ _ _ _ _ e.source e.site e.serials e.too_long e.damaged e.spent none)))

-- ---- a show

pub returns-in-Some-Show-clause-quiet : goal.returns-in-Some-Show-clause-quiet
returns-in-Some-Show-clause-quiet g c = told_quiet _ _ c.show.ensures.looks

pub returns-in-Some-Show-clause-orderly : goal.returns-in-Some-Show-clause-orderly
returns-in-Some-Show-clause-orderly g c = told_in_order _ _ c.show.ensures.rising c.show.ensures.looks

pub returns-in-Some-Show-clause-writes : goal.returns-in-Some-Show-clause-writes
returns-in-Some-Show-clause-writes g c = told_writes _ _ c.show.ensures.rising c.show.ensures.looks

pub returns-in-Some-Show-clause-drawn : goal.returns-in-Some-Show-clause-drawn
returns-in-Some-Show-clause-drawn g c = told_drawn (is_exact_status c.show.result) _ _ (g.N.Serials.drawn c.args.serials.now) c.show.ensures.rising c.show.ensures.looks
