use Rattle.std.proofs.Common.{◌≡◌, Ok, Err, IfSome, sym, ap, subst, ◌∙◌}
use Rattle.std.proofs.lemmas.Result.{err_from_is_err_and}
use Rattle.qls_model.specs.declared.machine.Command.TheVariants as command
use Rattle.qls_model.specs.declared.machine.Reply.TheVariants.{Doubts}
use Rattle.qls_pool.specs.Files.{OnDisk}
use Rattle.qls_journals.specs.declared.cause.Cause.TheVariants.{Memory}
use Rattle.qls_store.specs.Stores.{StoreState, Fits}
use Rattle.qls_store.proofs.Running.{Runs}
use Rattle.qls_store.proofs.Begins.{doubt_told, doubt_wants}
use Rattle.qls_store.proofs.store.Store.doubt.Goals as goal

pub returns-in_err-xids : goal.returns-in_err-xids
returns-in_err-xids g c =
    let s : StoreState = record { journals = c.self.inside.journals; transactions = c.self.inside.transactions } in
    let p = err_from_is_err_and c.from_residual.result c.from_residual.ensures.1 in
    let e : Err Memory ≡ c.from_residual.result = sym (p.1 ∙ ap (λ k. Err k) p.2) in
    let r : Runs g.S.Site.told g.S.Site.faults g.N.Serials.drawn g.N.Serials.faults c.args.self (command.Doubt) c.args.site.now c.args.site.now c.args.serials.now c.args.serials.now (c.from_residual.result) =
    subst (λ w. Runs g.S.Site.told g.S.Site.faults g.N.Serials.drawn g.N.Serials.faults w (command.Doubt) c.args.site.now c.args.site.now c.args.serials.now c.args.serials.now (c.from_residual.result)) c.self.view_is
    (subst (λ z. Runs g.S.Site.told g.S.Site.faults g.N.Serials.drawn g.N.Serials.faults s (command.Doubt) c.args.site.now c.args.site.now c.args.serials.now c.args.serials.now (z)) e (doubt_wants g.S.Site.told g.S.Site.faults g.N.Serials.drawn g.N.Serials.faults s c.self.invariant c.args.site.now c.args.serials.now)) in
    record { stepped = r.stepped; ended = r.ended; still = r.still; store = r.store; rid = r.rid; told = r.told; drawn = r.drawn; leaves = r.leaves; writes = r.writes; pools = r.pools; homes = r.homes; refused = r.refused; spent = r.spent; causes = r.causes }

pub returns : goal.returns
returns g c =
    let s : StoreState = record { journals = c.self.inside.journals; transactions = c.self.inside.transactions } in
    let fits : IfSome (g.S.Site.told c.args.site.now) (OnDisk (Fits s)) = subst (λ w. IfSome (g.S.Site.told c.args.site.now) (OnDisk (Fits w))) (sym c.self.view_is) c.requires.fits in
    let r : Runs g.S.Site.told g.S.Site.faults g.N.Serials.drawn g.N.Serials.faults c.args.self (command.Doubt) c.args.site.now c.args.site.now c.args.serials.now c.args.serials.now (Ok (c.args.self, Doubts c.in_ok-xids.xids)) =
    subst (λ w. Runs g.S.Site.told g.S.Site.faults g.N.Serials.drawn g.N.Serials.faults w (command.Doubt) c.args.site.now c.args.site.now c.args.serials.now c.args.serials.now (Ok (w, Doubts c.in_ok-xids.xids))) c.self.view_is
    (doubt_told g.S.Site.told g.S.Site.faults g.N.Serials.drawn g.N.Serials.faults s c.self.invariant c.args.site.now c.args.serials.now c.in_ok-xids.xids c.in_ok-xids.ensures.xids fits) in
    record { stepped = r.stepped; ended = r.ended; still = r.still; store = r.store; rid = r.rid; told = r.told; drawn = r.drawn; leaves = r.leaves; writes = r.writes; pools = r.pools; homes = r.homes; refused = r.refused; spent = r.spent; causes = r.causes }
