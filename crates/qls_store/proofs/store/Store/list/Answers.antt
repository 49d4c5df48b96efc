use Rattle.std.proofs.Common.{◌≡◌, Ok, Err, IfSome, sym, ap, subst, ◌∙◌}
use Rattle.std.proofs.lemmas.Result.{err_from_is_err_and}
use Rattle.qls_model.specs.declared.machine.Command.TheVariants as command
use Rattle.qls_model.specs.declared.machine.Refusal.TheVariants as refusal
use Rattle.qls_model.specs.declared.machine.Reply.TheVariants.{Messages, Refused}
use Rattle.qls_pool.specs.Files.{OnDisk}
use Rattle.qls_journals.specs.declared.cause.Cause.TheVariants.{Memory}
use Rattle.qls_store.specs.Stores.{StoreState, Fits}
use Rattle.qls_store.proofs.Running.{Runs}
use Rattle.qls_queue.specs.Live.{LiveState}
use Rattle.qls_journals.specs.Places.{StandsAt}
use Rattle.qls_store.proofs.Makes.{at_place}
use Rattle.qls_store.proofs.Begins.{list_missing, list_told, list_wants}
use Rattle.qls_store.proofs.store.Store.list.Goals as goal

pub returns-in-Err : goal.returns-in-Err
returns-in-Err g c =
    let s : StoreState = record { journals = c.self.inside.journals; transactions = c.self.inside.transactions } in
    let fits : IfSome (g.S.Site.told c.args.site.now) (OnDisk (Fits s)) = subst (λ w. IfSome (g.S.Site.told c.args.site.now) (OnDisk (Fits w))) (sym c.self.view_is) c.requires.fits in
    let r : Runs g.S.Site.told g.S.Site.faults g.N.Serials.drawn g.N.Serials.faults c.args.self (command.List c.args.name) c.args.site.now c.args.site.now c.args.serials.now c.args.serials.now (Ok (c.args.self, Refused refusal.Queue)) =
    subst (λ w. Runs g.S.Site.told g.S.Site.faults g.N.Serials.drawn g.N.Serials.faults w (command.List c.args.name) c.args.site.now c.args.site.now c.args.serials.now c.args.serials.now (Ok (w, Refused refusal.Queue))) c.self.view_is
    (list_missing g.S.Site.told g.S.Site.faults g.N.Serials.drawn g.N.Serials.faults s c.self.invariant c.args.site.now c.args.serials.now c.args.name c.in-Err.field-0 c.in-Err.ensures.place fits) in
    record { stepped = r.stepped; ended = r.ended; still = r.still; store = r.store; rid = r.rid; told = r.told; drawn = r.drawn; leaves = r.leaves; writes = r.writes; pools = r.pools; homes = r.homes; refused = r.refused; spent = r.spent; causes = r.causes }

pub returns-in_err-messages : goal.returns-in_err-messages
returns-in_err-messages g c =
    let s : StoreState = record { journals = c.self.inside.journals; transactions = c.self.inside.transactions } in
    let w : StandsAt s.journals.queues c.args.name c.in-Ok.at = c.in-Ok.ensures.place in
    let p = err_from_is_err_and c.from_residual.result c.from_residual.ensures.1 in
    let e : Err Memory ≡ c.from_residual.result = sym (p.1 ∙ ap (λ k. Err k) p.2) in
    let r : Runs g.S.Site.told g.S.Site.faults g.N.Serials.drawn g.N.Serials.faults c.args.self (command.List c.args.name) c.args.site.now c.args.site.now c.args.serials.now c.args.serials.now (c.from_residual.result) =
    subst (λ w. Runs g.S.Site.told g.S.Site.faults g.N.Serials.drawn g.N.Serials.faults w (command.List c.args.name) c.args.site.now c.args.site.now c.args.serials.now c.args.serials.now (c.from_residual.result)) c.self.view_is
    (subst (λ z. Runs g.S.Site.told g.S.Site.faults g.N.Serials.drawn g.N.Serials.faults s (command.List c.args.name) c.args.site.now c.args.site.now c.args.serials.now c.args.serials.now (z)) e (list_wants g.S.Site.told g.S.Site.faults g.N.Serials.drawn g.N.Serials.faults s c.self.invariant c.args.site.now c.args.serials.now c.args.name c.in-Ok.at w)) in
    record { stepped = r.stepped; ended = r.ended; still = r.still; store = r.store; rid = r.rid; told = r.told; drawn = r.drawn; leaves = r.leaves; writes = r.writes; pools = r.pools; homes = r.homes; refused = r.refused; spent = r.spent; causes = r.causes }

pub returns : goal.returns
returns g c =
    let s : StoreState = record { journals = c.self.inside.journals; transactions = c.self.inside.transactions } in
    let fits : IfSome (g.S.Site.told c.args.site.now) (OnDisk (Fits s)) = subst (λ w. IfSome (g.S.Site.told c.args.site.now) (OnDisk (Fits w))) (sym c.self.view_is) c.requires.fits in
    let w : StandsAt s.journals.queues c.args.name c.in-Ok.at = c.in-Ok.ensures.place in
    let r : Runs g.S.Site.told g.S.Site.faults g.N.Serials.drawn g.N.Serials.faults c.args.self (command.List c.args.name) c.args.site.now c.args.site.now c.args.serials.now c.args.serials.now (Ok (c.args.self, Messages c.in_ok-messages.messages)) =
    subst (λ w. Runs g.S.Site.told g.S.Site.faults g.N.Serials.drawn g.N.Serials.faults w (command.List c.args.name) c.args.site.now c.args.site.now c.args.serials.now c.args.serials.now (Ok (w, Messages c.in_ok-messages.messages))) c.self.view_is
    (list_told g.S.Site.told g.S.Site.faults g.N.Serials.drawn g.N.Serials.faults s c.self.invariant c.args.site.now c.args.serials.now c.args.name c.in-Ok.at w c.in_ok-messages.messages (at_place (λ (q : LiveState). c.in_ok-messages.messages ≡ q.queue.messages) s.journals.queues c.in-Ok.at w.queue w.there c.in_ok-messages.ensures.exact) fits) in
    record { stepped = r.stepped; ended = r.ended; still = r.still; store = r.store; rid = r.rid; told = r.told; drawn = r.drawn; leaves = r.leaves; writes = r.writes; pools = r.pools; homes = r.homes; refused = r.refused; spent = r.spent; causes = r.causes }
