use Rattle.std.proofs.Common.{◌≡◌, Some, Ok, Err, IfSome, sym, ap, subst, ◌∙◌}
use Rattle.std.proofs.lemmas.Result.{err_from_is_err_and}
use Rattle.qls_model.specs.declared.machine.Command.TheVariants as command
use Rattle.qls_model.specs.declared.machine.Refusal.TheVariants as refusal
use Rattle.qls_model.specs.declared.machine.Reply.TheVariants.{Done, Refused}
use Rattle.qls_pool.specs.Files.{OnDisk}
use Rattle.qls_store.specs.Stores.{StoreState, Fits}
use Rattle.qls_store.proofs.Running.{Runs}
use Rattle.qls_journals.specs.Places.{WouldStandAt}
use Rattle.qls_journals.specs.Homes.{with_home}
use Rattle.qls_store.specs.Homes.{homes_of}
use Rattle.qls_store.proofs.Running.{Went, broken}
use Rattle.std.proofs.Common.{unwrap_or}
use Rattle.qls_store.specs.Homes.{pool_or}
use Rattle.qls_store.proofs.Makes.{queue_exists, queue_fails, queue_done, queue_store, pool_is}
use Rattle.qls_store.proofs.store.Store.make_queue.Goals as goal

pub returns-in-Ok : goal.returns-in-Ok
returns-in-Ok g c =
    let s : StoreState = record { journals = c.self.inside.journals; transactions = c.self.inside.transactions } in
    let fits : IfSome (g.S.Site.told c.args.site.now) (OnDisk (Fits s)) = subst (λ w. IfSome (g.S.Site.told c.args.site.now) (OnDisk (Fits w))) (sym c.self.view_is) c.requires.fits in
    let r : Runs g.S.Site.told g.S.Site.faults g.N.Serials.drawn g.N.Serials.faults c.args.self (command.Queue c.args.name c.args.home) c.args.site.now c.args.site.now c.args.serials.now c.args.serials.now (Ok (c.args.self, Refused refusal.Exists)) =
    subst (λ w. Runs g.S.Site.told g.S.Site.faults g.N.Serials.drawn g.N.Serials.faults w (command.Queue c.args.name c.args.home) c.args.site.now c.args.site.now c.args.serials.now c.args.serials.now (Ok (w, Refused refusal.Exists))) c.self.view_is
    (queue_exists g.S.Site.told g.S.Site.faults g.N.Serials.drawn g.N.Serials.faults s c.self.invariant c.args.site.now c.args.serials.now c.args.name c.args.home c.in-Ok.field-0 c.in-Ok.ensures.place fits) in
    record { stepped = r.stepped; ended = r.ended; still = r.still; store = r.store; rid = r.rid; told = r.told; drawn = r.drawn; leaves = r.leaves; writes = r.writes; pools = r.pools; homes = r.homes; refused = r.refused; spent = r.spent; causes = r.causes }

pub returns-in_err-journals : goal.returns-in_err-journals
returns-in_err-journals g c =
    let s : StoreState = record { journals = c.self.inside.journals; transactions = c.self.inside.transactions } in
    let v : WouldStandAt s.journals.queues c.args.name c.in-Err.at = c.in-Err.ensures.place in
    let pool_so : c.unwrap_or-home.result ≡ pool_or s.journals.home c.args.home = c.unwrap_or-home.ensures ∙ ap (unwrap_or c.args.home) c.home.ensures.exact ∙ pool_is c.args.home s.journals.home in
    let p = err_from_is_err_and c.from_residual.result c.from_residual.ensures.1 in
    let e : Err c.in_err-journals.field-0.0 ≡ c.from_residual.result = sym (p.1 ∙ ap (λ k. Err k) p.2) in
    let r : Runs g.S.Site.told g.S.Site.faults g.N.Serials.drawn g.N.Serials.faults c.args.self (command.Queue c.args.name c.args.home) c.args.site.now c.create.new.site c.args.serials.now c.create.new.serials (c.from_residual.result) =
    subst (λ w. Runs g.S.Site.told g.S.Site.faults g.N.Serials.drawn g.N.Serials.faults w (command.Queue c.args.name c.args.home) c.args.site.now c.create.new.site c.args.serials.now c.create.new.serials (c.from_residual.result)) c.self.view_is
    (subst (λ z. Runs g.S.Site.told g.S.Site.faults g.N.Serials.drawn g.N.Serials.faults s (command.Queue c.args.name c.args.home) c.args.site.now c.create.new.site c.args.serials.now c.create.new.serials (z)) e (queue_fails g.S.Site.told g.S.Site.faults g.N.Serials.drawn g.N.Serials.faults s c.self.invariant c.args.site.now c.args.serials.now c.args.name c.args.home c.in-Err.at v c.unwrap_or-home.result pool_so c.create.new.site c.create.new.serials c.in_err-journals.field-0.0 (broken g.S.Site.told g.S.Site.faults g.N.Serials.drawn g.N.Serials.faults s.journals (with_home c.args.name (Some c.unwrap_or-home.result) (homes_of s)) c.in_err-journals.field-0.0 c.args.site.now c.create.new.site c.args.serials.now c.create.new.serials c.in_err-journals.ensures.told c.in_err-journals.ensures.drawn c.in_err-journals.ensures.leaves c.in_err-journals.ensures.writes c.in_err-journals.ensures.pools c.in_err-journals.ensures.causes) (λ k. c.in_err-journals.ensures.spent (ap (λ m. Err m) k)))) in
    record { stepped = r.stepped; ended = r.ended; still = r.still; store = r.store; rid = r.rid; told = r.told; drawn = r.drawn; leaves = r.leaves; writes = r.writes; pools = r.pools; homes = r.homes; refused = r.refused; spent = r.spent; causes = r.causes }

pub invariant_of-store : goal.invariant_of-store
invariant_of-store g c =
    let s : StoreState = record { journals = c.self.inside.journals; transactions = c.self.inside.transactions } in
    let v : WouldStandAt s.journals.queues c.args.name c.in-Err.at = c.in-Err.ensures.place in
    let pool_so : c.unwrap_or-home.result ≡ pool_or s.journals.home c.args.home = c.unwrap_or-home.ensures ∙ ap (unwrap_or c.args.home) c.home.ensures.exact ∙ pool_is c.args.home s.journals.home in
    queue_store g.S.Site.told g.S.Site.faults g.N.Serials.drawn g.N.Serials.faults s c.self.invariant c.args.site.now c.args.serials.now c.args.name c.args.home c.in-Err.at v c.unwrap_or-home.result pool_so c.create.new.site c.create.new.serials c.in_ok-journals.journals c.in_ok-journals.ensures.queues c.in_ok-journals.ensures.list c.in_ok-journals.ensures.kept (c.in_ok-journals.ensures.released c.self.invariant.released)

pub returns : goal.returns
returns g c =
    let s : StoreState = record { journals = c.self.inside.journals; transactions = c.self.inside.transactions } in
    let v : WouldStandAt s.journals.queues c.args.name c.in-Err.at = c.in-Err.ensures.place in
    let pool_so : c.unwrap_or-home.result ≡ pool_or s.journals.home c.args.home = c.unwrap_or-home.ensures ∙ ap (unwrap_or c.args.home) c.home.ensures.exact ∙ pool_is c.args.home s.journals.home in
    let went : Went g.S.Site.told g.S.Site.faults g.N.Serials.drawn g.N.Serials.faults s.journals c.in_ok-journals.journals (with_home c.args.name (Some c.unwrap_or-home.result) (homes_of s)) c.args.site.now c.create.new.site c.args.serials.now c.create.new.serials = record { told = c.in_ok-journals.ensures.told; drawn = c.in_ok-journals.ensures.drawn; leaves = c.in_ok-journals.ensures.leaves; writes = c.in_ok-journals.ensures.writes; pools = c.in_ok-journals.ensures.pools; sites_kept = c.in_ok-journals.ensures.causes.sites_kept; draws_kept = c.in_ok-journals.ensures.causes.draws_kept } in
    let r : Runs g.S.Site.told g.S.Site.faults g.N.Serials.drawn g.N.Serials.faults c.args.self (command.Queue c.args.name c.args.home) c.args.site.now c.create.new.site c.args.serials.now c.create.new.serials (Ok (record { journals = c.in_ok-journals.journals; transactions = s.transactions }, Done)) =
    subst (λ w. Runs g.S.Site.told g.S.Site.faults g.N.Serials.drawn g.N.Serials.faults w (command.Queue c.args.name c.args.home) c.args.site.now c.create.new.site c.args.serials.now c.create.new.serials (Ok (record { journals = c.in_ok-journals.journals; transactions = s.transactions }, Done))) c.self.view_is
    (queue_done g.S.Site.told g.S.Site.faults g.N.Serials.drawn g.N.Serials.faults s c.self.invariant c.args.site.now c.args.serials.now c.args.name c.args.home c.in-Err.at v c.unwrap_or-home.result pool_so c.create.new.site c.create.new.serials c.in_ok-journals.journals went c.in_ok-journals.ensures.queues c.in_ok-journals.ensures.list c.in_ok-journals.ensures.kept (c.in_ok-journals.ensures.released c.self.invariant.released) c.in_ok-journals.ensures.alive c.in_ok-journals.ensures.homes c.in_ok-journals.ensures.had) in
    record { stepped = r.stepped; ended = r.ended; still = r.still; store = r.store; rid = r.rid; told = r.told; drawn = r.drawn; leaves = r.leaves; writes = r.writes; pools = r.pools; homes = r.homes; refused = r.refused; spent = r.spent; causes = r.causes }
