use Rattle.std.proofs.Common.{◌≡◌, None, Ok, Err, IfSome, sym, ap, subst, ◌∙◌, true}
use Rattle.std.proofs.lemmas.Result.{err_from_is_err_and}
use Rattle.qls_model.specs.declared.machine.Command.TheVariants as command
use Rattle.qls_model.specs.declared.machine.Refusal.TheVariants as refusal
use Rattle.qls_model.specs.declared.machine.Reply.TheVariants.{Done, Refused}
use Rattle.qls_pool.specs.Files.{OnDisk}
use Rattle.qls_store.specs.Stores.{StoreState, Fits}
use Rattle.qls_store.proofs.Running.{Runs}
use Rattle.qls_queue.specs.Live.{LiveState}
use Rattle.qls_journals.specs.Places.{StandsAt}
use Rattle.qls_journals.specs.Homes.{with_home}
use Rattle.qls_journals.specs.State.{JournalsState}
use Rattle.qls_store.specs.Homes.{homes_of}
use Rattle.qls_store.proofs.Running.{Went, broken, site_causes}
use Rattle.qls_store.proofs.Makes.{at_place}
use Rattle.std.proofs.Common.{not, arith}
use Rattle.qls_model.specs.Machine.{is_empty}
use Rattle.qls_journals.specs.Answers.{is_exact}
use Rattle.qls_store.proofs.Resting.{drawn_untaken}
use Rattle.qls_store.proofs.Makes.{drop_missing, drop_busy, drop_fails, drop_done, drop_store, one_released}
use Rattle.qls_store.proofs.store.Store.drop_queue.Goals as goal

pub returns-in-Err : goal.returns-in-Err
returns-in-Err g c =
    let s : StoreState = record { journals = c.self.inside.journals; transactions = c.self.inside.transactions } in
    let fits : IfSome (g.S.Site.told c.args.site.now) (OnDisk (Fits s)) = subst (λ w. IfSome (g.S.Site.told c.args.site.now) (OnDisk (Fits w))) (sym c.self.view_is) c.requires.fits in
    let r : Runs g.S.Site.told g.S.Site.faults g.N.Serials.drawn g.N.Serials.faults c.args.self (command.Drop c.args.name) c.args.site.now c.args.site.now c.args.serials.now c.args.serials.now (Ok (c.args.self, Refused refusal.Queue)) =
    subst (λ w. Runs g.S.Site.told g.S.Site.faults g.N.Serials.drawn g.N.Serials.faults w (command.Drop c.args.name) c.args.site.now c.args.site.now c.args.serials.now c.args.serials.now (Ok (w, Refused refusal.Queue))) c.self.view_is
    (drop_missing g.S.Site.told g.S.Site.faults g.N.Serials.drawn g.N.Serials.faults s c.self.invariant c.args.site.now c.args.serials.now c.args.name c.in-Err.field-0 c.in-Err.ensures.place fits) in
    record { stepped = r.stepped; ended = r.ended; still = r.still; store = r.store; rid = r.rid; told = r.told; drawn = r.drawn; leaves = r.leaves; writes = r.writes; pools = r.pools; homes = r.homes; refused = r.refused; spent = r.spent; causes = r.causes }

pub returns-then-has_message : goal.returns-then-has_message
returns-then-has_message g c =
    let s : StoreState = record { journals = c.self.inside.journals; transactions = c.self.inside.transactions } in
    let fits : IfSome (g.S.Site.told c.args.site.now) (OnDisk (Fits s)) = subst (λ w. IfSome (g.S.Site.told c.args.site.now) (OnDisk (Fits w))) (sym c.self.view_is) c.requires.fits in
    let w : StandsAt s.journals.queues c.args.name c.in-Ok.at = c.in-Ok.ensures.place in
    let busy : c.has_message.result ≡ not (is_empty w.queue.queue.messages) = at_place (λ (q : LiveState). c.has_message.result ≡ not (is_empty q.queue.messages)) s.journals.queues c.in-Ok.at w.queue w.there c.has_message.ensures.exact in
    let r : Runs g.S.Site.told g.S.Site.faults g.N.Serials.drawn g.N.Serials.faults c.args.self (command.Drop c.args.name) c.args.site.now c.args.site.now c.args.serials.now c.args.serials.now (Ok (c.args.self, Refused refusal.Busy)) =
    subst (λ w. Runs g.S.Site.told g.S.Site.faults g.N.Serials.drawn g.N.Serials.faults w (command.Drop c.args.name) c.args.site.now c.args.site.now c.args.serials.now c.args.serials.now (Ok (w, Refused refusal.Busy))) c.self.view_is
    (drop_busy g.S.Site.told g.S.Site.faults g.N.Serials.drawn g.N.Serials.faults s c.self.invariant c.args.site.now c.args.serials.now c.args.name c.in-Ok.at w (sym busy ∙ c.if-has_message.true) fits) in
    record { stepped = r.stepped; ended = r.ended; still = r.still; store = r.store; rid = r.rid; told = r.told; drawn = r.drawn; leaves = r.leaves; writes = r.writes; pools = r.pools; homes = r.homes; refused = r.refused; spent = r.spent; causes = r.causes }

pub remove-requires-clause-one : goal.remove-requires-clause-one
remove-requires-clause-one g c = one_released c.self.inside.journals.queues c.in-Ok.at c.self.invariant.released

pub returns-in_err-journals : goal.returns-in_err-journals
returns-in_err-journals g c =
    let s : StoreState = record { journals = c.self.inside.journals; transactions = c.self.inside.transactions } in
    let w : StandsAt s.journals.queues c.args.name c.in-Ok.at = c.in-Ok.ensures.place in
    let busy : c.has_message.result ≡ not (is_empty w.queue.queue.messages) = at_place (λ (q : LiveState). c.has_message.result ≡ not (is_empty q.queue.messages)) s.journals.queues c.in-Ok.at w.queue w.there c.has_message.ensures.exact in
    let p = err_from_is_err_and c.from_residual.result c.from_residual.ensures.1 in
    let e : Err c.in_err-journals.field-0.0 ≡ c.from_residual.result = sym (p.1 ∙ ap (λ k. Err k) p.2) in
    let r : Runs g.S.Site.told g.S.Site.faults g.N.Serials.drawn g.N.Serials.faults c.args.self (command.Drop c.args.name) c.args.site.now c.remove.new.site c.args.serials.now c.args.serials.now (c.from_residual.result) =
    subst (λ w. Runs g.S.Site.told g.S.Site.faults g.N.Serials.drawn g.N.Serials.faults w (command.Drop c.args.name) c.args.site.now c.remove.new.site c.args.serials.now c.args.serials.now (c.from_residual.result)) c.self.view_is
    (subst (λ z. Runs g.S.Site.told g.S.Site.faults g.N.Serials.drawn g.N.Serials.faults s (command.Drop c.args.name) c.args.site.now c.remove.new.site c.args.serials.now c.args.serials.now (z)) e (drop_fails g.S.Site.told g.S.Site.faults g.N.Serials.drawn g.N.Serials.faults s c.self.invariant c.args.site.now c.args.serials.now c.args.name c.in-Ok.at w (sym busy ∙ c.if-has_message.false) c.remove.new.site c.args.serials.now c.in_err-journals.field-0.0 (broken g.S.Site.told g.S.Site.faults g.N.Serials.drawn g.N.Serials.faults s.journals (with_home c.args.name None (homes_of s)) c.in_err-journals.field-0.0 c.args.site.now c.remove.new.site c.args.serials.now c.args.serials.now c.in_err-journals.ensures.told (drawn_untaken (is_exact {X = JournalsState} (Err c.in_err-journals.field-0.0)) (g.S.Site.told c.args.site.now) (g.S.Site.told c.remove.new.site) (g.N.Serials.drawn c.args.serials.now) c.in_err-journals.ensures.none) c.in_err-journals.ensures.leaves c.in_err-journals.ensures.writes (c.in_err-journals.ensures.pools (with_home c.args.name None (homes_of s))) (site_causes g.S.Site.told g.S.Site.faults g.N.Serials.drawn g.N.Serials.faults (Err c.in_err-journals.field-0.0) c.args.site.now c.remove.new.site c.args.serials.now c.in_err-journals.ensures.causes)) (λ k. c.in_err-journals.ensures.causes.no_end (ap (λ m. Err m) k)))) in
    record { stepped = r.stepped; ended = r.ended; still = r.still; store = r.store; rid = r.rid; told = r.told; drawn = r.drawn; leaves = r.leaves; writes = r.writes; pools = r.pools; homes = r.homes; refused = r.refused; spent = r.spent; causes = r.causes }

pub invariant_of-store : goal.invariant_of-store
invariant_of-store g c =
    let s : StoreState = record { journals = c.self.inside.journals; transactions = c.self.inside.transactions } in
    let w : StandsAt s.journals.queues c.args.name c.in-Ok.at = c.in-Ok.ensures.place in
    let busy : c.has_message.result ≡ not (is_empty w.queue.queue.messages) = at_place (λ (q : LiveState). c.has_message.result ≡ not (is_empty q.queue.messages)) s.journals.queues c.in-Ok.at w.queue w.there c.has_message.ensures.exact in
    drop_store g.S.Site.told g.S.Site.faults g.N.Serials.drawn g.N.Serials.faults s c.self.invariant c.args.site.now c.args.serials.now c.args.name c.in-Ok.at w (sym busy ∙ c.if-has_message.false) c.remove.new.site c.args.serials.now c.in_ok-journals.journals c.in_ok-journals.ensures.queues c.in_ok-journals.ensures.list c.in_ok-journals.ensures.kept (c.in_ok-journals.ensures.released c.self.invariant.released)

pub returns : goal.returns
returns g c =
    let s : StoreState = record { journals = c.self.inside.journals; transactions = c.self.inside.transactions } in
    let w : StandsAt s.journals.queues c.args.name c.in-Ok.at = c.in-Ok.ensures.place in
    let busy : c.has_message.result ≡ not (is_empty w.queue.queue.messages) = at_place (λ (q : LiveState). c.has_message.result ≡ not (is_empty q.queue.messages)) s.journals.queues c.in-Ok.at w.queue w.there c.has_message.ensures.exact in
    let went : Went g.S.Site.told g.S.Site.faults g.N.Serials.drawn g.N.Serials.faults s.journals c.in_ok-journals.journals (with_home c.args.name None (homes_of s)) c.args.site.now c.remove.new.site c.args.serials.now c.args.serials.now = record { told = c.in_ok-journals.ensures.told; drawn = drawn_untaken true (g.S.Site.told c.args.site.now) (g.S.Site.told c.remove.new.site) (g.N.Serials.drawn c.args.serials.now) c.in_ok-journals.ensures.none; leaves = c.in_ok-journals.ensures.leaves; writes = c.in_ok-journals.ensures.writes; pools = c.in_ok-journals.ensures.pools (with_home c.args.name None (homes_of s)); sites_kept = c.in_ok-journals.ensures.causes.kept; draws_kept = omega arith } in
    let r : Runs g.S.Site.told g.S.Site.faults g.N.Serials.drawn g.N.Serials.faults c.args.self (command.Drop c.args.name) c.args.site.now c.remove.new.site c.args.serials.now c.args.serials.now (Ok (record { journals = c.in_ok-journals.journals; transactions = s.transactions }, Done)) =
    subst (λ w. Runs g.S.Site.told g.S.Site.faults g.N.Serials.drawn g.N.Serials.faults w (command.Drop c.args.name) c.args.site.now c.remove.new.site c.args.serials.now c.args.serials.now (Ok (record { journals = c.in_ok-journals.journals; transactions = s.transactions }, Done))) c.self.view_is
    (drop_done g.S.Site.told g.S.Site.faults g.N.Serials.drawn g.N.Serials.faults s c.self.invariant c.args.site.now c.args.serials.now c.args.name c.in-Ok.at w (sym busy ∙ c.if-has_message.false) c.remove.new.site c.args.serials.now c.in_ok-journals.journals went c.in_ok-journals.ensures.queues c.in_ok-journals.ensures.list c.in_ok-journals.ensures.kept (c.in_ok-journals.ensures.released c.self.invariant.released) c.in_ok-journals.ensures.alive c.in_ok-journals.ensures.homes) in
    record { stepped = r.stepped; ended = r.ended; still = r.still; store = r.store; rid = r.rid; told = r.told; drawn = r.drawn; leaves = r.leaves; writes = r.writes; pools = r.pools; homes = r.homes; refused = r.refused; spent = r.spent; causes = r.causes }
