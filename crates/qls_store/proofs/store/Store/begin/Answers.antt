use Rattle.std.proofs.Common.{◌≡◌, Ok, Err, IfSome, sym, ap, subst, ◌∙◌}
use Rattle.std.proofs.lemmas.Result.{err_from_is_err_and}
use Rattle.qls_model.specs.declared.machine.Command.TheVariants as command
use Rattle.qls_model.specs.declared.machine.Refusal.TheVariants as refusal
use Rattle.qls_model.specs.declared.machine.Reply.TheVariants.{Done, Refused}
use Rattle.qls_pool.specs.Files.{OnDisk}
use Rattle.qls_journals.specs.declared.cause.Cause.TheVariants.{Memory}
use Rattle.qls_store.specs.Stores.{StoreState, Fits, IsStore}
use Rattle.qls_store.proofs.Running.{Runs}
use Rattle.qls_store.proofs.Begins.{begin_exists, begin_new, begin_wants, begin_store, is_xid_true, phase_none}
use Rattle.qls_store.proofs.store.Store.begin.Goals as goal

pub returns-then-is_some : goal.returns-then-is_some
returns-then-is_some g c =
    let s : StoreState = record { journals = c.self.inside.journals; transactions = c.self.inside.transactions } in
    let fits : IfSome (g.S.Site.told c.args.site.now) (OnDisk (Fits s)) = subst (λ w. IfSome (g.S.Site.told c.args.site.now) (OnDisk (Fits w))) (sym c.self.view_is) c.requires.fits in
    let r : Runs g.S.Site.told g.S.Site.faults g.N.Serials.drawn g.N.Serials.faults c.args.self (command.Begin c.args.xid) c.args.site.now c.args.site.now c.args.serials.now c.args.serials.now (Ok (c.args.self, Refused refusal.Exists)) =
    subst (λ w. Runs g.S.Site.told g.S.Site.faults g.N.Serials.drawn g.N.Serials.faults w (command.Begin c.args.xid) c.args.site.now c.args.site.now c.args.serials.now c.args.serials.now (Ok (w, Refused refusal.Exists))) c.self.view_is
    (begin_exists g.S.Site.told g.S.Site.faults g.N.Serials.drawn g.N.Serials.faults s c.self.invariant c.args.site.now c.args.serials.now c.args.xid (ap Rattle.std.specs.Option.is_some (sym c.phase.ensures.found) ∙ sym c.is_some.ensures ∙ c.if-is_some.true) fits) in
    record { stepped = r.stepped; ended = r.ended; still = r.still; store = r.store; rid = r.rid; told = r.told; drawn = r.drawn; leaves = r.leaves; writes = r.writes; pools = r.pools; homes = r.homes; refused = r.refused; spent = r.spent; causes = r.causes }

pub returns-in_err-begin : goal.returns-in_err-begin
returns-in_err-begin g c =
    let s : StoreState = record { journals = c.self.inside.journals; transactions = c.self.inside.transactions } in
    let p = err_from_is_err_and c.from_residual.result c.from_residual.ensures.1 in
    let e : Err Memory ≡ c.from_residual.result = sym (p.1 ∙ ap (λ k. Err k) p.2) in
    let r : Runs g.S.Site.told g.S.Site.faults g.N.Serials.drawn g.N.Serials.faults c.args.self (command.Begin c.args.xid) c.args.site.now c.args.site.now c.args.serials.now c.args.serials.now (c.from_residual.result) =
    subst (λ w. Runs g.S.Site.told g.S.Site.faults g.N.Serials.drawn g.N.Serials.faults w (command.Begin c.args.xid) c.args.site.now c.args.site.now c.args.serials.now c.args.serials.now (c.from_residual.result)) c.self.view_is
    (subst (λ z. Runs g.S.Site.told g.S.Site.faults g.N.Serials.drawn g.N.Serials.faults s (command.Begin c.args.xid) c.args.site.now c.args.site.now c.args.serials.now c.args.serials.now (z)) e (begin_wants g.S.Site.told g.S.Site.faults g.N.Serials.drawn g.N.Serials.faults s c.self.invariant c.args.site.now c.args.serials.now c.args.xid (sym c.phase.ensures.found ∙ phase_none c.phase.result (sym c.is_some.ensures ∙ c.if-is_some.false)))) in
    record { stepped = r.stepped; ended = r.ended; still = r.still; store = r.store; rid = r.rid; told = r.told; drawn = r.drawn; leaves = r.leaves; writes = r.writes; pools = r.pools; homes = r.homes; refused = r.refused; spent = r.spent; causes = r.causes }

pub invariant_of-store : goal.invariant_of-store
invariant_of-store g c =
    let s : StoreState = record { journals = c.self.inside.journals; transactions = c.self.inside.transactions } in
    subst (λ ts. IsStore (record { journals = s.journals; transactions = ts })) (sym c.in_ok-begin.ensures.begun) (begin_store g.S.Site.told g.S.Site.faults g.N.Serials.drawn g.N.Serials.faults s c.self.invariant c.args.site.now c.args.serials.now c.args.xid (sym c.phase.ensures.found ∙ phase_none c.phase.result (sym c.is_some.ensures ∙ c.if-is_some.false)) (is_xid_true c.args.xid c.requires.command))

pub returns : goal.returns
returns g c =
    let s : StoreState = record { journals = c.self.inside.journals; transactions = c.self.inside.transactions } in
    let fits : IfSome (g.S.Site.told c.args.site.now) (OnDisk (Fits s)) = subst (λ w. IfSome (g.S.Site.told c.args.site.now) (OnDisk (Fits w))) (sym c.self.view_is) c.requires.fits in
    let r : Runs g.S.Site.told g.S.Site.faults g.N.Serials.drawn g.N.Serials.faults c.args.self (command.Begin c.args.xid) c.args.site.now c.args.site.now c.args.serials.now c.args.serials.now (Ok (record { journals = s.journals; transactions = c.begin.new.self }, Done)) =
    subst (λ w. Runs g.S.Site.told g.S.Site.faults g.N.Serials.drawn g.N.Serials.faults w (command.Begin c.args.xid) c.args.site.now c.args.site.now c.args.serials.now c.args.serials.now (Ok (record { journals = s.journals; transactions = c.begin.new.self }, Done))) c.self.view_is
    (begin_new g.S.Site.told g.S.Site.faults g.N.Serials.drawn g.N.Serials.faults s c.self.invariant c.args.site.now c.args.serials.now c.args.xid c.begin.new.self c.in_ok-begin.ensures.begun (is_xid_true c.args.xid c.requires.command) (sym c.phase.ensures.found ∙ phase_none c.phase.result (sym c.is_some.ensures ∙ c.if-is_some.false)) fits) in
    record { stepped = r.stepped; ended = r.ended; still = r.still; store = r.store; rid = r.rid; told = r.told; drawn = r.drawn; leaves = r.leaves; writes = r.writes; pools = r.pools; homes = r.homes; refused = r.refused; spent = r.spent; causes = r.causes }
