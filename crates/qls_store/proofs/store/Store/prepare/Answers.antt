use Rattle.std.proofs.Common.{◌≡◌, Some, None, Ok, Err, IfSome, sym, ap, subst, ◌∙◌}
use Rattle.std.proofs.lemmas.Result.{err_from_is_err_and}
use Rattle.qls_model.specs.declared.machine.Command.TheVariants as command
use Rattle.qls_model.specs.declared.machine.Reply.TheVariants.{Done, Refused}
use Rattle.qls_pool.specs.Files.{OnDisk}
use Rattle.qls_store.specs.Stores.{StoreState, Fits, IsStore}
use Rattle.qls_store.proofs.Running.{Runs}
use Rattle.qls_store.specs.Homes.{homes_of}
use Rattle.qls_store.specs.Table.{not_open_in}
use Rattle.qls_store.proofs.Running.{Went, broken}
use Rattle.qls_store.proofs.Begins.{is_xid_true}
use Rattle.qls_store.proofs.Prepares.{RidIs, prepare_closed, prepare_fails, prepare_store, prepare_told, unlisted, not_spent}
use Rattle.qls_store.proofs.store.Store.prepare.Goals as goal

pub returns-in-Some : goal.returns-in-Some
returns-in-Some g c =
    let s : StoreState = record { journals = c.self.inside.journals; transactions = c.self.inside.transactions } in
    let fits : IfSome (g.S.Site.told c.args.site.now) (OnDisk (Fits s)) = subst (λ w. IfSome (g.S.Site.told c.args.site.now) (OnDisk (Fits w))) (sym c.self.view_is) c.requires.fits in
    let r : Runs g.S.Site.told g.S.Site.faults g.N.Serials.drawn g.N.Serials.faults c.args.self (command.Prepare c.args.xid) c.args.site.now c.args.site.now c.args.serials.now c.args.serials.now (Ok (c.args.self, Refused c.in-Some.refusal)) =
    subst (λ w. Runs g.S.Site.told g.S.Site.faults g.N.Serials.drawn g.N.Serials.faults w (command.Prepare c.args.xid) c.args.site.now c.args.site.now c.args.serials.now c.args.serials.now (Ok (w, Refused c.in-Some.refusal))) c.self.view_is
    (prepare_closed g.S.Site.told g.S.Site.faults g.N.Serials.drawn g.N.Serials.faults s c.self.invariant c.args.site.now c.args.serials.now c.args.xid c.in-Some.refusal (sym c.not_open.ensures.refusal ∙ c.in-Some.is) fits) in
    record { stepped = r.stepped; ended = r.ended; still = r.still; store = r.store; rid = r.rid; told = r.told; drawn = r.drawn; leaves = r.leaves; writes = r.writes; pools = r.pools; homes = r.homes; refused = r.refused; spent = r.spent; causes = r.causes }

pub prepare-requires-clause-none : goal.prepare-requires-clause-none
prepare-requires-clause-none g c =
    let s : StoreState = record { journals = c.self.inside.journals; transactions = c.self.inside.transactions } in
    let opened : not_open_in (Some c.args.xid) s.transactions ≡ None = sym c.not_open.ensures.refusal ∙ c.in_default.is in
    unlisted s c.self.invariant c.args.xid opened

pub returns-in_err-journals : goal.returns-in_err-journals
returns-in_err-journals g c =
    let s : StoreState = record { journals = c.self.inside.journals; transactions = c.self.inside.transactions } in
    let fits : IfSome (g.S.Site.told c.args.site.now) (OnDisk (Fits s)) = subst (λ w. IfSome (g.S.Site.told c.args.site.now) (OnDisk (Fits w))) (sym c.self.view_is) c.requires.fits in
    let opened : not_open_in (Some c.args.xid) s.transactions ≡ None = sym c.not_open.ensures.refusal ∙ c.in_default.is in
    let law : RidIs s = λ d f k. c.clean_store_is_its_meaning.ensures.rid s d c.self.invariant f k in
    let p = err_from_is_err_and c.from_residual.result c.from_residual.ensures.1 in
    let e : Err c.in_err-journals.field-0.0 ≡ c.from_residual.result = sym (p.1 ∙ ap (λ k. Err k) p.2) in
    let r : Runs g.S.Site.told g.S.Site.faults g.N.Serials.drawn g.N.Serials.faults c.args.self (command.Prepare c.args.xid) c.args.site.now c.prepare.new.site c.args.serials.now c.prepare.new.serials (c.from_residual.result) =
    subst (λ w. Runs g.S.Site.told g.S.Site.faults g.N.Serials.drawn g.N.Serials.faults w (command.Prepare c.args.xid) c.args.site.now c.prepare.new.site c.args.serials.now c.prepare.new.serials (c.from_residual.result)) c.self.view_is
    (subst (λ z. Runs g.S.Site.told g.S.Site.faults g.N.Serials.drawn g.N.Serials.faults s (command.Prepare c.args.xid) c.args.site.now c.prepare.new.site c.args.serials.now c.prepare.new.serials (z)) e (prepare_fails g.S.Site.told g.S.Site.faults g.N.Serials.drawn g.N.Serials.faults s c.self.invariant c.args.site.now c.args.serials.now c.args.xid opened (is_xid_true c.args.xid c.requires.command) law fits c.prepare.new.site c.prepare.new.serials c.in_err-journals.field-0.0 (broken g.S.Site.told g.S.Site.faults g.N.Serials.drawn g.N.Serials.faults s.journals (homes_of s) c.in_err-journals.field-0.0 c.args.site.now c.prepare.new.site c.args.serials.now c.prepare.new.serials c.in_err-journals.ensures.told c.in_err-journals.ensures.drawn c.in_err-journals.ensures.leaves c.in_err-journals.ensures.writes c.in_err-journals.ensures.pools c.in_err-journals.ensures.causes) (λ k. (c.in_err-journals.ensures.last k).1) (λ k. c.in_err-journals.ensures.spent (ap (λ m. Err m) k)))) in
    record { stepped = r.stepped; ended = r.ended; still = r.still; store = r.store; rid = r.rid; told = r.told; drawn = r.drawn; leaves = r.leaves; writes = r.writes; pools = r.pools; homes = r.homes; refused = r.refused; spent = r.spent; causes = r.causes }

pub invariant_of-store : goal.invariant_of-store
invariant_of-store g c =
    let s : StoreState = record { journals = c.self.inside.journals; transactions = c.self.inside.transactions } in
    let fits : IfSome (g.S.Site.told c.args.site.now) (OnDisk (Fits s)) = subst (λ w. IfSome (g.S.Site.told c.args.site.now) (OnDisk (Fits w))) (sym c.self.view_is) c.requires.fits in
    let opened : not_open_in (Some c.args.xid) s.transactions ≡ None = sym c.not_open.ensures.refusal ∙ c.in_default.is in
    let law : RidIs s = λ d f k. c.clean_store_is_its_meaning.ensures.rid s d c.self.invariant f k in
    subst (λ ts. IsStore (record { journals = c.in_ok-journals.journals; transactions = ts })) (sym c.prepare-2.ensures.prepared)
    (prepare_store g.S.Site.told g.S.Site.faults g.N.Serials.drawn g.N.Serials.faults s c.self.invariant c.args.site.now c.args.serials.now c.args.xid opened (is_xid_true c.args.xid c.requires.command) law fits c.prepare.new.site c.prepare.new.serials c.in_ok-journals.journals c.in_ok-journals.ensures.queues c.in_ok-journals.ensures.entries c.in_ok-journals.ensures.kept)

pub returns : goal.returns
returns g c =
    let s : StoreState = record { journals = c.self.inside.journals; transactions = c.self.inside.transactions } in
    let fits : IfSome (g.S.Site.told c.args.site.now) (OnDisk (Fits s)) = subst (λ w. IfSome (g.S.Site.told c.args.site.now) (OnDisk (Fits w))) (sym c.self.view_is) c.requires.fits in
    let opened : not_open_in (Some c.args.xid) s.transactions ≡ None = sym c.not_open.ensures.refusal ∙ c.in_default.is in
    let law : RidIs s = λ d f k. c.clean_store_is_its_meaning.ensures.rid s d c.self.invariant f k in
    let went : Went g.S.Site.told g.S.Site.faults g.N.Serials.drawn g.N.Serials.faults s.journals c.in_ok-journals.journals (homes_of s) c.args.site.now c.prepare.new.site c.args.serials.now c.prepare.new.serials = record { told = c.in_ok-journals.ensures.told; drawn = c.in_ok-journals.ensures.drawn; leaves = c.in_ok-journals.ensures.leaves; writes = c.in_ok-journals.ensures.writes; pools = c.in_ok-journals.ensures.pools; sites_kept = c.in_ok-journals.ensures.causes.sites_kept; draws_kept = c.in_ok-journals.ensures.causes.draws_kept } in
    let r : Runs g.S.Site.told g.S.Site.faults g.N.Serials.drawn g.N.Serials.faults c.args.self (command.Prepare c.args.xid) c.args.site.now c.prepare.new.site c.args.serials.now c.prepare.new.serials (Ok (record { journals = c.in_ok-journals.journals; transactions = c.prepare-2.new.self }, Done)) =
    subst (λ w. Runs g.S.Site.told g.S.Site.faults g.N.Serials.drawn g.N.Serials.faults w (command.Prepare c.args.xid) c.args.site.now c.prepare.new.site c.args.serials.now c.prepare.new.serials (Ok (record { journals = c.in_ok-journals.journals; transactions = c.prepare-2.new.self }, Done))) c.self.view_is
    (prepare_told g.S.Site.told g.S.Site.faults g.N.Serials.drawn g.N.Serials.faults s c.self.invariant c.args.site.now c.args.serials.now c.args.xid opened (is_xid_true c.args.xid c.requires.command) law fits c.prepare.new.site c.prepare.new.serials c.in_ok-journals.journals c.in_ok-journals.ensures.queues c.in_ok-journals.ensures.entries c.in_ok-journals.ensures.kept c.prepare-2.new.self c.prepare-2.ensures.prepared went c.in_ok-journals.ensures.rid c.in_ok-journals.ensures.clean c.in_ok-journals.ensures.homes (λ k. not_spent c.in_ok-journals.journals (c.in_ok-journals.ensures.last k).0) c.in_ok-journals.ensures.had) in
    record { stepped = r.stepped; ended = r.ended; still = r.still; store = r.store; rid = r.rid; told = r.told; drawn = r.drawn; leaves = r.leaves; writes = r.writes; pools = r.pools; homes = r.homes; refused = r.refused; spent = r.spent; causes = r.causes }
