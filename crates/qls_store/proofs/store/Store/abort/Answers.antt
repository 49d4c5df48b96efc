use Rattle.std.proofs.Common.{◌≡◌, Some, None, Ok, Err, IfSome, sym, ap, subst, ◌∙◌, false}
use Rattle.std.proofs.lemmas.Result.{err_from_is_err_and}
use Rattle.qls_model.specs.declared.machine.Command.TheVariants as command
use Rattle.qls_model.specs.declared.machine.Refusal.TheVariants as refusal
use Rattle.qls_model.specs.declared.machine.Reply.TheVariants.{Done, Refused}
use Rattle.qls_pool.specs.Files.{OnDisk}
use Rattle.qls_journals.specs.declared.cause.Cause.TheVariants.{Memory}
use Rattle.qls_store.specs.Stores.{StoreState, Fits}
use Rattle.qls_store.specs.Table.{phase_in, queues_in}
use Rattle.qls_store.proofs.Running.{Runs}
use Rattle.qls_store.proofs.Begins.{is_xid_true}
use Rattle.qls_store.proofs.EndRuns.{found_phase, queues_named, its_queues, entry_of_phase, end_refused, end_wants, end_fails, end_done, end_store}
use Rattle.qls_store.proofs.store.Store.abort.Goals as goal

pub returns-in_default : goal.returns-in_default
returns-in_default g c =
    let s : StoreState = record { journals = c.self.inside.journals; transactions = c.self.inside.transactions } in
    let fits : IfSome (g.S.Site.told c.args.site.now) (OnDisk (Fits s)) = subst (λ w. IfSome (g.S.Site.told c.args.site.now) (OnDisk (Fits w))) (sym c.self.view_is) c.requires.fits in
    let none : phase_in c.args.xid s.transactions ≡ None = sym c.phase.ensures.found ∙ c.in_default.is in
    let r : Runs g.S.Site.told g.S.Site.faults g.N.Serials.drawn g.N.Serials.faults c.args.self (command.Abort c.args.xid) c.args.site.now c.args.site.now c.args.serials.now c.args.serials.now (Ok (c.args.self, Refused refusal.Xid)) =
    subst (λ w. Runs g.S.Site.told g.S.Site.faults g.N.Serials.drawn g.N.Serials.faults w (command.Abort c.args.xid) c.args.site.now c.args.site.now c.args.serials.now c.args.serials.now (Ok (w, Refused refusal.Xid))) c.self.view_is
    (end_refused g.S.Site.told g.S.Site.faults g.N.Serials.drawn g.N.Serials.faults s c.self.invariant false c.args.xid c.args.site.now c.args.serials.now none fits) in
    record { stepped = r.stepped; ended = r.ended; still = r.still; store = r.store; rid = r.rid; told = r.told; drawn = r.drawn; leaves = r.leaves; writes = r.writes; pools = r.pools; homes = r.homes; refused = r.refused; spent = r.spent; causes = r.causes }

pub returns-in_err-ends : goal.returns-in_err-ends
returns-in_err-ends g c =
    let s : StoreState = record { journals = c.self.inside.journals; transactions = c.self.inside.transactions } in
    let fits : IfSome (g.S.Site.told c.args.site.now) (OnDisk (Fits s)) = subst (λ w. IfSome (g.S.Site.told c.args.site.now) (OnDisk (Fits w))) (sym c.self.view_is) c.requires.fits in
    let there : phase_in c.args.xid s.transactions ≡ Some c.in-Some.phase = sym c.phase.ensures.found ∙ c.in-Some.is in
    let p = err_from_is_err_and c.from_residual.result c.from_residual.ensures.1 in
    let e : Err Memory ≡ c.from_residual.result = sym (p.1 ∙ ap (λ k. Err k) p.2) in
    let r : Runs g.S.Site.told g.S.Site.faults g.N.Serials.drawn g.N.Serials.faults c.args.self (command.Abort c.args.xid) c.args.site.now c.args.site.now c.args.serials.now c.args.serials.now (c.from_residual.result) =
    subst (λ w. Runs g.S.Site.told g.S.Site.faults g.N.Serials.drawn g.N.Serials.faults w (command.Abort c.args.xid) c.args.site.now c.args.site.now c.args.serials.now c.args.serials.now (c.from_residual.result)) c.self.view_is
    (subst (λ z. Runs g.S.Site.told g.S.Site.faults g.N.Serials.drawn g.N.Serials.faults s (command.Abort c.args.xid) c.args.site.now c.args.site.now c.args.serials.now c.args.serials.now z) e (end_wants g.S.Site.told g.S.Site.faults g.N.Serials.drawn g.N.Serials.faults s c.self.invariant false c.args.xid c.in-Some.phase there c.args.site.now c.args.serials.now)) in
    record { stepped = r.stepped; ended = r.ended; still = r.still; store = r.store; rid = r.rid; told = r.told; drawn = r.drawn; leaves = r.leaves; writes = r.writes; pools = r.pools; homes = r.homes; refused = r.refused; spent = r.spent; causes = r.causes }

pub end_aborted-requires : goal.end_aborted-requires
end_aborted-requires g c =
    let s : StoreState = record { journals = c.self.inside.journals; transactions = c.self.inside.transactions } in
    let fits : IfSome (g.S.Site.told c.args.site.now) (OnDisk (Fits s)) = subst (λ w. IfSome (g.S.Site.told c.args.site.now) (OnDisk (Fits w))) (sym c.self.view_is) c.requires.fits in
    let there : phase_in c.args.xid s.transactions ≡ Some c.in-Some.phase = sym c.phase.ensures.found ∙ c.in-Some.is in
    let names = c.deref.result.now in
    let named_so : names ≡ queues_in c.args.xid s.transactions = c.deref.ensures.value ∙ c.end-names.ensures.names in
    let f = found_phase c.args.xid s.transactions c.in-Some.phase there in
    record {
      xid = is_xid_true c.args.xid c.requires.command;
      one = c.in_ok-ends.ensures.one;
      journals = c.self.invariant.journals;
      entry = entry_of_phase s c.self.invariant c.args.xid c.in-Some.phase there;
      all = named_so ∙ its_queues s c.self.invariant c.args.xid f.0 f.1;
      there = queues_named s c.self.invariant c.args.xid f.0 f.1 names named_so;
      fits = fits;
    }

pub returns-in_err-journals : goal.returns-in_err-journals
returns-in_err-journals g c =
    let s : StoreState = record { journals = c.self.inside.journals; transactions = c.self.inside.transactions } in
    let fits : IfSome (g.S.Site.told c.args.site.now) (OnDisk (Fits s)) = subst (λ w. IfSome (g.S.Site.told c.args.site.now) (OnDisk (Fits w))) (sym c.self.view_is) c.requires.fits in
    let there : phase_in c.args.xid s.transactions ≡ Some c.in-Some.phase = sym c.phase.ensures.found ∙ c.in-Some.is in
    let names = c.deref.result.now in
    let named_so : names ≡ queues_in c.args.xid s.transactions = c.deref.ensures.value ∙ c.end-names.ensures.names in
    let p = err_from_is_err_and c.from_residual-in_err-journals.result c.from_residual-in_err-journals.ensures.1 in
    let e : Err c.in_err-journals.field-0.0 ≡ c.from_residual-in_err-journals.result = sym (p.1 ∙ ap (λ k. Err k) p.2) in
    let r : Runs g.S.Site.told g.S.Site.faults g.N.Serials.drawn g.N.Serials.faults c.args.self (command.Abort c.args.xid) c.args.site.now c.end_aborted.new.site c.args.serials.now c.end_aborted.new.serials (c.from_residual-in_err-journals.result) =
    subst (λ w. Runs g.S.Site.told g.S.Site.faults g.N.Serials.drawn g.N.Serials.faults w (command.Abort c.args.xid) c.args.site.now c.end_aborted.new.site c.args.serials.now c.end_aborted.new.serials (c.from_residual-in_err-journals.result)) c.self.view_is
    (subst (λ z. Runs g.S.Site.told g.S.Site.faults g.N.Serials.drawn g.N.Serials.faults s (command.Abort c.args.xid) c.args.site.now c.end_aborted.new.site c.args.serials.now c.end_aborted.new.serials z) e
    (end_fails g.S.Site.told g.S.Site.faults g.N.Serials.drawn g.N.Serials.faults s c.self.invariant false c.args.xid c.in-Some.phase there names named_so c.in_err-journals.field-0.0 c.args.site.now c.end_aborted.new.site c.args.serials.now c.end_aborted.new.serials c.in_err-journals.ensures.called
    (λ k. c.in_err-journals.ensures.spent (ap (λ m. Err m) k)))) in
    record { stepped = r.stepped; ended = r.ended; still = r.still; store = r.store; rid = r.rid; told = r.told; drawn = r.drawn; leaves = r.leaves; writes = r.writes; pools = r.pools; homes = r.homes; refused = r.refused; spent = r.spent; causes = r.causes }

pub invariant_of-store : goal.invariant_of-store
invariant_of-store g c =
    let s : StoreState = record { journals = c.self.inside.journals; transactions = c.self.inside.transactions } in
    let fits : IfSome (g.S.Site.told c.args.site.now) (OnDisk (Fits s)) = subst (λ w. IfSome (g.S.Site.told c.args.site.now) (OnDisk (Fits w))) (sym c.self.view_is) c.requires.fits in
    let there : phase_in c.args.xid s.transactions ≡ Some c.in-Some.phase = sym c.phase.ensures.found ∙ c.in-Some.is in
    let names = c.deref.result.now in
    let named_so : names ≡ queues_in c.args.xid s.transactions = c.deref.ensures.value ∙ c.end-names.ensures.names in
    end_store g.S.Site.told g.S.Site.faults g.N.Serials.drawn g.N.Serials.faults s c.self.invariant false c.args.xid c.in-Some.phase there names named_so c.in_ok-journals.journals c.end-names.new.self c.end-names.ensures.without c.in_ok-journals.ensures.queues c.in_ok-journals.ensures.entries c.in_ok-journals.ensures.kept (c.in_ok-journals.ensures.called.released c.self.invariant.released)

pub returns : goal.returns
returns g c =
    let s : StoreState = record { journals = c.self.inside.journals; transactions = c.self.inside.transactions } in
    let fits : IfSome (g.S.Site.told c.args.site.now) (OnDisk (Fits s)) = subst (λ w. IfSome (g.S.Site.told c.args.site.now) (OnDisk (Fits w))) (sym c.self.view_is) c.requires.fits in
    let there : phase_in c.args.xid s.transactions ≡ Some c.in-Some.phase = sym c.phase.ensures.found ∙ c.in-Some.is in
    let names = c.deref.result.now in
    let named_so : names ≡ queues_in c.args.xid s.transactions = c.deref.ensures.value ∙ c.end-names.ensures.names in
    let r : Runs g.S.Site.told g.S.Site.faults g.N.Serials.drawn g.N.Serials.faults c.args.self (command.Abort c.args.xid) c.args.site.now c.end_aborted.new.site c.args.serials.now c.end_aborted.new.serials (Ok (record { journals = c.in_ok-journals.journals; transactions = c.end-names.new.self }, Done)) =
    subst (λ w. Runs g.S.Site.told g.S.Site.faults g.N.Serials.drawn g.N.Serials.faults w (command.Abort c.args.xid) c.args.site.now c.end_aborted.new.site c.args.serials.now c.end_aborted.new.serials (Ok (record { journals = c.in_ok-journals.journals; transactions = c.end-names.new.self }, Done))) c.self.view_is
    (end_done g.S.Site.told g.S.Site.faults g.N.Serials.drawn g.N.Serials.faults s c.self.invariant false c.args.xid c.in-Some.phase there names named_so c.in_ok-journals.journals c.end-names.new.self c.args.site.now c.end_aborted.new.site c.args.serials.now c.end_aborted.new.serials c.end-names.ensures.without c.in_ok-journals.ensures.called c.in_ok-journals.ensures.queues c.in_ok-journals.ensures.entries c.in_ok-journals.ensures.kept
    c.in_ok-journals.ensures.rid c.in_ok-journals.ensures.clean c.in_ok-journals.ensures.had) in
    record { stepped = r.stepped; ended = r.ended; still = r.still; store = r.store; rid = r.rid; told = r.told; drawn = r.drawn; leaves = r.leaves; writes = r.writes; pools = r.pools; homes = r.homes; refused = r.refused; spent = r.spent; causes = r.causes }
