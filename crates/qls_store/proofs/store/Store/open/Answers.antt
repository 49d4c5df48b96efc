use Rattle.std.proofs.Common.{◌≡◌, List, Ok, Err, refl, sym, ap, subst, ◌∙◌, rules}
use Rattle.std.proofs.lemmas.Result.{err_from_is_err_and}
use Rattle.qls_journals.specs.declared.cause.Cause.{Cause}
use Rattle.qls_journals.specs.State.{queues_of}
use Rattle.qls_look.specs.declared.fault.OpenFault.{OpenFault}
use Rattle.qls_look.specs.declared.fault.OpenFault.TheVariants.{Memory}
use Rattle.qls_store.specs.Opened.{Begins}
use Rattle.qls_store.specs.Stores.{IsStore, StoreState, TransactionState}
use Rattle.qls_store.proofs.OpeningAll.{OpensSo, opens_done, opens_failed, opens_stopped, opens_wanting}
use Rattle.qls_store.proofs.OpeningStore.{opened_store, store_of}
use Rattle.qls_store.proofs.store.Store.open.Goals as goal

pub returns-in_err-opened : goal.returns-in_err-opened
returns-in_err-opened g c =
    let x = c.in_err-opened.field-0.0 in
    let is : Err x ≡ c.from_residual.result = search (rules, c.from_residual.ensures) in
    let r : OpensSo c.args.home c.from_residual.result (g.S.Site.told c.args.site.now) (g.S.Site.told c.open_journals.new.site) (g.N.Serials.drawn c.args.serials.now) (g.N.Serials.drawn c.args.serials.now) (g.S.Site.faults c.args.site.now) (g.S.Site.faults c.open_journals.new.site) (g.N.Serials.faults c.args.serials.now) (g.N.Serials.faults c.args.serials.now) =
    subst (λ q. OpensSo c.args.home q (g.S.Site.told c.args.site.now) (g.S.Site.told c.open_journals.new.site) (g.N.Serials.drawn c.args.serials.now) (g.N.Serials.drawn c.args.serials.now) (g.S.Site.faults c.args.site.now) (g.S.Site.faults c.open_journals.new.site) (g.N.Serials.faults c.args.serials.now) (g.N.Serials.faults c.args.serials.now)) is
    (opens_failed c.args.home x (g.S.Site.told c.args.site.now) (g.S.Site.told c.open_journals.new.site) (g.N.Serials.drawn c.args.serials.now) (g.S.Site.faults c.args.site.now) (g.S.Site.faults c.open_journals.new.site) (g.N.Serials.faults c.args.serials.now) c.in_err-opened.ensures.begins) in
    record { meaning = r.meaning; rising = r.rising; looks = r.looks; home = r.homed; store = r.store; rid = r.rid; homes = r.homes; told = r.told; pools = r.pools; leaves = r.leaves; writes = r.writes; drawn = r.drawn; still = r.still; spent = r.spent; causes = r.causes }

pub returns-in-Err : goal.returns-in-Err
returns-in-Err g c =
    let r : OpensSo c.args.home (Err c.fault_of.result) (g.S.Site.told c.args.site.now) (g.S.Site.told c.settle_and_release.new.site) (g.N.Serials.drawn c.args.serials.now) (g.N.Serials.drawn c.settle_and_release.new.serials) (g.S.Site.faults c.args.site.now) (g.S.Site.faults c.settle_and_release.new.site) (g.N.Serials.faults c.args.serials.now) (g.N.Serials.faults c.settle_and_release.new.serials) =
    subst (λ q. OpensSo c.args.home (Err q) (g.S.Site.told c.args.site.now) (g.S.Site.told c.settle_and_release.new.site) (g.N.Serials.drawn c.args.serials.now) (g.N.Serials.drawn c.settle_and_release.new.serials) (g.S.Site.faults c.args.site.now) (g.S.Site.faults c.settle_and_release.new.site) (g.N.Serials.faults c.args.serials.now) (g.N.Serials.faults c.settle_and_release.new.serials)) (sym c.fault_of.ensures.exact)
    (opens_stopped c.args.home c.in_ok-opened.opened (g.S.Site.told c.args.site.now) (g.S.Site.told c.open_journals.new.site) (g.S.Site.told c.settle_and_release.new.site) (g.N.Serials.drawn c.args.serials.now) (g.N.Serials.drawn c.settle_and_release.new.serials) (g.S.Site.faults c.args.site.now) (g.S.Site.faults c.open_journals.new.site) (g.S.Site.faults c.settle_and_release.new.site) (g.N.Serials.faults c.args.serials.now) (g.N.Serials.faults c.settle_and_release.new.serials) c.in_ok-opened.ensures.begins c.in-Err.cause c.in-Err.ensures.called
    (λ e. c.in-Err.ensures.spent (ap (λ (k : Cause). Err k) e))) in
    record { meaning = r.meaning; rising = r.rising; looks = r.looks; home = r.homed; store = r.store; rid = r.rid; homes = r.homes; told = r.told; pools = r.pools; leaves = r.leaves; writes = r.writes; drawn = r.drawn; still = r.still; spent = r.spent; causes = r.causes }

pub returns-in_err-transactions : goal.returns-in_err-transactions
returns-in_err-transactions g c =
    let p = err_from_is_err_and c.from_residual-in_err-transactions.result c.from_residual-in_err-transactions.ensures.1 in
    let is : Err Memory ≡ c.from_residual-in_err-transactions.result = sym (p.1 ∙ ap (λ k. Err k) p.2) in
    let r : OpensSo c.args.home c.from_residual-in_err-transactions.result (g.S.Site.told c.args.site.now) (g.S.Site.told c.settle_and_release.new.site) (g.N.Serials.drawn c.args.serials.now) (g.N.Serials.drawn c.settle_and_release.new.serials) (g.S.Site.faults c.args.site.now) (g.S.Site.faults c.settle_and_release.new.site) (g.N.Serials.faults c.args.serials.now) (g.N.Serials.faults c.settle_and_release.new.serials) =
    subst (λ q. OpensSo c.args.home q (g.S.Site.told c.args.site.now) (g.S.Site.told c.settle_and_release.new.site) (g.N.Serials.drawn c.args.serials.now) (g.N.Serials.drawn c.settle_and_release.new.serials) (g.S.Site.faults c.args.site.now) (g.S.Site.faults c.settle_and_release.new.site) (g.N.Serials.faults c.args.serials.now) (g.N.Serials.faults c.settle_and_release.new.serials)) is
    (opens_wanting c.args.home c.in_ok-opened.opened (g.S.Site.told c.args.site.now) (g.S.Site.told c.open_journals.new.site) (g.S.Site.told c.settle_and_release.new.site) (g.N.Serials.drawn c.args.serials.now) (g.N.Serials.drawn c.settle_and_release.new.serials) (g.S.Site.faults c.args.site.now) (g.S.Site.faults c.open_journals.new.site) (g.S.Site.faults c.settle_and_release.new.site) (g.N.Serials.faults c.args.serials.now) (g.N.Serials.faults c.settle_and_release.new.serials) c.in_ok-opened.ensures.begins c.in-Ok.journals c.in-Ok.ensures.called) in
    record { meaning = r.meaning; rising = r.rising; looks = r.looks; home = r.homed; store = r.store; rid = r.rid; homes = r.homes; told = r.told; pools = r.pools; leaves = r.leaves; writes = r.writes; drawn = r.drawn; still = r.still; spent = r.spent; causes = r.causes }

pub invariant_of-result : goal.invariant_of-result
invariant_of-result g c =
    let s = c.in-Ok.journals in
    let j = c.in_ok-opened.opened in
    let e = c.in-Ok.ensures in
    subst (λ (ts : List TransactionState). IsStore (record { journals = s; transactions = ts })) (sym c.in_ok-transactions.ensures.doubts)
    (store_of s e.kept e.released j.list.entries (queues_of j) e.queues e.entries c.in_ok-opened.ensures.begins.numbered)

pub returns : goal.returns
returns g c =
    let s = c.in-Ok.journals in
    let j = c.in_ok-opened.opened in
    let e = c.in-Ok.ensures in
    let r : OpensSo c.args.home (Ok (record { journals = s; transactions = c.in_ok-transactions.transactions })) (g.S.Site.told c.args.site.now) (g.S.Site.told c.settle_and_release.new.site) (g.N.Serials.drawn c.args.serials.now) (g.N.Serials.drawn c.settle_and_release.new.serials) (g.S.Site.faults c.args.site.now) (g.S.Site.faults c.settle_and_release.new.site) (g.N.Serials.faults c.args.serials.now) (g.N.Serials.faults c.settle_and_release.new.serials) =
    subst (λ (ts : List TransactionState). OpensSo c.args.home (Ok (record { journals = s; transactions = ts })) (g.S.Site.told c.args.site.now) (g.S.Site.told c.settle_and_release.new.site) (g.N.Serials.drawn c.args.serials.now) (g.N.Serials.drawn c.settle_and_release.new.serials) (g.S.Site.faults c.args.site.now) (g.S.Site.faults c.settle_and_release.new.site) (g.N.Serials.faults c.args.serials.now) (g.N.Serials.faults c.settle_and_release.new.serials)) (sym c.in_ok-transactions.ensures.doubts)
    (opens_done c.args.home j s (g.S.Site.told c.args.site.now) (g.S.Site.told c.open_journals.new.site) (g.S.Site.told c.settle_and_release.new.site) (g.N.Serials.drawn c.args.serials.now) (g.N.Serials.drawn c.settle_and_release.new.serials) (g.S.Site.faults c.args.site.now) (g.S.Site.faults c.open_journals.new.site) (g.S.Site.faults c.settle_and_release.new.site) (g.N.Serials.faults c.args.serials.now) (g.N.Serials.faults c.settle_and_release.new.serials)
    c.in_ok-opened.ensures.begins e.called e.queues e.entries e.rid e.kept e.released e.clean e.still) in
    record { meaning = r.meaning; rising = r.rising; looks = r.looks; home = r.homed; store = r.store; rid = r.rid; homes = r.homes; told = r.told; pools = r.pools; leaves = r.leaves; writes = r.writes; drawn = r.drawn; still = r.still; spent = r.spent; causes = r.causes }
