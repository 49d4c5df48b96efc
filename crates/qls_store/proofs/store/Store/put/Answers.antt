use Rattle.std.proofs.Common.{◌≡◌, None, Ok, Err, IfSome, sym, ap, subst, ◌∙◌, false}
use Rattle.std.proofs.lemmas.Result.{err_from_is_err_and}
use Rattle.qls_model.specs.declared.machine.Command.TheVariants as command
use Rattle.qls_model.specs.declared.machine.Refusal.TheVariants as refusal
use Rattle.qls_model.specs.declared.machine.Reply.TheVariants.{Number, Refused}
use Rattle.qls_pool.specs.Files.{OnDisk}
use Rattle.qls_journals.specs.declared.cause.Cause.TheVariants.{Memory}
use Rattle.qls_store.specs.Stores.{StoreState, Fits, IsStore}
use Rattle.qls_store.proofs.Running.{Runs}
use Rattle.std.proofs.lemmas.Result.{IfOk-at_ok, IfErr-at_err}
use Rattle.qls_site.specs.Content.{Tells}
use Rattle.qls_filehdr.specs.declared.JournalKind.TheVariants as journal
use Rattle.qls_queue.specs.Live.{LiveState}
use Rattle.qls_queue.specs.Records.{enqueue_of}
use Rattle.qls_journals.specs.Places.{StandsAt}
use Rattle.qls_journals.specs.State.{queues_of}
use Rattle.qls_store.specs.Homes.{homes_of}
use Rattle.qls_store.specs.Table.{not_open_in}
use Rattle.qls_store.proofs.Running.{Went, broken}
use Rattle.qls_store.proofs.Makes.{at_place}
use Rattle.std.proofs.Common.{[], ◌∷◌, ◌+◌, is_err}
use Rattle.std.specs.List.{slice_get}
use Rattle.qls_model.specs.Messages.{with_message}
use Rattle.qls_model.specs.Machine.{change_queue, put_message}
use Rattle.qls_journals.specs.Answers.{put_answer}
use Rattle.qls_journals.specs.Ends.{StopsAtEnd, HadRoom}
use Rattle.qls_store.proofs.Keeping.{names_each}
use Rattle.qls_store.proofs.Puts.{put_none, put_closed, put_refused, put_fails, put_wants, put_told, put_store, isnt_err}
use Rattle.qls_store.proofs.store.Store.put.Goals as goal

pub returns-in-Err : goal.returns-in-Err
returns-in-Err g c =
    let s : StoreState = record { journals = c.self.inside.journals; transactions = c.self.inside.transactions } in
    let fits : IfSome (g.S.Site.told c.args.site.now) (OnDisk (Fits s)) = subst (λ w. IfSome (g.S.Site.told c.args.site.now) (OnDisk (Fits w))) (sym c.self.view_is) c.requires.fits in
    let r : Runs g.S.Site.told g.S.Site.faults g.N.Serials.drawn g.N.Serials.faults c.args.self (command.Put c.args.name c.args.body c.args.xid) c.args.site.now c.args.site.now c.args.serials.now c.args.serials.now (Ok (c.args.self, Refused refusal.Queue)) =
    subst (λ w. Runs g.S.Site.told g.S.Site.faults g.N.Serials.drawn g.N.Serials.faults w (command.Put c.args.name c.args.body c.args.xid) c.args.site.now c.args.site.now c.args.serials.now c.args.serials.now (Ok (w, Refused refusal.Queue))) c.self.view_is
    (put_none g.S.Site.told g.S.Site.faults g.N.Serials.drawn g.N.Serials.faults s c.self.invariant c.args.site.now c.args.serials.now c.args.name c.args.body c.args.xid c.in-Err.field-0 c.in-Err.ensures.place fits) in
    record { stepped = r.stepped; ended = r.ended; still = r.still; store = r.store; rid = r.rid; told = r.told; drawn = r.drawn; leaves = r.leaves; writes = r.writes; pools = r.pools; homes = r.homes; refused = r.refused; spent = r.spent; causes = r.causes }

pub returns-in-Some : goal.returns-in-Some
returns-in-Some g c =
    let s : StoreState = record { journals = c.self.inside.journals; transactions = c.self.inside.transactions } in
    let fits : IfSome (g.S.Site.told c.args.site.now) (OnDisk (Fits s)) = subst (λ w. IfSome (g.S.Site.told c.args.site.now) (OnDisk (Fits w))) (sym c.self.view_is) c.requires.fits in
    let r : Runs g.S.Site.told g.S.Site.faults g.N.Serials.drawn g.N.Serials.faults c.args.self (command.Put c.args.name c.args.body c.args.xid) c.args.site.now c.args.site.now c.args.serials.now c.args.serials.now (Ok (c.args.self, Refused c.in-Some.refusal)) =
    subst (λ w. Runs g.S.Site.told g.S.Site.faults g.N.Serials.drawn g.N.Serials.faults w (command.Put c.args.name c.args.body c.args.xid) c.args.site.now c.args.site.now c.args.serials.now c.args.serials.now (Ok (w, Refused c.in-Some.refusal))) c.self.view_is
    (put_closed g.S.Site.told g.S.Site.faults g.N.Serials.drawn g.N.Serials.faults s c.self.invariant c.args.site.now c.args.serials.now c.args.name c.args.body c.args.xid c.in-Ok.at c.in-Ok.ensures.place c.in-Some.refusal (sym c.not_open.ensures.refusal ∙ c.in-Some.is) fits) in
    record { stepped = r.stepped; ended = r.ended; still = r.still; store = r.store; rid = r.rid; told = r.told; drawn = r.drawn; leaves = r.leaves; writes = r.writes; pools = r.pools; homes = r.homes; refused = r.refused; spent = r.spent; causes = r.causes }

pub returns-in_err-journals : goal.returns-in_err-journals
returns-in_err-journals g c =
    let s : StoreState = record { journals = c.self.inside.journals; transactions = c.self.inside.transactions } in
    let w : StandsAt s.journals.queues c.args.name c.in-Ok.at = c.in-Ok.ensures.place in
    let opened : not_open_in c.args.xid s.transactions ≡ None = sym c.not_open.ensures.refusal ∙ c.in_default.is in
    let ended = isnt_err (put_answer w.queue.queue) (at_place (λ (q : LiveState). is_err (put_answer q.queue) ≡ false) s.journals.queues c.in-Ok.at w.queue w.there c.in_err-journals.ensures.ended) in
    let p = err_from_is_err_and c.from_residual.result c.from_residual.ensures.1 in
    let e : Err c.in_err-journals.field-0.0 ≡ c.from_residual.result = sym (p.1 ∙ ap (λ k. Err k) p.2) in
    let r : Runs g.S.Site.told g.S.Site.faults g.N.Serials.drawn g.N.Serials.faults c.args.self (command.Put c.args.name c.args.body c.args.xid) c.args.site.now c.put.new.site c.args.serials.now c.put.new.serials (c.from_residual.result) =
    subst (λ w. Runs g.S.Site.told g.S.Site.faults g.N.Serials.drawn g.N.Serials.faults w (command.Put c.args.name c.args.body c.args.xid) c.args.site.now c.put.new.site c.args.serials.now c.put.new.serials (c.from_residual.result)) c.self.view_is
    (subst (λ z. Runs g.S.Site.told g.S.Site.faults g.N.Serials.drawn g.N.Serials.faults s (command.Put c.args.name c.args.body c.args.xid) c.args.site.now c.put.new.site c.args.serials.now c.put.new.serials (z)) e (put_fails g.S.Site.told g.S.Site.faults g.N.Serials.drawn g.N.Serials.faults s c.self.invariant c.args.site.now c.args.serials.now c.args.name c.args.body c.args.xid c.in-Ok.at w opened c.put.new.site c.put.new.serials ended.0 ended.1 c.in_err-journals.field-0.0 (broken g.S.Site.told g.S.Site.faults g.N.Serials.drawn g.N.Serials.faults s.journals (homes_of s) c.in_err-journals.field-0.0 c.args.site.now c.put.new.site c.args.serials.now c.put.new.serials c.in_err-journals.ensures.told c.in_err-journals.ensures.drawn c.in_err-journals.ensures.leaves c.in_err-journals.ensures.writes c.in_err-journals.ensures.pools c.in_err-journals.ensures.causes) (λ k. at_place (λ (q : LiveState). Tells (StopsAtEnd s.journals journal.Queue q.queue.name (enqueue_of (q.queue.last + 1) c.args.body c.args.xid ∷ [])) (g.S.Site.told c.args.site.now) (g.S.Site.told c.put.new.site)) s.journals.queues c.in-Ok.at w.queue w.there (c.in_err-journals.ensures.spent (ap (λ m. Err m) k))))) in
    record { stepped = r.stepped; ended = r.ended; still = r.still; store = r.store; rid = r.rid; told = r.told; drawn = r.drawn; leaves = r.leaves; writes = r.writes; pools = r.pools; homes = r.homes; refused = r.refused; spent = r.spent; causes = r.causes }

pub invariant_of-store : goal.invariant_of-store
invariant_of-store g c =
    let s : StoreState = record { journals = c.self.inside.journals; transactions = c.self.inside.transactions } in
    let same = IfErr-at_err (λ _. (c.in_ok-journals.journals ≡ s.journals) × (c.put.new.site ≡ c.args.site.now) × (c.put.new.serials ≡ c.args.serials.now)) c.in-Err-put.is c.in_ok-journals.ensures.refused in
    subst (λ j. IsStore (record { journals = j; transactions = s.transactions })) (sym same.0) c.self.invariant

pub returns-in-Err-put : goal.returns-in-Err-put
returns-in-Err-put g c =
    let s : StoreState = record { journals = c.self.inside.journals; transactions = c.self.inside.transactions } in
    let fits : IfSome (g.S.Site.told c.args.site.now) (OnDisk (Fits s)) = subst (λ w. IfSome (g.S.Site.told c.args.site.now) (OnDisk (Fits w))) (sym c.self.view_is) c.requires.fits in
    let w : StandsAt s.journals.queues c.args.name c.in-Ok.at = c.in-Ok.ensures.place in
    let opened : not_open_in c.args.xid s.transactions ≡ None = sym c.not_open.ensures.refusal ∙ c.in_default.is in
    let answer : c.in_ok-journals.put ≡ put_answer w.queue.queue = at_place (λ (q : LiveState). c.in_ok-journals.put ≡ put_answer q.queue) s.journals.queues c.in-Ok.at w.queue w.there c.in_ok-journals.ensures.answer in
    let same = IfErr-at_err (λ _. (c.in_ok-journals.journals ≡ s.journals) × (c.put.new.site ≡ c.args.site.now) × (c.put.new.serials ≡ c.args.serials.now)) c.in-Err-put.is c.in_ok-journals.ensures.refused in
    let r : Runs g.S.Site.told g.S.Site.faults g.N.Serials.drawn g.N.Serials.faults c.args.self (command.Put c.args.name c.args.body c.args.xid) c.args.site.now c.put.new.site c.args.serials.now c.put.new.serials (Ok (record { journals = c.in_ok-journals.journals; transactions = s.transactions }, Refused c.in-Err-put.refusal)) =
    subst (λ w. Runs g.S.Site.told g.S.Site.faults g.N.Serials.drawn g.N.Serials.faults w (command.Put c.args.name c.args.body c.args.xid) c.args.site.now c.put.new.site c.args.serials.now c.put.new.serials (Ok (record { journals = c.in_ok-journals.journals; transactions = s.transactions }, Refused c.in-Err-put.refusal))) c.self.view_is
    (put_refused g.S.Site.told g.S.Site.faults g.N.Serials.drawn g.N.Serials.faults s c.self.invariant c.args.site.now c.args.serials.now c.args.name c.args.body c.args.xid c.in-Ok.at w opened c.in_ok-journals.journals c.put.new.site c.put.new.serials c.in-Err-put.refusal (sym answer ∙ c.in-Err-put.is) same fits) in
    record { stepped = r.stepped; ended = r.ended; still = r.still; store = r.store; rid = r.rid; told = r.told; drawn = r.drawn; leaves = r.leaves; writes = r.writes; pools = r.pools; homes = r.homes; refused = r.refused; spent = r.spent; causes = r.causes }

pub touch-requires-clause-queues : goal.touch-requires-clause-queues
touch-requires-clause-queues g c =
    let s : StoreState = record { journals = c.self.inside.journals; transactions = c.self.inside.transactions } in
    names_each s c.self.invariant

pub returns-in_err-touch : goal.returns-in_err-touch
returns-in_err-touch g c =
    let s : StoreState = record { journals = c.self.inside.journals; transactions = c.self.inside.transactions } in
    let w : StandsAt s.journals.queues c.args.name c.in-Ok.at = c.in-Ok.ensures.place in
    let opened : not_open_in c.args.xid s.transactions ≡ None = sym c.not_open.ensures.refusal ∙ c.in_default.is in
    let answer : c.in_ok-journals.put ≡ put_answer w.queue.queue = at_place (λ (q : LiveState). c.in_ok-journals.put ≡ put_answer q.queue) s.journals.queues c.in-Ok.at w.queue w.there c.in_ok-journals.ensures.answer in
    let got : put_answer w.queue.queue ≡ Ok c.in-Ok-put.number = sym answer ∙ c.in-Ok-put.is in
    let went : Went g.S.Site.told g.S.Site.faults g.N.Serials.drawn g.N.Serials.faults s.journals c.in_ok-journals.journals (homes_of s) c.args.site.now c.put.new.site c.args.serials.now c.put.new.serials = record { told = c.in_ok-journals.ensures.told; drawn = c.in_ok-journals.ensures.drawn; leaves = c.in_ok-journals.ensures.leaves; writes = c.in_ok-journals.ensures.writes; pools = c.in_ok-journals.ensures.pools; sites_kept = c.in_ok-journals.ensures.causes.sites_kept; draws_kept = c.in_ok-journals.ensures.causes.draws_kept } in
    let p = err_from_is_err_and c.from_residual-in_err-touch.result c.from_residual-in_err-touch.ensures.1 in
    let e : Err Memory ≡ c.from_residual-in_err-touch.result = sym (p.1 ∙ ap (λ k. Err k) p.2) in
    let r : Runs g.S.Site.told g.S.Site.faults g.N.Serials.drawn g.N.Serials.faults c.args.self (command.Put c.args.name c.args.body c.args.xid) c.args.site.now c.put.new.site c.args.serials.now c.put.new.serials (c.from_residual-in_err-touch.result) =
    subst (λ w. Runs g.S.Site.told g.S.Site.faults g.N.Serials.drawn g.N.Serials.faults w (command.Put c.args.name c.args.body c.args.xid) c.args.site.now c.put.new.site c.args.serials.now c.put.new.serials (c.from_residual-in_err-touch.result)) c.self.view_is
    (subst (λ z. Runs g.S.Site.told g.S.Site.faults g.N.Serials.drawn g.N.Serials.faults s (command.Put c.args.name c.args.body c.args.xid) c.args.site.now c.put.new.site c.args.serials.now c.put.new.serials (z)) e (put_wants g.S.Site.told g.S.Site.faults g.N.Serials.drawn g.N.Serials.faults s c.self.invariant c.args.site.now c.args.serials.now c.args.name c.args.body c.args.xid c.in-Ok.at w opened c.put.new.site c.put.new.serials c.in-Ok-put.number got c.in_ok-journals.journals went)) in
    record { stepped = r.stepped; ended = r.ended; still = r.still; store = r.store; rid = r.rid; told = r.told; drawn = r.drawn; leaves = r.leaves; writes = r.writes; pools = r.pools; homes = r.homes; refused = r.refused; spent = r.spent; causes = r.causes }

pub invariant_of-store-2 : goal.invariant_of-store-2
invariant_of-store-2 g c =
    let s : StoreState = record { journals = c.self.inside.journals; transactions = c.self.inside.transactions } in
    let w : StandsAt s.journals.queues c.args.name c.in-Ok.at = c.in-Ok.ensures.place in
    let opened : not_open_in c.args.xid s.transactions ≡ None = sym c.not_open.ensures.refusal ∙ c.in_default.is in
    let answer : c.in_ok-journals.put ≡ put_answer w.queue.queue = at_place (λ (q : LiveState). c.in_ok-journals.put ≡ put_answer q.queue) s.journals.queues c.in-Ok.at w.queue w.there c.in_ok-journals.ensures.answer in
    let got : put_answer w.queue.queue ≡ Ok c.in-Ok-put.number = sym answer ∙ c.in-Ok-put.is in
    let queues = at_place (λ (q : LiveState). queues_of c.in_ok-journals.journals ≡ change_queue q.queue.name (with_message (put_message c.in-Ok-put.number c.args.body c.args.xid)) (queues_of s.journals)) s.journals.queues c.in-Ok.at w.queue w.there (IfOk-at_ok (λ number. IfSome (slice_get s.journals.queues c.in-Ok.at) (λ (q : LiveState). queues_of c.in_ok-journals.journals ≡ change_queue q.queue.name (with_message (put_message number c.args.body c.args.xid)) (queues_of s.journals))) c.in-Ok-put.is c.in_ok-journals.ensures.queues) in
    subst (λ ts. IsStore (record { journals = c.in_ok-journals.journals; transactions = ts })) (sym c.in_ok-touch.ensures.touched)
    (put_store g.S.Site.told g.S.Site.faults g.N.Serials.drawn g.N.Serials.faults s c.self.invariant c.args.site.now c.args.serials.now c.args.name c.args.body c.args.xid c.in-Ok.at w opened c.put.new.site c.put.new.serials c.in-Ok-put.number got c.in_ok-journals.journals queues c.in_ok-journals.ensures.list c.in_ok-journals.ensures.kept (c.in_ok-journals.ensures.released c.self.invariant.released))

pub returns : goal.returns
returns g c =
    let s : StoreState = record { journals = c.self.inside.journals; transactions = c.self.inside.transactions } in
    let w : StandsAt s.journals.queues c.args.name c.in-Ok.at = c.in-Ok.ensures.place in
    let opened : not_open_in c.args.xid s.transactions ≡ None = sym c.not_open.ensures.refusal ∙ c.in_default.is in
    let answer : c.in_ok-journals.put ≡ put_answer w.queue.queue = at_place (λ (q : LiveState). c.in_ok-journals.put ≡ put_answer q.queue) s.journals.queues c.in-Ok.at w.queue w.there c.in_ok-journals.ensures.answer in
    let got : put_answer w.queue.queue ≡ Ok c.in-Ok-put.number = sym answer ∙ c.in-Ok-put.is in
    let queues = at_place (λ (q : LiveState). queues_of c.in_ok-journals.journals ≡ change_queue q.queue.name (with_message (put_message c.in-Ok-put.number c.args.body c.args.xid)) (queues_of s.journals)) s.journals.queues c.in-Ok.at w.queue w.there (IfOk-at_ok (λ number. IfSome (slice_get s.journals.queues c.in-Ok.at) (λ (q : LiveState). queues_of c.in_ok-journals.journals ≡ change_queue q.queue.name (with_message (put_message number c.args.body c.args.xid)) (queues_of s.journals))) c.in-Ok-put.is c.in_ok-journals.ensures.queues) in
    let had = at_place (λ (q : LiveState). Tells (HadRoom s.journals journal.Queue q.queue.name (enqueue_of (q.queue.last + 1) c.args.body c.args.xid ∷ [])) (g.S.Site.told c.args.site.now) (g.S.Site.told c.put.new.site)) s.journals.queues c.in-Ok.at w.queue w.there (IfOk-at_ok (λ _. IfSome (slice_get s.journals.queues c.in-Ok.at) (λ (q : LiveState). Tells (HadRoom s.journals journal.Queue q.queue.name (enqueue_of (q.queue.last + 1) c.args.body c.args.xid ∷ [])) (g.S.Site.told c.args.site.now) (g.S.Site.told c.put.new.site))) c.in-Ok-put.is c.in_ok-journals.ensures.had) in
    let went : Went g.S.Site.told g.S.Site.faults g.N.Serials.drawn g.N.Serials.faults s.journals c.in_ok-journals.journals (homes_of s) c.args.site.now c.put.new.site c.args.serials.now c.put.new.serials = record { told = c.in_ok-journals.ensures.told; drawn = c.in_ok-journals.ensures.drawn; leaves = c.in_ok-journals.ensures.leaves; writes = c.in_ok-journals.ensures.writes; pools = c.in_ok-journals.ensures.pools; sites_kept = c.in_ok-journals.ensures.causes.sites_kept; draws_kept = c.in_ok-journals.ensures.causes.draws_kept } in
    let r : Runs g.S.Site.told g.S.Site.faults g.N.Serials.drawn g.N.Serials.faults c.args.self (command.Put c.args.name c.args.body c.args.xid) c.args.site.now c.put.new.site c.args.serials.now c.put.new.serials (Ok (record { journals = c.in_ok-journals.journals; transactions = c.touch.new.self }, Number c.in-Ok-put.number)) =
    subst (λ w. Runs g.S.Site.told g.S.Site.faults g.N.Serials.drawn g.N.Serials.faults w (command.Put c.args.name c.args.body c.args.xid) c.args.site.now c.put.new.site c.args.serials.now c.put.new.serials (Ok (record { journals = c.in_ok-journals.journals; transactions = c.touch.new.self }, Number c.in-Ok-put.number))) c.self.view_is
    (put_told g.S.Site.told g.S.Site.faults g.N.Serials.drawn g.N.Serials.faults s c.self.invariant c.args.site.now c.args.serials.now c.args.name c.args.body c.args.xid c.in-Ok.at w opened c.put.new.site c.put.new.serials c.in-Ok-put.number got c.in_ok-journals.journals queues c.in_ok-journals.ensures.list c.in_ok-journals.ensures.kept (c.in_ok-journals.ensures.released c.self.invariant.released) c.touch.new.self c.in_ok-touch.ensures.touched went c.in_ok-journals.ensures.alive c.in_ok-journals.ensures.homes had) in
    record { stepped = r.stepped; ended = r.ended; still = r.still; store = r.store; rid = r.rid; told = r.told; drawn = r.drawn; leaves = r.leaves; writes = r.writes; pools = r.pools; homes = r.homes; refused = r.refused; spent = r.spent; causes = r.causes }
