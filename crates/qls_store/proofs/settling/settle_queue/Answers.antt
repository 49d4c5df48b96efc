use Rattle.std.proofs.Common.{◌≡◌, ℕ, ◌<◌, Result, Ok, Err, IfOk, IfSome, length, sym, ap, ◌∙◌, subst, arith}
use Rattle.std.proofs.lemmas.Result.{err_from_is_err_and}
use Rattle.std.specs.List.{slice_get}
use Rattle.qls_model.specs.Machine.{change_queue}
use Rattle.qls_model.specs.Messages.{decided}
use Rattle.qls_decide.specs.Entries.{verdict_by}
use Rattle.qls_queue.specs.Records.{ended_by}
use Rattle.qls_journals.specs.declared.cause.Cause.TheVariants.{Memory}
use Rattle.qls_journals.specs.State.{JournalsState, queues_of}
use Rattle.qls_store.proofs.Together.{calls_memory, calls_none}
use Rattle.qls_store.proofs.SettledPlan.{ended_before, ok_so, place_doubted, place_ended, place_stays, place_stops}
use Rattle.qls_store.proofs.settling.settle_queue.Goals as goal

pub returns-in_err-ends-clause-called : goal.returns-in_err-ends-clause-called
returns-in_err-ends-clause-called g c =
    let p = err_from_is_err_and c.from_residual.result c.from_residual.ensures.1 in
    calls_memory c.args.journals c.from_residual.result _ _ _ _ (sym (p.1 ∙ ap (λ k. Err k) p.2))

pub returns-then-len-eq0-clause-queues : goal.returns-then-len-eq0-clause-queues
returns-then-len-eq0-clause-queues g c =
    place_stays c.args.journals c.requires.journals.rising c.args.at c.args.entries.now c.in_ok-ends.ends (sym c.len.ensures.counted ∙ c.if-len-eq0.true) c.in_ok-ends.ensures.planned

pub returns-then-len-eq0-clause-called : goal.returns-then-len-eq0-clause-called
returns-then-len-eq0-clause-called g c = calls_none c.args.journals _ _ _ _ c.requires.fits

pub finish-requires-clause-order : goal.finish-requires-clause-order
finish-requires-clause-order g c = ended_before c.args.entries.now c.in_ok-ends.ends c.args.at (queues_of c.args.journals) c.in_ok-ends.ensures.decided c.requires.before

pub returns-clause-queues : goal.returns-clause-queues
returns-clause-queues g c =
    ok_so (λ (x : JournalsState). IfSome (slice_get c.args.journals.queues c.args.at) (λ q. queues_of x ≡ change_queue q.queue.name (ended_by c.in_ok-ends.ends) (queues_of c.args.journals)))
    (λ (x : JournalsState). IfSome (slice_get (queues_of c.args.journals) c.args.at) (λ q. queues_of x ≡ change_queue q.name (decided (verdict_by c.args.entries.now)) (queues_of c.args.journals))) c.finish.result
    (λ x k. place_ended c.args.journals c.requires.journals.rising c.args.at c.args.entries.now c.in_ok-ends.ends x c.in_ok-ends.ensures.planned k) c.finish.ensures.queues

some_ends : (n m : ℕ) → n ≡ m → (n ≡ 0 → ⊥) → 0 < m
some_ends n m e h = omega (arith, e, h)

pub returns-clause-still : goal.returns-clause-still
returns-clause-still g c =
    place_doubted (IfOk c.finish.result (λ s. (s ≡ c.args.journals) × (c.finish.new.site ≡ c.args.site.now))) c.args.entries.now c.in_ok-ends.ends (slice_get (queues_of c.args.journals) c.args.at)
    (some_ends c.len.result (length c.in_ok-ends.ends) c.len.ensures.counted c.if-len-eq0.false) c.in_ok-ends.ensures.planned

pub returns-clause-spent : goal.returns-clause-spent
returns-clause-spent g c = λ e.
    place_stops c.args.journals c.args.at c.args.entries.now c.requires.entries c.in_ok-ends.ends
    (record { some = some_ends c.len.result (length c.in_ok-ends.ends) c.len.ensures.counted c.if-len-eq0.false; once = c.in_ok-ends.ensures.once }) _ _ c.in_ok-ends.ensures.planned (c.finish.ensures.spent e)
