use Rattle.std.proofs.Common.{◌≡◌, List, ℕ, Ok, Err, IfOk, map, sym, ap, subst, ◌∙◌}
use Rattle.std.proofs.lemmas.Result.{err_from_is_err_and}
use Rattle.std.specs.List.{AllByRecursion}
use Rattle.qls_model.specs.Messages.{decided}
use Rattle.qls_model.specs.declared.machine.QueueState.{QueueState}
use Rattle.qls_decide.specs.declared.ListEntry.{ListEntry}
use Rattle.qls_decide.specs.Entries.{verdict_by}
use Rattle.qls_journals.specs.State.{queues_of}
use Rattle.qls_store.specs.Settling.{IsDoubted}
use Rattle.qls_store.proofs.Together.{calls_memory, calls_then}
use Rattle.qls_store.proofs.SettledQueues.{all_doubted}
use Rattle.qls_store.proofs.SettledCalls.{stops_then}
use Rattle.qls_store.proofs.settling.settle.Goals as goal

pub returns-in_err-entries-clause-called : goal.returns-in_err-entries-clause-called
returns-in_err-entries-clause-called g c =
    let p = err_from_is_err_and c.from_residual.result c.from_residual.ensures.1 in
    calls_memory c.args.journals c.from_residual.result _ _ _ _ (sym (p.1 ∙ ap (λ k. Err k) p.2))

pub settle_list-requires-clause-doubted : goal.settle_list-requires-clause-doubted
settle_list-requires-clause-doubted g c =
    let v = verdict_by c.in_ok-entries.entries in
    subst (λ (qs : List QueueState). AllByRecursion (IsDoubted v) qs) (sym c.in_ok-settled.ensures.queues) (all_doubted v (queues_of c.args.journals))

pub returns-clause-called : goal.returns-clause-called
returns-clause-called g c = calls_then c.args.journals c.in_ok-settled.settled c.settle_list.result _ _ _ _ _ _ _ _ _ _ _ _ c.in_ok-settled.ensures.called c.settle_list.ensures.called

pub returns-clause-spent : goal.returns-clause-spent
returns-clause-spent g c = λ e.
    stops_then c.args.journals c.in_ok-settled.settled c.in_ok-settled.ensures.called.homes c.in_ok-settled.ensures.list _ _ _ c.in_ok-settled.ensures.called.told (c.settle_list.ensures.spent e)
