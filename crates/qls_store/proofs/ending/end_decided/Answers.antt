use Rattle.std.proofs.Common.{◌≡◌, ◌∷◌, [], not, List, map, Ok, Err, sym, ◌∙◌, subst, rules}
use Rattle.qls_model.specs.Machine.{is_prepared}
use Rattle.qls_model.specs.declared.machine.QueueState.{QueueState}
use Rattle.qls_site.specs.Content.{Tells}
use Rattle.qls_pool.specs.Moments.{Passes}
use Rattle.qls_journals.specs.Homes.{homes_of}
use Rattle.qls_journals.specs.Moments.{IsStoreStep}
use Rattle.qls_journals.specs.State.{queues_of}
use Rattle.qls_store.specs.Ends.{end_need, list_need, all_needs}
use Rattle.qls_store.proofs.Batches.{stops_front, told_stops_behind, ok_had_later}
use Rattle.qls_store.proofs.Each.{ok_clean}
use Rattle.qls_store.proofs.Named.{AreNamed}
use Rattle.qls_store.proofs.Together.{calls_then, calls_error, told_passes, told_ends, same_homes}
use Rattle.qls_store.proofs.Deciding.{all_touched, carries, none_left}
use Rattle.qls_store.proofs.ending.end_decided.Goals as goal

pub end_in_each-requires-clause-decided : goal.end_in_each-requires-clause-decided
end_in_each-requires-clause-decided g c = carries c.in_ok-decided.decided c.args.xid c.args.commit c.args.ends.now c.requires.one c.in_ok-decided.ensures.carried

pub end_in_each-requires-clause-all : goal.end_in_each-requires-clause-all
end_in_each-requires-clause-all g c =
    all_touched c.args.xid c.args.commit c.args.ends.now c.requires.one c.args.names.now (queues_of c.args.journals) (queues_of c.in_ok-decided.decided) c.requires.all c.in_ok-decided.ensures.queues

pub end_in_list-requires-clause-done : goal.end_in_list-requires-clause-done
end_in_list-requires-clause-done g c =
    none_left c.args.xid c.args.commit c.args.names.now (queues_of c.args.journals) (queues_of c.in_ok-decided.decided) (queues_of c.in_ok-ended.ended) c.requires.all c.in_ok-decided.ensures.queues c.args.ends.now c.requires.one
    c.in_ok-ended.ensures.queues

pub returns-in_err-decided-clause-spent : goal.returns-in_err-decided-clause-spent
returns-in_err-decided-clause-spent g c = λ e.
    let is : Err c.in_err-decided.field-0.0 ≡ c.from_residual.result = search (rules, c.from_residual.ensures) in
    stops_front c.args.journals (not (is_prepared c.args.phase)) (list_need ∷ []) _ _ _ (c.in_err-decided.ensures.spent (is ∙ e))

pub end_in_each-requires-clause-there : goal.end_in_each-requires-clause-there
end_in_each-requires-clause-there g c = subst (λ (qs : List QueueState). AreNamed c.args.names.now qs) (sym c.in_ok-decided.ensures.queues) c.requires.there

pub returns-in_err-ended-clause-called : goal.returns-in_err-ended-clause-called
returns-in_err-ended-clause-called g c =
    let is : Err c.in_err-ended.field-0.0 ≡ c.from_residual-in_err-ended.result = search (rules, c.from_residual-in_err-ended.ensures) in
    calls_then c.args.journals c.in_ok-decided.decided c.from_residual-in_err-ended.result _ _ _ _ _ _ _ _ _ _ _ _ c.in_ok-decided.ensures.called
    (calls_error c.in_ok-decided.decided c.in_err-ended.field-0.0 c.from_residual-in_err-ended.result _ _ _ _ _ _ _ _ is c.in_err-ended.ensures.called)

pub returns-in_err-ended-clause-spent : goal.returns-in_err-ended-clause-spent
returns-in_err-ended-clause-spent g c = λ e.
    let is : Err c.in_err-ended.field-0.0 ≡ c.from_residual-in_err-ended.result = search (rules, c.from_residual-in_err-ended.ensures) in
    stops_front c.args.journals (not (is_prepared c.args.phase)) (list_need ∷ map end_need c.args.names.now) (list_need ∷ []) _ _
    (told_stops_behind c.args.journals c.in_ok-decided.decided c.in_ok-decided.ensures.called.homes (not (is_prepared c.args.phase)) (list_need ∷ []) (map end_need c.args.names.now) _ _ _
    c.in_ok-decided.ensures.called.told (c.in_err-ended.ensures.spent (is ∙ e)))

pub returns-clause-called : goal.returns-clause-called
returns-clause-called g c =
    calls_then c.args.journals c.in_ok-ended.ended c.end_in_list.result _ _ _ _ _ _ _ _ _ _ _ _
    (calls_then c.args.journals c.in_ok-decided.decided (Ok c.in_ok-ended.ended) _ _ _ _ _ _ _ _ _ _ _ _ c.in_ok-decided.ensures.called c.in_ok-ended.ensures.called) c.end_in_list.ensures.called

pub returns-clause-clean : goal.returns-clause-clean
returns-clause-clean g c =
    ok_clean c.args.journals c.in_ok-ended.ended c.end_in_list.result _ _ _
    (told_ends c.args.journals c.in_ok-decided.decided (Ok c.in_ok-ended.ended) _ _ _ c.in_ok-decided.ensures.called.told c.in_ok-ended.ensures.called.told)
    (told_passes c.in_ok-ended.ended c.end_in_list.result _ _ c.end_in_list.ensures.called.told) c.end_in_list.ensures.clean

pub returns-clause-had : goal.returns-clause-had
returns-clause-had g c =
    let rest : Tells (Passes IsStoreStep) (g.S.Site.told c.decide_in_list.new.site) (g.S.Site.told c.end_in_list.new.site) =
    told_passes c.in_ok-decided.decided c.end_in_list.result _ _ (told_ends c.in_ok-decided.decided c.in_ok-ended.ended c.end_in_list.result _ _ _ c.in_ok-ended.ensures.called.told c.end_in_list.ensures.called.told) in
    ok_had_later c.args.journals (not (is_prepared c.args.phase)) (all_needs c.args.names.now) (Passes IsStoreStep) c.end_in_list.result _ _ _ c.in_ok-decided.ensures.had rest

pub returns-clause-spent : goal.returns-clause-spent
returns-clause-spent g c = λ e.
    told_stops_behind c.args.journals c.in_ok-ended.ended (same_homes (homes_of c.args.journals) (homes_of c.in_ok-decided.decided) (homes_of c.in_ok-ended.ended) c.in_ok-decided.ensures.called.homes c.in_ok-ended.ensures.called.homes) (not (is_prepared c.args.phase)) (list_need ∷ map end_need c.args.names.now) (list_need ∷ []) _ _ _
    (told_ends c.args.journals c.in_ok-decided.decided (Ok c.in_ok-ended.ended) _ _ _ c.in_ok-decided.ensures.called.told c.in_ok-ended.ensures.called.told) (c.end_in_list.ensures.spent e)
