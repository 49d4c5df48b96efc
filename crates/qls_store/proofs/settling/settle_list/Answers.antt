use Rattle.std.proofs.Common.{◌≡◌, ◌<◌, List, ℕ, [], length, Ok, Err, IfOk, ◌∷◌, refl, sym, ap, subst, ◌∙◌, arith}
use Rattle.std.proofs.lemmas.Result.{err_from_is_err_and}
use Rattle.std.specs.List.{AllByRecursion, IsDistinct}
use Rattle.qls_model.specs.Bytes.{same}
use Rattle.qls_decide.specs.declared.ListEntry.{ListEntry}
use Rattle.qls_decide.specs.Entries.{entry_of}
use Rattle.qls_prepared.specs.Lists.{MayEnd, XidsRise}
use Rattle.qls_prepared.specs.Records.{without_entries}
use Rattle.qls_journals.specs.Deciding.{NonePending}
use Rattle.qls_journals.specs.State.{JournalsState, queues_of}
use Rattle.qls_store.specs.Opening.{settled_xids}
use Rattle.qls_store.specs.Settling.{entries_kept}
use Rattle.qls_store.proofs.Together.{calls_memory, calls_none}
use Rattle.qls_store.proofs.SettledCalls.{stops_in_list}
use Rattle.qls_store.proofs.SettledPlan.{ok_so}
use Rattle.qls_store.proofs.SettledList.{all_prepared, none_settled, settled_end, settled_leave, settled_once, settled_unpending}
use Rattle.qls_store.proofs.settling.settle_list.Goals as goal

pub returns-in_err-xids-clause-called : goal.returns-in_err-xids-clause-called
returns-in_err-xids-clause-called g c =
    let p = err_from_is_err_and c.from_residual.result c.from_residual.ensures.1 in
    calls_memory c.args.journals c.from_residual.result _ _ _ _ (sym (p.1 ∙ ap (λ k. Err k) p.2))

none_long : (xs : List (List ℕ)) → length xs ≡ 0 → xs ≡ []
none_long [] h = refl
none_long (x ∷ xs) h = absurd (omega (arith, h))

pub returns-then-len-eq0-clause-entries : goal.returns-then-len-eq0-clause-entries
returns-then-len-eq0-clause-entries g c =
    sym c.requires.entries ∙ none_settled c.args.entries.now (sym (c.in_ok-xids.ensures.xids ∙ ap settled_xids c.as_slice.ensures.same) ∙ none_long c.in_ok-xids.xids (sym c.len.ensures.counted ∙ c.if-len-eq0.true))

pub returns-then-len-eq0-clause-called : goal.returns-then-len-eq0-clause-called
returns-then-len-eq0-clause-called g c = calls_none c.args.journals _ _ _ _ c.requires.fits

pub end_all-requires-clause-once : goal.end_all-requires-clause-once
end_all-requires-clause-once g c =
    let es = c.args.journals.list.entries in
    subst (IsDistinct same) (sym ((c.in_ok-xids.ensures.xids ∙ ap settled_xids c.as_slice.ensures.same) ∙ ap settled_xids c.requires.entries)) (settled_once es c.requires.journals.list.sound.rising)

pub end_all-requires-clause-decided : goal.end_all-requires-clause-decided
end_all-requires-clause-decided g c =
    let es = c.args.journals.list.entries in
    subst (λ xs. AllByRecursion (λ x. MayEnd (entry_of x es)) xs) (sym ((c.in_ok-xids.ensures.xids ∙ ap settled_xids c.as_slice.ensures.same) ∙ ap settled_xids c.requires.entries)) (settled_end es c.requires.journals.list.sound.rising)

pub end_all-requires-clause-done : goal.end_all-requires-clause-done
end_all-requires-clause-done g c =
    let rising : XidsRise c.args.entries.now = subst XidsRise (sym c.requires.entries) c.requires.journals.list.sound.rising in
    subst (λ xs. AllByRecursion (λ x. NonePending x (queues_of c.args.journals)) xs) (sym (c.in_ok-xids.ensures.xids ∙ ap settled_xids c.as_slice.ensures.same)) (settled_unpending c.args.entries.now (queues_of c.args.journals) rising c.requires.doubted)

pub returns-clause-entries : goal.returns-clause-entries
returns-clause-entries g c =
    let rising : XidsRise c.args.entries.now = subst XidsRise (sym c.requires.entries) c.requires.journals.list.sound.rising in
    ok_so (λ (s : JournalsState). s.list.entries ≡ without_entries c.in_ok-xids.xids c.args.journals.list.entries) (λ (s : JournalsState). s.list.entries ≡ entries_kept c.args.entries.now) c.end_all.result
    (λ s e. e ∙ (λ i. without_entries ((c.in_ok-xids.ensures.xids ∙ ap settled_xids c.as_slice.ensures.same) i) (sym c.requires.entries i)) ∙ settled_leave c.args.entries.now rising) c.end_all.ensures.entries

not_some : (n : ℕ) (xs ys : List (List ℕ)) → n ≡ length xs → (n ≡ 0 → ⊥) → xs ≡ ys → ys ≡ [] → ⊥
not_some n xs ys counted some is none = some (counted ∙ ap (λ (zs : List (List ℕ)). length zs) (is ∙ none))

pub returns-clause-still : goal.returns-clause-still
returns-clause-still g c = λ h. absurd (not_some c.len.result c.in_ok-xids.xids (settled_xids c.args.entries.now) c.len.ensures.counted c.if-len-eq0.false (c.in_ok-xids.ensures.xids ∙ ap settled_xids c.as_slice.ensures.same) (all_prepared c.args.entries.now h))

some_xids : (n : ℕ) (xs : List (List ℕ)) → n ≡ length xs → (n ≡ 0 → ⊥) → 0 < length xs
some_xids n xs counted some = omega (arith, counted, some)

pub returns-clause-spent : goal.returns-clause-spent
returns-clause-spent g c = λ e.
    stops_in_list c.args.journals c.in_ok-xids.xids c.args.entries.now (g.S.Site.told c.args.site.now) (g.S.Site.told c.end_all.new.site) (c.in_ok-xids.ensures.xids ∙ ap settled_xids c.as_slice.ensures.same)
    c.requires.entries (some_xids c.len.result c.in_ok-xids.xids c.len.ensures.counted c.if-len-eq0.false) (c.end_all.ensures.spent e)
