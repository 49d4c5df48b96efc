use Rattle.std.proofs.Common.{◌≡◌, ℕ, Bool, true, false, ◌-◌, ◌<◌, cond, List, length, drop, ◌∷◌, get_or, Option, Some, refl, sym, ap, ◌∙◌, arith}
use Rattle.std.proofs.lemmas.Grind.{common_steps}
use Rattle.qls_model.specs.Bytes.{same}
use Rattle.qls_decide.specs.declared.ListEntry.{ListEntry}
use Rattle.qls_decide.specs.Entries.{entry_of, state_of}
use Rattle.qls_model.proofs.XidKeys.{looked_up-insert}
use Rattle.qls_decide.proofs.plan.states_by_xid.Goals as goal

one_before : (es : List ListEntry) (at : ℕ) (e : ListEntry) → 0 < at → at - 1 < length es → e ≡ get_or es (at - 1) e → drop (at - 1) es ≡ e ∷ drop at es
one_before es at e p h is = grind (arith, common_steps)

state_by : (b : Bool) (e : ListEntry) (o : Option ListEntry) → cond b (Some e.state) (state_of o) ≡ state_of (cond b (Some e) o)
state_by true e o = refl
state_by false e o = refl

pub loop-at-preserved : goal.loop-at-preserved
loop-at-preserved c =
    let e = c.index-entries-at.result in
    let at = c.loop-at.at in
    let es = c.args.entries.now in
    λ x. looked_up-insert c.loop-at.states c.insert.new.self e.xid (Some e.state) c.in_ok-insert.ensures.updates x
    ∙ ap (λ o. cond (same e.xid x) (Some e.state) o) (c.loop-at.invariant x)
    ∙ state_by (same e.xid x) e (entry_of x (drop at es))
    ∙ sym (ap (λ l. state_of (entry_of x l)) (one_before es at e (omega arith) (omega arith) c.index-entries-at.is))
