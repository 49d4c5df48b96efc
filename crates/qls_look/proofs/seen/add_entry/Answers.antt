use Rattle.std.proofs.Common.{◌≡◌, ℕ, List, Some, None, Result, Ok, Err, IfOk, cond, refl, sym, ap}
use Rattle.std.specs.HashMap.{get as looked_up}
use Rattle.qls_model.specs.Bytes.{same}
use Rattle.qls_model.proofs.XidKeys.{looked_up-insert}
use Rattle.qls_decide.specs.declared.ListState.{ListState}
use Rattle.qls_decide.specs.declared.ListState.TheVariants.{Prepared, OnePhase, DecidedCommit, DecidedAbort}
use Rattle.qls_meaning.specs.Meaning.{doubt_by}
use Rattle.qls_look.specs.Seen.{with_doubt}
use Rattle.qls_look.proofs.seen.add_entry.Goals as goal

if_ok : {X E : Type 0} (r : Result X E) (P : Type 0) → P → IfOk r (λ _. P)
if_ok (Ok x) P p = p
if_ok (Err e) P p = tt

pub returns-in-Prepared-clause-states : goal.returns-in-Prepared-clause-states
returns-in-Prepared-clause-states c =
    let e = c.args.entry.now in
    if_ok c.put_prepared.result ((x : List ℕ) → looked_up same c.insert.new.self x ≡ cond (same e.xid x) (Some e.state) (looked_up same c.args.seen.now.states x))
    (looked_up-insert c.args.seen.now.states c.insert.new.self e.xid (Some e.state) c.in_ok-insert.ensures.updates)

not_in_doubt : (s : ListState) (x : List ℕ) → (s ≡ Prepared → ⊥) → doubt_by s x ≡ None
not_in_doubt Prepared x n = absurd (n refl)
not_in_doubt OnePhase x n = refl
not_in_doubt DecidedCommit x n = refl
not_in_doubt DecidedAbort x n = refl

pub returns-in_default : goal.returns-in_default
returns-in_default c =
    let e = c.args.entry.now in
    record {
      state = λ i. record { queues = c.args.seen.now.state.queues; xids = sym (ap (λ o. with_doubt o c.args.seen.now.state.xids) (not_in_doubt e.state e.xid c.in_default.not-Prepared)) i };
      states = looked_up-insert c.args.seen.now.states c.insert.new.self e.xid (Some e.state) c.in_ok-insert.ensures.updates;
    }
