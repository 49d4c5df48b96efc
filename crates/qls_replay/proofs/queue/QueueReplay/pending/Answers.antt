use Rattle.std.proofs.Common.{◌≡◌, ℕ, List, Result, Ok, Err, IfOk, subst, ◌∙◌}
use Rattle.std.specs.List.{list_any}
use Rattle.qls_model.specs.Bytes.{is_listed}
use Rattle.qls_enqmap.specs.declared.Held.{Held}
use Rattle.qls_txnmap.specs.Pending.{Table, is_pending}
use Rattle.qls_replay.specs.Held.{Replayed}
use Rattle.qls_replay.specs.Ops.{moves_by, Agrees}
use Rattle.qls_replay.proofs.Moves.{pending_moved}
use Rattle.qls_replay.proofs.queue.QueueReplay.pending.Goals as goal

listed_moved : {E : Type 0} (r : Result (List (List ℕ)) E) (hs : List Held) (t : Table) → Agrees hs t → IfOk r (λ xids. (x : List ℕ) → is_listed x xids ≡ is_pending x t)
    → IfOk r (λ xids. (x : List ℕ) → is_listed x xids ≡ list_any (moves_by x) hs)
listed_moved (Ok xids) hs t a h = λ x. h x ∙ pending_moved x hs t a
listed_moved (Err e) hs t a h = tt

pub returns-clause-exact : goal.returns-clause-exact
returns-clause-exact c =
    subst (λ (s : Replayed). IfOk c.pending.result (λ xids. (x : List ℕ) → is_listed x xids ≡ list_any (moves_by x) s.held)) c.self.view_is
    (listed_moved c.pending.result c.self.inside.held c.self.inside.txns c.self.invariant.agrees c.pending.ensures.exact)
