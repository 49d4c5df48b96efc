-- The queues and prepared xids of a state, one after another.
use Rattle.std.proofs.Common.{◌≡◌, ℕ, zero, suc, ◌+◌, List, [], ◌∷◌, ◌++◌, drop, refl, ap, sym, ◌∙◌, arith, Option, Some, None, slice_get, option_to_list}
use Rattle.std.proofs.lemmas.Grind.{common_steps}
use Rattle.std.specs.Option.{option_map}
use Rattle.qls_model.specs.declared.machine.Phase.{Phase}
use Rattle.qls_model.specs.declared.machine.Phase.TheVariants.{Open, Prepared}
use Rattle.qls_model.specs.Machine.{XidState, doubts}

-- the item at a place is the first of those from there on
pub drop-item : {A : Type 0} (xs : List A) (i : ℕ) (x : A) → slice_get xs i ≡ Some x → drop i xs ≡ x ∷ drop (i + 1) xs
drop-item [] i x h = cc h
drop-item (y ∷ xs) zero x h = let e : y ≡ x = cc in ap (λ z. z ∷ xs) e
drop-item (y ∷ xs) (suc i) x h =
    let rest = drop-item xs i x h in
    grind (arith, common_steps, rest)

-- the xid of a prepared entry
abbrev pub of_phase : List ℕ → Phase → Option (List ℕ)
of_phase x Open = None
of_phase x Prepared = Some x

abbrev entry : List ℕ → Phase → XidState
entry x p = record { xid = x; phase = p }

doubts-entry : (x : List ℕ) (p : Phase) (xs : List XidState) → doubts (entry x p ∷ xs) ≡ option_to_list (of_phase x p) ++ doubts xs
doubts-entry x Open xs = refl
doubts-entry x Prepared xs = refl

abbrev seen : Option XidState → Option (List ℕ × Phase)
seen o = option_map (λ (e : XidState). (e.xid, e.phase)) o

doubts-seen : (xs : List XidState) (at : ℕ) (x : List ℕ) (p : Phase) (o : Option XidState) → slice_get xs at ≡ o → Some (x, p) ≡ seen o
    → doubts (drop at xs) ≡ option_to_list (of_phase x p) ++ doubts (drop (at + 1) xs)
doubts-seen xs at x p None here h = cc h
doubts-seen xs at x p (Some e) here h =
    let pair : (x, p) ≡ (e.xid, e.phase) = cc h in
    let same : entry x p ≡ e = ap (λ (q : List ℕ × Phase). entry q.0 q.1) pair in
    ap doubts (drop-item xs at e here) ∙ ap (λ k. doubts (k ∷ drop (at + 1) xs)) (sym same) ∙ doubts-entry x p (drop (at + 1) xs)

-- the prepared xids from a place on
pub doubts-item : (xs : List XidState) (at : ℕ) (x : List ℕ) (p : Phase) → Some (x, p) ≡ seen (slice_get xs at)
    → doubts (drop at xs) ≡ option_to_list (of_phase x p) ++ doubts (drop (at + 1) xs)
doubts-item xs at x p h = doubts-seen xs at x p (slice_get xs at) refl h
