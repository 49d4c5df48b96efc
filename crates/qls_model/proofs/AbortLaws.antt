-- The command `abort` for each open xid settles a state.
use Rattle.std.proofs.Common.{◌≡◌, ℕ, Bool, true, false, cond, not, Option, Some, None, is_some, is_none, IsSome, List, [], ◌∷◌, ◌++◌, map, filter, refl, sym, ap, subst, ◌∙◌, append_assoc}
use Rattle.std.proofs.lemmas.Bool.{false≢true}
use Rattle.std.specs.List.{AllByRecursion}
use Rattle.std.specs.Cmp.Lexicographic.{bytes_decides}
use Rattle.qls_model.specs.Bytes.{same}
use Rattle.qls_model.specs.Messages.{decided, only}
use Rattle.qls_model.specs.Machine.{MachineState, XidState, xid_named, without_xid, is_prepared, first_true, answered, ended, step_line, state_after, settle}
use Rattle.qls_model.specs.Sound.{XidsOnce}
use Rattle.qls_model.specs.Settling.{open_xids, aborted_in_turn, aborts}
use Rattle.qls_model.specs.declared.machine.QueueState.{QueueState}
use Rattle.qls_model.specs.declared.machine.Refusal.TheVariants as refusal
use Rattle.qls_model.specs.declared.machine.Verdict.TheVariants as verdict
use Rattle.qls_model.specs.declared.machine.Command.TheVariants as command
use Rattle.qls_model.proofs.MachineLaws.{settle-in_turn}
use Rattle.qls_model.proofs.SoundLaws.{other_way}

step_abort : (S : MachineState) (x : List ℕ) → IsSome (xid_named x S.xids) → (step_line S (Some (command.Abort x))).0 ≡ ended x verdict.Abort S
step_abort S x there = by (xid_named x S.xids) there
  where
    by : (o : Option XidState) → IsSome o → (answered S (command.Abort x) (first_true ((is_none o, refusal.Xid) ∷ []))).0 ≡ ended x verdict.Abort S
    by None h = absurd (false≢true h)
    by (Some e) h = refl

-- ---- an entry among others

there : (before after : List XidState) (e : XidState) → IsSome (xid_named e.xid (before ++ e ∷ after))
there [] after e = ap (λ b. is_some (cond b (Some e) (xid_named e.xid after))) ((bytes_decides e.xid e.xid).1 refl)
there (f ∷ before) after e = by (same f.xid e.xid) (there before after e)
  where
    by : (b : Bool) → IsSome (xid_named e.xid (before ++ e ∷ after)) → IsSome (cond b (Some f) (xid_named e.xid (before ++ e ∷ after)))
    by true h = refl
    by false h = h

all_at : (P : XidState → Type 0) (before after : List XidState) (e : XidState) → AllByRecursion P (before ++ e ∷ after) → P e
all_at P [] after e h = h.0
all_at P (f ∷ before) after e h = all_at P before after e h.1

all_others : (P : XidState → Type 0) (before after : List XidState) (e : XidState) → AllByRecursion P (before ++ e ∷ after) → AllByRecursion P (before ++ after)
all_others P [] after e h = h.1
all_others P (f ∷ before) after e h = (h.0, all_others P before after e h.1)

once_others : (before after : List XidState) (e : XidState) → XidsOnce (before ++ e ∷ after) → XidsOnce (before ++ after)
once_others [] after e h = h.1
once_others (f ∷ before) after e h = (all_others (λ g. same g.xid f.xid ≡ false) before after e h.0, once_others before after e h.1)

none_gone : (x : List ℕ) (xs : List XidState) → AllByRecursion (λ f. same f.xid x ≡ false) xs → without_xid x xs ≡ xs
none_gone x [] h = refl
none_gone x (f ∷ xs) h = ap (λ b. cond (not b) (f ∷ without_xid x xs) (without_xid x xs)) h.0 ∙ ap (λ (ys : List XidState). f ∷ ys) (none_gone x xs h.1)

one_gone : (before after : List XidState) (e : XidState) → XidsOnce (before ++ e ∷ after) → without_xid e.xid (before ++ e ∷ after) ≡ before ++ after
one_gone [] after e h =
    ap (λ b. cond (not b) (e ∷ without_xid e.xid after) (without_xid e.xid after)) ((bytes_decides e.xid e.xid).1 refl) ∙ none_gone e.xid after h.0
one_gone (f ∷ before) after e h =
    let gone = without_xid e.xid (before ++ e ∷ after) in
    let differs : same f.xid e.xid ≡ false = other_way e.xid f.xid (all_at (λ g. same g.xid f.xid ≡ false) before after e h.0) in
    ap (λ b. cond (not b) (f ∷ gone) gone) differs ∙ ap (λ (ys : List XidState). f ∷ ys) (one_gone before after e h.1)

-- ---- each open xid in turn

abbrev kept : List XidState → List XidState
kept xs = filter (λ e. is_prepared e.phase) xs

abbrev state : List QueueState → List XidState → MachineState
state qs xs = record { queues = qs; xids = xs }

-- the xids before these are left
abbrev Runs : List XidState → List XidState → List QueueState → Type 0
Runs before xs qs = state_after (state qs (before ++ xs)) (aborts (open_xids xs)) ≡ state (aborted_in_turn (open_xids xs) qs) (before ++ kept xs)

one_run : (before xs : List XidState) (e : XidState) (qs : List QueueState) → XidsOnce (before ++ e ∷ xs)
    → (((before' : List XidState) (rs : List QueueState) → XidsOnce (before' ++ xs) → Runs before' xs rs)) → (b : Bool)
    → state_after (state qs (before ++ e ∷ xs)) (aborts (cond b (open_xids xs) (e.xid ∷ open_xids xs)))
    ≡ state (aborted_in_turn (cond b (open_xids xs) (e.xid ∷ open_xids xs)) qs) (before ++ cond b (e ∷ kept xs) (kept xs))
one_run before xs e qs once ih true =
    let moved : (ys : List XidState) → (before ++ e ∷ []) ++ ys ≡ before ++ e ∷ ys = λ ys. append_assoc before (e ∷ []) ys in
    ap (λ ys. state_after (state qs ys) (aborts (open_xids xs))) (sym (moved xs))
    ∙ ih (before ++ e ∷ []) qs (subst XidsOnce (sym (moved xs)) once)
    ∙ ap (state (aborted_in_turn (open_xids xs) qs)) (moved (kept xs))
one_run before xs e qs once ih false =
    let stepped = step_abort (state qs (before ++ e ∷ xs)) e.xid (there before xs e) in
    ap (λ S. state_after S (aborts (open_xids xs))) (stepped ∙ ap (state (map (decided (only e.xid verdict.Abort)) qs)) (one_gone before xs e once))
    ∙ ih before (map (decided (only e.xid verdict.Abort)) qs) (once_others before xs e once)

runs : (xs before : List XidState) (qs : List QueueState) → XidsOnce (before ++ xs) → Runs before xs qs
runs [] before qs once = refl
runs (e ∷ xs) before qs once = one_run before xs e qs once (runs xs) (is_prepared e.phase)

pub aborts-settle : (S : MachineState) → XidsOnce S.xids → state_after S (aborts (open_xids S.xids)) ≡ settle S
aborts-settle S once = runs S.xids [] S.queues once ∙ ap (λ qs. state qs (kept S.xids)) (sym (settle-in_turn S once))
