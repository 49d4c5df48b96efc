use Rattle.std.proofs.Common.{◌≡◌, ℕ, ◌<◌, true, false, List, [], ◌++◌, ◌∷◌, length, map, None, cond, option_to_list, refl, sym, ap, subst, ◌∙◌, append-nil, arith}
use Rattle.qls_model.specs.declared.machine.Verdict.{Verdict}
use Rattle.std.specs.List.Sorted.{IsStrictlySortedBy}
use Rattle.std.specs.Ordering.{nat_cmp}
use Rattle.std.specs.Cmp.Lexicographic.{slice_cmp}
use Rattle.qls_decide.specs.declared.End.{End}
use Rattle.qls_decide.specs.Entries.{verdict_by, verdict_for, entry_of, state_of}
use Rattle.qls_decide.specs.Ends.{end_by, end_of}
use Rattle.qls_model.proofs.XidKeys.{looked_up-as}
use Rattle.qls_decide.proofs.Planned.{ends_by, more_ends, ends_in_order, end_of-ends_by}
use Rattle.qls_model.specs.Bytes.{is_listed}
use Rattle.qls_decide.proofs.plan.plan_settle.Goals as goal

pub loop-xid-preserved : goal.loop-xid-preserved
loop-xid-preserved c =
    let v = verdict_by c.args.entries.now in
    let x = c.in-Some.xid in
    let rest = ends_by v c.pop_first.new.self.keys in
    let found = c.copied-state.ensures ∙ c.get.ensures.value ∙ looked_up-as c.in_ok-states.states x ∙ c.in_ok-states.ensures.states x ∙ ap (λ es. state_of (entry_of x es)) c.as_slice.ensures.same in
    ap (λ l. l ++ rest) (c.in_ok-add_end.ensures.added ∙ ap (λ w. c.loop-xid.ends ++ option_to_list (end_by w x)) (c.verdict_of.ensures.table ∙ ap verdict_for found))
    ∙ more_ends c.loop-xid.ends (end_by (v x) x) rest
    ∙ ap (λ ks. c.loop-xid.ends ++ ends_by v ks) (sym c.in-Some.ensures.removal)
    ∙ c.loop-xid.invariant

none_left : (ks : List (List ℕ)) → (0 < length ks → false ≡ true) → ks ≡ []
none_left [] h = refl
none_left (k ∷ ks) h = let e : false ≡ true = h (omega arith) in absurd (cc)

all_ends : (v : List ℕ → Verdict) (ends all : List End) (ks : List (List ℕ)) → ks ≡ [] → ends ++ ends_by v ks ≡ all → ends ≡ all
all_ends v ends all ks n h = sym (append-nil ends) ∙ ap (λ l. ends ++ ends_by v l) (sym n) ∙ h

pub returns-clause-once_in_order : goal.returns-clause-once_in_order
returns-clause-once_in_order c =
    let v = verdict_by c.args.entries.now in
    let e = all_ends v c.loop-xid.ends (ends_by v c.in_ok-xids.xids.keys) c.loop-xid.xids.keys (none_left _ c.in_default.ensures.variant.1) c.loop-xid.invariant in
    subst (λ ends. IsStrictlySortedBy (slice_cmp nat_cmp) (map (λ e. e.xid) ends)) (sym e) (ends_in_order (slice_cmp nat_cmp) v c.in_ok-xids.xids.keys c.in_ok-xids.ensures.ordered)

pub returns-clause-each : goal.returns-clause-each
returns-clause-each c =
    let v = verdict_by c.args.entries.now in
    let e = all_ends v c.loop-xid.ends (ends_by v c.in_ok-xids.xids.keys) c.loop-xid.xids.keys (none_left _ c.in_default.ensures.variant.1) c.loop-xid.invariant in
    λ x. ap (λ ends. end_of x ends) e ∙ end_of-ends_by v x c.in_ok-xids.xids.keys
    ∙ ap (λ b. cond b (end_by (v x) x) None) (c.in_ok-xids.ensures.listed x ∙ ap (λ xs. is_listed x xs) c.as_slice-2.ensures.same)
