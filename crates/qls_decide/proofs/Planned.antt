-- The ends of a list of xids, each by its verdict.
use Rattle.std.proofs.Common.{◌≡◌, ℕ, Bool, true, false, ◌||◌, cond, List, [], ◌∷◌, ◌++◌, map, Option, Some, None, option_to_list, refl, ap, sym, subst, ◌∙◌, append_assoc}
use Rattle.std.specs.List.{filter, filter_map, cons_option}
use Rattle.std.specs.List.Sorted.{IsStrictlySortedBy}
use Rattle.std.specs.declared.cmp.Ordering.{Ordering}
use Rattle.std.proofs.lemmas.List.Kept.{IsStrictlySortedBy-filter}
use Rattle.qls_model.specs.Bytes.{same, is_listed}
use Rattle.qls_model.specs.declared.machine.Verdict.{Verdict}
use Rattle.qls_model.specs.declared.machine.Verdict.TheVariants.{Commit, Abort, Doubt}
use Rattle.qls_decide.specs.declared.End.{End}
use Rattle.qls_decide.specs.Ends.{end_by, end_of}
use Rattle.qls_model.proofs.XidKeys.{same_true}

-- the ends of the xids, each by its verdict
abbrev pub ends_by : (List ℕ → Verdict) → List (List ℕ) → List End
ends_by v xs = filter_map (λ x. end_by (v x) x) xs

-- ---- one more end

pub more_ends : (ends : List End) (o : Option End) (rest : List End) → (ends ++ option_to_list o) ++ rest ≡ ends ++ cons_option o rest
more_ends ends None rest = append_assoc ends [] rest
more_ends ends (Some e) rest = append_assoc ends (e ∷ []) rest

-- ---- in order, none twice

abbrev has_end : Verdict → Bool
has_end Commit = true
has_end Abort = true
has_end Doubt = false

xids_more : (w : Verdict) (k : List ℕ) (ends : List End) → map (λ e. e.xid) (cons_option (end_by w k) ends) ≡ cond (has_end w) (k ∷ map (λ e. e.xid) ends) (map (λ e. e.xid) ends)
xids_more Commit k ends = refl
xids_more Abort k ends = refl
xids_more Doubt k ends = refl

xids_kept : (v : List ℕ → Verdict) (ks : List (List ℕ)) → map (λ e. e.xid) (ends_by v ks) ≡ filter (λ x. has_end (v x)) ks
xids_kept v [] = refl
xids_kept v (k ∷ ks) = xids_more (v k) k (ends_by v ks) ∙ ap (λ l. cond (has_end (v k)) (k ∷ l) l) (xids_kept v ks)

pub ends_in_order : (c : List ℕ → List ℕ → Ordering) (v : List ℕ → Verdict) (ks : List (List ℕ)) → IsStrictlySortedBy c ks → IsStrictlySortedBy c (map (λ e. e.xid) (ends_by v ks))
ends_in_order c v ks h = subst (λ l. IsStrictlySortedBy c l) (sym (xids_kept v ks)) (IsStrictlySortedBy-filter c (λ x. has_end (v x)) ks h)

-- ---- each by its verdict

abbrev Names : List ℕ → Option End → Type 0
Names k None = Unit {0}
Names k (Some e) = e.xid ≡ k

names : (w : Verdict) (k : List ℕ) → Names k (end_by w k)
names Commit k = refl
names Abort k = refl
names Doubt k = tt

if_none : (l : Bool) (f found : Option End) → None ≡ f → found ≡ cond l f None → found ≡ f
if_none true f found n h = h
if_none false f found n h = h ∙ n

found_by : (x k : List ℕ) (o f : Option End) (ends : List End) (l b : Bool) → b ≡ same x k → Names k o → (b ≡ true → o ≡ f)
    → end_of x ends ≡ cond l f None → end_of x (cons_option o ends) ≡ cond (b || l) f None
found_by x k None f ends l true hb n h i = if_none l f (end_of x ends) (h refl) i
found_by x k None f ends l false hb n h i = i
found_by x k (Some e) f ends l true hb n h i =
    ap (λ z. cond (same x z) (Some e) (end_of x ends)) n ∙ ap (λ z. cond z (Some e) (end_of x ends)) (sym hb) ∙ h refl
found_by x k (Some e) f ends l false hb n h i =
    ap (λ z. cond (same x z) (Some e) (end_of x ends)) n ∙ ap (λ z. cond z (Some e) (end_of x ends)) (sym hb) ∙ i

-- an xid that is listed has the end of its verdict, and no other has one
pub end_of-ends_by : (v : List ℕ → Verdict) (x : List ℕ) (ks : List (List ℕ)) → end_of x (ends_by v ks) ≡ cond (is_listed x ks) (end_by (v x) x) None
end_of-ends_by v x [] = refl
end_of-ends_by v x (k ∷ ks) =
    found_by x k (end_by (v k) k) (end_by (v x) x) (ends_by v ks) (is_listed x ks) (same x k) refl (names (v k) k)
    (λ h. ap (λ z. end_by (v z) z) (sym (same_true x k h))) (end_of-ends_by v x ks)
