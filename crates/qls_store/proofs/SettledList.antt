-- The entries of the prepared list as a store is opened: those that end, each once, and those that stay, which are in doubt.
use Rattle.std.proofs.Common.{◌≡◌, ℕ, Bool, true, false, not, ◌||◌, cond, List, [], ◌∷◌, map, filter, Option, Some, None, refl, sym, ap, subst, ◌∙◌}
use Rattle.std.specs.List.{AllByRecursion, IsDistinct, filter_map, cons_option, list_any}
use Rattle.qls_model.specs.Bytes.{same, comes_before, is_listed}
use Rattle.qls_model.proofs.XidKeys.{same_true, same_self}
use Rattle.qls_model.specs.Machine.{XidState, xid_named}
use Rattle.qls_model.specs.declared.machine.QueueState.{QueueState}
use Rattle.qls_model.specs.declared.machine.Phase.TheVariants as phase
use Rattle.qls_model.specs.declared.machine.Verdict.{Verdict}
use Rattle.qls_model.specs.declared.machine.Verdict.TheVariants.{Commit, Abort, Doubt}
use Rattle.qls_decide.specs.declared.ListEntry.{ListEntry}
use Rattle.qls_decide.specs.declared.ListState.{ListState}
use Rattle.qls_decide.specs.declared.ListState.TheVariants.{Prepared, OnePhase, DecidedCommit, DecidedAbort}
use Rattle.qls_decide.specs.Entries.{entry_of, state_of, verdict_by, verdict_for}
use Rattle.qls_meaning.specs.Meaning.{in_doubt, doubt_by}
use Rattle.qls_prepared.specs.Lists.{XidsRise, MayEnd, MayEndBy}
use Rattle.qls_prepared.specs.Records.{without_entries}
use Rattle.qls_queue.specs.Answers.{is_pending}
use Rattle.qls_store.specs.Opening.{is_settled_by, settled_xids}
use Rattle.qls_store.specs.Settling.{IsDoubted, entries_kept, doubt_of}
use Rattle.qls_store.proofs.Keys.{all_weaken, before_differs, behind_differs}

abbrev settles : ListEntry → Bool
settles e = is_settled_by e.state

abbrev ending : List ListEntry → List ListEntry
ending es = filter settles es

true_false : true ≡ false → ⊥
true_false e = cc

all_both : {A : Type 0} (P Q R : A → Type 0) → ((a : A) → P a → Q a → R a) → (xs : List A) → AllByRecursion P xs → AllByRecursion Q xs → AllByRecursion R xs
all_both P Q R f [] h k = tt
all_both P Q R f (x ∷ xs) h k = (f x h.0 k.0, all_both P Q R f xs h.1 k.1)

-- ---- each is found by its xid

pub each_found : (es : List ListEntry) → XidsRise es → AllByRecursion (λ e. entry_of e.xid es ≡ Some e) es
each_found [] h = tt
each_found (f ∷ es) h = (
  ap (λ b. cond b (Some f) (entry_of f.xid es)) (same_self f.xid),
  all_both (λ e. comes_before f.xid e.xid ≡ true) (λ e. entry_of e.xid es ≡ Some e) (λ e. entry_of e.xid (f ∷ es) ≡ Some e)
      (λ e b i. ap (λ c. cond c (Some f) (entry_of e.xid es)) (before_differs f.xid e.xid b) ∙ i) es h.0 (each_found es h.1),
)

-- ---- those that end

-- what holds of each entry that is settled holds of their xids
settled_all : (P : ListEntry → Type 0) (Q : List ℕ → Type 0) → ((e : ListEntry) → P e → settles e ≡ true → Q e.xid) → (es : List ListEntry) → AllByRecursion P es → AllByRecursion Q (settled_xids es)
settled_all P Q f [] h = tt
settled_all P Q f (e ∷ es) h = by (settles e) refl (settled_all P Q f es h.1)
  where
    by : (b : Bool) → settles e ≡ b → AllByRecursion Q (settled_xids es) → AllByRecursion Q (map (λ e. e.xid) (cond b (e ∷ ending es) (ending es)))
    by true is k = (f e h.0 is, k)
    by false is k = k

may_end_by : (s : ListState) → is_settled_by s ≡ true → MayEndBy s
may_end_by Prepared h = absurd (cc)
may_end_by OnePhase h = tt
may_end_by DecidedCommit h = tt
may_end_by DecidedAbort h = tt

-- each is decided or of one phase
pub settled_end : (es : List ListEntry) → XidsRise es → AllByRecursion (λ x. MayEnd (entry_of x es)) (settled_xids es)
settled_end es h = settled_all (λ e. entry_of e.xid es ≡ Some e) (λ x. MayEnd (entry_of x es)) (λ e i s. subst MayEnd (sym i) (may_end_by e.state s)) es (each_found es h)

not_doubted : (s : ListState) → is_settled_by s ≡ true → verdict_for (Some s) ≡ Doubt → ⊥
not_doubted Prepared h e = cc
not_doubted OnePhase h e = cc
not_doubted DecidedCommit h e = cc
not_doubted DecidedAbort h e = cc

-- and isn't in doubt, so nothing is pending by it where all that is pending is in doubt
pub settled_unpending : (es : List ListEntry) (qs : List QueueState) → XidsRise es → AllByRecursion (IsDoubted (verdict_by es)) qs → AllByRecursion (λ x. AllByRecursion (λ q. is_pending x q ≡ false) qs) (settled_xids es)
settled_unpending es qs h d =
    settled_all (λ e. entry_of e.xid es ≡ Some e) (λ x. AllByRecursion (λ q. is_pending x q ≡ false) qs)
    (λ e i s. all_weaken (IsDoubted (verdict_by es)) (λ q. is_pending e.xid q ≡ false) (λ q k. none e i s q k (is_pending e.xid q) refl) qs d) es (each_found es h)
  where
    none : (e : ListEntry) → entry_of e.xid es ≡ Some e → settles e ≡ true → (q : QueueState) → IsDoubted (verdict_by es) q → (b : Bool) → is_pending e.xid q ≡ b → b ≡ false
    none e i s q k true p = absurd (not_doubted e.state s (sym (ap (λ o. verdict_for (state_of o)) i) ∙ k e.xid p))
    none e i s q k false p = refl

behind_settled : (x : List ℕ) (es : List ListEntry) → AllByRecursion (λ e. comes_before x e.xid ≡ true) es → AllByRecursion (λ y. same x y ≡ false) (settled_xids es)
behind_settled x es h = settled_all (λ e. comes_before x e.xid ≡ true) (λ y. same x y ≡ false) (λ e b s. before_differs x e.xid b) es h

-- none of them stands twice
pub settled_once : (es : List ListEntry) → XidsRise es → IsDistinct same (settled_xids es)
unfolding IsDistinct
settled_once [] h = tt
settled_once (e ∷ es) h = by (settles e) (settled_once es h.1)
  where
    by : (b : Bool) → IsDistinct same (settled_xids es) → IsDistinct same (map (λ e. e.xid) (cond b (e ∷ ending es) (ending es)))
    by true k = (behind_settled e.xid es h.0, k)
    by false k = k

-- ---- those that stay

unlisted : (x : List ℕ) (ys : List (List ℕ)) → AllByRecursion (λ y. same x y ≡ false) ys → is_listed x ys ≡ false
unlisted x [] h = refl
unlisted x (y ∷ ys) h = ap (λ b. b || is_listed x ys) h.0 ∙ unlisted x ys h.1

-- an xid of the list is among those that end exactly where its entry does
listed_settled : (es : List ListEntry) → XidsRise es → AllByRecursion (λ e. is_listed e.xid (settled_xids es) ≡ settles e) es
listed_settled [] h = tt
listed_settled (f ∷ es) h = (
  own (settles f),
  all_both (λ e. comes_before f.xid e.xid ≡ true) (λ e. is_listed e.xid (settled_xids es) ≡ settles e) (λ e. is_listed e.xid (settled_xids (f ∷ es)) ≡ settles e) (λ e b i. other e b i (settles f)) es h.0
      (listed_settled es h.1),
)
  where
    own : (b : Bool) → is_listed f.xid (map (λ e. e.xid) (cond b (f ∷ ending es) (ending es))) ≡ b
    own true = ap (λ b. b || is_listed f.xid (settled_xids es)) (same_self f.xid)
    own false = unlisted f.xid (settled_xids es) (behind_settled f.xid es h.0)

    other : (e : ListEntry) → comes_before f.xid e.xid ≡ true → is_listed e.xid (settled_xids es) ≡ settles e → (b : Bool) → is_listed e.xid (map (λ e. e.xid) (cond b (f ∷ ending es) (ending es))) ≡ settles e
    other e b i true = ap (λ c. c || is_listed e.xid (settled_xids es)) (behind_differs e.xid f.xid b) ∙ i
    other e b i false = i

filter_same : {A : Type 0} (t u : A → Bool) (xs : List A) → AllByRecursion (λ a. t a ≡ u a) xs → filter t xs ≡ filter u xs
filter_same t u [] h = refl
filter_same {A} t u (x ∷ xs) h = (λ i. cond (h.0 i) (x ∷ filter t xs) (filter t xs)) ∙ ap (λ (ys : List A). cond (u x) (x ∷ ys) ys) (filter_same t u xs h.1)

pub settled_leave : (es : List ListEntry) → XidsRise es → without_entries (settled_xids es) es ≡ entries_kept es
settled_leave es h =
    filter_same (λ e. not (is_listed e.xid (settled_xids es))) (λ e. not (settles e)) es
    (all_weaken (λ e. is_listed e.xid (settled_xids es) ≡ settles e) (λ e. not (is_listed e.xid (settled_xids es)) ≡ not (settles e)) (λ e i. ap not i) es (listed_settled es h))

-- where none ends all stay
pub none_settled : (es : List ListEntry) → settled_xids es ≡ [] → es ≡ entries_kept es
none_settled [] h = refl
none_settled (e ∷ es) h = by (settles e) refl h (none_settled es)
  where
    by : (b : Bool) → settles e ≡ b → map (λ e. e.xid) (cond b (e ∷ ending es) (ending es)) ≡ [] → (settled_xids es ≡ [] → es ≡ entries_kept es) → e ∷ es ≡ cond (not b) (e ∷ entries_kept es) (entries_kept es)
    by true is k next = absurd (cc)
    by false is k next = ap (λ (fs : List ListEntry). e ∷ fs) (next k)

prepared_stays : (s : ListState) → s ≡ Prepared → is_settled_by s ≡ false
prepared_stays s e = ap is_settled_by e

pub all_prepared : (es : List ListEntry) → AllByRecursion (λ e. e.state ≡ Prepared) es → settled_xids es ≡ []
all_prepared [] h = refl
all_prepared (e ∷ es) h = ap (λ b. map (λ e. e.xid) (cond b (e ∷ ending es) (ending es))) (prepared_stays e.state h.0) ∙ all_prepared es h.1

unsettled : (s : ListState) → is_settled_by s ≡ false → s ≡ Prepared
unsettled Prepared h = refl
unsettled OnePhase h = absurd (cc)
unsettled DecidedCommit h = absurd (cc)
unsettled DecidedAbort h = absurd (cc)

pub kept_prepared : (es : List ListEntry) → AllByRecursion (λ e. e.state ≡ Prepared) (entries_kept es)
kept_prepared [] = tt
kept_prepared (e ∷ es) = by (settles e) refl (kept_prepared es)
  where
    by : (b : Bool) → settles e ≡ b → AllByRecursion (λ e. e.state ≡ Prepared) (entries_kept es) → AllByRecursion (λ e. e.state ≡ Prepared) (cond (not b) (e ∷ entries_kept es) (entries_kept es))
    by true is k = k
    by false is k = (unsettled e.state is, k)

-- who is in doubt by all entries is so by those that stay
pub doubt_kept : (x : List ℕ) (es : List ListEntry) → verdict_by es x ≡ Doubt → verdict_by (entries_kept es) x ≡ Doubt
doubt_kept x [] h = h
doubt_kept x (e ∷ es) h = by (same e.xid x) refl e.state refl h (doubt_kept x es)
  where
    own : same e.xid x ≡ true → e.state ≡ Prepared → verdict_by (entries_kept (e ∷ es)) x ≡ Doubt
    own s p =
        ap (λ b. verdict_by (cond (not b) (e ∷ entries_kept es) (entries_kept es)) x) (prepared_stays e.state p)
        ∙ ap (λ b. verdict_for (state_of (cond b (Some e) (entry_of x (entries_kept es))))) s ∙ ap (λ s. verdict_for (Some s)) p

    other : same e.xid x ≡ false → verdict_by (entries_kept es) x ≡ Doubt → (b : Bool) → verdict_by (cond (not b) (e ∷ entries_kept es) (entries_kept es)) x ≡ Doubt
    other s k true = k
    other s k false = ap (λ b. verdict_for (state_of (cond b (Some e) (entry_of x (entries_kept es))))) s ∙ k

    clash : Commit ≡ Doubt → ⊥
    clash e = cc

    clashes : Abort ≡ Doubt → ⊥
    clashes e = cc

    by : (b : Bool) → same e.xid x ≡ b → (s : ListState) → e.state ≡ s → verdict_for (state_of (cond b (Some e) (entry_of x es))) ≡ Doubt → (verdict_by es x ≡ Doubt → verdict_by (entries_kept es) x ≡ Doubt) → verdict_by (entries_kept (e ∷ es)) x ≡ Doubt
    by true is Prepared p h next = own is p
    by true is OnePhase p h next = absurd (clashes (sym (ap (λ s. verdict_for (Some s)) p) ∙ h))
    by true is DecidedCommit p h next = absurd (clash (sym (ap (λ s. verdict_for (Some s)) p) ∙ h))
    by true is DecidedAbort p h next = absurd (clashes (sym (ap (λ s. verdict_for (Some s)) p) ∙ h))
    by false is s p h next = other is (next h) (settles e)

-- ---- the xids in doubt

pub doubts_kept : (es : List ListEntry) → filter_map in_doubt es ≡ map doubt_of (entries_kept es)
doubts_kept [] = refl
doubts_kept (e ∷ es) = by e.state (doubts_kept es)
  where
    by : (s : ListState) → filter_map in_doubt es ≡ map doubt_of (entries_kept es) → cons_option (doubt_by s e.xid) (filter_map in_doubt es) ≡ map doubt_of (cond (not (is_settled_by s)) (e ∷ entries_kept es) (entries_kept es))
    by Prepared h = ap (λ (xs : List XidState). doubt_of e ∷ xs) h
    by OnePhase h = h
    by DecidedCommit h = h
    by DecidedAbort h = h

-- who is in doubt is there
pub doubt_named : (x : List ℕ) (es : List ListEntry) → verdict_by es x ≡ Doubt → (e : XidState) × (xid_named x (map doubt_of es) ≡ Some e)
doubt_named x [] h = absurd (cc)
doubt_named x (e ∷ es) h = by (same e.xid x) h (doubt_named x es)
  where
    by : (b : Bool) → verdict_for (state_of (cond b (Some e) (entry_of x es))) ≡ Doubt → (verdict_by es x ≡ Doubt → (f : XidState) × (xid_named x (map doubt_of es) ≡ Some f))
        → (f : XidState) × (cond b (Some (doubt_of e)) (xid_named x (map doubt_of es)) ≡ Some f)
    by true h next = (doubt_of e, refl)
    by false h next = next h
