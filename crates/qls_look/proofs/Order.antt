-- What comes before stands in front: queues by name, and xids.
use Rattle.std.proofs.Common.{◌≡◌, ℕ, true, false, cond, List, [], ◌∷◌, ◌++◌, Some, None, refl, ap, sym, ◌∙◌}
use Rattle.std.specs.List.{AllByRecursion, filter_map, cons_option}
use Rattle.std.specs.Ordering.{nat_cmp, is_eq, is_lt, ordering_reverse}
use Rattle.std.specs.Cmp.Lexicographic.{slice_cmp}
use Rattle.std.proofs.lemmas.Cmp.{nat_list_cmp_total}
use Rattle.std.proofs.lemmas.Map.Text.{is_eq-slice_cmp}
use Rattle.qls_model.specs.Bytes.{same, comes_before}
use Rattle.qls_model.specs.Machine.{XidState, queue_named, xid_named, with_queue, with_xid}
use Rattle.qls_model.specs.declared.machine.QueueState.{QueueState}
use Rattle.qls_decide.specs.declared.ListState.{ListState}
use Rattle.qls_decide.specs.declared.ListState.TheVariants.{Prepared, OnePhase, DecidedCommit, DecidedAbort}
use Rattle.qls_decide.specs.declared.ListEntry.{ListEntry}
use Rattle.qls_meaning.specs.Meaning.{in_doubt, doubt_by}
use Rattle.qls_laws.proofs.EntryOrder.{is_less}
use Rattle.qls_look.specs.Seen.{NamesBefore, with_doubt}

-- ---- byte order

pub not_after : (a b : List ℕ) → comes_before a b ≡ true → comes_before b a ≡ false
not_after a b h = ap is_lt (nat_list_cmp_total.antisymm b a ∙ ap ordering_reverse (is_less (slice_cmp nat_cmp a b) h))

pub not_same : (a b : List ℕ) → comes_before a b ≡ true → same a b ≡ false
not_same a b h = sym (is_eq-slice_cmp a b) ∙ ap is_eq (is_less (slice_cmp nat_cmp a b) h)

-- ---- queues

pub queue_absent : (name : List ℕ) (qs : List QueueState) → NamesBefore name qs → queue_named name qs ≡ None
queue_absent name [] h = refl
queue_absent name (q ∷ qs) h = ap (λ b. cond b (Some q) (queue_named name qs)) (not_same q.name name h.0) ∙ queue_absent name qs h.1

pub queue_last : (q : QueueState) (qs : List QueueState) → NamesBefore q.name qs → with_queue q qs ≡ qs ++ q ∷ []
queue_last q [] h = refl
queue_last q (r ∷ qs) h = ap (λ b. cond b (q ∷ r ∷ qs) (r ∷ with_queue q qs)) (not_after r.name q.name h.0) ∙ ap (λ (rs : List QueueState). r ∷ rs) (queue_last q qs h.1)

pub before_more : (name : List ℕ) (q : QueueState) (qs : List QueueState) → NamesBefore name qs → comes_before q.name name ≡ true → NamesBefore name (qs ++ q ∷ [])
before_more name q [] h e = (e, tt)
before_more name q (r ∷ qs) h e = (h.0, before_more name q qs h.1 e)

-- ---- xids in doubt

-- the xids of these entries come before this one
abbrev pub XidsBefore : List ℕ → List ListEntry → Type 0
XidsBefore x es = AllByRecursion (λ e. comes_before e.xid x ≡ true) es

absent_by : (s : ListState) (y x : List ℕ) (xs : List XidState) → comes_before y x ≡ true → xid_named x xs ≡ None → xid_named x (cons_option (doubt_by s y) xs) ≡ None
absent_by Prepared y x xs h r = ap (λ b. cond b (doubt_by Prepared y) (xid_named x xs)) (not_same y x h) ∙ r
absent_by OnePhase y x xs h r = r
absent_by DecidedCommit y x xs h r = r
absent_by DecidedAbort y x xs h r = r

pub xid_absent : (x : List ℕ) (es : List ListEntry) → XidsBefore x es → xid_named x (filter_map in_doubt es) ≡ None
xid_absent x [] h = refl
xid_absent x (e ∷ es) h = absent_by e.state e.xid x (filter_map in_doubt es) h.0 (xid_absent x es h.1)

last_by : (s : ListState) (y : List ℕ) (e : XidState) (xs ys : List XidState) → comes_before y e.xid ≡ true → with_xid e xs ≡ ys → with_xid e (cons_option (doubt_by s y) xs) ≡ cons_option (doubt_by s y) ys
last_by Prepared y e xs ys h r = ap (λ b. cond b (e ∷ cons_option (doubt_by Prepared y) xs) (cons_option (doubt_by Prepared y) (with_xid e xs))) (not_after y e.xid h) ∙ ap (cons_option (doubt_by Prepared y)) r
last_by OnePhase y e xs ys h r = r
last_by DecidedCommit y e xs ys h r = r
last_by DecidedAbort y e xs ys h r = r

xid_last : (e : XidState) (es : List ListEntry) → XidsBefore e.xid es → with_xid e (filter_map in_doubt es) ≡ filter_map in_doubt es ++ e ∷ []
xid_last e [] h = refl
xid_last e (f ∷ es) h = last_by f.state f.xid e (filter_map in_doubt es) (filter_map in_doubt es ++ e ∷ []) h.0 (xid_last e es h.1) ∙ moved f.state f.xid e (filter_map in_doubt es)
  where
    moved : (s : ListState) (y : List ℕ) (e : XidState) (xs : List XidState) → cons_option (doubt_by s y) (xs ++ e ∷ []) ≡ cons_option (doubt_by s y) xs ++ e ∷ []
    moved Prepared y e xs = refl
    moved OnePhase y e xs = refl
    moved DecidedCommit y e xs = refl
    moved DecidedAbort y e xs = refl

none_more : (xs : List XidState) → xs ≡ xs ++ []
none_more [] = refl
none_more (x ∷ xs) = ap (λ (ys : List XidState). x ∷ ys) (none_more xs)

doubt_last : (s : ListState) (x : List ℕ) (es : List ListEntry) → XidsBefore x es → with_doubt (doubt_by s x) (filter_map in_doubt es) ≡ filter_map in_doubt es ++ cons_option (doubt_by s x) []
doubt_last Prepared x es h = xid_last _ es h
doubt_last OnePhase x es h = none_more (filter_map in_doubt es)
doubt_last DecidedCommit x es h = none_more (filter_map in_doubt es)
doubt_last DecidedAbort x es h = none_more (filter_map in_doubt es)

doubts_more : (es fs : List ListEntry) → filter_map in_doubt (es ++ fs) ≡ filter_map in_doubt es ++ filter_map in_doubt fs
doubts_more [] fs = refl
doubts_more (e ∷ es) fs = ap (cons_option (in_doubt e)) (doubts_more es fs) ∙ by e.state e.xid (filter_map in_doubt es) (filter_map in_doubt fs)
  where
    by : (s : ListState) (x : List ℕ) (xs ys : List XidState) → cons_option (doubt_by s x) (xs ++ ys) ≡ cons_option (doubt_by s x) xs ++ ys
    by Prepared x xs ys = refl
    by OnePhase x xs ys = refl
    by DecidedCommit x xs ys = refl
    by DecidedAbort x xs ys = refl

pub doubt_next : (e : ListEntry) (es : List ListEntry) → XidsBefore e.xid es → with_doubt (in_doubt e) (filter_map in_doubt es) ≡ filter_map in_doubt (es ++ e ∷ [])
doubt_next e es h = doubt_last e.state e.xid es h ∙ sym (doubts_more es (e ∷ []))
