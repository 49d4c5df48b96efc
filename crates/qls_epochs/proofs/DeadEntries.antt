-- What the records of a dead file made of the list's entries is gone behind the other records.
use Rattle.std.proofs.Common.{◌≡◌, ℕ, Bool, true, false, cond, not, ◌&&◌, ◌||◌, List, [], ◌∷◌, ◌++◌, map, Option, Some, None, refl, sym, ap, ◌∙◌, subst, arith, eqb, ltb}
use Rattle.std.proofs.lemmas.Bool.Decides.{nat_tests}
use Rattle.std.specs.List.{AllByRecursion, filter, list_any}
use Rattle.qls_model.specs.Bytes.{same, comes_before}
use Rattle.qls_record.specs.declared.Kind.{Kind}
use Rattle.qls_record.specs.declared.Kind.TheVariants.{Enqueue, Dequeue, Commit, Abort, Filler}
use Rattle.qls_record.specs.Record.{Record, is_enqueue}
use Rattle.qls_decide.specs.declared.ListEntry.{ListEntry}
use Rattle.qls_decide.specs.Entries.{entry_of, without_entry, placed_entry, with_entry}
use Rattle.qls_meaning.specs.Replay.{xid_in, entry_state, decision, is_undecided, decide_entry, prepare_entry, after_list_record, entries_after}
use Rattle.qls_laws.proofs.EntryOrder.{Sorted, Lacks, sorted_filtered, sorted_with, with_in, with_out, filters_swap, without_lacking, none_lacking, lacks_if_none, lacks_filtered, found_xid, found_in, lacks_out}
use Rattle.qls_epochs.proofs.Replayed.{entries_both}
use Rattle.qls_laws.proofs.DeadQueue.{EnqueuesHave, NotHeld}

-- ---- what holds of the rids of entries

abbrev AllRids : (ℕ → Type 0) → List ListEntry → Type 0
AllRids P es = AllByRecursion (λ e. P e.rid) es

rids_filtered : (P : ℕ → Type 0) (t : ListEntry → Bool) (es : List ListEntry) → AllRids P es → AllRids P (filter t es)
rids_filtered P t [] h = tt
rids_filtered P t (e ∷ es) h = elim (t e) as (λ b. AllRids P (cond b (e ∷ filter t es) (filter t es))) [ true ↦ (h.0, rids_filtered P t es h.1) | false ↦ rids_filtered P t es h.1 ]

rids_placed : (P : ℕ → Type 0) (e : ListEntry) (es : List ListEntry) → P e.rid → AllRids P es → AllRids P (placed_entry e es)
rids_placed P e [] p h = (p, tt)
rids_placed P e (f ∷ es) p h =
    elim (comes_before e.xid f.xid) as (λ b. AllRids P (cond b (e ∷ f ∷ es) (f ∷ placed_entry e es))) [ true ↦ (p, h) | false ↦ (h.0, rids_placed P e es p h.1) ]

rids_with : (P : ℕ → Type 0) (e : ListEntry) (es : List ListEntry) → P e.rid → AllRids P es → AllRids P (with_entry e es)
rids_with P e es p h = rids_placed P e (without_entry e.xid es) p (rids_filtered P (λ f. not (same f.xid e.xid)) es h)

some_is : (e f : ListEntry) → Some e ≡ Some f → e ≡ f
some_is e f h = cc

found_rid : (P : ℕ → Type 0) (x : List ℕ) (e : ListEntry) (es : List ListEntry) → AllRids P es → entry_of x es ≡ Some e → P e.rid
found_rid P x e [] h k = absurd (cc)
found_rid P x e (f ∷ es) h k = by (same f.xid x) k (found_rid P x e es h.1)
  where
    by : (b : Bool) → cond b (Some f) (entry_of x es) ≡ Some e → (entry_of x es ≡ Some e → P e.rid) → P e.rid
    by true k rest = subst (λ (g : ListEntry). P g.rid) (some_is f e k) h.0
    by false k rest = rest k

rids_decided : (P : ℕ → Type 0) (r : Record) (o : Option ListEntry) (es : List ListEntry) → entry_of r.xid es ≡ o → AllRids P es → AllRids P (decide_entry r o es)
rids_decided P r None es k h = h
rids_decided P r (Some e) es k h =
    elim (eqb e.rid r.target && is_undecided e.state) as (λ b. AllRids P (cond b (with_entry (record e { state = decision r.flagged }) es) es)) [
      | true ↦ rids_with P (record e { state = decision r.flagged }) es (found_rid P r.xid e es h k) h
      | false ↦ h
    ]

rids_prepared : (P : ℕ → Type 0) (r : Record) (o : Option (List ℕ)) (es : List ListEntry) → P r.rid → AllRids P es → AllRids P (prepare_entry r o es)
rids_prepared P r None es p h = h
rids_prepared P r (Some x) es p h = rids_with P (record { xid = x; rid = r.rid; state = entry_state r.flagged }) es p h

rids_step : (P : ℕ → Type 0) (k : Kind) (r : Record) (es : List ListEntry) → (is_enqueue k ≡ true → P r.rid) → AllRids P es → AllRids P (after_list_record k r es)
rids_step P Enqueue r es p h = rids_prepared P r (xid_in r.xid) es (p refl) h
rids_step P Dequeue r es p h = rids_decided P r (entry_of r.xid es) es refl h
rids_step P Commit r es p h = rids_filtered P (λ f. not (same f.xid r.xid)) es h
rids_step P Abort r es p h = h
rids_step P Filler r es p h = h

-- entries have rids of enqueues
rids_after : (P : ℕ → Type 0) (rs : List Record) (es : List ListEntry) → EnqueuesHave P rs → AllRids P es → AllRids P (entries_after rs es)
rids_after P [] es e h = h
rids_after P (r ∷ rs) es e h = rids_after P rs (after_list_record r.kind r es) e.1 (rids_step P r.kind r es e.0 h)

-- ---- order

sorted_decided : (r : Record) (o : Option ListEntry) (es : List ListEntry) → Sorted es → Sorted (decide_entry r o es)
sorted_decided r None es h = h
sorted_decided r (Some e) es h =
    elim (eqb e.rid r.target && is_undecided e.state) as (λ b. Sorted (cond b (with_entry (record e { state = decision r.flagged }) es) es)) [ true ↦ sorted_with (record e { state = decision r.flagged }) es h | false ↦ h ]

sorted_prepared : (r : Record) (o : Option (List ℕ)) (es : List ListEntry) → Sorted es → Sorted (prepare_entry r o es)
sorted_prepared r None es h = h
sorted_prepared r (Some x) es h = sorted_with (record { xid = x; rid = r.rid; state = entry_state r.flagged }) es h

sorted_step : (k : Kind) (r : Record) (es : List ListEntry) → Sorted es → Sorted (after_list_record k r es)
sorted_step Enqueue r es h = sorted_prepared r (xid_in r.xid) es h
sorted_step Dequeue r es h = sorted_decided r (entry_of r.xid es) es h
sorted_step Commit r es h = sorted_filtered (λ f. not (same f.xid r.xid)) es h
sorted_step Abort r es h = h
sorted_step Filler r es h = h

sorted_after : (rs : List Record) (es : List ListEntry) → Sorted es → Sorted (entries_after rs es)
sorted_after [] es h = h
sorted_after (r ∷ rs) es h = sorted_after rs (after_list_record r.kind r es) (sorted_step r.kind r es h)

-- ---- the entries of later rids, alone

abbrev later : ℕ → ListEntry → Bool
later top e = ltb top e.rid

prepared_later : (top : ℕ) (r : Record) (o : Option (List ℕ)) (es : List ListEntry) → ltb top r.rid ≡ true → Sorted es → filter (later top) (prepare_entry r o es) ≡ prepare_entry r o (filter (later top) es)
prepared_later top r None es h o = refl
prepared_later top r (Some x) es h o = with_in (later top) (record { xid = x; rid = r.rid; state = entry_state r.flagged }) es h o

some_later : (top : ℕ) (r : Record) (e new : ListEntry) (es : List ListEntry) (b : Bool) → later top e ≡ b → new ≡ record e { state = decision r.flagged } → entry_of r.xid es ≡ Some e → Sorted es
    → filter (later top) (cond (eqb e.rid r.target && is_undecided e.state) (with_entry new es) es) ≡ decide_entry r (entry_of r.xid (filter (later top) es)) (filter (later top) es)
some_later top r e new es true h n k o =
    let left : List ListEntry = filter (later top) es in
    elim (eqb e.rid r.target && is_undecided e.state) as (λ b. filter (later top) (cond b (with_entry new es) es) ≡ cond b (with_entry (record e { state = decision r.flagged }) left) left) [
      | true ↦ with_in (later top) new es (ap (λ (x : ListEntry). ltb top x.rid) n ∙ h) o ∙ ap (λ x. with_entry x left) n
      | false ↦ refl
    ]
    ∙ sym (ap (λ p. decide_entry r p left) (found_in r.xid (later top) e es h k))
some_later top r e new es false h n k o =
    let left : List ListEntry = filter (later top) es in
    let none : Lacks r.xid left = lacks_out r.xid (later top) e es h o k in
    elim (eqb e.rid r.target && is_undecided e.state) as (λ b. filter (later top) (cond b (with_entry new es) es) ≡ left) [
      | true ↦ with_out (later top) new es (ap (λ (x : ListEntry). ltb top x.rid) n ∙ h) ∙ ap (λ x. without_entry x left) (ap (λ (x : ListEntry). x.xid) n ∙ found_xid r.xid e es k) ∙ without_lacking r.xid left none
      | false ↦ refl
    ]
    ∙ sym (ap (λ p. decide_entry r p left) (none_lacking r.xid left none))

decided_later : (top : ℕ) (r : Record) (o : Option ListEntry) (es : List ListEntry) → entry_of r.xid es ≡ o → Sorted es
    → filter (later top) (decide_entry r o es) ≡ decide_entry r (entry_of r.xid (filter (later top) es)) (filter (later top) es)
decided_later top r None es k o =
    sym (ap (λ p. decide_entry r p (filter (later top) es)) (none_lacking r.xid (filter (later top) es) (lacks_filtered r.xid (later top) es (lacks_if_none r.xid es k))))
decided_later top r (Some e) es k o = some_later top r e (record e { state = decision r.flagged }) es (later top e) refl refl k o

step_later : (top : ℕ) (k : Kind) (r : Record) (es : List ListEntry) → (is_enqueue k ≡ true → ltb top r.rid ≡ true) → Sorted es → filter (later top) (after_list_record k r es) ≡ after_list_record k r (filter (later top) es)
step_later top Enqueue r es h o = prepared_later top r (xid_in r.xid) es (h refl) o
step_later top Dequeue r es h o = decided_later top r (entry_of r.xid es) es refl o
step_later top Commit r es h o = filters_swap (later top) (λ f. not (same f.xid r.xid)) es
step_later top Abort r es h o = refl
step_later top Filler r es h o = refl

after_later : (top : ℕ) (rs : List Record) (es : List ListEntry) → EnqueuesHave (λ n. ltb top n ≡ true) rs → Sorted es → filter (later top) (entries_after rs es) ≡ entries_after rs (filter (later top) es)
after_later top [] es e o = refl
after_later top (r ∷ rs) es e o =
    after_later top rs (after_list_record r.kind r es) e.1 (sorted_step r.kind r es o) ∙ ap (entries_after rs) (step_later top r.kind r es e.0 o)

none_later : (top : ℕ) (es : List ListEntry) → AllRids (λ n. ltb top n ≡ false) es → filter (later top) es ≡ []
none_later top [] h = refl
none_later top (e ∷ es) h = ap (λ b. cond b (e ∷ filter (later top) es) (filter (later top) es)) h.0 ∙ none_later top es h.1

all_later : (top : ℕ) (es : List ListEntry) → AllRids (λ n. ltb top n ≡ true) es → filter (later top) es ≡ es
all_later top [] h = refl
all_later top (e ∷ es) h = ap (λ b. cond b (e ∷ filter (later top) es) (filter (later top) es)) h.0 ∙ ap (λ (xs : List ListEntry). e ∷ xs) (all_later top es h.1)

-- ---- what is held

abbrev IsHeld : List ℕ → ℕ → Type 0
IsHeld rids n = list_any (λ rid. eqb rid n) rids ≡ true

equal : (n : ℕ) → eqb n n ≡ true
equal n = grind (arith, nat_tests)

or_true : (a b : Bool) → b ≡ true → (a || b) ≡ true
or_true true b h = refl
or_true false b h = h

held_more : (rids : List ℕ) (es : List ListEntry) → ((n : ℕ) → IsHeld (map (λ e. e.rid) es) n → IsHeld rids n) → AllRids (IsHeld rids) es
held_more rids [] among = tt
held_more rids (e ∷ es) among = (
  among e.rid (ap (λ b. b || list_any (λ rid. eqb rid e.rid) (map (λ f. f.rid) es)) (equal e.rid)),
  held_more rids es (λ n h. among n (or_true (eqb e.rid n) (list_any (λ rid. eqb rid n) (map (λ f. f.rid) es)) h)),
)

only_later : (top : ℕ) (rids : List ℕ) (es : List ListEntry) → AllRids (λ n. ltb top n ≡ false → NotHeld rids n) es → AllRids (IsHeld rids) es → AllRids (λ n. ltb top n ≡ true) es
only_later top rids [] h k = tt
only_later top rids (e ∷ es) h k = (by (ltb top e.rid) refl, only_later top rids es h.1 k.1)
  where
    by : (b : Bool) → ltb top e.rid ≡ b → ltb top e.rid ≡ true
    by true i = i
    by false i = let none = h.0 i in let some = k.0 in absurd (cc)

pub weaker : (P Q : ℕ → Type 0) → ((n : ℕ) → P n → Q n) → (rs : List Record) → EnqueuesHave P rs → EnqueuesHave Q rs
weaker P Q f [] h = tt
weaker P Q f (r ∷ rs) h = (λ e. f r.rid (h.0 e), weaker P Q f rs h.1)

-- the rids that are held are those of the entries behind all records, and none of them is an enqueue's of the records before; these
-- have rids up to a top, and the records behind have greater ones: then the records behind make the same without them
pub entries_without : (before rest : List Record) (top : ℕ) (rids : List ℕ) → EnqueuesHave (λ n. ltb top n ≡ false) before → EnqueuesHave (λ n. ltb top n ≡ true) rest
    → EnqueuesHave (NotHeld rids) before → rids ≡ map (λ e. e.rid) (entries_after (before ++ rest) []) → entries_after rest [] ≡ entries_after (before ++ rest) []
entries_without before rest top rids below above none_held held =
    let all : List ListEntry = entries_after (before ++ rest) [] in
    let made : List ListEntry = entries_after before [] in
    let whole : all ≡ entries_after rest made = entries_both before rest [] in
    let none : filter (later top) made ≡ [] = none_later top made (rids_after (λ n. ltb top n ≡ false) before [] below tt) in
    let alone : filter (later top) all ≡ entries_after rest [] =
    ap (filter (later top)) whole ∙ after_later top rest made above (sorted_after before [] tt) ∙ ap (entries_after rest) none in
    let early : AllRids (λ n. ltb top n ≡ false → NotHeld rids n) all =
    subst (AllRids (λ n. ltb top n ≡ false → NotHeld rids n)) (sym whole)
    (rids_after (λ n. ltb top n ≡ false → NotHeld rids n) rest made (weaker (λ n. ltb top n ≡ true) (λ n. ltb top n ≡ false → NotHeld rids n) (λ n h k. absurd (cc)) rest above)
    (rids_after (λ n. ltb top n ≡ false → NotHeld rids n) before [] (weaker (NotHeld rids) (λ n. ltb top n ≡ false → NotHeld rids n) (λ n h k. h) before none_held) tt)) in
    let every : AllRids (λ n. ltb top n ≡ true) all = only_later top rids all early (held_more rids all (λ n h. ap (list_any (λ rid. eqb rid n)) held ∙ h)) in
    sym alone ∙ all_later top all every
