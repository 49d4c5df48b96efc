-- The entries that the records of the prepared list leave, and what they tell.
use Rattle.std.proofs.Common.{◌≡◌, ℕ, zero, suc, ◌+◌, ◌<◌, ◌≤◌, Bool, true, false, not, cond, List, [], ◌∷◌, ◌++◌, map, take, drop, length, get_or, Option, Some, None, refl, ap, sym, ◌∙◌, arith, eqb, ◌&&◌}
use Rattle.std.proofs.lemmas.Grind.{common_steps}
use Rattle.std.specs.List.{AllByRecursion, filter}
use Rattle.std.specs.Ordering.{is_lt}
use Rattle.qls_model.specs.Bytes.{same, comes_before}
use Rattle.qls_model.proofs.XidKeys.{same_true}
use Rattle.qls_record.specs.declared.Kind.{Kind}
use Rattle.qls_record.specs.declared.Kind.TheVariants.{Enqueue, Dequeue, Commit, Abort, Filler}
use Rattle.qls_record.specs.declared.Got.{Got}
use Rattle.qls_record.specs.Record.{Record, is_filler}
use Rattle.qls_decide.specs.declared.ListState.{ListState}
use Rattle.qls_decide.specs.declared.ListEntry.{ListEntry}
use Rattle.qls_decide.specs.Entries.{entry_of, state_of, with_entry}
use Rattle.qls_meaning.specs.Journals.{Journal}
use Rattle.qls_meaning.specs.Reading.{Read, read_of, journal_reading}
use Rattle.qls_meaning.specs.Replay.{xid_in, entry_state, decision, is_undecided, decide_entry, prepare_entry, after_list_record, entries_after}
use Rattle.qls_meaning.specs.Meaning.{records_of}
use Rattle.qls_laws.proofs.EntryOrder.{Sorted, AllAfter, sorted_filtered, sorted_with}
use Rattle.qls_reading.specs.ReadLogs.{ReadLogState, IsReadWhole}
use Rattle.qls_look.specs.Seen.{XidsRise}
use Rattle.qls_look.proofs.Order.{not_same, XidsBefore}

-- ---- in byte order

sorted_decided : (r : Record) (o : Option ListEntry) (es : List ListEntry) → Sorted es → Sorted (decide_entry r o es)
sorted_decided r None es h = h
sorted_decided r (Some e) es h =
    elim (eqb e.rid r.target && is_undecided e.state) as (λ b. Sorted (cond b (with_entry (record e { state = decision r.flagged }) es) es)) [ true ↦ sorted_with (record e { state = decision r.flagged }) es h | false ↦ h ]

sorted_prepared : (r : Record) (o : Option (List ℕ)) (es : List ListEntry) → Sorted es → Sorted (prepare_entry r o es)
sorted_prepared r None es h = h
sorted_prepared r (Some x) es h = sorted_with (record { xid = x; rid = r.rid; state = entry_state r.flagged }) es h

sorted_step : (k : Kind) (r : Record) (es : List ListEntry) → Sorted es → Sorted (after_list_record k r es)
sorted_step Enqueue r es h = sorted_prepared r (xid_in r.xid) es h
sorted_step Dequeue r es h = sorted_decided r (entry_of r.xid es) es h
sorted_step Commit r es h = sorted_filtered (λ e. not (same e.xid r.xid)) es h
sorted_step Abort r es h = h
sorted_step Filler r es h = h

sorted_after : (rs : List Record) (es : List ListEntry) → Sorted es → Sorted (entries_after rs es)
sorted_after [] es h = h
sorted_after (r ∷ rs) es h = sorted_after rs (after_list_record r.kind r es) (sorted_step r.kind r es h)

before_all : (x : List ℕ) (es : List ListEntry) → AllAfter x es → AllByRecursion (λ f. comes_before x f.xid ≡ true) es
before_all x [] h = tt
before_all x (e ∷ es) h = (ap is_lt h.0, before_all x es h.1)

rise_sorted : (es : List ListEntry) → Sorted es → XidsRise es
rise_sorted [] h = tt
rise_sorted (e ∷ es) h = (before_all e.xid es h.0, rise_sorted es h.1)

pub entries_rise : (rs : List Record) → XidsRise (entries_after rs [])
entries_rise rs = rise_sorted (entries_after rs []) (sorted_after rs [] tt)

-- ---- one record after another

abbrev pub whats : List Got → List Record
whats gs = map (λ got. (read_of got).what) gs

here : {A : Type 0} (xs : List A) (k : ℕ) (x : A) → k < length xs → x ≡ get_or xs k x → drop k xs ≡ x ∷ drop (k + 1) xs
here xs k x l is = grind (arith, common_steps)

pub next_entries : (gs : List Got) (k : ℕ) (g : Got) (es fs all : List ListEntry) → k < length gs → g ≡ get_or gs k g → fs ≡ after_list_record g.head.kind (read_of g).what es
    → entries_after (whats (drop k gs)) es ≡ all → entries_after (whats (drop (k + 1) gs)) fs ≡ all
next_entries gs k g es fs all l is e h = ap (entries_after (whats (drop (k + 1) gs))) e ∙ sym (ap (λ xs. entries_after (whats xs) es) (here gs k g l is)) ∙ h

none_behind : {A : Type 0} (xs : List A) (k : ℕ) → length xs ≤ k → drop k xs ≡ []
none_behind xs k l = grind (arith, common_steps)

pub all_entries : (gs : List Got) (k : ℕ) (es all : List ListEntry) → length gs ≤ k → entries_after (whats (drop k gs)) es ≡ all → es ≡ all
all_entries gs k es all l h = ap (λ xs. entries_after (whats xs) es) (sym (none_behind gs k l)) ∙ h

pub none_left : {A : Type 0} (xs : List A) (n : ℕ) → n ≡ length xs → n ≡ 0 → xs ≡ []
none_left [] n e z = refl
none_left (x ∷ xs) n e z = absurd (omega (arith, e, z))

-- ---- fillers say nothing

filler_says_nothing : (k : Kind) (r : Record) (es : List ListEntry) → is_filler k ≡ true → es ≡ after_list_record k r es
filler_says_nothing Enqueue r es h = absurd (cc)
filler_says_nothing Dequeue r es h = absurd (cc)
filler_says_nothing Commit r es h = absurd (cc)
filler_says_nothing Abort r es h = absurd (cc)
filler_says_nothing Filler r es h = refl

without_fillers : (rs : List Read) (es : List ListEntry) → entries_after (map (λ r. r.what) (filter (λ r. not (is_filler r.what.kind)) rs)) es ≡ entries_after (map (λ r. r.what) rs) es
without_fillers [] es = refl
without_fillers (r ∷ rs) es = by (is_filler r.what.kind) refl (without_fillers rs)
  where
    by : (b : Bool) → is_filler r.what.kind ≡ b
        → ((fs : List ListEntry) → entries_after (map (λ r. r.what) (filter (λ r. not (is_filler r.what.kind)) rs)) fs ≡ entries_after (map (λ r. r.what) rs) fs)
        → entries_after (map (λ r. r.what) (cond (not b) (r ∷ filter (λ r. not (is_filler r.what.kind)) rs) (filter (λ r. not (is_filler r.what.kind)) rs))) es ≡ entries_after (map (λ r. r.what) rs) (after_list_record r.what.kind r.what es)
    by true e ih = ih es ∙ ap (entries_after (map (λ r. r.what) rs)) (filler_says_nothing r.what.kind r.what es e)
    by false e ih = ih (after_list_record r.what.kind r.what es)

parts : (gs : List Got) → whats gs ≡ map (λ (r : Read). r.what) (map read_of gs)
parts [] = refl
parts (g ∷ gs) = ap (λ (rs : List Record). (read_of g).what ∷ rs) (parts gs)

-- what a journal read whole leaves
pub entries_whole : (j : Journal) (log : ReadLogState) (gs : List Got) → IsReadWhole j log gs → entries_after (whats gs) [] ≡ entries_after (records_of j) []
entries_whole j log gs w = ap (λ rs. entries_after rs []) (parts gs ∙ ap (map (λ (r : Read). r.what)) w.reads) ∙ without_fillers (journal_reading j) []

-- ---- what entries tell

pub rise_front : (es : List ListEntry) (k : ℕ) (e : ListEntry) → k < length es → e ≡ get_or es k e → XidsRise es → XidsBefore e.xid (take k es)
rise_front [] k e l is h = absurd (omega arith)
rise_front (f ∷ es) zero e l is h = tt
rise_front (f ∷ es) (suc k) e l is h = (first es k h.0 (omega arith) is, rise_front es k e (omega arith) is h.1)
  where
    first : (es : List ListEntry) (k : ℕ) → AllByRecursion (λ g. comes_before f.xid g.xid ≡ true) es → k < length es → e ≡ get_or es k e → comes_before f.xid e.xid ≡ true
    first [] k a l is = absurd (omega arith)
    first (g ∷ es) zero a l is = ap (λ (d : ListEntry). comes_before f.xid d.xid) is ∙ a.0
    first (g ∷ es) (suc k) a l is = first es k a.1 (omega arith) is

pub one_more : {A : Type 0} (xs : List A) (k : ℕ) (x : A) → k < length xs → x ≡ get_or xs k x → take (k + 1) xs ≡ take k xs ++ x ∷ []
one_more xs k x l is = grind (arith, common_steps)

-- the state of an xid's entry among these and one more
state_last : (x : List ℕ) (es : List ListEntry) (e : ListEntry) → XidsBefore e.xid es → state_of (entry_of x (es ++ e ∷ [])) ≡ cond (same e.xid x) (Some e.state) (state_of (entry_of x es))
state_last x [] e h = by (same e.xid x)
  where
    by : (b : Bool) → state_of (cond b (Some e) None) ≡ cond b (Some e.state) None
    by true = refl
    by false = refl
state_last x (f ∷ es) e h = by (same f.xid x) (same e.xid x) refl refl (state_last x es e h.1)
  where
    by : (b d : Bool) → same f.xid x ≡ b → same e.xid x ≡ d → state_of (entry_of x (es ++ e ∷ [])) ≡ cond d (Some e.state) (state_of (entry_of x es))
        → state_of (cond b (Some f) (entry_of x (es ++ e ∷ []))) ≡ cond d (Some e.state) (state_of (cond b (Some f) (entry_of x es)))
    by true true p q ih =
        let n : same f.xid e.xid ≡ false = not_same f.xid e.xid h.0 in
        let m : same f.xid e.xid ≡ true = ap (λ z. same f.xid z) (same_true e.xid x q) ∙ p in
        absurd (cc)
    by true false p q ih = refl
    by false d p q ih = ih

pub next_states : (x : List ℕ) (es : List ListEntry) (k : ℕ) (e : ListEntry) (o n : Option ListState) → k < length es → e ≡ get_or es k e → XidsRise es → n ≡ cond (same e.xid x) (Some e.state) o
    → o ≡ state_of (entry_of x (take k es)) → n ≡ state_of (entry_of x (take (k + 1) es))
next_states x es k e o n l is rise i h =
    i ∙ ap (cond (same e.xid x) (Some e.state)) h ∙ sym (state_last x (take k es) e (rise_front es k e l is rise)) ∙ ap (λ fs. state_of (entry_of x fs)) (sym (one_more es k e l is))
