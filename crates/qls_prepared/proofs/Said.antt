-- What the list's batches make of its entries, and its fillers make nothing.
use Rattle.std.proofs.Common.{◌≡◌, ℕ, zero, suc, ◌+◌, Bool, true, false, not, cond, ◌&&◌, ◌||◌, ◌==◌, List, [], ◌∷◌, ◌++◌, replicate, Some, None, refl, sym, ap, ◌∙◌, arith}
use Rattle.std.proofs.lemmas.Bool.Decides.{nat_tests}
use Rattle.qls_model.specs.Bytes.{same, is_listed}
use Rattle.qls_model.proofs.XidKeys.{same_self}
use Rattle.qls_record.specs.Record.{Record}
use Rattle.qls_decide.specs.declared.ListEntry.{ListEntry}
use Rattle.qls_decide.specs.declared.ListState.{ListState}
use Rattle.qls_decide.specs.declared.ListState.TheVariants.{Prepared, OnePhase, DecidedCommit}
use Rattle.qls_decide.specs.Entries.{entry_of, state_of, without_entry, placed_entry, with_entry}
use Rattle.qls_meaning.specs.Replay.{xid_in, decision, is_undecided, entry_state, decide_entry, prepare_entry, after_list_record, entries_after}
use Rattle.qls_blocks.specs.Batching.{with_fillers, filler_of, filler_count, last_rid}
use Rattle.qls_laws.proofs.EntryOrder.{Lacks, with_out, without_lacking, lacks_if_none}
use Rattle.qls_prepared.specs.Lists.{IsXid}
use Rattle.qls_prepared.specs.Records.{enqueue_of, decision_of, prepare_records, one_phase_records, end_records, without_entries}
use Rattle.qls_prepared.specs.Ending.{ended_entries}

-- ---- one after another

pub entries_append : (xs ys : List Record) (es : List ListEntry) → entries_after (xs ++ ys) es ≡ entries_after ys (entries_after xs es)
entries_append [] ys es = refl
entries_append (x ∷ xs) ys es = entries_append xs ys (after_list_record x.kind x es)

fillers_entries : (n rid : ℕ) (es : List ListEntry) → entries_after (replicate n (filler_of rid)) es ≡ es
fillers_entries zero rid es = refl
fillers_entries (suc n) rid es = fillers_entries n rid es

pub entries_filled : (rs : List Record) (es : List ListEntry) → entries_after (with_fillers rs) es ≡ entries_after rs es
entries_filled rs es = entries_append rs (replicate (filler_count rs) (filler_of (last_rid 0 rs))) es ∙ fillers_entries (filler_count rs) (last_rid 0 rs) (entries_after rs es)

-- ---- an enqueue

xid_there : (x : List ℕ) → IsXid x → xid_in x ≡ Some x
xid_there [] h = absurd (omega (arith, h.0))
xid_there (b ∷ x) h = refl

enqueued : (r : Record) (x : List ℕ) (es : List ListEntry) → IsXid x → r.xid ≡ x → prepare_entry r (xid_in r.xid) es ≡ with_entry (record { xid = x; rid = r.rid; state = entry_state r.flagged }) es
enqueued r x es h e = ap (λ o. prepare_entry r o es) (ap xid_in e ∙ xid_there x h)

pub says_prepared : (rid : ℕ) (x : List ℕ) (es : List ListEntry) → IsXid x → entries_after (prepare_records rid x) es ≡ with_entry (record { xid = x; rid = rid + 1; state = Prepared }) es
says_prepared rid x es h = enqueued (enqueue_of (rid + 1) x false) x es h refl

-- ---- an enqueue and its decision

own : (n : ℕ) → (n == n) ≡ true
own n = grind (arith, nat_tests)

pub found_placed : (e : ListEntry) (es : List ListEntry) → Lacks e.xid es → entry_of e.xid (placed_entry e es) ≡ Some e
found_placed e [] h = ap (λ b. cond b (Some e) None) (same_self e.xid)
found_placed e (f ∷ es) h =
    elim (Rattle.qls_model.specs.Bytes.comes_before e.xid f.xid) as (λ b. entry_of e.xid (cond b (e ∷ f ∷ es) (f ∷ placed_entry e es)) ≡ Some e) [
      | true ↦ ap (λ b. cond b (Some e) (entry_of e.xid (f ∷ es))) (same_self e.xid)
      | false ↦ ap (λ b. cond b (Some f) (entry_of e.xid (placed_entry e es))) h.0 ∙ found_placed e es h.1
    ]

-- where the xid has none, it is only put in its place
pub only_placed : (e : ListEntry) (es : List ListEntry) → entry_of e.xid es ≡ None → with_entry e es ≡ placed_entry e es
only_placed e es none = ap (placed_entry e) (without_lacking e.xid es (lacks_if_none e.xid es none))

pub found_with : (e : ListEntry) (es : List ListEntry) → entry_of e.xid es ≡ None → entry_of e.xid (with_entry e es) ≡ Some e
found_with e es none = ap (entry_of e.xid) (only_placed e es none) ∙ found_placed e es (lacks_if_none e.xid es none)

with_again : (e : ListEntry) (s : ListState) (es : List ListEntry) → entry_of e.xid es ≡ None → with_entry (record e { state = s }) (with_entry e es) ≡ with_entry (record e { state = s }) es
with_again e s es none =
    let lacks : Lacks e.xid es = lacks_if_none e.xid es none in
    let rest : without_entry e.xid es ≡ es = without_lacking e.xid es lacks in
    ap (placed_entry (record e { state = s }))
    (with_out (λ f. not (same f.xid e.xid)) e es (ap (λ b. not b) (same_self e.xid)) ∙ ap (without_entry e.xid) rest)

decided : (r : Record) (e : ListEntry) (es : List ListEntry) → (e.rid == r.target) ≡ true → is_undecided e.state ≡ true → entry_of r.xid es ≡ Some e → decide_entry r (entry_of r.xid es) es ≡ with_entry (record e { state = decision r.flagged }) es
decided r e es t u h =
    ap (λ o. decide_entry r o es) h
    ∙ ap (λ b. cond (b && is_undecided e.state) (with_entry (record e { state = decision r.flagged }) es) es) t
    ∙ ap (λ b. cond b (with_entry (record e { state = decision r.flagged }) es) es) u

pub says_one_phase : (rid : ℕ) (x : List ℕ) (es : List ListEntry) → IsXid x → entry_of x es ≡ None → entries_after (one_phase_records rid x) es ≡ with_entry (record { xid = x; rid = rid + 1; state = DecidedCommit }) es
says_one_phase rid x es h none =
    let e : ListEntry = record { xid = x; rid = rid + 1; state = OnePhase } in
    let r : Record = decision_of (rid + 1) (rid + 1) x true in
    ap (entries_after (r ∷ [])) (enqueued (enqueue_of (rid + 1) x true) x es h refl)
    ∙ decided r e (with_entry e es) (own (rid + 1)) refl (found_with e es none)
    ∙ with_again e DecidedCommit es none

-- ---- a decision

undecided : (e : ListEntry) (es : List ListEntry) (x : List ℕ) → entry_of x es ≡ Some e → state_of (entry_of x es) ≡ Some Prepared → is_undecided e.state ≡ true
undecided e es x h p = let is : Some e.state ≡ Some Prepared = sym (ap state_of h) ∙ p in by e.state is
  where
    by : (s : ListState) → Some s ≡ Some Prepared → is_undecided s ≡ true
    by s k = let same : s ≡ Prepared = cc in ap is_undecided same

pub says_decided : (rid : ℕ) (x : List ℕ) (commit : Bool) (e : ListEntry) (es : List ListEntry) → entry_of x es ≡ Some e → state_of (entry_of x es) ≡ Some Prepared
    → entries_after (decision_of rid e.rid x commit ∷ []) es ≡ with_entry (record e { state = decision commit }) es
says_decided rid x commit e es h p = decided (decision_of rid e.rid x commit) e es (own e.rid) (undecided e es x h p) h

-- ---- ends

pub says_ended : (rid : ℕ) (xs : List (List ℕ)) (es : List ListEntry) → entries_after (end_records rid xs) es ≡ ended_entries xs es
says_ended rid [] es = refl
says_ended rid (x ∷ xs) es = says_ended rid xs (without_entry x es)

pub all_stay : (es : List ListEntry) → es ≡ without_entries [] es
all_stay [] = refl
all_stay (e ∷ es) = ap (λ (fs : List ListEntry). e ∷ fs) (all_stay es)

one_gone : (x : List ℕ) (xs : List (List ℕ)) (e : ListEntry) (b : Bool) (es : List ListEntry) → without_entries xs (without_entry x es) ≡ without_entries (x ∷ xs) es
    → without_entries xs (cond (not b) (e ∷ without_entry x es) (without_entry x es)) ≡ cond (not (b || is_listed e.xid xs)) (e ∷ without_entries (x ∷ xs) es) (without_entries (x ∷ xs) es)
one_gone x xs e true es rest = rest
one_gone x xs e false es rest = ap (λ (fs : List ListEntry). cond (not (is_listed e.xid xs)) (e ∷ fs) fs) rest

pub both_gone : (x : List ℕ) (xs : List (List ℕ)) (es : List ListEntry) → without_entries xs (without_entry x es) ≡ without_entries (x ∷ xs) es
both_gone x xs [] = refl
both_gone x xs (e ∷ es) = one_gone x xs e (same e.xid x) es (both_gone x xs es)

-- one after another, or all at once
pub ended_are : (xs : List (List ℕ)) (es : List ListEntry) → ended_entries xs es ≡ without_entries xs es
ended_are [] es = all_stay es
ended_are (x ∷ xs) es = ended_are xs (without_entry x es) ∙ both_gone x xs es
