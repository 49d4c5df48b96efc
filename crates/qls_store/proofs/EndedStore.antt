-- A store after the end of a transaction: it is gone from the table, from the list and from all queues.
use Rattle.std.proofs.Common.{◌≡◌, ℕ, Bool, true, false, not, ◌||◌, cond, List, [], ◌∷◌, map, filter, Some, None, refl, sym, ap, subst, ◌∙◌}
use Rattle.std.specs.List.{AllByRecursion}
use Rattle.qls_model.specs.Bytes.{same, comes_before}
use Rattle.qls_model.specs.Machine.{XidState, is_prepared, ended}
use Rattle.qls_model.specs.Sound.{IsSound}
use Rattle.qls_model.specs.declared.machine.Phase.{Phase}
use Rattle.qls_model.specs.declared.machine.Phase.TheVariants as phase
use Rattle.qls_model.specs.declared.machine.QueueState.{QueueState}
use Rattle.qls_decide.specs.declared.ListEntry.{ListEntry}
use Rattle.qls_decide.specs.declared.ListState.TheVariants.{Prepared}
use Rattle.qls_decide.specs.Entries.{entry_of, state_of as state_in, without_entry}
use Rattle.qls_replay.specs.Ops.{verdict_if}
use Rattle.qls_queue.specs.Records.{IsXid}
use Rattle.qls_journals.specs.State.{JournalsState, AreJournals, AreReleased, queues_of}
use Rattle.qls_store.specs.Stores.{StoreState, TransactionState, XidsRise, IsStore, IsKnown, xids_of, state_of, touched}
use Rattle.qls_store.specs.Table.{named, without, prepared_xids}
use Rattle.qls_store.specs.Calls.{state_by}
use Rattle.qls_store.proofs.Keys.{all_filter}
use Rattle.qls_store.proofs.MeansSettled.{has_xid}
use Rattle.qls_store.proofs.Tables.{xids_without, open_unlisted}
use Rattle.qls_store.proofs.Ended.{ends, touched_still, known_ended}

-- ---- what is left of a list

all_tested : {A : Type 0} (P : A → Type 0) (t : A → Bool) (xs : List A) → AllByRecursion P xs → AllByRecursion (λ a. (t a ≡ true) × P a) (filter t xs)
all_tested P t [] h = tt
all_tested P t (x ∷ xs) h = by (t x) refl (all_tested P t xs h.1)
  where
    by : (b : Bool) → t x ≡ b → AllByRecursion (λ a. (t a ≡ true) × P a) (filter t xs) → AllByRecursion (λ a. (t a ≡ true) × P a) (cond b (x ∷ filter t xs) (filter t xs))
    by true is k = ((is, h.0), k)
    by false is k = k

all_so : {A : Type 0} (P Q : A → Type 0) → ((x : A) → P x → Q x) → (xs : List A) → AllByRecursion P xs → AllByRecursion Q xs
all_so P Q w [] h = tt
all_so P Q w (x ∷ xs) h = (w x h.0, all_so P Q w xs h.1)

rise_without : (x : List ℕ) (ts : List TransactionState) → XidsRise ts → XidsRise (without x ts)
rise_without x [] h = tt
rise_without x (t ∷ ts) h = by (same t.xid x) (rise_without x ts h.1)
  where
    by : (b : Bool) → XidsRise (without x ts) → XidsRise (cond (not b) (t ∷ without x ts) (without x ts))
    by true k = k
    by false k = (all_filter (λ u. comes_before t.xid u.xid ≡ true) (λ u. not (same u.xid x)) ts h.0, k)

-- ---- the list

abbrev gone : List ℕ → List (List ℕ) → List (List ℕ)
gone x ks = filter (λ k. not (same k x)) ks

entries_gone : (x : List ℕ) (es : List ListEntry) → map (λ e. e.xid) (without_entry x es) ≡ gone x (map (λ e. e.xid) es)
entries_gone x [] = refl
entries_gone x (e ∷ es) = by (same e.xid x) (entries_gone x es)
  where
    by : (b : Bool) → map (λ e. e.xid) (without_entry x es) ≡ gone x (map (λ e. e.xid) es)
        → map (λ e. e.xid) (cond (not b) (e ∷ without_entry x es) (without_entry x es)) ≡ cond (not b) (e.xid ∷ gone x (map (λ e. e.xid) es)) (gone x (map (λ e. e.xid) es))
    by true h = h
    by false h = ap (λ (ks : List (List ℕ)). e.xid ∷ ks) h

abbrev passing : List TransactionState → List TransactionState
passing ts = filter (λ t. is_prepared t.phase) ts

prepared_gone : (x : List ℕ) (ts : List TransactionState) → prepared_xids (without x ts) ≡ gone x (prepared_xids ts)
prepared_gone x [] = refl
prepared_gone x (t ∷ ts) = by (same t.xid x) refl (is_prepared t.phase) refl (prepared_gone x ts)
  where
    by : (b : Bool) → same t.xid x ≡ b → (p : Bool) → is_prepared t.phase ≡ p → prepared_xids (without x ts) ≡ gone x (prepared_xids ts)
        → prepared_xids (cond (not b) (t ∷ without x ts) (without x ts)) ≡ gone x (map (λ t. t.xid) (cond p (t ∷ passing ts) (passing ts)))
    by true is true q h = h ∙ sym (ap (λ b. cond (not b) (t.xid ∷ gone x (prepared_xids ts)) (gone x (prepared_xids ts))) is)
    by true is false q h = h
    by false is true q h =
        ap (λ p. map (λ t. t.xid) (cond p (t ∷ passing (without x ts)) (passing (without x ts)))) q ∙ ap (λ (ks : List (List ℕ)). t.xid ∷ ks) h
        ∙ sym (ap (λ b. cond (not b) (t.xid ∷ gone x (prepared_xids ts)) (gone x (prepared_xids ts))) is)
    by false is false q h = ap (λ p. map (λ t. t.xid) (cond p (t ∷ passing (without x ts)) (passing (without x ts)))) q ∙ h

pub none_gone : (x : List ℕ) (es : List ListEntry) → entry_of x es ≡ None → without_entry x es ≡ es
none_gone x [] h = refl
none_gone x (e ∷ es) h = by (same e.xid x) h (none_gone x es)
  where
    by : (b : Bool) → cond b (Some e) (entry_of x es) ≡ None → (entry_of x es ≡ None → without_entry x es ≡ es) → cond (not b) (e ∷ without_entry x es) (without_entry x es) ≡ e ∷ es
    by true h ih = absurd (cc)
    by false h ih = ap (λ (fs : List ListEntry). e ∷ fs) (ih h)

-- ---- the entry of a transaction that there is

prepared_has : (x : List ℕ) (ts : List TransactionState) (t : TransactionState) → named x ts ≡ Some t → is_prepared t.phase ≡ true → has_xid x (prepared_xids ts) ≡ true
prepared_has x [] t e p = absurd (cc)
prepared_has x (u ∷ ts) t e p = by (same u.xid x) refl e (prepared_has x ts t)
  where
    some_is : {A : Type 0} (a b : A) → Some a ≡ Some b → a ≡ b
    some_is a b e = cc

    first : (q : Bool) → is_prepared u.phase ≡ q → same u.xid x ≡ true → u ≡ t → has_xid x (map (λ t. t.xid) (cond q (u ∷ passing ts) (passing ts))) ≡ true
    first true q s is = ap (λ b. b || has_xid x (prepared_xids ts)) s
    first false q s is = absurd (false_true (sym q ∙ ap (λ (v : TransactionState). is_prepared v.phase) is ∙ p))
      where
        false_true : false ≡ true → ⊥
        false_true e = cc

    later : (q : Bool) → has_xid x (prepared_xids ts) ≡ true → has_xid x (map (λ t. t.xid) (cond q (u ∷ passing ts) (passing ts))) ≡ true
    later true h = or_true (same u.xid x) h
      where
        or_true : (b : Bool) → has_xid x (prepared_xids ts) ≡ true → (b || has_xid x (prepared_xids ts)) ≡ true
        or_true true h = refl
        or_true false h = h
    later false h = h

    by : (b : Bool) → same u.xid x ≡ b → cond b (Some u) (named x ts) ≡ Some t → (named x ts ≡ Some t → is_prepared t.phase ≡ true → has_xid x (prepared_xids ts) ≡ true) → has_xid x (prepared_xids (u ∷ ts)) ≡ true
    by true s i ih = first (is_prepared u.phase) refl s (some_is u t i)
    by false s i ih = later (is_prepared u.phase) (ih i p)

entry_has : (x : List ℕ) (es : List ListEntry) → AllByRecursion (λ e. e.state ≡ Prepared) es → has_xid x (map (λ e. e.xid) es) ≡ true → state_in (entry_of x es) ≡ Some Prepared
entry_has x [] a h = absurd (cc)
entry_has x (e ∷ es) a h = by (same e.xid x) h (entry_has x es a.1)
  where
    by : (b : Bool) → (b || has_xid x (map (λ e. e.xid) es)) ≡ true → (has_xid x (map (λ e. e.xid) es) ≡ true → state_in (entry_of x es) ≡ Some Prepared) → state_in (cond b (Some e) (entry_of x es)) ≡ Some Prepared
    by true h ih = ap (λ s. Some s) a.0
    by false h ih = ih h

pub entry_by : (s : StoreState) → IsStore s → (x : List ℕ) (t : TransactionState) → named x s.transactions ≡ Some t → state_in (entry_of x s.journals.list.entries) ≡ state_by t.phase
entry_by s h x t found = by t.phase refl
  where
    by : (p : Phase) → t.phase ≡ p → state_in (entry_of x s.journals.list.entries) ≡ state_by p
    by phase.Open e = ap state_in (open_unlisted x s.transactions t h.rising found (ap is_prepared e) s.journals.list.entries h.listed)
    by phase.Prepared e = entry_has x s.journals.list.entries h.prepared (ap (has_xid x) h.listed ∙ prepared_has x s.transactions t found (ap is_prepared e))

-- an open transaction has no entry that could go
pub open_gone : (s : StoreState) → IsStore s → (x : List ℕ) (t : TransactionState) → named x s.transactions ≡ Some t → is_prepared t.phase ≡ false → without_entry x s.journals.list.entries ≡ s.journals.list.entries
open_gone s h x t found opened = none_gone x s.journals.list.entries (open_unlisted x s.transactions t h.rising found opened s.journals.list.entries h.listed)

-- ---- the store

abbrev pub ended_store : StoreState → List ℕ → JournalsState → StoreState
ended_store s x j = record { journals = j; transactions = without x s.transactions }

pub state_ended : (s : StoreState) (x : List ℕ) (commit : Bool) (j : JournalsState) → queues_of j ≡ map (ends x commit) (queues_of s.journals) → state_of (ended_store s x j) ≡ ended x (verdict_if commit) (state_of s)
state_ended s x commit j queues = λ i. record { queues = queues i; xids = xids_without x s.transactions i }

module _ (s : StoreState) (h : IsStore s) (x : List ℕ) (commit : Bool) (j : JournalsState) (queues : queues_of j ≡ map (ends x commit) (queues_of s.journals)) (entries : j.list.entries ≡ without_entry x s.journals.list.entries) (opened : AreJournals j) (freed : AreReleased j.queues)
    (sound : IsSound (queues_of j) (xids_of (without x s.transactions))) where
  apart_of : (u : TransactionState) → not (same u.xid x) ≡ true → same u.xid x ≡ false
  apart_of u e = by (same u.xid x) e
    where
      by : (b : Bool) → not b ≡ true → b ≡ false
      by true e = absurd (cc)
      by false e = refl

  pub store_ended : IsStore (ended_store s x j)
  store_ended = record {
    journals = opened;
    released = freed;
    sound = sound;
    rising = rise_without x s.transactions h.rising;
    xids = all_filter (λ t. IsXid t.xid) (λ t. not (same t.xid x)) s.transactions h.xids;
    queues = all_so (λ t. (not (same t.xid x) ≡ true) × (t.queues ≡ touched t.xid (queues_of s.journals))) (λ t. t.queues ≡ touched t.xid (queues_of j))
        (λ t k. k.1 ∙ sym (ap (touched t.xid) queues ∙ touched_still x commit t.xid (apart_of t k.0) (queues_of s.journals))) (without x s.transactions)
        (all_tested (λ t. t.queues ≡ touched t.xid (queues_of s.journals)) (λ t. not (same t.xid x)) s.transactions h.queues);
    known = subst (λ (qs : List QueueState). AllByRecursion (λ q. AllByRecursion (λ m. IsKnown (xids_of (without x s.transactions)) m.status) q.messages) qs) (sym queues)
        (subst (λ (xs : List XidState). AllByRecursion (λ q. AllByRecursion (λ m. IsKnown xs m.status) q.messages) (map (ends x commit) (queues_of s.journals))) (sym (xids_without x s.transactions))
        (known_ended x commit (xids_of s.transactions) (queues_of s.journals) h.known));
    listed = ap (map (λ e. e.xid)) entries ∙ entries_gone x s.journals.list.entries ∙ ap (gone x) h.listed ∙ sym (prepared_gone x s.transactions);
    prepared = subst (AllByRecursion (λ e. e.state ≡ Prepared)) (sym entries) (all_filter (λ e. e.state ≡ Prepared) (λ e. not (same e.xid x)) s.journals.list.entries h.prepared);
  }
