-- What holds of every store holds after each command.
use Rattle.std.proofs.Common.{◌≡◌, ℕ, Bool, true, false, not, ◌||◌, cond, List, [], ◌∷◌, map, Option, Some, None, option_map, refl, ap, sym, subst, ◌∙◌}
use Rattle.std.specs.List.{AllByRecursion, filter, list_any}
use Rattle.qls_model.specs.Bytes.{same, comes_before}
use Rattle.qls_model.specs.Machine.{XidState, queue_named, xid_named, with_queue as with_queue_state, without_queue, change_queue, is_prepared, prepared as prepared_xid, with_xid, doubts}
use Rattle.qls_model.specs.Sound.{IsSound}
use Rattle.qls_model.specs.declared.machine.Phase.TheVariants.{Open}
use Rattle.qls_model.specs.declared.machine.Message.{Message}
use Rattle.qls_model.specs.declared.machine.QueueState.{QueueState}
use Rattle.qls_decide.specs.declared.ListEntry.{ListEntry}
use Rattle.qls_decide.specs.declared.ListState.TheVariants.{Prepared}
use Rattle.qls_decide.specs.Entries.{with_entry}
use Rattle.qls_replay.specs.Ops.{is_moved}
use Rattle.qls_queue.specs.Answers.{is_pending}
use Rattle.qls_queue.specs.Live.{LiveState}
use Rattle.qls_queue.specs.Records.{IsXid}
use Rattle.qls_journals.specs.State.{JournalsState, AreJournals, AreReleased, NamesRise, names_of, queues_of}
use Rattle.qls_store.specs.Stores.{StoreState, TransactionState, IsStore, XidsRise, xids_of, touched, IsKnown}
use Rattle.qls_store.specs.Table.{Rises, named, change, begun, with_name, with_queue, touched_by, prepared, prepared_in, prepared_xids}
use Rattle.qls_store.proofs.Keys.{all_weaken, all_filter, rises_filter}
use Rattle.qls_store.proofs.Marking.{only_found, found_has}
use Rattle.qls_store.proofs.Machines.{held_of, new_queue, xid_held, entry_of}
use Rattle.qls_store.proofs.Touching.{name_of, touches, KnownIn, none_pending, touched_none, touched_with, touched_without, touched_changed, touched_kept, known_with, known_change}
use Rattle.qls_store.proofs.Tables.{entry_xid, xids_touched, xids_prepared, xids_placed, doubts_are, known_more, there_with, there_prepared, all_change, all_placed, rise_change, rise_placed, prepared_placed, prepared_listed, all_with_entry}

rise_states : (qs : List LiveState) → NamesRise (names_of qs) → Rises name_of (map held_of qs)
rise_states [] h = tt
rise_states (q ∷ qs) h = (each q.queue.name qs h.0, rise_states qs h.1)
  where
    each : (n : List ℕ) (qs : List LiveState) → AllByRecursion (λ m. comes_before n m ≡ true) (names_of qs) → AllByRecursion (λ r. comes_before n r.name ≡ true) (map held_of qs)
    each n [] h = tt
    each n (q ∷ qs) h = (h.0, each n qs h.1)

pub names_rise : (j : JournalsState) → AreJournals j → Rises name_of (queues_of j)
names_rise j h = rise_states j.queues h.rising

-- ---- the names of a transaction's queues rise

rises_map : (qs : List QueueState) → Rises name_of qs → Rises (λ n. n) (map name_of qs)
rises_map [] h = tt
rises_map (q ∷ qs) h = (each q.name qs h.0, rises_map qs h.1)
  where
    each : (n : List ℕ) (qs : List QueueState) → AllByRecursion (λ r. comes_before n r.name ≡ true) qs → AllByRecursion (λ m. comes_before n m ≡ true) (map name_of qs)
    each n [] h = tt
    each n (q ∷ qs) h = (h.0, each n qs h.1)

pub names_each : (s : StoreState) → IsStore s → AllByRecursion (λ t. Rises (λ n. n) t.queues) s.transactions
names_each s h =
    all_weaken (λ t. t.queues ≡ touched t.xid (queues_of s.journals)) (λ t. Rises (λ n. n) t.queues)
    (λ t e. subst (Rises (λ n. n)) (sym e) (rises_map (filter (is_pending t.xid) (queues_of s.journals)) (rises_filter name_of (is_pending t.xid) (queues_of s.journals) (names_rise s.journals h.journals)))) s.transactions h.queues

-- ---- a queue changes, by a transaction or by none

or_no : (b c : Bool) → c ≡ false → (b || c) ≡ b
or_no true c e = refl
or_no false c e = e

or_yes : (b c : Bool) → c ≡ true → (b || c) ≡ true
or_yes true c e = refl
or_yes false c e = e

all_change_to : (P Q : TransactionState → Type 0) (x : List ℕ) (f : TransactionState → TransactionState) (ts : List TransactionState) → ((t : TransactionState) → same t.xid x ≡ true → P t → Q (f t)) → ((t : TransactionState) → same t.xid x ≡ false → P t → Q t) → AllByRecursion P ts → AllByRecursion Q (change x f ts)
all_change_to P Q x f [] k l h = tt
all_change_to P Q x f (t ∷ ts) k l h = (by (same t.xid x) refl, all_change_to P Q x f ts k l h.1)
  where
    by : (b : Bool) → same t.xid x ≡ b → Q (cond b (f t) t)
    by true is = k t is h.0
    by false is = l t is h.0

pub listed_touched : (xid : Option (List ℕ)) (name : List ℕ) (ts : List TransactionState) → prepared_xids (touched_by xid name ts) ≡ prepared_xids ts
listed_touched xid name ts = sym (doubts_are (touched_by xid name ts)) ∙ ap doubts (xids_touched xid name ts) ∙ doubts_are ts

module _ (s : StoreState) (h : IsStore s) (name : List ℕ) (f : QueueState → QueueState) (q : QueueState) (found : queue_named name (queues_of s.journals) ≡ Some q) (j : JournalsState) (queues : queues_of j ≡ change_queue name f (queues_of s.journals)) where
  module _ (xid : Option (List ℕ)) (keeps : (f q).name ≡ q.name) (pends : (x : List ℕ) → is_pending x (f q) ≡ (is_pending x q || touches xid x)) where
    stays : (x : List ℕ) → touches xid x ≡ false → touched x (queues_of j) ≡ touched x (queues_of s.journals)
    stays x e = ap (touched x) queues ∙ touched_kept x name f (queues_of s.journals) q (names_rise s.journals h.journals) found keeps (pends x ∙ or_no (is_pending x q) (touches xid x) e)

    comes : (x : List ℕ) → touches xid x ≡ true → touched x (queues_of j) ≡ with_name name (touched x (queues_of s.journals))
    comes x e = ap (touched x) queues ∙ touched_changed x name f (queues_of s.journals) q (names_rise s.journals h.journals) found keeps (pends x ∙ or_yes (is_pending x q) (touches xid x) e)

  queues_after : (xid : Option (List ℕ)) → (f q).name ≡ q.name → ((x : List ℕ) → is_pending x (f q) ≡ (is_pending x q || touches xid x)) → AllByRecursion (λ t. t.queues ≡ touched t.xid (queues_of j)) (touched_by xid name s.transactions)
  queues_after None keeps pends = all_weaken (λ t. t.queues ≡ touched t.xid (queues_of s.journals)) (λ t. t.queues ≡ touched t.xid (queues_of j)) (λ t e. e ∙ sym (stays None keeps pends t.xid refl)) s.transactions h.queues
  queues_after (Some x) keeps pends =
      all_change_to (λ t. t.queues ≡ touched t.xid (queues_of s.journals)) (λ t. t.queues ≡ touched t.xid (queues_of j)) x (with_queue name) s.transactions
      (λ t is e. ap (with_name name) e ∙ sym (comes (Some x) keeps pends t.xid is)) (λ t is e. e ∙ sym (stays (Some x) keeps pends t.xid is)) h.queues

  rising_after : (xid : Option (List ℕ)) → XidsRise (touched_by xid name s.transactions)
  rising_after None = h.rising
  rising_after (Some x) = rise_change x (with_queue name) (λ t. refl) s.transactions h.rising

  xids_after : (xid : Option (List ℕ)) → AllByRecursion (λ t. IsXid t.xid) (touched_by xid name s.transactions)
  xids_after None = h.xids
  xids_after (Some x) = all_change (λ t. IsXid t.xid) x (with_queue name) s.transactions (λ t is e. e) h.xids

  pub store_changed : (xid : Option (List ℕ)) → (f q).name ≡ q.name → ((x : List ℕ) → is_pending x (f q) ≡ (is_pending x q || touches xid x)) → (KnownIn (xids_of s.transactions) q → KnownIn (xids_of s.transactions) (f q))
      → j.list ≡ s.journals.list → AreJournals j → AreReleased j.queues → IsSound (queues_of j) (xids_of (touched_by xid name s.transactions)) → IsStore (record { journals = j; transactions = touched_by xid name s.transactions })
  store_changed xid keeps pends known list opened freed sound = record {
    journals = opened;
    released = freed;
    sound = sound;
    rising = rising_after xid;
    xids = xids_after xid;
    queues = queues_after xid keeps pends;
    known = subst (λ xs. AllByRecursion (KnownIn xs) (queues_of j)) (sym (xids_touched xid name s.transactions))
        (subst (AllByRecursion (KnownIn (xids_of s.transactions))) (sym queues)
        (known_change (KnownIn (xids_of s.transactions)) name f (queues_of s.journals) q (names_rise s.journals h.journals) found h.known
        (known (found_has name_of name f (KnownIn (xids_of s.transactions)) (queues_of s.journals) q h.known found).0)));
    listed = ap (λ p. map entry_xid p.entries) list ∙ h.listed ∙ sym (listed_touched xid name s.transactions);
    prepared = subst (λ p. AllByRecursion (λ e. e.state ≡ Prepared) p.entries) (sym list) h.prepared;
  }

-- ---- a queue comes, or goes

module _ (s : StoreState) (h : IsStore s) (name : List ℕ) (j : JournalsState) (list : j.list ≡ s.journals.list) (opened : AreJournals j) (freed : AreReleased j.queues) (sound : IsSound (queues_of j) (xids_of s.transactions)) where
  with_same_table : ((x : List ℕ) → touched x (queues_of j) ≡ touched x (queues_of s.journals)) → AllByRecursion (KnownIn (xids_of s.transactions)) (queues_of j) → IsStore (record { journals = j; transactions = s.transactions })
  with_same_table stays known = record {
    journals = opened;
    released = freed;
    sound = sound;
    rising = h.rising;
    xids = h.xids;
    queues = all_weaken (λ t. t.queues ≡ touched t.xid (queues_of s.journals)) (λ t. t.queues ≡ touched t.xid (queues_of j)) (λ t e. e ∙ sym (stays t.xid)) s.transactions h.queues;
    known = known;
    listed = ap (λ p. map entry_xid p.entries) list ∙ h.listed;
    prepared = subst (λ p. AllByRecursion (λ e. e.state ≡ Prepared) p.entries) (sym list) h.prepared;
  }

  pub store_made : queues_of j ≡ with_queue_state (new_queue name) (queues_of s.journals) → IsStore (record { journals = j; transactions = s.transactions })
  store_made queues =
      with_same_table (λ x. ap (touched x) queues ∙ touched_with x (new_queue name) (queues_of s.journals) refl)
      (subst (AllByRecursion (KnownIn (xids_of s.transactions))) (sym queues) (known_with (KnownIn (xids_of s.transactions)) (new_queue name) (queues_of s.journals) tt h.known))

  pub store_dropped : (q : QueueState) → queue_named name (queues_of s.journals) ≡ Some q → q.messages ≡ [] → queues_of j ≡ without_queue name (queues_of s.journals) → IsStore (record { journals = j; transactions = s.transactions })
  store_dropped q found empty queues =
      let only = only_found name_of name (λ r. r) (queues_of s.journals) q (names_rise s.journals h.journals) found in
      with_same_table
      (λ x. ap (touched x) queues
      ∙ touched_without x name (queues_of s.journals) (all_weaken (λ r. same r.name name ≡ true → r ≡ q) (λ r. same r.name name ≡ true → is_pending x r ≡ false) (λ r k is. ap (is_pending x) (k is) ∙ ap (list_any (λ (m : Message). is_moved x m.status)) empty) (queues_of s.journals) only))
      (subst (AllByRecursion (KnownIn (xids_of s.transactions))) (sym queues) (all_filter (KnownIn (xids_of s.transactions)) (λ r. not (same r.name name)) (queues_of s.journals) h.known))

-- ---- a transaction begins

known_by : (xs ys : List XidState) → ((y : List ℕ) → (e : XidState) → xid_named y xs ≡ Some e → (g : XidState) × (xid_named y ys ≡ Some g)) → (qs : List QueueState) → AllByRecursion (KnownIn xs) qs → AllByRecursion (KnownIn ys) qs
known_by xs ys f qs h = all_weaken (KnownIn xs) (KnownIn ys) (λ q k. all_weaken (λ m. IsKnown xs m.status) (λ m. IsKnown ys m.status) (λ m l. known_more xs ys f m.status l) q.messages k) qs h

pub store_begun : (s : StoreState) → IsStore s → (x : List ℕ) → IsXid x → named x s.transactions ≡ None → IsSound (queues_of s.journals) (xids_of (begun x s.transactions)) → IsStore (record { journals = s.journals; transactions = begun x s.transactions })
store_begun s h x is none sound =
    let new : TransactionState = record { xid = x; phase = Open; queues = [] } in
    let missing : xid_named x (xids_of s.transactions) ≡ None = xid_held x s.transactions ∙ ap (option_map entry_of) none in
    let untouched : touched x (queues_of s.journals) ≡ [] =
    touched_none x (queues_of s.journals) (all_weaken (KnownIn (xids_of s.transactions)) (λ q. is_pending x q ≡ false) (λ q k. none_pending (xids_of s.transactions) x q missing k) (queues_of s.journals) h.known) in
    record {
      journals = h.journals;
      released = h.released;
      sound = sound;
      rising = rise_placed new s.transactions none h.rising;
      xids = all_placed (λ t. IsXid t.xid) new s.transactions is h.xids;
      queues = all_placed (λ t. t.queues ≡ touched t.xid (queues_of s.journals)) new s.transactions (sym untouched) h.queues;
      known = subst (λ xs. AllByRecursion (KnownIn xs) (queues_of s.journals)) (sym (xids_placed new s.transactions))
          (known_by (xids_of s.transactions) (with_xid (entry_of new) (xids_of s.transactions)) (λ y e k. there_with (entry_of new) (xids_of s.transactions) y e k) (queues_of s.journals) h.known);
      listed = h.listed ∙ sym (prepared_placed new s.transactions refl);
      prepared = h.prepared;
    }

-- ---- a transaction is prepared

pub store_prepared : (s : StoreState) → IsStore s → (x : List ℕ) (t : TransactionState) → named x s.transactions ≡ Some t → is_prepared t.phase ≡ false → (j : JournalsState) → queues_of j ≡ queues_of s.journals
    → (e : ListEntry) → e.xid ≡ x → e.state ≡ Prepared → j.list.entries ≡ with_entry e s.journals.list.entries → AreJournals j → AreReleased j.queues → IsSound (queues_of j) (xids_of (prepared_in x s.transactions)) → IsStore (record { journals = j; transactions = prepared_in x s.transactions })
store_prepared s h x t found unprepared j queues e named_so state entries opened freed sound = record {
  journals = opened;
  released = freed;
  sound = sound;
  rising = rise_change x prepared (λ u. refl) s.transactions h.rising;
  xids = all_change (λ u. IsXid u.xid) x prepared s.transactions (λ u is k. k) h.xids;
  queues = subst (λ qs. AllByRecursion (λ u. u.queues ≡ touched u.xid qs) (prepared_in x s.transactions)) (sym queues)
      (all_change (λ u. u.queues ≡ touched u.xid (queues_of s.journals)) x prepared s.transactions (λ u is k. k) h.queues);
  known = subst (λ xs. AllByRecursion (KnownIn xs) (queues_of j)) (sym (xids_prepared x s.transactions))
      (subst (AllByRecursion (KnownIn (map (prepared_xid x) (xids_of s.transactions)))) (sym queues)
      (known_by (xids_of s.transactions) (map (prepared_xid x) (xids_of s.transactions)) (λ y f k. there_prepared x (xids_of s.transactions) y f k) (queues_of s.journals) h.known));
  listed = ap (map entry_xid) entries ∙ prepared_listed x s.transactions t h.rising found unprepared s.journals.list.entries h.listed e named_so;
  prepared = subst (AllByRecursion (λ f. f.state ≡ Prepared)) (sym entries) (all_with_entry (λ f. f.state ≡ Prepared) e s.journals.list.entries state h.prepared);
}
