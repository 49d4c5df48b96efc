-- The store that is opened: its state is what its files mean, and what holds of every store holds of it.
use Rattle.std.proofs.Common.{◌≡◌, ℕ, Bool, true, false, not, ◌||◌, cond, List, [], ◌∷◌, ◌++◌, map, filter, Option, Some, None, refl, sym, ap, subst, ◌∙◌}
use Rattle.std.specs.List.{AllByRecursion, filter_map, list_any}
use Rattle.qls_model.specs.Bytes.{same, comes_before}
use Rattle.qls_model.proofs.XidKeys.{same_self}
use Rattle.qls_model.specs.Machine.{MachineState, XidState, is_prepared, xid_named}
use Rattle.qls_model.specs.Messages.{decided}
use Rattle.qls_model.specs.Sound.{IsNumbered, IsSound, NamesOnce, Once, XidsOnce}
use Rattle.qls_model.specs.declared.machine.Message.{Message}
use Rattle.qls_model.specs.declared.machine.Phase.TheVariants as phase
use Rattle.qls_model.specs.declared.machine.QueueState.{QueueState}
use Rattle.qls_model.specs.declared.machine.Status.{Status}
use Rattle.qls_model.specs.declared.machine.Status.TheVariants.{Ready, Coming, Going}
use Rattle.qls_model.specs.declared.machine.Verdict.{Verdict}
use Rattle.qls_model.specs.declared.machine.Verdict.TheVariants.{Doubt}
use Rattle.qls_decide.specs.declared.ListEntry.{ListEntry}
use Rattle.qls_decide.specs.declared.ListState.TheVariants.{Prepared}
use Rattle.qls_decide.specs.Entries.{verdict_by}
use Rattle.qls_meaning.specs.Journals.{Journal}
use Rattle.qls_meaning.specs.Meaning.{entries_of, in_doubt, meaning_of, queues_of as queues_in}
use Rattle.qls_replay.specs.Ops.{is_moved}
use Rattle.qls_queue.specs.Records.{IsXid}
use Rattle.qls_prepared.specs.Lists.{XidsRise as EntriesRise}
use Rattle.qls_journals.specs.State.{JournalsState, AreJournals, AreReleased, queues_of}
use Rattle.qls_store.specs.Settling.{IsDoubted, doubt_in, doubt_of, entries_kept}
use Rattle.qls_store.specs.Stores.{IsKnown, IsStore, StoreState, TransactionState, XidsRise, state_of, touched, xids_of}
use Rattle.qls_store.specs.Table.{Rises}
use Rattle.qls_store.proofs.Keys.{all_weaken, behind_differs}
use Rattle.qls_store.proofs.States.{name_of, rises_by}
use Rattle.qls_store.proofs.SettledList.{doubt_kept, doubt_named, doubts_kept, kept_prepared}
use Rattle.qls_store.proofs.SettledQueue.{decided_doubted, decided_numbered}

-- ---- the table

xids_are : (qs : List QueueState) (es : List ListEntry) → xids_of (map (doubt_in qs) es) ≡ map doubt_of es
xids_are qs [] = refl
xids_are qs (e ∷ es) = ap (λ (xs : List XidState). doubt_of e ∷ xs) (xids_are qs es)

all_listed : (qs : List QueueState) (es : List ListEntry) → map (λ e. e.xid) es ≡ map (λ t. t.xid) (filter (λ t. is_prepared t.phase) (map (doubt_in qs) es))
all_listed qs [] = refl
all_listed qs (e ∷ es) = ap (λ (xs : List (List ℕ)). e.xid ∷ xs) (all_listed qs es)

table_rises : (qs : List QueueState) (es : List ListEntry) → EntriesRise es → XidsRise (map (doubt_in qs) es)
table_rises qs [] h = tt
table_rises qs (e ∷ es) h = (behind e.xid es h.0, table_rises qs es h.1)
  where
    behind : (x : List ℕ) (fs : List ListEntry) → AllByRecursion (λ f. comes_before x f.xid ≡ true) fs → AllByRecursion (λ t. comes_before x t.xid ≡ true) (map (doubt_in qs) fs)
    behind x [] h = tt
    behind x (f ∷ fs) h = (h.0, behind x fs h.1)

each_xid : (qs : List QueueState) (es : List ListEntry) → AllByRecursion (λ e. IsXid e.xid) es → AllByRecursion (λ t. IsXid t.xid) (map (doubt_in qs) es)
each_xid qs [] h = tt
each_xid qs (e ∷ es) h = (h.0, each_xid qs es h.1)

each_touched : (qs : List QueueState) (es : List ListEntry) → AllByRecursion (λ t. t.queues ≡ touched t.xid qs) (map (doubt_in qs) es)
each_touched qs [] = tt
each_touched qs (e ∷ es) = (refl, each_touched qs es)

-- ---- nothing stands twice

once_of : {A : Type 0} (key : A → List ℕ) (xs : List A) → Rises key xs → Once key xs
once_of key [] h = tt
once_of key (x ∷ xs) h = (all_weaken (λ y. comes_before (key x) (key y) ≡ true) (λ y. same (key y) (key x) ≡ false) (λ y b. behind_differs (key y) (key x) b) xs h.0, once_of key xs h.1)

entry_keys : (es : List ListEntry) → EntriesRise es → Rises (λ (e : XidState). e.xid) (map doubt_of es)
entry_keys [] h = tt
entry_keys (e ∷ es) h = (behind e.xid es h.0, entry_keys es h.1)
  where
    behind : (x : List ℕ) (fs : List ListEntry) → AllByRecursion (λ f. comes_before x f.xid ≡ true) fs → AllByRecursion (λ (f : XidState). comes_before x f.xid ≡ true) (map doubt_of fs)
    behind x [] h = tt
    behind x (f ∷ fs) h = (h.0, behind x fs h.1)

-- ---- messages of transactions that there are

or_first : (a b : Bool) → a ≡ true → (a || b) ≡ true
or_first true b e = refl
or_first false b e = absurd (cc)

or_second : (a b : Bool) → b ≡ true → (a || b) ≡ true
or_second true b e = refl
or_second false b e = e

module _ (v : List ℕ → Verdict) (xs : List XidState) (there : (x : List ℕ) → v x ≡ Doubt → (e : XidState) × (xid_named x xs ≡ Some e)) where
  known_by : (s : Status) → ((x : List ℕ) → is_moved x s ≡ true → v x ≡ Doubt) → IsKnown xs s
  known_by Ready h = tt
  known_by (Coming y) h = there y (h y (same_self y))
  known_by (Going y) h = there y (h y (same_self y))

  messages_known : (ms : List Message) → ((x : List ℕ) → list_any (λ m. is_moved x m.status) ms ≡ true → v x ≡ Doubt) → AllByRecursion (λ m. IsKnown xs m.status) ms
  messages_known [] h = tt
  messages_known (m ∷ ms) h = (
    known_by m.status (λ x k. h x (or_first (is_moved x m.status) (list_any (λ m. is_moved x m.status) ms) k)),
    messages_known ms (λ x k. h x (or_second (is_moved x m.status) (list_any (λ m. is_moved x m.status) ms) k)),
  )

  queues_known : (qs : List QueueState) → AllByRecursion (λ q. AllByRecursion (λ m. IsKnown xs m.status) q.messages) (map (decided v) qs)
  queues_known [] = tt
  queues_known (q ∷ qs) = (messages_known (decided v q).messages (decided_doubted v q), queues_known qs)

all_numbered : (v : List ℕ → Verdict) (qs : List QueueState) → AllByRecursion IsNumbered qs → AllByRecursion IsNumbered (map (decided v) qs)
all_numbered v [] h = tt
all_numbered v (q ∷ qs) h = (decided_numbered v q h.0, all_numbered v qs h.1)

-- ---- the store

abbrev pub opened_store : JournalsState → StoreState
opened_store s = record { journals = s; transactions = map (doubt_in (queues_of s)) s.list.entries }

module _ (s : JournalsState) (are : AreJournals s) (released : AreReleased s.queues) (es : List ListEntry) (qs : List QueueState) (queues : queues_of s ≡ map (decided (verdict_by es)) qs) (entries : s.list.entries ≡ entries_kept es) where
  abbrev ts : List TransactionState
  ts = map (doubt_in (queues_of s)) s.list.entries

  doubt_there : (x : List ℕ) → verdict_by es x ≡ Doubt → (e : XidState) × (xid_named x (xids_of ts) ≡ Some e)
  doubt_there x h =
      let found = doubt_named x s.list.entries (ap (λ fs. verdict_by fs x) entries ∙ doubt_kept x es h) in
      (found.0, ap (xid_named x) (xids_are (queues_of s) s.list.entries) ∙ found.1)

  pub store_of : AllByRecursion IsNumbered qs → IsStore (opened_store s)
  store_of numbered = record {
    journals = are;
    released = released;
    sound = record {
      names = once_of name_of (queues_of s) (rises_by s.queues are.rising);
      xids = subst XidsOnce (sym (xids_are (queues_of s) s.list.entries)) (once_of (λ (e : XidState). e.xid) (map doubt_of s.list.entries) (entry_keys s.list.entries are.list.sound.rising));
      numbers = subst (AllByRecursion IsNumbered) (sym queues) (all_numbered (verdict_by es) qs numbered);
    };
    rising = table_rises (queues_of s) s.list.entries are.list.sound.rising;
    xids = each_xid (queues_of s) s.list.entries are.list.sound.xids;
    queues = each_touched (queues_of s) s.list.entries;
    known = subst (λ (ps : List QueueState). AllByRecursion (λ q. AllByRecursion (λ m. IsKnown (xids_of ts) m.status) q.messages) ps) (sym queues) (queues_known (verdict_by es) (xids_of ts) doubt_there qs);
    listed = all_listed (queues_of s) s.list.entries;
    prepared = subst (AllByRecursion (λ (e : ListEntry). e.state ≡ Prepared)) (sym entries) (kept_prepared es);
  }

  -- it is what the journals mean
  pub state_is : (js : List Journal) → es ≡ entries_of js → qs ≡ queues_in js → meaning_of js ≡ state_of (opened_store s)
  state_is js e q =
      let all : queues_of s ≡ map (decided (verdict_by (entries_of js))) (queues_in js) = queues ∙ (λ i. map (decided (verdict_by (e i))) (q i)) in
      let doubts : xids_of ts ≡ filter_map in_doubt (entries_of js) = xids_are (queues_of s) s.list.entries ∙ ap (map doubt_of) (entries ∙ ap entries_kept e) ∙ sym (doubts_kept (entries_of js)) in
      λ i. record { queues = sym all i; xids = sym doubts i }
