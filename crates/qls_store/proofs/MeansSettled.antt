-- A store's disk means its state, settled: an open transaction has no entry in the list and aborts, a prepared one is in doubt.
use Rattle.std.proofs.Common.{◌≡◌, ℕ, Bool, true, false, cond, ◌||◌, List, [], ◌∷◌, map, filter, Option, Some, refl, sym, ap, ◌∙◌}
use Rattle.std.specs.List.{AllByRecursion, filter_map, cons_option, list_any}
use Rattle.qls_model.specs.Bytes.{same, comes_before}
use Rattle.qls_model.specs.Messages.{left_by, after_coming, after_going, decided}
use Rattle.qls_model.specs.Machine.{MachineState, XidState, xid_named, is_prepared, verdict_at, settle}
use Rattle.qls_model.specs.declared.machine.Status.{Status}
use Rattle.qls_model.specs.declared.machine.Status.TheVariants.{Ready, Coming, Going}
use Rattle.qls_model.specs.declared.machine.Message.{Message}
use Rattle.qls_model.specs.declared.machine.QueueState.{QueueState}
use Rattle.qls_model.specs.declared.machine.Phase.{Phase}
use Rattle.qls_model.specs.declared.machine.Phase.TheVariants as phase
use Rattle.qls_model.specs.declared.machine.Verdict.{Verdict}
use Rattle.qls_model.specs.declared.machine.Verdict.TheVariants.{Abort, Doubt}
use Rattle.qls_decide.specs.declared.ListEntry.{ListEntry}
use Rattle.qls_decide.specs.declared.ListState.TheVariants.{Prepared}
use Rattle.qls_decide.specs.Entries.{verdict_by, verdict_for, state_of as state_of_entry, entry_of}
use Rattle.qls_meaning.specs.Meaning.{in_doubt, doubt_by}
use Rattle.qls_site.specs.Disk.{Disk}
use Rattle.qls_journals.specs.State.{JournalsState, queues_of, IsWhole, IsClean}
use Rattle.qls_store.specs.Stores.{StoreState, TransactionState, XidsRise, IsStore, IsKnown, xids_of, state_of}
use Rattle.qls_store.specs.Table.{prepared_xids}
use Rattle.qls_model.proofs.XidKeys.{same_true}
use Rattle.qls_store.proofs.Keys.{behind_differs}

-- ---- xids that are listed

abbrev pub has_xid : List ℕ → List (List ℕ) → Bool
has_xid x ks = list_any (λ k. same k x) ks

by_entry : (b : Bool) (e : ListEntry) (o : Option ListEntry) (rest : Bool) → e.state ≡ Prepared → verdict_for (state_of_entry o) ≡ cond rest Doubt Abort
    → verdict_for (state_of_entry (cond b (Some e) o)) ≡ cond (b || rest) Doubt Abort
by_entry true e o rest p h = ap (λ s. verdict_for (Some s)) p
by_entry false e o rest p h = h

-- where all entries are prepared: doubt for those that have one
pub verdict_listed : (x : List ℕ) (es : List ListEntry) → AllByRecursion (λ e. e.state ≡ Prepared) es → verdict_by es x ≡ cond (has_xid x (map (λ e. e.xid) es)) Doubt Abort
verdict_listed x [] h = refl
verdict_listed x (e ∷ es) h = by_entry (same e.xid x) e (entry_of x es) (has_xid x (map (λ e. e.xid) es)) h.0 (verdict_listed x es h.1)

-- ---- the table

lacks_later : (x k : List ℕ) (ts : List TransactionState) → k ≡ x → AllByRecursion (λ u. comes_before k u.xid ≡ true) ts → has_xid x (prepared_xids ts) ≡ false
lacks_later x k [] e r = refl
lacks_later x k (u ∷ ts) e r = by (is_prepared u.phase) (lacks_later x k ts e r.1)
  where
    differs : same u.xid x ≡ false
    differs = ap (same u.xid) (sym e) ∙ behind_differs u.xid k r.0

    by : (b : Bool) → has_xid x (prepared_xids ts) ≡ false → has_xid x (map (λ t. t.xid) (cond b (u ∷ filter (λ t. is_prepared t.phase) ts) (filter (λ t. is_prepared t.phase) ts))) ≡ false
    by true h = ap (λ b. b || has_xid x (prepared_xids ts)) differs ∙ h
    by false h = h

-- an xid of the table that is prepared is listed as such, and one that is open isn't
pub verdict_table : (x : List ℕ) (ts : List TransactionState) (e : XidState) → XidsRise ts → xid_named x (xids_of ts) ≡ Some e → cond (has_xid x (prepared_xids ts)) Doubt Abort ≡ verdict_at (xid_named x (xids_of ts))
verdict_table x [] e r i = absurd (cc)
verdict_table x (t ∷ ts) e r i = go (same t.xid x) refl (verdict_table x ts e r.1) i
  where
    first : (p : Bool) → same t.xid x ≡ true → is_prepared t.phase ≡ p
        → cond (has_xid x (map (λ t. t.xid) (cond p (t ∷ filter (λ t. is_prepared t.phase) ts) (filter (λ t. is_prepared t.phase) ts)))) Doubt Abort ≡ cond p Doubt Abort
    first true s q = ap (λ b. cond (b || has_xid x (prepared_xids ts)) Doubt Abort) s
    first false s q = ap (λ b. cond b Doubt Abort) (lacks_later x t.xid ts (same_true t.xid x s) r.0)

    later : (p : Bool) → same t.xid x ≡ false
        → cond (has_xid x (map (λ t. t.xid) (cond p (t ∷ filter (λ t. is_prepared t.phase) ts) (filter (λ t. is_prepared t.phase) ts)))) Doubt Abort ≡ cond (has_xid x (prepared_xids ts)) Doubt Abort
    later true s = ap (λ b. cond (b || has_xid x (prepared_xids ts)) Doubt Abort) s
    later false s = refl

    go : (b : Bool) → same t.xid x ≡ b → (xid_named x (xids_of ts) ≡ Some e → cond (has_xid x (prepared_xids ts)) Doubt Abort ≡ verdict_at (xid_named x (xids_of ts)))
        → cond b (Some (record { xid = t.xid; phase = t.phase })) (xid_named x (xids_of ts)) ≡ Some e
        → cond (has_xid x (prepared_xids (t ∷ ts))) Doubt Abort ≡ verdict_at (cond b (Some (record { xid = t.xid; phase = t.phase })) (xid_named x (xids_of ts)))
    go true s ih i = first (is_prepared t.phase) s refl
    go false s ih i = later (is_prepared t.phase) s ∙ ih i

-- the list and the table have the same verdict for an xid that there is
pub verdicts : (s : StoreState) → IsStore s → (x : List ℕ) (e : XidState) → xid_named x (xids_of s.transactions) ≡ Some e
    → verdict_by s.journals.list.entries x ≡ verdict_at (xid_named x (xids_of s.transactions))
verdicts s h x e i =
    verdict_listed x s.journals.list.entries h.prepared ∙ ap (λ ks. cond (has_xid x ks) Doubt Abort) h.listed ∙ verdict_table x s.transactions e h.rising i

-- ---- the messages

module _ (v w : List ℕ → Verdict) (xs : List XidState) (agree : (x : List ℕ) (e : XidState) → xid_named x xs ≡ Some e → v x ≡ w x) where
  left_same : (m : Message) (s : Status) → IsKnown xs s → left_by v s m ≡ left_by w s m
  left_same m Ready k = refl
  left_same m (Coming x) k = ap (λ d. after_coming d m) (agree x k.0 k.1)
  left_same m (Going x) k = ap (λ d. after_going d m) (agree x k.0 k.1)

  messages_same : (ms : List Message) → AllByRecursion (λ m. IsKnown xs m.status) ms → filter_map (λ m. left_by v m.status m) ms ≡ filter_map (λ m. left_by w m.status m) ms
  messages_same [] k = refl
  messages_same (m ∷ ms) k =
      ap (λ o. cons_option o (filter_map (λ m. left_by v m.status m) ms)) (left_same m m.status k.0) ∙ ap (cons_option (left_by w m.status m)) (messages_same ms k.1)

  pub queues_same : (qs : List QueueState) → AllByRecursion (λ q. AllByRecursion (λ m. IsKnown xs m.status) q.messages) qs → map (decided v) qs ≡ map (decided w) qs
  queues_same [] k = refl
  queues_same (q ∷ qs) k = λ i. record q { messages = messages_same q.messages k.0 i } ∷ queues_same qs k.1 i

-- ---- the xids in doubt

abbrev doubted : List ℕ → XidState
doubted x = record { xid = x; phase = phase.Prepared }

in_doubt_all : (es : List ListEntry) → AllByRecursion (λ e. e.state ≡ Prepared) es → filter_map in_doubt es ≡ map doubted (map (λ e. e.xid) es)
in_doubt_all [] h = refl
in_doubt_all (e ∷ es) h = ap (λ s. cons_option (doubt_by s e.xid) (filter_map in_doubt es)) h.0 ∙ ap (λ (xs : List XidState). doubted e.xid ∷ xs) (in_doubt_all es h.1)

phase_is : (p : Phase) → is_prepared p ≡ true → phase.Prepared ≡ p
phase_is phase.Open e = absurd (cc)
phase_is phase.Prepared e = refl

in_doubt_table : (ts : List TransactionState) → map doubted (prepared_xids ts) ≡ filter (λ e. is_prepared e.phase) (xids_of ts)
in_doubt_table [] = refl
in_doubt_table (t ∷ ts) = go (is_prepared t.phase) refl (in_doubt_table ts)
  where
    go : (b : Bool) → is_prepared t.phase ≡ b → map doubted (prepared_xids ts) ≡ filter (λ e. is_prepared e.phase) (xids_of ts)
        → map doubted (map (λ t. t.xid) (cond b (t ∷ filter (λ t. is_prepared t.phase) ts) (filter (λ t. is_prepared t.phase) ts)))
        ≡ cond b (record { xid = t.xid; phase = t.phase } ∷ filter (λ e. is_prepared e.phase) (xids_of ts)) (filter (λ e. is_prepared e.phase) (xids_of ts))
    go true p h = λ i. record { xid = t.xid; phase = phase_is t.phase p i } ∷ h i
    go false p h = h

-- ---- both

pub settled : (s : StoreState) → IsStore s
    → ◌≡◌ {A = MachineState} (record { queues = map (decided (verdict_by s.journals.list.entries)) (queues_of s.journals); xids = filter_map in_doubt s.journals.list.entries }) (settle (state_of s))
settled s h =
    let v = verdict_by s.journals.list.entries in
    let w : List ℕ → Verdict = λ x. verdict_at (xid_named x (xids_of s.transactions)) in
    let queues : map (decided v) (queues_of s.journals) ≡ map (decided w) (queues_of s.journals) = queues_same v w (xids_of s.transactions) (verdicts s h) (queues_of s.journals) h.known in
    let xids : filter_map in_doubt s.journals.list.entries ≡ filter (λ e. is_prepared e.phase) (xids_of s.transactions) =
    in_doubt_all s.journals.list.entries h.prepared ∙ ap (map doubted) h.listed ∙ in_doubt_table s.transactions in
    λ i. record { queues = queues i; xids = xids i }

-- ---- a clean store is whole

pub clean_whole : (s : JournalsState) (d : Disk) → IsClean s d → IsWhole s d
clean_whole s d h = h.whole
