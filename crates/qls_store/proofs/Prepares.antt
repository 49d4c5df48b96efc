-- A transaction is prepared.
use Rattle.std.proofs.Common.{◌≡◌, ◌⊎◌, inl, inr, ℕ, ◌+◌, ◌-◌, ◌^◌, true, false, cond, List, [], map, Option, Some, None, option_map, Result, Ok, Err, IfSome, refl, sym, ap, subst, ◌∙◌, arith, eq-eqb}
use Rattle.std.proofs.lemmas.Bool.{eqb-true}
use Rattle.qls_model.specs.Machine.{MachineState, step, is_prepared, prepared as prepared_xid}
use Rattle.qls_model.specs.declared.machine.PoolId.{PoolId}
use Rattle.qls_model.specs.declared.machine.Phase.{Phase}
use Rattle.qls_model.specs.declared.machine.Phase.TheVariants.{Open, Prepared}
use Rattle.qls_model.specs.declared.machine.Command.{Command}
use Rattle.qls_model.specs.declared.machine.Command.TheVariants as command
use Rattle.qls_model.specs.declared.machine.Refusal.{Refusal}
use Rattle.qls_model.specs.declared.machine.Reply.{Reply}
use Rattle.qls_model.specs.declared.machine.Reply.TheVariants.{Done, Refused}
use Rattle.qls_site.specs.Disk.{Disk}
use Rattle.qls_site.specs.Content.{Content, Tells}
use Rattle.qls_filehdr.specs.declared.JournalKind.TheVariants as journal
use Rattle.qls_meaning.specs.Spent.{list_rid}
use Rattle.qls_blocks.specs.Batching.{length_of, block_length}
use Rattle.qls_decide.specs.declared.ListState.TheVariants as listed
use Rattle.qls_decide.specs.Entries.{entry_of as listed_entry, with_entry}
use Rattle.qls_pool.specs.Files.{OnDisk}
use Rattle.qls_pool.proofs.Moments.{Arrives-same}
use Rattle.qls_prepared.specs.Lists.{rid_of as rid_of_list}
use Rattle.qls_prepared.specs.Records.{prepare_records}
use Rattle.qls_queue.specs.Live.{LiveState}
use Rattle.qls_queue.specs.Records.{IsXid}
use Rattle.qls_journals.specs.declared.cause.Cause.{Cause}
use Rattle.qls_journals.specs.declared.cause.Cause.TheVariants.{Spent}
use Rattle.qls_journals.specs.Ends.{StopsAtEnd as JournalsStop, HadRoom}
use Rattle.qls_journals.specs.Homes.{SameHomes, homes_of as homes_of_journals}
use Rattle.qls_journals.specs.Moments.{IsStoreStep, BecomesClean}
use Rattle.qls_journals.specs.State.{JournalsState, AreJournals, AreReleased, queues_of}
use Rattle.qls_store.specs.Stores.{StoreState, TransactionState, state_of, rid_of, IsStore, Fits, IsClean}
use Rattle.qls_store.specs.Homes.{homes_of, is_accepted}
use Rattle.qls_store.specs.Ends.{StopsAtEnd}
use Rattle.qls_store.specs.Table.{named, not_open_by, not_open_in, prepared_in}
use Rattle.qls_store.proofs.Keeping.{store_prepared}
use Rattle.qls_store.proofs.Machines.{refusal_held, prepare_step, sound_after}
use Rattle.qls_store.proofs.Needing.{told_stops_first, had_first}
use Rattle.qls_store.proofs.Running.{Runs, Went, Broke, HadFirst, refuses, done, fails, clean_becomes, no_end_refused}
use Rattle.qls_store.proofs.Tables.{xids_prepared, open_unlisted}

prepare_size : (rid : ℕ) (x : List ℕ) → IsXid x → block_length (length_of (prepare_records rid x)) ≡ 4096
prepare_size rid x h = omega (arith, h.0, h.1)

-- the transaction that isn't refused
pub record IsOpen (x : List ℕ) (ts : List TransactionState) : Type 0 where
  pub transaction : TransactionState
  pub there : named x ts ≡ Some transaction
  pub opened : is_prepared transaction.phase ≡ false

pub is_open : (x : List ℕ) (ts : List TransactionState) → not_open_in (Some x) ts ≡ None → IsOpen x ts
is_open x ts e = by (named x ts) refl e
  where
    phase : (t : TransactionState) (p : Phase) → not_open_by (Some p) ≡ None → is_prepared p ≡ false
    phase t Open e = refl
    phase t Prepared e = absurd (cc)

    by : (o : Option TransactionState) → named x ts ≡ o → not_open_by (option_map (λ (t : TransactionState). t.phase) o) ≡ None → IsOpen x ts
    by None is k = absurd (cc)
    by (Some t) is k = record { transaction = t; there = is; opened = phase t t.phase k }

abbrev pub RidIs : StoreState → Type 0
RidIs s = (d : Disk) → Fits s d → IsClean s d → list_rid d ≡ rid_of s

module _ {X Y : Type 0} (tell : X → Option Content) (faults : X → ℕ) (draw : Y → Option (List ℕ)) (counts : Y → ℕ) (s : StoreState) (h : IsStore s) (a : X) (y : Y) (x : List ℕ) where
  abbrev prepare : Command
  prepare = command.Prepare x

  prepare_makes : (n : List ℕ) (o : Option PoolId) → prepare ≡ command.Queue n o → ⊥
  prepare_makes n o e = cc

  pub prepare_closed : (r : Refusal) → not_open_in (Some x) s.transactions ≡ Some r → IfSome (tell a) (OnDisk (Fits s)) → Runs tell faults draw counts s prepare a a y y (Ok (s, Refused r))
  prepare_closed r e fits =
      let refused : step (state_of s) prepare ≡ (state_of s, Refused r) = prepare_step (state_of s) x (Some r) (refusal_held s (Some x) ∙ e) in
      let no : is_accepted (step (state_of s) prepare).1 ≡ false = ap (λ (p : MachineState × Reply). is_accepted p.1) refused in
      refuses tell faults draw counts s prepare r h refused no (λ d. no_end_refused (homes_of s) (state_of s) prepare d no no prepare_makes) a y fits

  module _ (opened : not_open_in (Some x) s.transactions ≡ None) (is : IsXid x) (law : RidIs s) (fits : IfSome (tell a) (OnDisk (Fits s))) (b : X) (z : Y) where
    one : IsOpen x s.transactions
    one = is_open x s.transactions opened

    pub prepare_unlisted : listed_entry x s.journals.list.entries ≡ None
    prepare_unlisted = open_unlisted x s.transactions one.transaction h.rising one.there one.opened s.journals.list.entries h.listed

    prepare_done : step (state_of s) prepare ≡ (record (state_of s) { xids = map (prepared_xid x) (state_of s).xids }, Done)
    prepare_done = prepare_step (state_of s) x None (refusal_held s (Some x) ∙ opened)

    accepts : is_accepted (step (state_of s) prepare).1 ≡ true
    accepts = ap (λ (p : MachineState × Reply). is_accepted p.1) prepare_done

    -- where the last record id is given, no call was made
    rid_stops : (u : Option Content) → IfSome u (OnDisk (Fits s)) → rid_of s ≡ 2 ^ 62 - 1 → Tells (StopsAtEnd s prepare) u u
    rid_stops None f e = tt
    rid_stops (Some u) f e = record {
      arrives = Arrives-same IsStoreStep u u refl;
      meets = λ marked clean. inr (inl (record { raises = accepts; spent = eq-eqb (list_rid u.now.disk) (2 ^ 62 - 1) (law u.now.disk f clean ∙ e) }));
    }

    pub prepare_fails : (k : Cause) → Broke tell faults draw counts s.journals (homes_of s) k a b y z → (rid_of_list s.journals.list ≡ 2 ^ 62 - 1 → b ≡ a)
        → (k ≡ Spent → (rid_of_list s.journals.list ≡ 2 ^ 62 - 1) ⊎ Tells (JournalsStop s.journals journal.List [] (prepare_records (rid_of_list s.journals.list) x)) (tell a) (tell b)) → Runs tell faults draw counts s prepare a b y z (Err k)
    prepare_fails k broke last stops = fails tell faults draw counts s prepare (homes_of s) a b y z k broke accepts refl (λ e. by (stops e))
      where
        by : (rid_of_list s.journals.list ≡ 2 ^ 62 - 1) ⊎ Tells (JournalsStop s.journals journal.List [] (prepare_records (rid_of_list s.journals.list) x)) (tell a) (tell b) → Tells (StopsAtEnd s prepare) (tell a) (tell b)
        by (inl e) = subst (λ c. Tells (StopsAtEnd s prepare) (tell a) (tell c)) (sym (last e)) (rid_stops (tell a) fits e)
        by (inr t) = told_stops_first s prepare journal.List [] (prepare_records (rid_of_list s.journals.list) x) 4096 (prepare_size (rid_of_list s.journals.list) x is) [] refl accepts (tell a) (tell b) t

    prepare_had : (u v : Option Content) → IfSome u (OnDisk (Fits s)) → (rid_of s ≡ 2 ^ 62 - 1 → ⊥) → Tells (HadRoom s.journals journal.List [] (prepare_records (rid_of_list s.journals.list) x)) u v → Tells (HadFirst s prepare) u v
    prepare_had None None f more t = tt
    prepare_had None (Some v) f more t = absurd t
    prepare_had (Some u) None f more t = absurd t
    prepare_had (Some u) (Some v) f more t =
        had_first s prepare journal.List [] (prepare_records (rid_of_list s.journals.list) x) 4096 (prepare_size (rid_of_list s.journals.list) x is) [] refl prepare_makes u v
        (λ raises spent clean. more (sym (law u.now.disk f clean) ∙ eqb-true (list_rid u.now.disk) (2 ^ 62 - 1) spent)) t

    module _ (j : JournalsState) (queues : j.queues ≡ s.journals.queues) (entries : j.list.entries ≡ with_entry (record { xid = x; rid = rid_of_list s.journals.list + 1; state = listed.Prepared }) s.journals.list.entries) (kept : AreJournals j) where
      queues_same : queues_of j ≡ queues_of s.journals
      queues_same = ap (map (λ (q : LiveState). q.queue)) queues

      prepare_stepped : (state_of (record { journals = j; transactions = prepared_in x s.transactions }), Done) ≡ step (state_of s) prepare
      prepare_stepped = (λ i. (record { queues = queues_same i; xids = xids_prepared x s.transactions i }, Done)) ∙ sym prepare_done

      pub prepare_store : IsStore (record { journals = j; transactions = prepared_in x s.transactions })
      prepare_store = store_prepared s h x one.transaction one.there one.opened j queues_same (record { xid = x; rid = rid_of_list s.journals.list + 1; state = listed.Prepared }) refl refl entries kept (subst AreReleased (sym queues) h.released)
          (sound_after (state_of s) (state_of (record { journals = j; transactions = prepared_in x s.transactions })) prepare Done h.sound prepare_stepped)

      pub prepare_told : (ts : List TransactionState) → ts ≡ prepared_in x s.transactions → Went tell faults draw counts s.journals j (homes_of s) a b y z → rid_of_list j.list ≡ rid_of_list s.journals.list + 1 → Tells (BecomesClean s.journals j) (tell a) (tell b)
          → SameHomes (homes_of_journals j) (homes_of s) → (rid_of_list s.journals.list ≡ 2 ^ 62 - 1 → ⊥) → Tells (HadRoom s.journals journal.List [] (prepare_records (rid_of_list s.journals.list) x)) (tell a) (tell b)
          → Runs tell faults draw counts s prepare a b y z (Ok (record { journals = j; transactions = ts }, Done))
      prepare_told ts same went rid clean homes more had =
          subst (λ us. Runs tell faults draw counts s prepare a b y z (Ok (record { journals = j; transactions = us }, Done))) (sym same)
          (done tell faults draw counts s prepare (homes_of s) a b y z (record { journals = j; transactions = prepared_in x s.transactions }) Done went refl
          prepare_stepped prepare_store (rid ∙ sym (ap (λ c. cond c (rid_of s + 1) (rid_of s)) accepts)) (clean_becomes s.journals j (tell a) (tell b) clean)
          (prepare_had (tell a) (tell b) fits more had) refl homes)

-- the list has no entry of it yet
pub unlisted : (s : StoreState) → IsStore s → (x : List ℕ) → not_open_in (Some x) s.transactions ≡ None → listed_entry x s.journals.list.entries ≡ None
unlisted s h x opened = let o = is_open x s.transactions opened in open_unlisted x s.transactions o.transaction h.rising o.there o.opened s.journals.list.entries h.listed

pub not_spent : {Z : Type 0} (z : Z) → ◌≡◌ {A = Result Z Cause} (Ok z) (Err Spent) → ⊥
not_spent z e = cc
