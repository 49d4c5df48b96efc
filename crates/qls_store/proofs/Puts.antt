-- A put and a take.
use Rattle.std.proofs.Common.{◌≡◌, ℕ, ◌+◌, Bool, true, false, cond, List, [], ◌∷◌, Option, Some, None, option_map, Result, Ok, Err, is_err, IfSome, refl, sym, ap, subst, ◌∙◌}
use Rattle.qls_model.specs.Messages.{with_message, message_at}
use Rattle.qls_model.specs.Machine.{MachineState, XidState, queue_named, xid_named, change_queue, step, put_message, taken, is_ready}
use Rattle.qls_model.specs.Sound.{RisesTo, IsNumbered}
use Rattle.qls_model.specs.declared.machine.PoolId.{PoolId}
use Rattle.qls_model.specs.declared.machine.Message.{Message}
use Rattle.qls_model.specs.declared.machine.QueueState.{QueueState}
use Rattle.qls_model.specs.declared.machine.Command.{Command}
use Rattle.qls_model.specs.declared.machine.Command.TheVariants as command
use Rattle.qls_model.specs.declared.machine.Refusal.{Refusal}
use Rattle.qls_model.specs.declared.machine.Refusal.TheVariants as refusal
use Rattle.qls_model.specs.declared.machine.Reply.{Reply}
use Rattle.qls_model.specs.declared.machine.Reply.TheVariants.{Done, Number, Refused}
use Rattle.qls_site.specs.Content.{Content, Tells}
use Rattle.qls_filehdr.specs.declared.JournalKind.TheVariants as journal
use Rattle.qls_blocks.specs.Batching.{length_of, block_length}
use Rattle.qls_pool.specs.Files.{OnDisk, Carries}
use Rattle.qls_prepared.specs.Lists.{rid_of as rid_of_list}
use Rattle.qls_queue.specs.Records.{enqueue_of, dequeue_of}
use Rattle.qls_journals.specs.declared.cause.Cause.{Cause}
use Rattle.qls_journals.specs.declared.cause.Cause.TheVariants.{Spent, Memory}
use Rattle.qls_journals.specs.Answers.{put_answer, take_by, take_answer}
use Rattle.qls_journals.specs.Ends.{StopsAtEnd as JournalsStop, HadRoom}
use Rattle.qls_journals.specs.Homes.{SameHomes, homes_of as homes_of_journals}
use Rattle.qls_journals.specs.Places.{StandsAt, WouldStandAt}
use Rattle.qls_journals.specs.State.{JournalsState, AreJournals, AreReleased, IsListAlive, queues_of}
use Rattle.qls_store.specs.Stores.{StoreState, TransactionState, state_of, xids_of, IsStore, Fits}
use Rattle.qls_store.specs.Homes.{homes_of, is_accepted}
use Rattle.qls_store.specs.Ends.{needs_of, put_needs, take_needs, raises_rid}
use Rattle.qls_store.specs.Table.{named, not_open_by, not_open_in, touched_by}
use Rattle.qls_store.proofs.Keeping.{store_changed}
use Rattle.qls_store.proofs.Marking.{found_has}
use Rattle.qls_store.proofs.Machines.{named_by, xid_held, entry_of, refusal_held, put_missing, put_unopen, put_by, put_step, take_missing, take_unopen, take_so, take_step, sound_after}
use Rattle.qls_store.proofs.Needing.{told_stops_first, told_had_first}
use Rattle.qls_store.proofs.Running.{Runs, Went, Broke, refuses, done, wants, fails, clean_alive, no_end_refused}
use Rattle.qls_store.proofs.Tables.{xids_touched}
use Rattle.qls_store.proofs.Touching.{IsThere, pending_put, pending_taken, known_put, known_taken}

not_both : true ≡ false → ⊥
not_both e = cc

-- ---- an open transaction

-- a transaction that isn't refused is there
pub there_open : (xid : Option (List ℕ)) (ts : List TransactionState) → not_open_in xid ts ≡ None → IsThere (xids_of ts) xid
there_open None ts e = tt
there_open (Some x) ts e = by (named x ts) refl e
  where
    by : (o : Option TransactionState) → named x ts ≡ o → not_open_by (option_map (λ (t : TransactionState). t.phase) o) ≡ None → (f : XidState) × (xid_named x (xids_of ts) ≡ Some f)
    by None is k = absurd (cc)
    by (Some t) is k = (entry_of t, xid_held x ts ∙ ap (option_map entry_of) is)

-- ---- answers

ok_is : {A B : Type 0} {u v : A} → ◌≡◌ {A = Result A B} (Ok u) (Ok v) → u ≡ v
ok_is e = cc

-- a take that isn't refused meets a ready message
pub ready_of : (o : Option Message) → take_by o ≡ Ok tt → (m : Message) × ((o ≡ Some m) × (is_ready m.status ≡ true))
ready_of None e = absurd (cc)
ready_of (Some m) e = (m, (refl, by (is_ready m.status) e))
  where
    by : (b : Bool) → cond b (Ok (tt {0})) (Err refusal.Locked) ≡ Ok tt → b ≡ true
    by true k = refl
    by false k = absurd (cc)

-- what isn't an error
pub isnt_err : {A B : Type 0} (r : Result A B) → is_err r ≡ false → (u : A) × (r ≡ Ok u)
isnt_err (Ok u) e = (u, refl)
isnt_err (Err f) e = absurd (not_both e)

module _ {X Y : Type 0} (tell : X → Option Content) (faults : X → ℕ) (draw : Y → Option (List ℕ)) (counts : Y → ℕ) (s : StoreState) (h : IsStore s) (a : X) (y : Y) where
  refuses_so : (c : Command) (r : Refusal) → raises_rid (state_of s) c ≡ false → ((n : List ℕ) (o : Option PoolId) → c ≡ command.Queue n o → ⊥) → step (state_of s) c ≡ (state_of s, Refused r) → IfSome (tell a) (OnDisk (Fits s))
      → Runs tell faults draw counts s c a a y y (Ok (s, Refused r))
  refuses_so c r unraised made refused fits =
      refuses tell faults draw counts s c r h refused unraised (λ d. no_end_refused (homes_of s) (state_of s) c d (ap (λ (p : MachineState × Reply). is_accepted p.1) refused) unraised made) a y fits

  -- ---- a put

  module _ (name body : List ℕ) (xid : Option (List ℕ)) (at : ℕ) where
    abbrev put : Command
    put = command.Put name body xid

    put_makes : (n : List ℕ) (o : Option PoolId) → put ≡ command.Queue n o → ⊥
    put_makes n o e = cc

    pub put_none : WouldStandAt s.journals.queues name at → IfSome (tell a) (OnDisk (Fits s)) → Runs tell faults draw counts s put a a y y (Ok (s, Refused refusal.Queue))
    put_none w fits = refuses_so put refusal.Queue refl put_makes (put_missing (state_of s) name body xid (named_by name s.journals None w.none)) fits

    module _ (w : StandsAt s.journals.queues name at) where
      put_found : queue_named name (queues_of s.journals) ≡ Some w.queue.queue
      put_found = named_by name s.journals (Some w.queue) w.held

      pub put_closed : (r : Refusal) → not_open_in xid s.transactions ≡ Some r → IfSome (tell a) (OnDisk (Fits s)) → Runs tell faults draw counts s put a a y y (Ok (s, Refused r))
      put_closed r e fits = refuses_so put r refl put_makes (put_unopen (state_of s) name body xid w.queue.queue r put_found (refusal_held s xid ∙ e)) fits

      module _ (opened : not_open_in xid s.transactions ≡ None) where
        put_so : step (state_of s) put ≡ put_by (state_of s) name body xid (put_answer w.queue.queue)
        put_so = put_step (state_of s) name body xid w.queue.queue put_found (refusal_held s xid ∙ opened)

        pub put_refused : (j : JournalsState) (b : X) (z : Y) (r : Refusal) → put_answer w.queue.queue ≡ Err r → (j ≡ s.journals) × (b ≡ a) × (z ≡ y) → IfSome (tell a) (OnDisk (Fits s))
            → Runs tell faults draw counts s put a b y z (Ok (record { journals = j; transactions = s.transactions }, Refused r))
        put_refused j b z r e same fits =
            subst (λ k. Runs tell faults draw counts s put a b y z (Ok (record { journals = k; transactions = s.transactions }, Refused r))) (sym same.0)
            (subst (λ u. Runs tell faults draw counts s put a u y z (Ok (s, Refused r))) (sym same.1)
            (subst (λ v. Runs tell faults draw counts s put a a y v (Ok (s, Refused r))) (sym same.2)
            (refuses_so put r refl put_makes (put_so ∙ ap (put_by (state_of s) name body xid) e) fits)))

        put_needs_are : needs_of (state_of s) put ≡ (record { kind = journal.Queue; name = name; bytes = block_length (length_of (enqueue_of (w.queue.queue.last + 1) body xid ∷ [])) }) ∷ []
        put_needs_are = ap (put_needs name body xid) put_found

        module _ (b : X) (z : Y) (n : ℕ) (answer : put_answer w.queue.queue ≡ Ok n) where
          put_done : step (state_of s) put ≡ (record (state_of s) { queues = change_queue name (with_message (put_message n body xid)) (queues_of s.journals) }, Number n)
          put_done = put_so ∙ ap (put_by (state_of s) name body xid) answer

          put_accepted : is_accepted (step (state_of s) put).1 ≡ true
          put_accepted = ap (λ (p : MachineState × Reply). is_accepted p.1) put_done

          pub put_fails : (k : Cause) → Broke tell faults draw counts s.journals (homes_of s) k a b y z → (k ≡ Spent → Tells (JournalsStop s.journals journal.Queue w.queue.queue.name (enqueue_of (w.queue.queue.last + 1) body xid ∷ [])) (tell a) (tell b))
              → Runs tell faults draw counts s put a b y z (Err k)
          put_fails k broke stops =
              fails tell faults draw counts s put (homes_of s) a b y z k broke put_accepted refl
              (λ e. told_stops_first s put journal.Queue name (enqueue_of (w.queue.queue.last + 1) body xid ∷ []) _ refl [] put_needs_are put_accepted (tell a) (tell b)
              (subst (λ m. Tells (JournalsStop s.journals journal.Queue m (enqueue_of (w.queue.queue.last + 1) body xid ∷ [])) (tell a) (tell b)) w.named (stops e)))

          pub put_wants : (j : JournalsState) → Went tell faults draw counts s.journals j (homes_of s) a b y z → Runs tell faults draw counts s put a b y z (Err Memory)
          put_wants j went = wants tell faults draw counts s put (homes_of s) a b y z j went put_accepted refl

          module _ (j : JournalsState) (queues : queues_of j ≡ change_queue w.queue.queue.name (with_message (put_message n body xid)) (queues_of s.journals)) (list : j.list ≡ s.journals.list) (kept : AreJournals j) (freed : AreReleased j.queues) where
            put_queues : queues_of j ≡ change_queue name (with_message (put_message n body xid)) (queues_of s.journals)
            put_queues = queues ∙ ap (λ m. change_queue m (with_message (put_message n body xid)) (queues_of s.journals)) w.named

            put_stepped : (state_of (record { journals = j; transactions = touched_by xid name s.transactions }), Number n) ≡ step (state_of s) put
            put_stepped = (λ i. (record { queues = put_queues i; xids = xids_touched xid name s.transactions i }, Number n)) ∙ sym put_done

            pub put_store : IsStore (record { journals = j; transactions = touched_by xid name s.transactions })
            put_store =
                store_changed s h name (with_message (put_message n body xid)) w.queue.queue put_found j put_queues xid refl (λ x. pending_put x n body xid w.queue.queue)
                (known_put (xids_of s.transactions) n body xid w.queue.queue (there_open xid s.transactions opened)) list kept freed
                (sound_after (state_of s) (state_of (record { journals = j; transactions = touched_by xid name s.transactions })) put (Number n) h.sound put_stepped)

            pub put_told : (ts : List TransactionState) → ts ≡ touched_by xid name s.transactions → Went tell faults draw counts s.journals j (homes_of s) a b y z
                → Carries (IsListAlive s.journals) (IsListAlive j) (tell a) (tell b) → SameHomes (homes_of_journals j) (homes_of s) → Tells (HadRoom s.journals journal.Queue w.queue.queue.name (enqueue_of (w.queue.queue.last + 1) body xid ∷ [])) (tell a) (tell b)
                → Runs tell faults draw counts s put a b y z (Ok (record { journals = j; transactions = ts }, Number n))
            put_told ts is went alive homes had =
                subst (λ us. Runs tell faults draw counts s put a b y z (Ok (record { journals = j; transactions = us }, Number n))) (sym is)
                (done tell faults draw counts s put (homes_of s) a b y z (record { journals = j; transactions = touched_by xid name s.transactions }) (Number n) went refl
                put_stepped put_store (ap rid_of_list list) (clean_alive s.journals j (tell a) (tell b) went.told alive)
                (told_had_first s put journal.Queue name (enqueue_of (w.queue.queue.last + 1) body xid ∷ []) _ refl [] put_needs_are put_makes refl (tell a) (tell b)
                (subst (λ m. Tells (HadRoom s.journals journal.Queue m (enqueue_of (w.queue.queue.last + 1) body xid ∷ [])) (tell a) (tell b)) w.named had))
                refl homes)

  -- ---- a take

  module _ (name : List ℕ) (n : ℕ) (xid : Option (List ℕ)) (at : ℕ) where
    abbrev take : Command
    take = command.Take name n xid

    take_makes : (m : List ℕ) (o : Option PoolId) → take ≡ command.Queue m o → ⊥
    take_makes m o e = cc

    pub take_none : WouldStandAt s.journals.queues name at → IfSome (tell a) (OnDisk (Fits s)) → Runs tell faults draw counts s take a a y y (Ok (s, Refused refusal.Queue))
    take_none w fits = refuses_so take refusal.Queue refl take_makes (take_missing (state_of s) name n xid (named_by name s.journals None w.none)) fits

    module _ (w : StandsAt s.journals.queues name at) where
      take_found : queue_named name (queues_of s.journals) ≡ Some w.queue.queue
      take_found = named_by name s.journals (Some w.queue) w.held

      pub take_closed : (r : Refusal) → not_open_in xid s.transactions ≡ Some r → IfSome (tell a) (OnDisk (Fits s)) → Runs tell faults draw counts s take a a y y (Ok (s, Refused r))
      take_closed r e fits = refuses_so take r refl take_makes (take_unopen (state_of s) name n xid w.queue.queue r take_found (refusal_held s xid ∙ e)) fits

      module _ (opened : not_open_in xid s.transactions ≡ None) where
        take_is : step (state_of s) take ≡ take_so (state_of s) name n xid (take_answer w.queue.queue n)
        take_is = take_step (state_of s) name n xid w.queue.queue take_found (refusal_held s xid ∙ opened)

        pub take_refused : (j : JournalsState) (b : X) (z : Y) (r : Refusal) → take_answer w.queue.queue n ≡ Err r → (j ≡ s.journals) × (b ≡ a) × (z ≡ y) → IfSome (tell a) (OnDisk (Fits s))
            → Runs tell faults draw counts s take a b y z (Ok (record { journals = j; transactions = s.transactions }, Refused r))
        take_refused j b z r e same fits =
            subst (λ k. Runs tell faults draw counts s take a b y z (Ok (record { journals = k; transactions = s.transactions }, Refused r))) (sym same.0)
            (subst (λ u. Runs tell faults draw counts s take a u y z (Ok (s, Refused r))) (sym same.1)
            (subst (λ v. Runs tell faults draw counts s take a a y v (Ok (s, Refused r))) (sym same.2)
            (refuses_so take r refl take_makes (take_is ∙ ap (take_so (state_of s) name n xid) e) fits)))

        take_needs_are : needs_of (state_of s) take ≡ (record { kind = journal.Queue; name = name; bytes = block_length (length_of (dequeue_of w.queue.queue.last n xid ∷ [])) }) ∷ []
        take_needs_are = ap (take_needs name n xid) take_found

        module _ (b : X) (z : Y) (answer : take_answer w.queue.queue n ≡ Ok tt) where
          take_done : step (state_of s) take ≡ (record (state_of s) { queues = change_queue name (taken n xid) (queues_of s.journals) }, Done)
          take_done = take_is ∙ ap (take_so (state_of s) name n xid) answer

          take_accepted : is_accepted (step (state_of s) take).1 ≡ true
          take_accepted = ap (λ (p : MachineState × Reply). is_accepted p.1) take_done

          pub take_fails : (k : Cause) → Broke tell faults draw counts s.journals (homes_of s) k a b y z → (k ≡ Spent → Tells (JournalsStop s.journals journal.Queue w.queue.queue.name (dequeue_of w.queue.queue.last n xid ∷ [])) (tell a) (tell b))
              → Runs tell faults draw counts s take a b y z (Err k)
          take_fails k broke stops =
              fails tell faults draw counts s take (homes_of s) a b y z k broke take_accepted refl
              (λ e. told_stops_first s take journal.Queue name (dequeue_of w.queue.queue.last n xid ∷ []) _ refl [] take_needs_are take_accepted (tell a) (tell b)
              (subst (λ m. Tells (JournalsStop s.journals journal.Queue m (dequeue_of w.queue.queue.last n xid ∷ [])) (tell a) (tell b)) w.named (stops e)))

          pub take_wants : (j : JournalsState) → Went tell faults draw counts s.journals j (homes_of s) a b y z → Runs tell faults draw counts s take a b y z (Err Memory)
          take_wants j went = wants tell faults draw counts s take (homes_of s) a b y z j went take_accepted refl

          module _ (j : JournalsState) (queues : queues_of j ≡ change_queue w.queue.queue.name (taken n xid) (queues_of s.journals)) (list : j.list ≡ s.journals.list) (kept : AreJournals j) (freed : AreReleased j.queues) where
            take_queues : queues_of j ≡ change_queue name (taken n xid) (queues_of s.journals)
            take_queues = queues ∙ ap (λ m. change_queue m (taken n xid) (queues_of s.journals)) w.named

            keeps_name : (xid : Option (List ℕ)) → (taken n xid w.queue.queue).name ≡ w.queue.queue.name
            keeps_name None = refl
            keeps_name (Some x) = refl

            take_stepped : (state_of (record { journals = j; transactions = touched_by xid name s.transactions }), Done) ≡ step (state_of s) take
            take_stepped = (λ i. (record { queues = take_queues i; xids = xids_touched xid name s.transactions i }, Done)) ∙ sym take_done

            rising : RisesTo w.queue.queue.last w.queue.queue.messages
            rising = (found_has (λ (q : QueueState). q.name) name (λ q. q) IsNumbered (queues_of s.journals) w.queue.queue h.sound.numbers take_found).0.rising

            pub take_store : IsStore (record { journals = j; transactions = touched_by xid name s.transactions })
            take_store =
                let m = ready_of (message_at w.queue.queue.messages n) answer in
                store_changed s h name (taken n xid) w.queue.queue take_found j take_queues xid (keeps_name xid) (λ x. pending_taken x n xid w.queue.queue m.0 rising m.1.0 m.1.1)
                (known_taken (xids_of s.transactions) n xid w.queue.queue (there_open xid s.transactions opened)) list kept freed
                (sound_after (state_of s) (state_of (record { journals = j; transactions = touched_by xid name s.transactions })) take Done h.sound take_stepped)

            pub take_told : (ts : List TransactionState) → ts ≡ touched_by xid name s.transactions → Went tell faults draw counts s.journals j (homes_of s) a b y z
                → Carries (IsListAlive s.journals) (IsListAlive j) (tell a) (tell b) → SameHomes (homes_of_journals j) (homes_of s) → Tells (HadRoom s.journals journal.Queue w.queue.queue.name (dequeue_of w.queue.queue.last n xid ∷ [])) (tell a) (tell b)
                → Runs tell faults draw counts s take a b y z (Ok (record { journals = j; transactions = ts }, Done))
            take_told ts is went alive homes had =
                subst (λ us. Runs tell faults draw counts s take a b y z (Ok (record { journals = j; transactions = us }, Done))) (sym is)
                (done tell faults draw counts s take (homes_of s) a b y z (record { journals = j; transactions = touched_by xid name s.transactions }) Done went refl
                take_stepped take_store (ap rid_of_list list) (clean_alive s.journals j (tell a) (tell b) went.told alive)
                (told_had_first s take journal.Queue name (dequeue_of w.queue.queue.last n xid ∷ []) _ refl [] take_needs_are take_makes refl (tell a) (tell b)
                (subst (λ m. Tells (HadRoom s.journals journal.Queue m (dequeue_of w.queue.queue.last n xid ∷ [])) (tell a) (tell b)) w.named had))
                refl homes)

-- the parts of a put are read at two times
pub put_again : (c : Command) (name body m b : List ℕ) (xid x : Option (List ℕ)) → c ≡ command.Put name body xid → c ≡ command.Put m b x → command.Put name b xid ≡ c
put_again c name body m b xid x is again = ap (λ k. command.Put name k xid) (bodies (sym again ∙ is)) ∙ sym is
  where
    bodies : command.Put m b x ≡ command.Put name body xid → b ≡ body
    bodies e = cc
