-- A queue is made, and a queue is dropped.
use Rattle.std.proofs.Common.{◌≡◌, inl, inr, ℕ, zero, suc, Bool, true, false, not, ◌&&◌, cond, List, [], ◌∷◌, Option, Some, None, unwrap_or, Ok, Err, IfSome, IsTrue, refl, sym, ap, subst, ◌∙◌}
use Rattle.std.specs.List.{slice_get}
use Rattle.std.proofs.lemmas.Bool.{and_parts}
use Rattle.qls_model.specs.Limits.{is_partition, is_kib, is_queue_name}
use Rattle.qls_model.specs.Machine.{MachineState, queue_named, with_queue, without_queue, step, is_empty}
use Rattle.qls_model.specs.declared.machine.PoolId.{PoolId}
use Rattle.qls_model.specs.declared.machine.Message.{Message}
use Rattle.qls_model.specs.declared.machine.QueueState.{QueueState}
use Rattle.qls_model.specs.declared.machine.Command.TheVariants as command
use Rattle.qls_model.specs.declared.machine.Refusal.{Refusal}
use Rattle.qls_model.specs.declared.machine.Refusal.TheVariants as refusal
use Rattle.qls_model.specs.declared.machine.Reply.{Reply}
use Rattle.qls_model.specs.declared.machine.Reply.TheVariants.{Done, Refused}
use Rattle.qls_command.specs.Within.{is_home}
use Rattle.qls_site.specs.Disk.{Disk}
use Rattle.qls_site.specs.Content.{Content, Tells}
use Rattle.qls_site.proofs.Told.{Tells-weaken}
use Rattle.qls_meaning.specs.Spent.{new_journal_meets_end}
use Rattle.qls_pool.specs.Files.{OnDisk, Carries}
use Rattle.qls_pool.proofs.Moments.{Arrives-same}
use Rattle.qls_prepared.specs.Lists.{rid_of as rid_of_list}
use Rattle.qls_journals.specs.declared.cause.Cause.{Cause}
use Rattle.qls_journals.specs.declared.cause.Cause.TheVariants.{Spent}
use Rattle.qls_journals.specs.Ends.{NewQueueStops, HadNewQueue}
use Rattle.qls_queue.specs.Live.{LiveState}
use Rattle.qls_journals.specs.Homes.{SameHomes, with_home, homes_of as homes_of_journals}
use Rattle.qls_journals.specs.Moments.{IsStoreStep, Changes}
use Rattle.qls_journals.specs.Places.{StandsAt, WouldStandAt}
use Rattle.qls_journals.specs.State.{JournalsState, AreJournals, AreReleased, IsReleased, IsListAlive, queues_of}
use Rattle.qls_store.specs.Stores.{StoreState, state_of, home_of, IsStore, Fits}
use Rattle.qls_store.specs.Homes.{homes_of, pool_or, is_accepted}
use Rattle.qls_store.specs.Ends.{MeetsAtOnce, StopsAtEnd}
use Rattle.qls_store.proofs.Keeping.{store_made, store_dropped}
use Rattle.qls_store.proofs.Machines.{new_queue, named_by, queue_step, drop_step, sound_after}
use Rattle.qls_store.proofs.Running.{Runs, Went, Broke, HadFirst, refuses, done, fails, clean_alive, no_end_refused, no_end_unneeded}

not_both : true ≡ false → ⊥
not_both e = cc

none_some : {A : Type 0} (x : A) → None ≡ Some x → ⊥
none_some x e = cc

-- ---- limits

pub queue_parts : (name : List ℕ) (home : Option PoolId) → IsTrue (is_queue_name name && is_home home) → IsTrue (is_queue_name name) × IsTrue (is_home home)
queue_parts name home h = let p = and_parts (is_queue_name name) (is_home home) h in (p.0, p.1)

pub home_within : (home : Option PoolId) (default : PoolId) → IsTrue (is_home home) → (is_partition default.part ≡ true) × (is_kib default.kib ≡ true) → (is_partition (unwrap_or home default).part ≡ true) × (is_kib (unwrap_or home default).kib ≡ true)
home_within None default h d = d
home_within (Some p) default h d = let k = and_parts (is_partition p.part) (is_kib p.kib) h in (k.0, k.1)

pub pool_is : (home : Option PoolId) (default : PoolId) → unwrap_or home default ≡ pool_or default home
pool_is None default = refl
pool_is (Some p) default = refl

pub empty_is : (ms : List Message) → is_empty ms ≡ true → ms ≡ []
empty_is [] e = refl
empty_is (m ∷ ms) e = absurd (not_both (sym e))

turn : (b : Bool) → not b ≡ true → b ≡ false
turn true e = absurd (not_both (sym e))
turn false e = refl

unturn : (b : Bool) → not b ≡ false → b ≡ true
unturn true e = refl
unturn false e = absurd (not_both e)

pub at_place : {A : Type 0} (P : A → Type 0) (qs : List A) (at : ℕ) (q : A) → slice_get qs at ≡ Some q → IfSome (slice_get qs at) P → P q
at_place P qs at q e h = subst (λ o. IfSome o P) e h

pub one_released : (qs : List LiveState) (at : ℕ) → AreReleased qs → IfSome (slice_get qs at) IsReleased
one_released [] at h = tt
one_released (q ∷ qs) zero h = h.0
one_released (q ∷ qs) (suc at) h = one_released qs at h.1

module _ {X Y : Type 0} (tell : X → Option Content) (faults : X → ℕ) (draw : Y → Option (List ℕ)) (counts : Y → ℕ) (s : StoreState) (h : IsStore s) (a : X) (y : Y) where
  -- ---- a queue is made

  module _ (name : List ℕ) (home : Option PoolId) (at : ℕ) where
    same_name : (n : List ℕ) (o : Option PoolId) → command.Queue name home ≡ command.Queue n o → name ≡ n
    same_name n o e = cc

    same_home : (n : List ℕ) (o : Option PoolId) → command.Queue name home ≡ command.Queue n o → home ≡ o
    same_home n o e = cc

    exists_end : (q : QueueState) → queue_named name (queues_of s.journals) ≡ Some q → is_accepted (step (state_of s) (command.Queue name home)).1 ≡ false → (d : Disk) → MeetsAtOnce (homes_of s) (state_of s) (command.Queue name home) d → ⊥
    exists_end q found refused d (inl n) = none_some q (sym n.accepted ∙ ap (λ m. queue_named m (queues_of s.journals)) (sym (same_name n.name n.home n.makes)) ∙ found)
    exists_end q found refused d (inr (inl n)) = not_both (sym n.raises)
    exists_end q found refused d (inr (inr n)) = not_both (sym n.accepted ∙ refused)

    pub queue_exists : StandsAt s.journals.queues name at → IfSome (tell a) (OnDisk (Fits s)) → Runs tell faults draw counts s (command.Queue name home) a a y y (Ok (s, Refused refusal.Exists))
    queue_exists w fits =
        let found : queue_named name (queues_of s.journals) ≡ Some w.queue.queue = named_by name s.journals (Some w.queue) w.held in
        let refused : step (state_of s) (command.Queue name home) ≡ (state_of s, Refused refusal.Exists) = queue_step (state_of s) name home (Some w.queue.queue) found in
        refuses tell faults draw counts s (command.Queue name home) refusal.Exists h refused refl (exists_end w.queue.queue found (ap (λ (p : MachineState × Reply). is_accepted p.1) refused)) a y fits

    module _ (w : WouldStandAt s.journals.queues name at) (pool : PoolId) (pool_so : pool ≡ pool_or (home_of s) home) (b : X) (z : Y) where
      none : queue_named name (queues_of s.journals) ≡ None
      none = named_by name s.journals None w.none

      made : step (state_of s) (command.Queue name home) ≡ (record (state_of s) { queues = with_queue (new_queue name) (queues_of s.journals) }, Done)
      made = queue_step (state_of s) name home None none

      made_accepted : is_accepted (step (state_of s) (command.Queue name home)).1 ≡ true
      made_accepted = ap (λ (p : MachineState × Reply). is_accepted p.1) made

      queue_stops : (u v : Content) → NewQueueStops s.journals pool u v → StopsAtEnd s (command.Queue name home) u v
      queue_stops u v t = record {
        arrives = Arrives-same IsStoreStep u v t.same;
        meets = λ marked clean. inl (record { name = name; home = home; makes = refl; accepted = none; spent = subst (λ p. new_journal_meets_end p v.now.disk ≡ true) pool_so t.meets });
      }

      queue_had : (u v : Content) → HadNewQueue s.journals pool u v → HadFirst s (command.Queue name home) u v
      queue_had u v k clean (inl n) = k (subst (λ p. new_journal_meets_end p u.now.disk ≡ true) (ap (pool_or (home_of s)) (sym (same_home n.name n.home n.makes)) ∙ sym pool_so) n.spent)
      queue_had u v k clean (inr (inl n)) = not_both (sym n.raises)
      queue_had u v k clean (inr (inr n)) = none_some n.need n.there

      pub queue_fails : (k : Cause) → Broke tell faults draw counts s.journals (with_home name (Some pool) (homes_of s)) k a b y z → (k ≡ Spent → Tells (NewQueueStops s.journals pool) (tell a) (tell b)) → Runs tell faults draw counts s (command.Queue name home) a b y z (Err k)
      queue_fails k broke stops =
          fails tell faults draw counts s (command.Queue name home) (with_home name (Some pool) (homes_of s)) a b y z k broke made_accepted (ap (λ p. with_home name (Some p) (homes_of s)) (sym pool_so))
          (λ e. Tells-weaken (NewQueueStops s.journals pool) (StopsAtEnd s (command.Queue name home)) (tell a) (tell b) (stops e) queue_stops)

      queue_stepped : (j : JournalsState) → queues_of j ≡ with_queue (new_queue name) (queues_of s.journals) → (state_of (record { journals = j; transactions = s.transactions }), Done) ≡ step (state_of s) (command.Queue name home)
      queue_stepped j queues = ap (λ qs. (record (state_of s) { queues = qs }, Done)) queues ∙ sym made

      pub queue_store : (j : JournalsState) → queues_of j ≡ with_queue (new_queue name) (queues_of s.journals) → j.list ≡ s.journals.list → AreJournals j → AreReleased j.queues → IsStore (record { journals = j; transactions = s.transactions })
      queue_store j queues list opened freed =
          store_made s h name j list opened freed (sound_after (state_of s) (state_of (record { journals = j; transactions = s.transactions })) (command.Queue name home) Done h.sound (queue_stepped j queues)) queues

      pub queue_done : (j : JournalsState) → Went tell faults draw counts s.journals j (with_home name (Some pool) (homes_of s)) a b y z → queues_of j ≡ with_queue (new_queue name) (queues_of s.journals) → j.list ≡ s.journals.list → AreJournals j → AreReleased j.queues
          → Carries (IsListAlive s.journals) (IsListAlive j) (tell a) (tell b) → SameHomes (homes_of_journals j) (with_home name (Some pool) (homes_of s)) → Tells (HadNewQueue s.journals pool) (tell a) (tell b)
          → Runs tell faults draw counts s (command.Queue name home) a b y z (Ok (record { journals = j; transactions = s.transactions }, Done))
      queue_done j went queues list opened freed alive homes had =
          done tell faults draw counts s (command.Queue name home) (with_home name (Some pool) (homes_of s)) a b y z (record { journals = j; transactions = s.transactions }) Done went refl
          (queue_stepped j queues) (queue_store j queues list opened freed)
          (ap rid_of_list list)
          (clean_alive s.journals j (tell a) (tell b) went.told alive)
          (Tells-weaken (HadNewQueue s.journals pool) (HadFirst s (command.Queue name home)) (tell a) (tell b) had queue_had)
          (ap (λ p. with_home name (Some p) (homes_of s)) (sym pool_so)) homes

  -- ---- a queue is dropped

  module _ (name : List ℕ) (at : ℕ) where
    drop_makes : (n : List ℕ) (o : Option PoolId) → command.Drop name ≡ command.Queue n o → ⊥
    drop_makes n o e = cc

    drop_refuses : (r : Refusal) → step (state_of s) (command.Drop name) ≡ (state_of s, Refused r) → IfSome (tell a) (OnDisk (Fits s)) → Runs tell faults draw counts s (command.Drop name) a a y y (Ok (s, Refused r))
    drop_refuses r refused fits =
        refuses tell faults draw counts s (command.Drop name) r h refused refl
        (λ d. no_end_refused (homes_of s) (state_of s) (command.Drop name) d (ap (λ (p : MachineState × Reply). is_accepted p.1) refused) refl drop_makes) a y fits

    pub drop_missing : WouldStandAt s.journals.queues name at → IfSome (tell a) (OnDisk (Fits s)) → Runs tell faults draw counts s (command.Drop name) a a y y (Ok (s, Refused refusal.Queue))
    drop_missing w fits = drop_refuses refusal.Queue (drop_step (state_of s) name None (named_by name s.journals None w.none)) fits

    dropped_by : (w : StandsAt s.journals.queues name at) (b : Bool) → is_empty w.queue.queue.messages ≡ b → step (state_of s) (command.Drop name) ≡ cond b (record (state_of s) { queues = without_queue name (queues_of s.journals) }, Done) (state_of s, Refused refusal.Busy)
    dropped_by w b e =
        drop_step (state_of s) name (Some w.queue.queue) (named_by name s.journals (Some w.queue) w.held)
        ∙ ap (λ b. cond b (record (state_of s) { queues = without_queue name (queues_of s.journals) }, Done) (state_of s, Refused refusal.Busy)) e

    pub drop_busy : (w : StandsAt s.journals.queues name at) → not (is_empty w.queue.queue.messages) ≡ true → IfSome (tell a) (OnDisk (Fits s)) → Runs tell faults draw counts s (command.Drop name) a a y y (Ok (s, Refused refusal.Busy))
    drop_busy w busy fits = drop_refuses refusal.Busy (dropped_by w false (turn (is_empty w.queue.queue.messages) busy)) fits

    module _ (w : StandsAt s.journals.queues name at) (idle : not (is_empty w.queue.queue.messages) ≡ false) (b : X) (z : Y) where
      dropped : step (state_of s) (command.Drop name) ≡ (record (state_of s) { queues = without_queue name (queues_of s.journals) }, Done)
      dropped = dropped_by w true (unturn (is_empty w.queue.queue.messages) idle)

      pub drop_fails : (k : Cause) → Broke tell faults draw counts s.journals (with_home name None (homes_of s)) k a b y z → (k ≡ Spent → ⊥) → Runs tell faults draw counts s (command.Drop name) a b y z (Err k)
      drop_fails k broke unspent =
          fails tell faults draw counts s (command.Drop name) (with_home name None (homes_of s)) a b y z k broke (ap (λ (p : MachineState × Reply). is_accepted p.1) dropped) refl (λ e. absurd (unspent e))

      drop_stepped : (j : JournalsState) → queues_of j ≡ without_queue name (queues_of s.journals) → (state_of (record { journals = j; transactions = s.transactions }), Done) ≡ step (state_of s) (command.Drop name)
      drop_stepped j queues = ap (λ qs. (record (state_of s) { queues = qs }, Done)) queues ∙ sym dropped

      pub drop_store : (j : JournalsState) → queues_of j ≡ without_queue name (queues_of s.journals) → j.list ≡ s.journals.list → AreJournals j → AreReleased j.queues → IsStore (record { journals = j; transactions = s.transactions })
      drop_store j queues list opened freed =
          store_dropped s h name j list opened freed (sound_after (state_of s) (state_of (record { journals = j; transactions = s.transactions })) (command.Drop name) Done h.sound (drop_stepped j queues)) w.queue.queue (named_by name s.journals (Some w.queue) w.held) (empty_is w.queue.queue.messages (unturn (is_empty w.queue.queue.messages) idle)) queues

      pub drop_done : (j : JournalsState) → Went tell faults draw counts s.journals j (with_home name None (homes_of s)) a b y z → queues_of j ≡ without_queue name (queues_of s.journals) → j.list ≡ s.journals.list → AreJournals j → AreReleased j.queues
          → Carries (IsListAlive s.journals) (IsListAlive j) (tell a) (tell b) → SameHomes (homes_of_journals j) (with_home name None (homes_of s)) → Runs tell faults draw counts s (command.Drop name) a b y z (Ok (record { journals = j; transactions = s.transactions }, Done))
      drop_done j went queues list opened freed alive homes =
          done tell faults draw counts s (command.Drop name) (with_home name None (homes_of s)) a b y z (record { journals = j; transactions = s.transactions }) Done went refl
          (drop_stepped j queues)
          (drop_store j queues list opened freed)
          (ap rid_of_list list)
          (clean_alive s.journals j (tell a) (tell b) went.told alive)
          (Tells-weaken (Changes s.journals j) (HadFirst s (command.Drop name)) (tell a) (tell b) went.told (λ u v k clean. no_end_unneeded (homes_of s) (state_of s) (command.Drop name) u.now.disk refl refl drop_makes))
          refl homes
