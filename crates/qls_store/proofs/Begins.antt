-- A transaction begins, and what is read of a store without a call.
use Rattle.std.proofs.Common.{◌≡◌, ℕ, true, false, nat_le, List, [], length, Option, Some, None, option_map, Ok, Err, IfSome, IsTrue, refl, sym, ap, subst, ◌∙◌, arith}
use Rattle.std.specs.Option.{is_some}
use Rattle.std.proofs.lemmas.Bool.{and_parts, leb-true}
use Rattle.qls_model.specs.Machine.{MachineState, step}
use Rattle.qls_model.specs.declared.machine.PoolId.{PoolId}
use Rattle.qls_model.specs.declared.machine.Message.{Message}
use Rattle.qls_model.specs.declared.machine.Phase.{Phase}
use Rattle.qls_model.specs.declared.machine.Command.TheVariants as command
use Rattle.qls_model.specs.declared.machine.Refusal.TheVariants as refusal
use Rattle.qls_model.specs.declared.machine.Reply.{Reply}
use Rattle.qls_model.specs.declared.machine.Reply.TheVariants.{Done, Messages, Doubts, Refused}
use Rattle.qls_command.specs.Within.{is_xid}
use Rattle.qls_site.specs.Content.{Content}
use Rattle.qls_pool.specs.Files.{OnDisk}
use Rattle.qls_queue.specs.Records.{IsXid}
use Rattle.qls_journals.specs.declared.cause.Cause.TheVariants.{Memory}
use Rattle.qls_journals.specs.Places.{StandsAt, WouldStandAt}
use Rattle.qls_store.specs.Stores.{StoreState, TransactionState, state_of, IsStore, Fits}
use Rattle.qls_store.specs.Homes.{homes_of, is_accepted}
use Rattle.qls_store.specs.Table.{named, phase_in, begun, prepared_xids}
use Rattle.qls_store.proofs.Keeping.{store_begun}
use Rattle.qls_store.proofs.Machines.{named_by, xid_held, entry_of, begin_step, list_step, sound_after}
use Rattle.qls_store.proofs.Running.{Runs, calm, calm_wants, refuses, homes_same, no_end_refused, no_end_unneeded}
use Rattle.qls_store.proofs.Tables.{xids_placed, doubts_are}

-- ---- limits

pub is_xid_true : (x : List ℕ) → IsTrue (is_xid x) → IsXid x
is_xid_true x h = let p = and_parts (nat_le 1 (length x)) (nat_le (length x) 128) h in (omega (arith, leb-true 1 (length x) p.0), leb-true (length x) 128 p.1)

-- ---- what is found

pub found_by : (x : List ℕ) (ts : List TransactionState) → is_some (phase_in x ts) ≡ true → (t : TransactionState) × (named x ts ≡ Some t)
found_by x ts h = by (named x ts) h
  where
    by : (o : Option TransactionState) → is_some (option_map (λ (t : TransactionState). t.phase) o) ≡ true → (t : TransactionState) × (o ≡ Some t)
    by None e = absurd (cc)
    by (Some t) e = (t, refl)

pub none_by : (x : List ℕ) (ts : List TransactionState) → phase_in x ts ≡ None → named x ts ≡ None
none_by x ts h = by (named x ts) h
  where
    by : (o : Option TransactionState) → option_map (λ (t : TransactionState). t.phase) o ≡ None → o ≡ None
    by None e = refl
    by (Some t) e = absurd (cc)

pub phase_none : (o : Option Phase) → is_some o ≡ false → o ≡ None
phase_none None e = refl
phase_none (Some p) e = absurd (cc)

differ : true ≡ false → ⊥
differ e = cc

begin_makes : (x name : List ℕ) (home : Option PoolId) → command.Begin x ≡ command.Queue name home → ⊥
begin_makes x name home e = cc

list_makes : (n name : List ℕ) (home : Option PoolId) → command.List n ≡ command.Queue name home → ⊥
list_makes n name home e = cc

doubt_makes : (name : List ℕ) (home : Option PoolId) → command.Doubt ≡ command.Queue name home → ⊥
doubt_makes name home e = cc

accepted_by : (s : StoreState) (c : Rattle.qls_model.specs.declared.machine.Command.Command) (S : MachineState) (reply : Reply) → step (state_of s) c ≡ (S, reply) → is_accepted (step (state_of s) c).1 ≡ is_accepted reply
accepted_by s c S reply e = ap (λ (p : MachineState × Reply). is_accepted p.1) e

module _ {X Y : Type 0} (tell : X → Option Content) (faults : X → ℕ) (draw : Y → Option (List ℕ)) (counts : Y → ℕ) (s : StoreState) (h : IsStore s) (a : X) (y : Y) where
  -- ---- begin

  module _ (x : List ℕ) where
    pub begin_exists : is_some (phase_in x s.transactions) ≡ true → IfSome (tell a) (OnDisk (Fits s)) → Runs tell faults draw counts s (command.Begin x) a a y y (Ok (s, Refused refusal.Exists))
    begin_exists there fits =
        let f = found_by x s.transactions there in
        let refused : step (state_of s) (command.Begin x) ≡ (state_of s, Refused refusal.Exists) = begin_step (state_of s) x (Some (entry_of f.0)) (xid_held x s.transactions ∙ ap (option_map entry_of) f.1) in
        refuses tell faults draw counts s (command.Begin x) refusal.Exists h refused refl
        (λ d. no_end_refused (homes_of s) (state_of s) (command.Begin x) d (accepted_by s (command.Begin x) (state_of s) (Refused refusal.Exists) refused) refl (begin_makes x)) a y fits

    begin_stepped : phase_in x s.transactions ≡ None → (state_of (record { journals = s.journals; transactions = begun x s.transactions }), Done) ≡ step (state_of s) (command.Begin x)
    begin_stepped none =
        ap (λ xs. (record (state_of s) { xids = xs }, Done)) (xids_placed (record { xid = x; phase = Rattle.qls_model.specs.declared.machine.Phase.TheVariants.Open; queues = [] }) s.transactions)
        ∙ sym (begin_step (state_of s) x None (xid_held x s.transactions ∙ ap (option_map entry_of) (none_by x s.transactions none)))

    pub begin_store : phase_in x s.transactions ≡ None → IsXid x → IsStore (record { journals = s.journals; transactions = begun x s.transactions })
    begin_store none xid =
        store_begun s h x xid (none_by x s.transactions none)
        (sound_after (state_of s) (state_of (record { journals = s.journals; transactions = begun x s.transactions })) (command.Begin x) Done h.sound (begin_stepped none))

    pub begin_new : (ts : List TransactionState) → ts ≡ begun x s.transactions → IsXid x → phase_in x s.transactions ≡ None → IfSome (tell a) (OnDisk (Fits s))
        → Runs tell faults draw counts s (command.Begin x) a a y y (Ok (record { journals = s.journals; transactions = ts }, Done))
    begin_new ts is xid none fits =
        subst (λ us. Runs tell faults draw counts s (command.Begin x) a a y y (Ok (record { journals = s.journals; transactions = us }, Done))) (sym is)
        (calm tell faults draw counts s (begun x s.transactions) (command.Begin x) Done (begin_store none xid) (begin_stepped none) refl
        (homes_same (state_of s) (command.Begin x) (homes_of s) refl) (λ e. absurd (differ e)) (λ d. no_end_unneeded (homes_of s) (state_of s) (command.Begin x) d refl refl (begin_makes x)) a y fits)

    pub begin_wants : phase_in x s.transactions ≡ None → Runs tell faults draw counts s (command.Begin x) a a y y (Err Memory)
    begin_wants none = calm_wants tell faults draw counts s (command.Begin x) (ap (λ (p : MachineState × Reply). is_accepted p.1) (sym (begin_stepped none))) (homes_same (state_of s) (command.Begin x) (homes_of s) refl) a y

  -- ---- doubt

  doubt_stepped : (xids : List (List ℕ)) → xids ≡ prepared_xids s.transactions → (state_of s, Doubts xids) ≡ step (state_of s) command.Doubt
  doubt_stepped xids is = ap (λ xs. (state_of s, Doubts xs)) (is ∙ sym (doubts_are s.transactions))

  pub doubt_told : (xids : List (List ℕ)) → xids ≡ prepared_xids s.transactions → IfSome (tell a) (OnDisk (Fits s)) → Runs tell faults draw counts s command.Doubt a a y y (Ok (s, Doubts xids))
  doubt_told xids is fits =
      calm tell faults draw counts s s.transactions command.Doubt (Doubts xids) h (doubt_stepped xids is) refl (homes_same (state_of s) command.Doubt (homes_of s) refl) (λ e. absurd (differ e))
      (λ d. no_end_unneeded (homes_of s) (state_of s) command.Doubt d refl refl doubt_makes) a y fits

  pub doubt_wants : Runs tell faults draw counts s command.Doubt a a y y (Err Memory)
  doubt_wants = calm_wants tell faults draw counts s command.Doubt refl (homes_same (state_of s) command.Doubt (homes_of s) refl) a y

  -- ---- list

  module _ (name : List ℕ) (at : ℕ) where
    pub list_missing : WouldStandAt s.journals.queues name at → IfSome (tell a) (OnDisk (Fits s)) → Runs tell faults draw counts s (command.List name) a a y y (Ok (s, Refused refusal.Queue))
    list_missing w fits =
        let refused : step (state_of s) (command.List name) ≡ (state_of s, Refused refusal.Queue) = list_step (state_of s) name None (named_by name s.journals None w.none) in
        refuses tell faults draw counts s (command.List name) refusal.Queue h refused refl
        (λ d. no_end_refused (homes_of s) (state_of s) (command.List name) d (accepted_by s (command.List name) (state_of s) (Refused refusal.Queue) refused) refl (list_makes name)) a y fits

    list_stepped : (w : StandsAt s.journals.queues name at) → step (state_of s) (command.List name) ≡ (state_of s, Messages w.queue.queue.messages)
    list_stepped w = list_step (state_of s) name (Some w.queue.queue) (named_by name s.journals (Some w.queue) w.held)

    pub list_told : (w : StandsAt s.journals.queues name at) (ms : List Message) → ms ≡ w.queue.queue.messages → IfSome (tell a) (OnDisk (Fits s)) → Runs tell faults draw counts s (command.List name) a a y y (Ok (s, Messages ms))
    list_told w ms is fits =
        calm tell faults draw counts s s.transactions (command.List name) (Messages ms) h (ap (λ ns. (state_of s, Messages ns)) is ∙ sym (list_stepped w)) refl (homes_same (state_of s) (command.List name) (homes_of s) refl) (λ e. absurd (differ e))
        (λ d. no_end_unneeded (homes_of s) (state_of s) (command.List name) d refl refl (list_makes name)) a y fits

    pub list_wants : StandsAt s.journals.queues name at → Runs tell faults draw counts s (command.List name) a a y y (Err Memory)
    list_wants w = calm_wants tell faults draw counts s (command.List name) (ap (λ (p : MachineState × Reply). is_accepted p.1) (list_stepped w)) (homes_same (state_of s) (command.List name) (homes_of s) refl) a y
