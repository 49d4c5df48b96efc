-- What the plain machine does with a command, by the queue and the transaction that are found.
use Rattle.std.proofs.Common.{◌≡◌, ℕ, ◌+◌, ◌-◌, ◌==◌, ◌^◌, Bool, true, false, not, cond, List, [], ◌∷◌, ◌++◌, map, Option, Some, None, Result, Ok, Err, option_map, refl, ap, sym, subst, ◌∙◌}
use Rattle.std.specs.Option.{is_some, is_none}
use Rattle.qls_model.specs.Bytes.{same}
use Rattle.qls_model.specs.Messages.{with_message, message_at}
use Rattle.qls_model.specs.Machine.{MachineState, XidState, queue_named, xid_named, with_queue, without_queue, with_xid, change_queue, step, answered, first_true, passes, is_empty, is_ready, is_prepared, refusals, messages_of, next_number, put_message, taken, prepared, by_open}
use Rattle.qls_model.specs.declared.machine.PoolId.{PoolId}
use Rattle.qls_model.specs.declared.machine.Phase.{Phase}
use Rattle.qls_model.specs.declared.machine.Phase.TheVariants.{Open}
use Rattle.qls_model.specs.declared.machine.Message.{Message}
use Rattle.qls_model.specs.declared.machine.QueueState.{QueueState}
use Rattle.qls_model.specs.declared.machine.Command.{Command}
use Rattle.qls_model.specs.declared.machine.Command.TheVariants as command
use Rattle.qls_model.specs.declared.machine.Refusal.{Refusal}
use Rattle.qls_model.specs.declared.machine.Refusal.TheVariants as refusal
use Rattle.qls_model.specs.declared.machine.Reply.{Reply}
use Rattle.qls_model.specs.declared.machine.Reply.TheVariants.{Done, Number, Messages, Refused}
use Rattle.qls_model.specs.Sound.{IsSound}
use Rattle.qls_model.proofs.SoundLaws.{accepted-sound}
use Rattle.qls_queue.specs.Live.{LiveState}
use Rattle.qls_journals.specs.State.{JournalsState, queue_held, queues_of}
use Rattle.qls_journals.specs.Answers.{put_answer, take_by, take_answer}
use Rattle.qls_store.specs.Stores.{StoreState, TransactionState, state_of, xids_of}
use Rattle.qls_store.specs.Table.{named, phase_in, not_open_by, not_open_in}

-- ---- what is found

abbrev pub held_of : LiveState → QueueState
held_of q = q.queue

abbrev pub entry_of : TransactionState → XidState
entry_of t = record { xid = t.xid; phase = t.phase }

-- the machine finds the queue that the store holds
pub named_held : (name : List ℕ) (qs : List LiveState) → queue_named name (map held_of qs) ≡ option_map held_of (queue_held name qs)
named_held name [] = refl
named_held name (q ∷ qs) =
    elim (same q.queue.name name) as (λ b. cond b (Some q.queue) (queue_named name (map held_of qs)) ≡ option_map held_of (cond b (Some q) (queue_held name qs))) [
      | true ↦ refl
      | false ↦ named_held name qs
    ]

pub named_by : (name : List ℕ) (j : JournalsState) (o : Option LiveState) → queue_held name j.queues ≡ o → queue_named name (queues_of j) ≡ option_map held_of o
named_by name j o e = named_held name j.queues ∙ ap (option_map held_of) e

-- and the transaction
pub xid_held : (x : List ℕ) (ts : List TransactionState) → xid_named x (xids_of ts) ≡ option_map entry_of (named x ts)
xid_held x [] = refl
xid_held x (t ∷ ts) =
    elim (same t.xid x) as (λ b. cond b (Some (entry_of t)) (xid_named x (xids_of ts)) ≡ option_map entry_of (cond b (Some t) (named x ts))) [
      | true ↦ refl
      | false ↦ xid_held x ts
    ]

abbrev phase_of : XidState → Phase
phase_of e = e.phase

pub phase_held : (x : List ℕ) (ts : List TransactionState) → option_map phase_of (xid_named x (xids_of ts)) ≡ phase_in x ts
phase_held x ts = ap (option_map phase_of) (xid_held x ts) ∙ by (named x ts)
  where
    by : (o : Option TransactionState) → option_map phase_of (option_map entry_of o) ≡ option_map (λ (t : TransactionState). t.phase) o
    by None = refl
    by (Some t) = refl

-- ---- commands on queues

abbrev pub new_queue : List ℕ → QueueState
new_queue name = record { name = name; last = 0; messages = [] }

abbrev pub after_queue : MachineState → List ℕ → Option QueueState → MachineState × Reply
after_queue S name None = (record S { queues = with_queue (new_queue name) S.queues }, Done)
after_queue S name (Some q) = (S, Refused refusal.Exists)

pub queue_step : (S : MachineState) (name : List ℕ) (home : Option PoolId) (o : Option QueueState) → queue_named name S.queues ≡ o → step S (command.Queue name home) ≡ after_queue S name o
queue_step S name home None e = ap (λ (o : Option QueueState). answered S (command.Queue name home) (first_true ((is_some o, refusal.Exists) ∷ []))) e
queue_step S name home (Some q) e = ap (λ (o : Option QueueState). answered S (command.Queue name home) (first_true ((is_some o, refusal.Exists) ∷ []))) e

abbrev pub after_list : MachineState → Option QueueState → MachineState × Reply
after_list S None = (S, Refused refusal.Queue)
after_list S (Some q) = (S, Messages q.messages)

pub list_step : (S : MachineState) (name : List ℕ) (o : Option QueueState) → queue_named name S.queues ≡ o → step S (command.List name) ≡ after_list S o
list_step S name None e =
    ap (λ (o : Option QueueState). answered S (command.List name) (first_true ((is_none o, refusal.Queue) ∷ []))) e
list_step S name (Some q) e =
    ap (λ (o : Option QueueState). answered S (command.List name) (first_true ((is_none o, refusal.Queue) ∷ []))) e ∙ ap (λ (o : Option QueueState). (S, Messages (messages_of o))) e

abbrev pub after_drop : MachineState → List ℕ → Option QueueState → MachineState × Reply
after_drop S name None = (S, Refused refusal.Queue)
after_drop S name (Some q) = cond (is_empty q.messages) (record S { queues = without_queue name S.queues }, Done) (S, Refused refusal.Busy)

abbrev dropped : MachineState → List ℕ → Option QueueState → MachineState × Reply
dropped S name o = answered S (command.Drop name) (first_true ((is_none o, refusal.Queue) ∷ (passes (λ q. not (is_empty q.messages)) o, refusal.Busy) ∷ []))

pub drop_step : (S : MachineState) (name : List ℕ) (o : Option QueueState) → queue_named name S.queues ≡ o → step S (command.Drop name) ≡ after_drop S name o
drop_step S name None e = ap (dropped S name) e
drop_step S name (Some q) e = ap (dropped S name) e ∙ by (is_empty q.messages)
  where
    by : (b : Bool) → answered S (command.Drop name) (cond (not b) (Some refusal.Busy) None) ≡ cond b (record S { queues = without_queue name S.queues }, Done) (S, Refused refusal.Busy)
    by true = refl
    by false = refl

-- ---- by a transaction

abbrev pub or_else : Option Refusal → Option Refusal → Option Refusal
or_else None next = next
or_else (Some r) next = Some r

-- why the machine refuses what is to be done by an open transaction
abbrev pub refusal_by : MachineState → Option (List ℕ) → Option Refusal
refusal_by S None = None
refusal_by S (Some x) = not_open_by (option_map phase_of (xid_named x S.xids))

pub refusal_held : (s : StoreState) (xid : Option (List ℕ)) → refusal_by (state_of s) xid ≡ not_open_in xid s.transactions
refusal_held s None = refl
refusal_held s (Some x) = ap not_open_by (phase_held x s.transactions)

pub open_tests : (S : MachineState) (xid : Option (List ℕ)) (rest : List (Bool × Refusal)) → first_true (by_open S xid ++ rest) ≡ or_else (refusal_by S xid) (first_true rest)
open_tests S None rest = refl
open_tests S (Some x) rest = by (xid_named x S.xids)
  where
    phase_is : (p : Phase) → cond (is_prepared p) (Some refusal.Phase) (first_true rest) ≡ or_else (not_open_by (Some p)) (first_true rest)
    phase_is Open = refl
    phase_is Rattle.qls_model.specs.declared.machine.Phase.TheVariants.Prepared = refl

    by : (o : Option XidState) → first_true ((is_none o, refusal.Xid) ∷ (passes (λ e. is_prepared e.phase) o, refusal.Phase) ∷ rest) ≡ or_else (not_open_by (option_map phase_of o)) (first_true rest)
    by None = refl
    by (Some e) = phase_is e.phase

-- ---- a put

module _ (S : MachineState) (name body : List ℕ) (xid : Option (List ℕ)) where
  abbrev pub put_state : ℕ → MachineState
  put_state n = record S { queues = change_queue name (with_message (put_message n body xid)) S.queues }

  abbrev pub put_by : Result ℕ Refusal → MachineState × Reply
  put_by (Ok n) = (put_state n, Number n)
  put_by (Err r) = (S, Refused r)

  abbrev put_tests : Option QueueState → Option QueueState → Option Refusal
  put_tests o p = first_true ((is_none o, refusal.Queue) ∷ (by_open S xid ++ (passes (λ q. q.last == 2 ^ 62 - 1) p, refusal.Spent) ∷ []))

  pub put_missing : queue_named name S.queues ≡ None → step S (command.Put name body xid) ≡ (S, Refused refusal.Queue)
  put_missing e = ap (λ o. answered S (command.Put name body xid) (put_tests o (queue_named name S.queues))) e

  put_found : (q : QueueState) → queue_named name S.queues ≡ Some q → step S (command.Put name body xid) ≡ answered S (command.Put name body xid) (or_else (refusal_by S xid) (cond (q.last == 2 ^ 62 - 1) (Some refusal.Spent) None))
  put_found q e =
      ap (λ o. answered S (command.Put name body xid) (put_tests o o)) e
      ∙ ap (answered S (command.Put name body xid)) (open_tests S xid ((q.last == 2 ^ 62 - 1, refusal.Spent) ∷ []))

  pub put_unopen : (q : QueueState) (r : Refusal) → queue_named name S.queues ≡ Some q → refusal_by S xid ≡ Some r → step S (command.Put name body xid) ≡ (S, Refused r)
  put_unopen q r e u = put_found q e ∙ ap (λ o. answered S (command.Put name body xid) (or_else o (cond (q.last == 2 ^ 62 - 1) (Some refusal.Spent) None))) u

  pub put_step : (q : QueueState) → queue_named name S.queues ≡ Some q → refusal_by S xid ≡ None → step S (command.Put name body xid) ≡ put_by (put_answer q)
  put_step q e u =
      put_found q e ∙ ap (λ o. answered S (command.Put name body xid) (or_else o (cond (q.last == 2 ^ 62 - 1) (Some refusal.Spent) None))) u
      ∙ by (q.last == 2 ^ 62 - 1)
    where
      by : (b : Bool) → answered S (command.Put name body xid) (cond b (Some refusal.Spent) None) ≡ put_by (cond b (Err refusal.Spent) (Ok (q.last + 1)))
      by true = refl
      by false = ap (λ o. (put_state (next_number o), Number (next_number o))) e

-- ---- a take

module _ (S : MachineState) (name : List ℕ) (n : ℕ) (xid : Option (List ℕ)) where
  abbrev pub take_state : MachineState
  take_state = record S { queues = change_queue name (taken n xid) S.queues }

  abbrev pub take_so : Result (Unit {0}) Refusal → MachineState × Reply
  take_so (Ok u) = (take_state, Done)
  take_so (Err r) = (S, Refused r)

  abbrev message_tests : Option QueueState → List (Bool × Refusal)
  message_tests o = (passes (λ q. is_none (message_at q.messages n)) o, refusal.Message) ∷ (passes (λ q. passes (λ m. not (is_ready m.status)) (message_at q.messages n)) o, refusal.Locked) ∷ []

  abbrev take_tests : Option QueueState → Option QueueState → Option Refusal
  take_tests o p = first_true ((is_none o, refusal.Queue) ∷ (by_open S xid ++ message_tests p))

  pub take_missing : queue_named name S.queues ≡ None → step S (command.Take name n xid) ≡ (S, Refused refusal.Queue)
  take_missing e = ap (λ o. answered S (command.Take name n xid) (take_tests o (queue_named name S.queues))) e

  take_found : (q : QueueState) → queue_named name S.queues ≡ Some q → step S (command.Take name n xid) ≡ answered S (command.Take name n xid) (or_else (refusal_by S xid) (first_true (message_tests (Some q))))
  take_found q e =
      ap (λ o. answered S (command.Take name n xid) (take_tests o o)) e ∙ ap (answered S (command.Take name n xid)) (open_tests S xid (message_tests (Some q)))

  pub take_unopen : (q : QueueState) (r : Refusal) → queue_named name S.queues ≡ Some q → refusal_by S xid ≡ Some r → step S (command.Take name n xid) ≡ (S, Refused r)
  take_unopen q r e u = take_found q e ∙ ap (λ o. answered S (command.Take name n xid) (or_else o (first_true (message_tests (Some q))))) u

  pub take_step : (q : QueueState) → queue_named name S.queues ≡ Some q → refusal_by S xid ≡ None → step S (command.Take name n xid) ≡ take_so (take_answer q n)
  take_step q e u =
      take_found q e ∙ ap (λ o. answered S (command.Take name n xid) (or_else o (first_true (message_tests (Some q))))) u ∙ by (message_at q.messages n)
    where
      ready : (b : Bool) → answered S (command.Take name n xid) (cond (not b) (Some refusal.Locked) None) ≡ take_so (cond b (Ok tt) (Err refusal.Locked))
      ready true = refl
      ready false = refl

      by : (o : Option Message) → answered S (command.Take name n xid) (first_true ((is_none o, refusal.Message) ∷ (passes (λ m. not (is_ready m.status)) o, refusal.Locked) ∷ [])) ≡ take_so (take_by o)
      by None = refl
      by (Some m) = ready (is_ready m.status)

-- ---- transactions

abbrev pub after_begin : MachineState → List ℕ → Option XidState → MachineState × Reply
after_begin S x None = (record S { xids = with_xid (record { xid = x; phase = Open }) S.xids }, Done)
after_begin S x (Some e) = (S, Refused refusal.Exists)

pub begin_step : (S : MachineState) (x : List ℕ) (o : Option XidState) → xid_named x S.xids ≡ o → step S (command.Begin x) ≡ after_begin S x o
begin_step S x None e = ap (λ (o : Option XidState). answered S (command.Begin x) (first_true ((is_some o, refusal.Exists) ∷ []))) e
begin_step S x (Some f) e = ap (λ (o : Option XidState). answered S (command.Begin x) (first_true ((is_some o, refusal.Exists) ∷ []))) e

abbrev pub after_prepare : MachineState → List ℕ → Option Refusal → MachineState × Reply
after_prepare S x None = (record S { xids = map (prepared x) S.xids }, Done)
after_prepare S x (Some r) = (S, Refused r)

pub prepare_step : (S : MachineState) (x : List ℕ) (o : Option Refusal) → refusal_by S (Some x) ≡ o → step S (command.Prepare x) ≡ after_prepare S x o
prepare_step S x None e = ap (answered S (command.Prepare x)) (open_tests S (Some x) []) ∙ ap (λ o. answered S (command.Prepare x) (or_else o None)) e
prepare_step S x (Some r) e = ap (answered S (command.Prepare x)) (open_tests S (Some x) []) ∙ ap (λ o. answered S (command.Prepare x) (or_else o None)) e

-- ---- a step keeps the state sound

sound_step : (S : MachineState) (c : Command) → IsSound S.queues S.xids → IsSound (step S c).0.queues (step S c).0.xids
sound_step S c h = by (first_true (refusals S c)) refl
  where
    by : (o : Option Refusal) → first_true (refusals S c) ≡ o → IsSound (answered S c o).0.queues (answered S c o).0.xids
    by None e = accepted-sound S c h e
    by (Some r) e = h

pub sound_after : (S T : MachineState) (c : Command) (reply : Reply) → IsSound S.queues S.xids → (T, reply) ≡ step S c → IsSound T.queues T.xids
sound_after S T c reply h e = subst (λ (U : MachineState). IsSound U.queues U.xids) (sym (ap (λ (p : MachineState × Reply). p.0) e)) (sound_step S c h)
