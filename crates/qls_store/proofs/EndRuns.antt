-- The commit and the abort of a transaction: what the calls on the journals give of them.
use Rattle.std.proofs.Common.{◌≡◌, ◌⊎◌, inl, inr, ℕ, ◌+◌, Bool, true, false, not, cond, List, [], ◌∷◌, map, Option, Some, None, Ok, Err, IfSome, option_map, refl, sym, ap, subst, ◌∙◌}
use Rattle.std.specs.List.{slice_get}
use Rattle.std.specs.Option.{is_none}
use Rattle.qls_model.specs.Machine.{MachineState, XidState, xid_named, step, answered, first_true, ended, is_prepared}
use Rattle.qls_model.specs.Messages.{only}
use Rattle.qls_model.specs.declared.machine.PoolId.{PoolId}
use Rattle.qls_model.specs.declared.machine.Phase.{Phase}
use Rattle.qls_model.specs.declared.machine.Phase.TheVariants as phase
use Rattle.qls_model.specs.declared.machine.QueueState.{QueueState}
use Rattle.qls_model.specs.declared.machine.Command.{Command}
use Rattle.qls_model.specs.declared.machine.Command.TheVariants as command
use Rattle.qls_model.specs.declared.machine.Refusal.TheVariants as refusal
use Rattle.qls_model.specs.declared.machine.Reply.{Reply}
use Rattle.qls_model.specs.declared.machine.Reply.TheVariants.{Done, Refused}
use Rattle.qls_site.specs.Disk.{Disk}
use Rattle.qls_site.specs.Content.{Content, Tells}
use Rattle.qls_site.proofs.Told.{Tells-weaken}
use Rattle.qls_decide.specs.Entries.{entry_of, state_of as state_in, without_entry}
use Rattle.qls_replay.specs.Ops.{verdict_if}
use Rattle.qls_pool.specs.Files.{OnDisk}
use Rattle.qls_prepared.specs.Lists.{rid_of as rid_of_list}
use Rattle.qls_journals.specs.declared.cause.Cause.{Cause}
use Rattle.qls_journals.specs.declared.cause.Cause.TheVariants.{Memory, Spent}
use Rattle.qls_journals.specs.Ends.{at_end_for}
use Rattle.qls_journals.specs.State.{JournalsState, AreJournals, AreReleased, queues_of}
use Rattle.qls_store.specs.Stores.{StoreState, TransactionState, state_of, rid_of, touched, IsStore, Fits}
use Rattle.qls_store.specs.Homes.{homes_of, is_accepted}
use Rattle.qls_store.specs.Ends.{Need, NeedsFirst, NeedsRid, NeedsRoom, MeetsAtOnce, needs_of, abort_needs, all_needs, end_need, raises_rid, is_open_by, StopsAtEnd}
use Rattle.qls_store.specs.Table.{named, phase_in, queues_in, queues_by, without}
use Rattle.qls_store.specs.Calls.{Calls, NeedsOne, NeedsOneRid, StopsInOne, LacksFirst, ended_in, state_by}
use Rattle.qls_store.specs.Calls.{HadFirst as CallsHadFirst}
use Rattle.qls_store.proofs.Marking.{found_has}
use Rattle.qls_store.proofs.Placed.{xid_of}
use Rattle.qls_store.proofs.Machines.{xid_held, sound_after, entry_of as entry_in}
use Rattle.qls_store.proofs.Running.{Runs, HadFirst, StaysClean, whole_of, done, fails, broken, refuses, calm_wants, no_end_refused, homes_same}
use Rattle.qls_store.proofs.Ended.{ends, touched_ended, touched_named}
use Rattle.qls_store.proofs.EndedStore.{ended_store, store_ended, state_ended, entry_by}
use Rattle.qls_store.proofs.Named.{AreNamed}

-- ---- the transaction

pub found_phase : (x : List ℕ) (ts : List TransactionState) (p : Phase) → phase_in x ts ≡ Some p → (t : TransactionState) × (named x ts ≡ Some t) × (t.phase ≡ p)
found_phase x ts p h = by (named x ts) h
  where
    some_is : {A : Type 0} {a b : A} → Some a ≡ Some b → a ≡ b
    some_is e = cc

    by : (o : Option TransactionState) → option_map (λ (t : TransactionState). t.phase) o ≡ Some p → (t : TransactionState) × (o ≡ Some t) × (t.phase ≡ p)
    by None e = absurd (cc)
    by (Some t) e = (t, refl, some_is e)

missing_phase : (x : List ℕ) (ts : List TransactionState) → phase_in x ts ≡ None → named x ts ≡ None
missing_phase x ts h = by (named x ts) h
  where
    by : (o : Option TransactionState) → option_map (λ (t : TransactionState). t.phase) o ≡ None → o ≡ None
    by None e = refl
    by (Some t) e = absurd (cc)

-- its queues
pub its_queues : (s : StoreState) → IsStore s → (x : List ℕ) (t : TransactionState) → named x s.transactions ≡ Some t → queues_in x s.transactions ≡ touched x (queues_of s.journals)
its_queues s h x t found =
    let has = found_has xid_of x (λ u. u) (λ u. u.queues ≡ touched u.xid (queues_of s.journals)) s.transactions t h.queues found in
    ap queues_by found ∙ has.0 ∙ ap (λ y. touched y (queues_of s.journals)) has.1

pub queues_named : (s : StoreState) → IsStore s → (x : List ℕ) (t : TransactionState) → named x s.transactions ≡ Some t → (names : List (List ℕ)) → names ≡ queues_in x s.transactions → AreNamed names (queues_of s.journals)
queues_named s h x t found names e = subst (λ ns. AreNamed ns (queues_of s.journals)) (sym (e ∙ its_queues s h x t found)) (touched_named x (queues_of s.journals))

pub entry_of_phase : (s : StoreState) → IsStore s → (x : List ℕ) (p : Phase) → phase_in x s.transactions ≡ Some p → state_in (entry_of x s.journals.list.entries) ≡ state_by p
entry_of_phase s h x p e =
    let f = found_phase x s.transactions p e in
    entry_by s h x f.0 f.1 ∙ ap state_by f.2

pub all_ended : (s : StoreState) → IsStore s → (x : List ℕ) (commit : Bool) (t : TransactionState) → named x s.transactions ≡ Some t → (names : List (List ℕ)) → names ≡ queues_in x s.transactions → (qs : List QueueState)
    → qs ≡ ended_in names (record { xid = x; commit = commit } ∷ []) (queues_of s.journals) → qs ≡ map (ends x commit) (queues_of s.journals)
all_ended s h x commit t found names e qs is =
    is ∙ ap (λ ns. ended_in ns (record { xid = x; commit = commit } ∷ []) (queues_of s.journals)) (e ∙ its_queues s h x t found) ∙ touched_ended x commit (queues_of s.journals)

-- ---- the machine

abbrev pub ending : Bool → List ℕ → Command
ending true x = command.Commit x
ending false x = command.Abort x

pub end_missing : (S : MachineState) (commit : Bool) (x : List ℕ) → xid_named x S.xids ≡ None → step S (ending commit x) ≡ (S, Refused refusal.Xid)
end_missing S true x e = ap (λ (o : Option XidState). answered S (command.Commit x) (first_true ((is_none o, refusal.Xid) ∷ []))) e
end_missing S false x e = ap (λ (o : Option XidState). answered S (command.Abort x) (first_true ((is_none o, refusal.Xid) ∷ []))) e

pub end_step : (S : MachineState) (commit : Bool) (x : List ℕ) (e : XidState) → xid_named x S.xids ≡ Some e → step S (ending commit x) ≡ (ended x (verdict_if commit) S, Done)
end_step S true x f e = ap (λ (o : Option XidState). answered S (command.Commit x) (first_true ((is_none o, refusal.Xid) ∷ []))) e
end_step S false x f e = ap (λ (o : Option XidState). answered S (command.Abort x) (first_true ((is_none o, refusal.Xid) ∷ []))) e

not_made : (commit : Bool) (x name : List ℕ) (home : Option PoolId) → ending commit x ≡ command.Queue name home → ⊥
not_made true x name home e = no e
  where
    no : command.Commit x ≡ command.Queue name home → ⊥
    no e = cc
not_made false x name home e = no e
  where
    no : command.Abort x ≡ command.Queue name home → ⊥
    no e = cc

-- what it needs of the list and of its queues
abbrev pub needs_by : Bool → List (List ℕ) → Phase → List Need
needs_by true names p = all_needs names
needs_by false names p = cond (is_prepared p) (all_needs names) (map end_need names)

abbrev pub raises_by : Bool → Phase → Bool
raises_by true p = not (is_prepared p)
raises_by false p = false

needs_are : (S : MachineState) (commit : Bool) (x : List ℕ) (e : XidState) → xid_named x S.xids ≡ Some e → needs_of S (ending commit x) ≡ needs_by commit (touched x S.queues) e.phase
needs_are S true x e i = refl
needs_are S false x e i = ap (abort_needs (touched x S.queues)) i

raises_are : (S : MachineState) (commit : Bool) (x : List ℕ) (e : XidState) → xid_named x S.xids ≡ Some e → raises_rid S (ending commit x) ≡ raises_by commit e.phase
raises_are S true x e i = ap is_open_by i
raises_are S false x e i = refl

homes_stay : (s : StoreState) (commit : Bool) (x : List ℕ) → Rattle.qls_store.specs.Homes.home_by (ending commit x) (homes_of s) ≡ homes_of s
homes_stay s true x = refl
homes_stay s false x = refl

missing_raises : (S : MachineState) (commit : Bool) (x : List ℕ) → xid_named x S.xids ≡ None → raises_rid S (ending commit x) ≡ false
missing_raises S true x e = ap is_open_by e
missing_raises S false x e = refl

-- ---- what can't be had

module _ (s : StoreState) (c : Command) (raises : Bool) (needs : List Need) (raised : raises_rid (state_of s) c ≡ raises) (needed : needs_of (state_of s) c ≡ needs) (accepted : is_accepted (step (state_of s) c).1 ≡ true)
    (not_queue : (name : List ℕ) (home : Option PoolId) → c ≡ command.Queue name home → ⊥) where
  first_lacks : (ns : List Need) (n : Need) (d : Disk) → slice_get ns 0 ≡ Some n → at_end_for (homes_of s) n.kind n.name n.bytes d ≡ true → LacksFirst (homes_of s) ns d
  first_lacks [] n d e i = absurd (cc)
  first_lacks (m ∷ ns) n d e i = ap (λ (k : Need). at_end_for (homes_of s) k.kind k.name k.bytes d) (same e) ∙ i
    where
      same : Some m ≡ Some n → m ≡ n
      same e = cc

  meets_lacks : (d : Disk) → MeetsAtOnce (homes_of s) (state_of s) c d → NeedsOneRid raises d ⊎ LacksFirst (homes_of s) needs d
  meets_lacks d (inl n) = absurd (not_queue n.name n.home n.makes)
  meets_lacks d (inr (inl n)) = inl (record { raised = sym raised ∙ n.raises; spent = n.spent })
  meets_lacks d (inr (inr n)) = inr (first_lacks needs n.need d (ap (λ ns. slice_get ns 0) (sym needed) ∙ n.there) n.spent)

  pub had_so : (a b : Option Content) → Tells (CallsHadFirst s.journals raises needs) a b → Tells (HadFirst s c) a b
  had_so a b h = Tells-weaken (CallsHadFirst s.journals raises needs) (HadFirst s c) a b h (λ u v k. λ clean meets. k (whole_of s.journals u.now.disk clean) (meets_lacks u.now.disk meets))

  lacks_meets : (d : Disk) → NeedsOneRid raises d ⊎ NeedsOne (homes_of s) needs d → Rattle.qls_store.specs.Ends.MeetsItsEnd (homes_of s) (state_of s) c d
  lacks_meets d (inl n) = inr (inl (record { raises = raised ∙ n.raised; spent = n.spent }))
  lacks_meets d (inr n) = inr (inr (n.at, record { need = n.need; accepted = accepted; there = ap (λ ns. slice_get ns n.at) needed ∙ n.there; spent = n.spent }))

  pub stops_so : (a b : Option Content) → Tells (StopsInOne s.journals raises needs) a b → Tells (StopsAtEnd s c) a b
  stops_so a b h =
      Tells-weaken (StopsInOne s.journals raises needs) (StopsAtEnd s c) a b h (λ u v k. record { arrives = k.arrives; meets = λ marked clean. lacks_meets v.now.disk (k.meets marked (whole_of s.journals u.now.disk clean)) })

-- ---- the record id

rid_raised : (p : Bool) (m n : ℕ) → n ≡ cond p m (m + 1) → n ≡ cond (not p) (m + 1) m
rid_raised true m n e = e
rid_raised false m n e = e

accepted_by : (s : StoreState) (c : Command) (S : MachineState) (reply : Reply) → step (state_of s) c ≡ (S, reply) → is_accepted (step (state_of s) c).1 ≡ is_accepted reply
accepted_by s c S reply e = ap (λ (p : MachineState × Reply). is_accepted p.1) e

-- ---- the command

module _ {X Y : Type 0} (tell : X → Option Content) (faults : X → ℕ) (draw : Y → Option (List ℕ)) (counts : Y → ℕ) (s : StoreState) (h : IsStore s) (commit : Bool) (x : List ℕ) where
  pub end_refused : (a : X) (y : Y) → phase_in x s.transactions ≡ None → IfSome (tell a) (OnDisk (Fits s)) → Runs tell faults draw counts s (ending commit x) a a y y (Ok (s, Refused refusal.Xid))
  end_refused a y none fits =
      let missing : xid_named x (state_of s).xids ≡ None = xid_held x s.transactions ∙ ap (option_map entry_in) (missing_phase x s.transactions none) in
      let refused : step (state_of s) (ending commit x) ≡ (state_of s, Refused refusal.Xid) = end_missing (state_of s) commit x missing in
      refuses tell faults draw counts s (ending commit x) refusal.Xid h refused (missing_raises (state_of s) commit x missing)
      (λ d. no_end_refused (homes_of s) (state_of s) (ending commit x) d (accepted_by s (ending commit x) (state_of s) (Refused refusal.Xid) refused) (missing_raises (state_of s) commit x missing) (not_made commit x)) a y fits

  module _ (p : Phase) (there : phase_in x s.transactions ≡ Some p) where
    found : (t : TransactionState) × (named x s.transactions ≡ Some t) × (t.phase ≡ p)
    found = found_phase x s.transactions p there

    held : xid_named x (state_of s).xids ≡ Some (entry_in found.0)
    held = xid_held x s.transactions ∙ ap (option_map entry_in) found.1

    stepped : step (state_of s) (ending commit x) ≡ (ended x (verdict_if commit) (state_of s), Done)
    stepped = end_step (state_of s) commit x (entry_in found.0) held

    accepts : is_accepted (step (state_of s) (ending commit x)).1 ≡ true
    accepts = accepted_by s (ending commit x) (ended x (verdict_if commit) (state_of s)) Done stepped

    raised : raises_rid (state_of s) (ending commit x) ≡ raises_by commit p
    raised = raises_are (state_of s) commit x (entry_in found.0) held ∙ ap (raises_by commit) found.2

    -- memory is wanting
    pub end_wants : (a : X) (y : Y) → Runs tell faults draw counts s (ending commit x) a a y y (Err Memory)
    end_wants a y = calm_wants tell faults draw counts s (ending commit x) accepts (homes_same (state_of s) (ending commit x) (homes_of s) (homes_stay s commit x)) a y

    module _ (names : List (List ℕ)) (named_so : names ≡ queues_in x s.transactions) where
      needed : needs_of (state_of s) (ending commit x) ≡ needs_by commit names p
      needed =
          needs_are (state_of s) commit x (entry_in found.0) held
          ∙ (λ i. needs_by commit (sym (named_so ∙ its_queues s h x found.0 found.1) i) (found.2 i))

      -- a call failed
      pub end_fails : (k : Cause) (a b : X) (u v : Y) → Calls (Err k) s.journals (tell a) (tell b) (draw u) (draw v) (faults a) (faults b) (counts u) (counts v)
          → (k ≡ Spent → Tells (StopsInOne s.journals (raises_by commit p) (needs_by commit names p)) (tell a) (tell b)) → Runs tell faults draw counts s (ending commit x) a b u v (Err k)
      end_fails k a b u v w spent =
          fails tell faults draw counts s (ending commit x) (homes_of s) a b u v k
          (broken tell faults draw counts {Z = JournalsState} s.journals (homes_of s) k a b u v w.told w.drawn w.leaves w.writes w.pools w.causes)
          accepts (homes_stay s commit x)
          (λ e. stops_so s (ending commit x) (raises_by commit p) (needs_by commit names p) raised needed accepts (not_made commit x) (tell a) (tell b) (spent e))

      -- the calls arrived
      pub end_done : (j : JournalsState) (ts : List TransactionState) (a b : X) (u v : Y) → ts ≡ without x s.transactions → Calls (Ok j) s.journals (tell a) (tell b) (draw u) (draw v) (faults a) (faults b) (counts u) (counts v)
          → queues_of j ≡ ended_in names (record { xid = x; commit = commit } ∷ []) (queues_of s.journals) → j.list.entries ≡ without_entry x s.journals.list.entries → AreJournals j
          → rid_of_list j.list ≡ cond (raises_by commit p) (rid_of s + 1) (rid_of s) → Tells (StaysClean s.journals j) (tell a) (tell b) → Tells (CallsHadFirst s.journals (raises_by commit p) (needs_by commit names p)) (tell a) (tell b)
          → Runs tell faults draw counts s (ending commit x) a b u v (Ok (record { journals = j; transactions = ts }, Done))
      end_done j ts a b u v is w queues entries opened rid clean had =
          let all = all_ended s h x commit found.0 found.1 names named_so (queues_of j) queues in
          let steps : (state_of (ended_store s x j), Done) ≡ step (state_of s) (ending commit x) = (λ i. (state_ended s x commit j all i, Done)) ∙ sym stepped in
          subst (λ us. Runs tell faults draw counts s (ending commit x) a b u v (Ok (record { journals = j; transactions = us }, Done))) (sym is)
          (done tell faults draw counts s (ending commit x) (homes_of s) a b u v (ended_store s x j) Done
          (record { told = w.told; drawn = w.drawn; leaves = w.leaves; writes = w.writes; pools = w.pools; sites_kept = w.causes.sites_kept; draws_kept = w.causes.draws_kept }) refl
          steps (store_ended s h x commit j all entries opened (w.released h.released) (sound_after (state_of s) (state_of (ended_store s x j)) (ending commit x) Done h.sound steps))
          (rid ∙ ap (λ b. cond b (rid_of s + 1) (rid_of s)) (sym raised)) clean
          (had_so s (ending commit x) (raises_by commit p) (needs_by commit names p) raised needed accepts (not_made commit x) (tell a) (tell b) had) (homes_stay s commit x) w.homes)

      pub end_store : (j : JournalsState) (ts : List TransactionState) → ts ≡ without x s.transactions → queues_of j ≡ ended_in names (record { xid = x; commit = commit } ∷ []) (queues_of s.journals)
          → j.list.entries ≡ without_entry x s.journals.list.entries → AreJournals j → AreReleased j.queues → IsStore (record { journals = j; transactions = ts })
      end_store j ts is queues entries opened freed =
          let all = all_ended s h x commit found.0 found.1 names named_so (queues_of j) queues in
          let steps : (state_of (ended_store s x j), Done) ≡ step (state_of s) (ending commit x) = (λ i. (state_ended s x commit j all i, Done)) ∙ sym stepped in
          subst (λ us. IsStore (record { journals = j; transactions = us })) (sym is)
          (store_ended s h x commit j all entries opened freed (sound_after (state_of s) (state_of (ended_store s x j)) (ending commit x) Done h.sound steps))

-- the record id after a decision in the list
pub decided_rid : (commit : Bool) (p : Phase) → (commit ≡ false → p ≡ phase.Prepared) → (m n : ℕ) → n ≡ cond (is_prepared p) m (m + 1) → n ≡ cond (raises_by commit p) (m + 1) m
decided_rid true p only m n e = rid_raised (is_prepared p) m n e
decided_rid false p only m n e = e ∙ ap (λ q. cond (is_prepared q) m (m + 1)) (only refl)

pub commit_only : (p : Phase) → true ≡ false → p ≡ phase.Prepared
commit_only p e = absurd (not_both e)
  where
    not_both : true ≡ false → ⊥
    not_both e = cc
