-- What is to be shown of each command, and what calls on the journals give of it.
use Rattle.std.proofs.Common.{◌≡◌, inl, inr, ℕ, ◌+◌, ◌≤◌, true, false, cond, List, [], Option, Some, None, Result, Ok, Err, IfSome, IfOk, IfErr, refl, sym, ap, subst, ◌∙◌, arith}
use Rattle.std.specs.List.{slice_get}
use Rattle.qls_model.specs.Machine.{MachineState, step}
use Rattle.qls_model.specs.declared.machine.PoolId.{PoolId}
use Rattle.qls_model.specs.declared.machine.Command.{Command}
use Rattle.qls_model.specs.declared.machine.Command.TheVariants as command
use Rattle.qls_model.specs.declared.machine.Refusal.{Refusal}
use Rattle.qls_model.specs.declared.machine.Reply.{Reply}
use Rattle.qls_model.specs.declared.machine.Reply.TheVariants.{Refused}
use Rattle.qls_site.specs.Disk.{Disk}
use Rattle.qls_site.specs.Content.{Content, Tells, moments_since}
use Rattle.qls_site.proofs.Told.{Tells-weaken}
use Rattle.qls_meaning.specs.History.{AllUnmarked}
use Rattle.qls_pool.specs.Files.{OnDisk, Carries}
use Rattle.qls_pool.specs.Moments.{EndsIn, Passes}
use Rattle.qls_pool.specs.Serials.{DrawsTaken}
use Rattle.qls_pool.proofs.Moments.{Arrives-same, Passes-same, Passes-of}
use Rattle.qls_journals.specs.declared.cause.Cause.{Cause}
use Rattle.qls_journals.specs.declared.cause.Cause.TheVariants.{Failed, Draw, Spent, Memory}
use Rattle.qls_journals.specs.Answers.{is_exact, StoreCauses, SiteCauses}
use Rattle.qls_journals.specs.Homes.{Homes, SameHomes, TakesFromHome}
use Rattle.qls_journals.specs.Moments.{IsStoreStep, StaysWritten, Changes, BecomesClean, LeavesDead as JournalsLeaveDead}
use Rattle.qls_journals.specs.State.{JournalsState, IsWhole, IsListAlive, IsClean as AreClean}
use Rattle.qls_store.specs.Stores.{StoreState, TransactionState, state_of, rid_of, IsStore, Fits, IsClean}
use Rattle.qls_store.specs.Homes.{homes_of, homes_after, home_by, is_accepted}
use Rattle.qls_store.specs.Ends.{Need, needs_of, raises_rid, MeetsAtOnce, StopsAtEnd}
use Rattle.qls_store.specs.Steps.{RunsCommand, LeavesDead}
use Rattle.qls_store.proofs.Resting.{Writes, drawn_none, drawn_weaken, leaves_none, pools_none, writes_none}

not_both : true ≡ false → ⊥
not_both e = cc

-- ---- journals that are clean are whole

pub whole_of : (j : JournalsState) (d : Disk) → AreClean j d → IsWhole j d
whole_of j d clean = clean.whole

-- where the files that came into use were unmarked, the journals are clean if they were
abbrev pub StaysClean : JournalsState → JournalsState → Content → Content → Type 0
StaysClean was j old new = AllUnmarked old.now (moments_since old new) → AreClean was old.now.disk → AreClean j new.now.disk

pub clean_alive : (was j : JournalsState) (a b : Option Content) → Tells (Changes was j) a b → Carries (IsListAlive was) (IsListAlive j) a b → Tells (StaysClean was j) a b
clean_alive was j None None t k = tt
clean_alive was j None (Some b) t k = absurd t
clean_alive was j (Some a) None t k = absurd t
clean_alive was j (Some a) (Some b) t k = λ marked clean.
    record { whole = t.whole marked clean.whole; queues = t.alive marked clean.whole clean.queues; list = k clean.list }

pub clean_becomes : (was j : JournalsState) (a b : Option Content) → Tells (BecomesClean was j) a b → Tells (StaysClean was j) a b
clean_becomes was j a b t = Tells-weaken (BecomesClean was j) (StaysClean was j) a b t (λ x y h. λ marked clean. h marked clean.whole clean.queues)

-- there was a file and a record id for the first batch
abbrev pub HadFirst : StoreState → Command → Content → Content → Type 0
HadFirst was c old new = IsClean was old.now.disk → MeetsAtOnce (homes_of was) (state_of was) c old.now.disk → ⊥

-- where the machine refuses, or accepts without a batch, there is nothing that can't be had
pub no_end_refused : (homes : Homes) (S : MachineState) (c : Command) (d : Disk) → is_accepted (step S c).1 ≡ false → raises_rid S c ≡ false → ((name : List ℕ) (home : Option PoolId) → c ≡ command.Queue name home → ⊥) → MeetsAtOnce homes S c d → ⊥
no_end_refused homes S c d refused unraised made (inl n) = made n.name n.home n.makes
no_end_refused homes S c d refused unraised made (inr (inl n)) = not_both (sym n.raises ∙ unraised)
no_end_refused homes S c d refused unraised made (inr (inr n)) = not_both (sym n.accepted ∙ refused)

pub no_end_unneeded : (homes : Homes) (S : MachineState) (c : Command) (d : Disk) → needs_of S c ≡ [] → raises_rid S c ≡ false → ((name : List ℕ) (home : Option PoolId) → c ≡ command.Queue name home → ⊥) → MeetsAtOnce homes S c d → ⊥
no_end_unneeded homes S c d none unraised made (inl n) = made n.name n.home n.makes
no_end_unneeded homes S c d none unraised made (inr (inl n)) = not_both (sym n.raises ∙ unraised)
no_end_unneeded homes S c d none unraised made (inr (inr n)) = differ n.need (ap (λ ns. slice_get ns 0) (sym none) ∙ n.there)
  where
    differ : (n : Need) → ◌≡◌ {A = Option Need} None (Some n) → ⊥
    differ n e = cc

pub homes_same : (S : MachineState) (c : Command) (homes : Homes) → home_by c homes ≡ homes → homes_after S c homes ≡ homes
homes_same S c homes e = elim (is_accepted (step S c).1) as (λ b. cond b (home_by c homes) homes ≡ homes) [ true ↦ e | false ↦ refl ]

homes_refused : (S : MachineState) (c : Command) (homes : Homes) → is_accepted (step S c).1 ≡ false → homes_after S c homes ≡ homes
homes_refused S c homes e = ap (λ b. cond b (home_by c homes) homes) e

homes_accepted : (S : MachineState) (c : Command) (homes : Homes) → is_accepted (step S c).1 ≡ true → homes_after S c homes ≡ home_by c homes
homes_accepted S c homes e = ap (λ b. cond b (home_by c homes) homes) e

-- ---- all that is to be shown of a command, for a site and serials

module _ {X Y : Type 0} (tell : X → Option Content) (faults : X → ℕ) (draw : Y → Option (List ℕ)) (counts : Y → ℕ) where
  pub record Runs (was : StoreState) (c : Command) (a b : X) (x y : Y) (result : Result (StoreState × Reply) Cause) : Type 0 where
    pub stepped : IfOk result (λ r. (state_of r.0, r.1) ≡ step (state_of was) c)
    pub ended : IfErr result (λ _. is_accepted (step (state_of was) c).1 ≡ true)
    pub still : is_accepted (step (state_of was) c).1 ≡ false → b ≡ a
    pub store : IfOk result (λ r. IsStore r.0)
    pub rid : IfOk result (λ r. rid_of r.0 ≡ cond (raises_rid (state_of was) c) (rid_of was + 1) (rid_of was))
    pub told : Tells (EndsIn (λ r. RunsCommand was c r.0) (Passes IsStoreStep) result) (tell a) (tell b)
    pub drawn : DrawsTaken (is_exact result) (tell a) (tell b) (draw x) (draw y)
    pub leaves : Tells (LeavesDead was) (tell a) (tell b)
    pub writes : Tells (StaysWritten result (λ r. r.0.journals) was.journals) (tell a) (tell b)
    pub pools : Tells (Passes (TakesFromHome (homes_after (state_of was) c (homes_of was)))) (tell a) (tell b)
    pub homes : IfOk result (λ r. SameHomes (homes_of r.0) (homes_after (state_of was) c (homes_of was)))
    pub refused : IfOk result (λ r. is_accepted r.1 ≡ false → (r.0 ≡ was) × (b ≡ a) × (y ≡ x))
    pub spent : result ≡ Err Spent → Tells (StopsAtEnd was c) (tell a) (tell b)
    pub causes : StoreCauses (faults a) (faults b) (counts x) (counts y) result

  -- a call on the journals that arrived, or some in a row
  pub record Went (was j : JournalsState) (homes : Homes) (a b : X) (x y : Y) : Type 0 where
    pub told : Tells (Changes was j) (tell a) (tell b)
    pub drawn : DrawsTaken true (tell a) (tell b) (draw x) (draw y)
    pub leaves : Tells (JournalsLeaveDead was) (tell a) (tell b)
    pub writes : Tells (Writes was j) (tell a) (tell b)
    pub pools : Tells (Passes (TakesFromHome homes)) (tell a) (tell b)
    pub sites_kept : faults a ≤ faults b
    pub draws_kept : counts x ≤ counts y

  -- one that didn't
  pub record Broke (was : JournalsState) (homes : Homes) (k : Cause) (a b : X) (x y : Y) : Type 0 where
    pub told : Tells (Passes IsStoreStep) (tell a) (tell b)
    pub drawn : DrawsTaken (is_exact {X = StoreState × Reply} (Err k)) (tell a) (tell b) (draw x) (draw y)
    pub leaves : Tells (JournalsLeaveDead was) (tell a) (tell b)
    pub writes : Tells (StaysWritten {X = StoreState × Reply} {E = Cause} (Err k) (λ r. r.0.journals) was) (tell a) (tell b)
    pub pools : Tells (Passes (TakesFromHome homes)) (tell a) (tell b)
    pub causes : StoreCauses {X = StoreState × Reply} (faults a) (faults b) (counts x) (counts y) (Err k)

  -- what holds of both, of three
  both : (P Q R : Content → Content → Type 0) → ((c d : Content) → P c d → Q c d → R c d) → (a b : Option Content) → Tells P a b → Tells Q a b → Tells R a b
  both P Q R f None None p q = tt
  both P Q R f None (Some b) p q = absurd p
  both P Q R f (Some a) None p q = absurd p
  both P Q R f (Some a) (Some b) p q = f a b p q

  leaves_so : (was : StoreState) (a b : Option Content) → Tells (JournalsLeaveDead was.journals) a b → Tells (LeavesDead was) a b
  leaves_so was a b h = Tells-weaken (JournalsLeaveDead was.journals) (LeavesDead was) a b h (λ x y l. λ quiet marked clean. l quiet marked (whole_of was.journals x.now.disk clean))

  pools_so : (homes after : Homes) (a b : Option Content) → homes ≡ after → Tells (Passes (TakesFromHome homes)) a b → Tells (Passes (TakesFromHome after)) a b
  pools_so homes after a b e h = subst (λ k. Tells (Passes (TakesFromHome k)) a b) e h

  passes_none : (a : Option Content) → Tells (Passes IsStoreStep) a a
  passes_none None = tt
  passes_none (Some a) = Passes-same IsStoreStep a a refl

  ok_no_err : {Z : Type 0} (z : Z) (k : Cause) → ◌≡◌ {A = Result Z Cause} (Ok z) (Err k) → ⊥
  ok_no_err z k e = cc

  err_is : {Z : Type 0} {k m : Cause} → ◌≡◌ {A = Result Z Cause} (Err k) (Err m) → k ≡ m
  err_is e = cc

  ok_causes : {Z : Type 0} (z : Z) (f g m n : ℕ) → f ≤ g → m ≤ n → StoreCauses f g m n (Ok z)
  ok_causes z f g m n s d = record { sites_kept = s; draws_kept = d; failed = λ e. absurd (ok_no_err z Failed e); draw = λ e. absurd (ok_no_err z Draw e) }

  wants_causes : {Z : Type 0} (f g m n : ℕ) → f ≤ g → m ≤ n → StoreCauses {X = Z} f g m n (Err Memory)
  wants_causes f g m n s d = record { sites_kept = s; draws_kept = d; failed = λ e. absurd (not_failed (err_is e)); draw = λ e. absurd (not_draw (err_is e)) }
    where
      not_failed : Memory ≡ Failed → ⊥
      not_failed e = cc

      not_draw : Memory ≡ Draw → ⊥
      not_draw e = cc

  unspent : {Z : Type 0} → ◌≡◌ {A = Result Z Cause} (Err Memory) (Err Spent) → ⊥
  unspent e = differ (err_is e)
    where
      differ : Memory ≡ Spent → ⊥
      differ k = cc

  -- ---- no call

  module _ (was : StoreState) (ts : List TransactionState) (c : Command) where
    abbrev pub with_table : StoreState
    with_table = record { journals = was.journals; transactions = ts }

    told_calm : (a : Option Content) → IfSome a (OnDisk (Fits was)) → ((d : Disk) → MeetsAtOnce (homes_of was) (state_of was) c d → ⊥) → Tells (RunsCommand was c with_table) a a
    told_calm None fits ends = tt
    told_calm (Some a) fits ends = record { arrives = Arrives-same IsStoreStep a a refl; quiet = λ q. q; had = λ clean. ends a.now.disk; fits = fits; clean = λ marked clean. clean }

    -- the command is answered without a call
    pub calm : (reply : Reply) → IsStore with_table → (state_of with_table, reply) ≡ step (state_of was) c → raises_rid (state_of was) c ≡ false → homes_after (state_of was) c (homes_of was) ≡ homes_of was
        → (is_accepted reply ≡ false → with_table ≡ was) → ((d : Disk) → MeetsAtOnce (homes_of was) (state_of was) c d → ⊥) → (a : X) (y : Y) → IfSome (tell a) (OnDisk (Fits was)) → Runs was c a a y y (Ok (with_table, reply))
    calm reply store stepped unraised homes same ends a y fits = record {
      stepped = stepped;
      ended = tt;
      still = λ e. refl;
      store = store;
      rid = ap (λ b. cond b (rid_of was + 1) (rid_of was)) (sym unraised);
      told = told_calm (tell a) fits ends;
      drawn = drawn_none true (tell a) (draw y);
      leaves = leaves_so was (tell a) (tell a) (leaves_none was.journals (tell a));
      writes = writes_none was.journals (tell a);
      pools = pools_so (homes_of was) (homes_after (state_of was) c (homes_of was)) (tell a) (tell a) (sym homes) (pools_none (homes_of was) (tell a));
      homes = subst (SameHomes (homes_of was)) (sym homes) (record { default = refl; queue = λ n. refl; list = refl });
      refused = λ e. (same e, refl, refl);
      spent = λ e. absurd (ok_no_err (with_table, reply) Spent e);
      causes = ok_causes (with_table, reply) (faults a) (faults a) (counts y) (counts y) (omega arith) (omega arith);
    }

  -- memory is wanting for the answer
  pub calm_wants : (was : StoreState) (c : Command) → is_accepted (step (state_of was) c).1 ≡ true → homes_after (state_of was) c (homes_of was) ≡ homes_of was → (a : X) (y : Y) → Runs was c a a y y (Err Memory)
  calm_wants was c accepted homes a y = record {
    stepped = tt;
    ended = accepted;
    still = λ e. refl;
    store = tt;
    rid = tt;
    told = passes_none (tell a);
    drawn = drawn_none false (tell a) (draw y);
    leaves = leaves_so was (tell a) (tell a) (leaves_none was.journals (tell a));
    writes = both (Writes was.journals was.journals) (Writes was.journals was.journals) (StaysWritten {X = StoreState × Reply} {E = Cause} (Err Memory) (λ r. r.0.journals) was.journals) (λ u v h k. λ areas h' at w. ((h areas h' at w).0, tt)) (tell a) (tell a) (writes_none was.journals (tell a)) (writes_none was.journals (tell a));
    pools = pools_so (homes_of was) (homes_after (state_of was) c (homes_of was)) (tell a) (tell a) (sym homes) (pools_none (homes_of was) (tell a));
    homes = tt;
    refused = tt;
    spent = λ e. absurd (unspent e);
    causes = wants_causes (faults a) (faults a) (counts y) (counts y) (omega arith) (omega arith);
  }

  -- the machine refuses: nothing changes
  pub refuses : (was : StoreState) (c : Command) (r : Refusal) → IsStore was → step (state_of was) c ≡ (state_of was, Refused r) → raises_rid (state_of was) c ≡ false → ((d : Disk) → MeetsAtOnce (homes_of was) (state_of was) c d → ⊥)
      → (a : X) (y : Y) → IfSome (tell a) (OnDisk (Fits was)) → Runs was c a a y y (Ok (was, Refused r))
  refuses was c r store refused unraised ends a y fits =
      let no : is_accepted (step (state_of was) c).1 ≡ false = ap (λ (p : MachineState × Reply). is_accepted p.1) refused in
      calm was was.transactions c (Refused r) store (sym refused) unraised (homes_refused (state_of was) c (homes_of was) no) (λ e. refl) ends a y fits

  -- ---- calls

  module _ (was : StoreState) (c : Command) (homes : Homes) (a b : X) (x y : Y) where
    told_done : (next : StoreState) → Tells (Changes was.journals next.journals) (tell a) (tell b) → Tells (StaysClean was.journals next.journals) (tell a) (tell b) → Tells (HadFirst was c) (tell a) (tell b) → Tells (RunsCommand was c next) (tell a) (tell b)
    told_done next t k h =
        both (λ u v. Changes was.journals next.journals u v × StaysClean was.journals next.journals u v) (HadFirst was c) (RunsCommand was c next)
        (λ u v p q. record { arrives = p.0.arrives; quiet = p.0.quiet; had = q; fits = p.0.fits; clean = p.1 })
        (tell a) (tell b) (both (Changes was.journals next.journals) (StaysClean was.journals next.journals) (λ u v. Changes was.journals next.journals u v × StaysClean was.journals next.journals u v) (λ u v p q. (p, q)) (tell a) (tell b) t k) h

    -- the calls arrived, and the command is answered
    pub done : (next : StoreState) (reply : Reply) → Went was.journals next.journals homes a b x y → is_accepted reply ≡ true → (state_of next, reply) ≡ step (state_of was) c → IsStore next
        → rid_of next ≡ cond (raises_rid (state_of was) c) (rid_of was + 1) (rid_of was) → Tells (StaysClean was.journals next.journals) (tell a) (tell b) → Tells (HadFirst was c) (tell a) (tell b)
        → home_by c (homes_of was) ≡ homes → SameHomes (homes_of next) homes → Runs was c a b x y (Ok (next, reply))
    done next reply w accepted stepped store rid clean had homes_are same_homes =
        let accepts : is_accepted (step (state_of was) c).1 ≡ true = ap (λ (p : MachineState × Reply). is_accepted p.1) (sym stepped) ∙ accepted in
        let after : homes ≡ homes_after (state_of was) c (homes_of was) = sym homes_are ∙ sym (homes_accepted (state_of was) c (homes_of was) accepts) in
        record {
          stepped = stepped;
          ended = tt;
          still = λ e. absurd (not_both (sym accepts ∙ e));
          store = store;
          rid = rid;
          told = told_done next w.told clean had;
          drawn = w.drawn;
          leaves = leaves_so was (tell a) (tell b) w.leaves;
          writes = w.writes;
          pools = pools_so homes (homes_after (state_of was) c (homes_of was)) (tell a) (tell b) after w.pools;
          homes = subst (SameHomes (homes_of next)) after same_homes;
          refused = λ e. absurd (not_both (sym accepted ∙ e));
          spent = λ e. absurd (ok_no_err (next, reply) Spent e);
          causes = ok_causes (next, reply) (faults a) (faults b) (counts x) (counts y) w.sites_kept w.draws_kept;
        }

    -- the calls arrived, and memory is wanting for the rest
    pub wants : (j : JournalsState) → Went was.journals j homes a b x y → is_accepted (step (state_of was) c).1 ≡ true → home_by c (homes_of was) ≡ homes → Runs was c a b x y (Err Memory)
    wants j w accepts homes_are =
        let after : homes ≡ homes_after (state_of was) c (homes_of was) = sym homes_are ∙ sym (homes_accepted (state_of was) c (homes_of was) accepts) in
        record {
          stepped = tt;
          ended = accepts;
          still = λ e. absurd (not_both (sym accepts ∙ e));
          store = tt;
          rid = tt;
          told = Tells-weaken (Changes was.journals j) (Passes IsStoreStep) (tell a) (tell b) w.told (λ u v h. Passes-of IsStoreStep u v h.arrives);
          drawn = drawn_weaken false (tell a) (tell b) (draw x) (draw y) w.drawn;
          leaves = leaves_so was (tell a) (tell b) w.leaves;
          writes = Tells-weaken (Writes was.journals j) (StaysWritten {X = StoreState × Reply} {E = Cause} (Err Memory) (λ r. r.0.journals) was.journals) (tell a) (tell b) w.writes (λ u v h. λ areas k at i. ((h areas k at i).0, tt));
          pools = pools_so homes (homes_after (state_of was) c (homes_of was)) (tell a) (tell b) after w.pools;
          homes = tt;
          refused = tt;
          spent = λ e. absurd (unspent e);
          causes = wants_causes (faults a) (faults b) (counts x) (counts y) w.sites_kept w.draws_kept;
        }

    -- a call failed
    pub fails : (k : Cause) → Broke was.journals homes k a b x y → is_accepted (step (state_of was) c).1 ≡ true → home_by c (homes_of was) ≡ homes → (k ≡ Spent → Tells (StopsAtEnd was c) (tell a) (tell b)) → Runs was c a b x y (Err k)
    fails k w accepts homes_are spent =
        let after : homes ≡ homes_after (state_of was) c (homes_of was) = sym homes_are ∙ sym (homes_accepted (state_of was) c (homes_of was) accepts) in
        record {
          stepped = tt;
          ended = accepts;
          still = λ e. absurd (not_both (sym accepts ∙ e));
          store = tt;
          rid = tt;
          told = w.told;
          drawn = w.drawn;
          leaves = leaves_so was (tell a) (tell b) w.leaves;
          writes = w.writes;
          pools = pools_so homes (homes_after (state_of was) c (homes_of was)) (tell a) (tell b) after w.pools;
          homes = tt;
          refused = tt;
          spent = λ e. spent (err_is e);
          causes = w.causes;
        }

  -- ---- one call

  exact_same : (Z W : Type 0) (k : Cause) → is_exact {X = Z} (Err k) ≡ is_exact {X = W} (Err k)
  exact_same Z W Failed = refl
  exact_same Z W Draw = refl
  exact_same Z W Spent = refl
  exact_same Z W Memory = refl

  pub broken : {Z : Type 0} (was : JournalsState) (homes : Homes) (k : Cause) (a b : X) (x y : Y) → Tells (Passes IsStoreStep) (tell a) (tell b) → DrawsTaken (is_exact {X = Z} (Err k)) (tell a) (tell b) (draw x) (draw y)
      → Tells (JournalsLeaveDead was) (tell a) (tell b) → Tells (StaysWritten {X = Z} {E = Cause} (Err k) (λ z. was) was) (tell a) (tell b) → Tells (Passes (TakesFromHome homes)) (tell a) (tell b)
      → StoreCauses {X = Z} (faults a) (faults b) (counts x) (counts y) (Err k) → Broke was homes k a b x y
  broken {Z} was homes k a b x y told drawn leaves writes pools causes = record {
    told = told;
    drawn = subst (λ e. DrawsTaken e (tell a) (tell b) (draw x) (draw y)) (exact_same Z (StoreState × Reply) k) drawn;
    leaves = leaves;
    writes = writes;
    pools = pools;
    causes = record { sites_kept = causes.sites_kept; draws_kept = causes.draws_kept; failed = λ e. causes.failed (ap (λ m. Err m) (err_is e)); draw = λ e. causes.draw (ap (λ m. Err m) (err_is e)) };
  }

  -- a call without serials
  pub site_causes : {Z : Type 0} (r : Result Z Cause) (a b : X) (y : Y) → SiteCauses (faults a) (faults b) r → StoreCauses (faults a) (faults b) (counts y) (counts y) r
  site_causes r a b y h = record { sites_kept = h.kept; draws_kept = omega arith; failed = h.failed; draw = λ e. absurd (h.no_draw e) }
