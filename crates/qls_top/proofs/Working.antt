-- The commands of a run at work: what their files do from each moment to the next, line after line.
use Rattle.std.proofs.Common.{◌≡◌, ℕ, true, List, [], ◌∷◌, ◌++◌, Option, Some, None, Ok, refl, sym, ap, ◌∙◌, subst, append_assoc, append-nil}
use Rattle.qls_model.specs.declared.machine.PoolId.{PoolId}
use Rattle.qls_model.specs.declared.machine.Command.{Command}
use Rattle.qls_model.specs.Machine.{MachineState}
use Rattle.qls_site.specs.Disk.{full}
use Rattle.qls_site.specs.Content.{Moment, Content, Tells, moments_since}
use Rattle.qls_meaning.specs.Meaning.{meaning}
use Rattle.qls_command.specs.Lines.{lines, commands, command_of}
use Rattle.qls_command.specs.Texts.{reply_text}
use Rattle.qls_pool.specs.Moments.{Chain, Passes, Arrives}
use Rattle.qls_pool.proofs.Moments.{chain_weaken, Passes-of}
use Rattle.qls_journals.specs.Homes.{Homes, SameHomes, TakesFromHome, homes_on}
use Rattle.qls_journals.specs.Moments.{IsStoreStep}
use Rattle.qls_store.specs.Stores.{StoreState, state_of}
use Rattle.qls_store.specs.Homes.{homes_of, is_accepted}
use Rattle.qls_top.specs.Answers.{answer_line, state_answered, answers_text}
use Rattle.qls_top.specs.Cutting.{Cutter, kept_of_line, CutsTold, Counted}
use Rattle.qls_top.specs.Moments.{IsRunStep}
use Rattle.qls_top.specs.Running.{RunsLine, UnderLine, IsUnderLine, homes_by}
use Rattle.qls_top.specs.Run.{IsAtWork, IsOpening, WorksSinceOpening, WorksOpened, WorksFrom, WorksIn, WorksOnCommands, homes_answered}
use Rattle.qls_top.proofs.Beginning.{Opened}
use Rattle.qls_top.proofs.Chains.{answers_nothing}
use Rattle.qls_top.proofs.Discipline.{Silent}
use Rattle.qls_top.proofs.LineDiscipline.{since_none, since_split, last_since, chain_then, passes_chain, silent_chain}
use Rattle.qls_top.proofs.Lines.{answers_append, state_append, cut_split, same_homes, homes_append}
use Rattle.qls_top.proofs.Starting.{one_meaning}

-- ---- so far

pub record WorkedSoFar (first : StoreState) (script rest : List ℕ) (s : StoreState) (x y : Content) : Type 0 where
  pub done : List (Option Command)
  pub split : commands script ≡ done ++ commands rest
  pub answered : y.now.answered ≡ x.now.answered ++ answers_text (state_of first) done
  pub state : state_of s ≡ state_answered (state_of first) done
  pub homes : SameHomes (homes_of s) (homes_answered (state_of first) done (homes_of first))
  pub works : Chain (IsAtWork (state_of first) (homes_of first) script x.now.answered) x.now (moments_since x y)

abbrev pub WorkedWay : StoreState → Option Content → Option Content → Option (List ℕ) → List ℕ → Option (List ℕ) → StoreState → Type 0
WorkedWay first (Some x) (Some y) (Some script) waiting (Some left) s = WorkedSoFar first script (waiting ++ left) s x y
WorkedWay first None y script waiting left s = Unit {0}
WorkedWay first (Some x) None script waiting left s = Unit {0}
WorkedWay first (Some x) (Some y) None waiting left s = Unit {0}
WorkedWay first (Some x) (Some y) (Some script) waiting None s = Unit {0}

pub worked_none : (s : StoreState) (a : Option Content) (script : Option (List ℕ)) → WorkedWay s a a script [] script s
worked_none s None script = tt
worked_none s (Some c) None = tt
worked_none s (Some c) (Some script) = record {
  done = [];
  split = refl;
  answered = sym (append-nil c.now.answered);
  state = refl;
  homes = record { default = refl; queue = λ name. refl; list = refl };
  works = subst (λ (ms : List Moment). Chain (IsAtWork (state_of s) (homes_of s) script c.now.answered) c.now ms) (sym (since_none c c refl)) tt;
}

-- ---- one more line

module _ (first was : StoreState) (script before rest line kept : List ℕ) (cut : lines before ≡ line ∷ lines rest) (is : kept ≡ kept_of_line line) (x y z : Content) (h : WorkedSoFar first script before was x y)
    (went : Arrives IsRunStep x y) where
  abbrev start : MachineState
  start = state_of first

  abbrev command : Option Command
  command = command_of kept

  abbrev here : MachineState
  here = state_answered start h.done

  abbrev homes_here : Homes
  homes_here = homes_answered start h.done (homes_of first)

  splits : commands script ≡ h.done ++ command ∷ commands rest
  splits = cut_split script before rest line kept h.done h.split cut is

  -- the homes while the line is at work
  pools_by : homes_by (state_of was) command (homes_of was) ≡ homes_by here command homes_here
  pools_by =
      ap (λ (S : MachineState). homes_by S command (homes_of was)) h.state
      ∙ ap (λ (f : Homes). homes_by here command f) (same_homes (homes_of was) homes_here h.homes)

  one_at_work : (m n : Moment) → IsUnderLine (homes_by (state_of was) command (homes_of was)) (is_accepted (answer_line (state_of was) command).1) y.now.answered m n
      → IsAtWork start (homes_of first) script x.now.answered m n
  one_at_work m n u = record {
    done = h.done;
    rest = command ∷ commands rest;
    split = splits;
    answered = u.answered ∙ h.answered;
    pools = subst (λ (f : Homes). TakesFromHome f m n) pools_by u.pools;
    still = λ e. u.still (ap (λ (S : MachineState). is_accepted (answer_line S command).1) h.state ∙ e);
  }

  works_on : Passes IsRunStep y z → UnderLine was command y z → Chain (IsAtWork start (homes_of first) script x.now.answered) x.now (moments_since x z)
  works_on k under =
      chain_then (IsAtWork start (homes_of first) script x.now.answered) IsRunStep IsRunStep x y z went k h.works
      (chain_weaken (IsUnderLine (homes_by (state_of was) command (homes_of was)) (is_accepted (answer_line (state_of was) command).1) y.now.answered)
      (IsAtWork start (homes_of first) script x.now.answered) one_at_work y.now (moments_since y z) under)

  worked_on : (s : StoreState) → RunsLine was command s y z → UnderLine was command y z → (SameHomes (homes_of s) (homes_by (state_of was) command (homes_of was)))
      → WorkedSoFar first script rest s x z
  worked_on s r under homes =
      let step : answer_line (state_of was) command ≡ answer_line here command = ap (λ (S : MachineState). answer_line S command) h.state in
      let text : List ℕ = reply_text (answer_line here command).1 in
      record {
        done = h.done ++ command ∷ [];
        split = splits ∙ sym (append_assoc h.done (command ∷ []) (commands rest));
        answered =
            r.answered ∙ ap (λ p. y.now.answered ++ reply_text p.1) step ∙ ap (λ (a : List ℕ). a ++ text) h.answered ∙ append_assoc x.now.answered (answers_text start h.done) text
            ∙ ap (λ (a : List ℕ). x.now.answered ++ a) (ap (λ (a : List ℕ). answers_text start h.done ++ a) (sym (append-nil text)) ∙ sym (answers_append start h.done (command ∷ [])));
        state = r.state ∙ ap (λ p. p.0) step ∙ sym (state_append start h.done (command ∷ []));
        homes = subst (λ (f : Homes). SameHomes (homes_of s) f) (pools_by ∙ sym (homes_append start h.done (command ∷ []) (homes_of first))) homes;
        works = works_on (Passes-of IsRunStep y z r.arrives) under;
      }

module _ (first was : StoreState) (k l : Cutter) (kept : List ℕ) where
  pub line_worked : (s : StoreState) (a b c : Option Content) (script left rest : Option (List ℕ)) → WorkedWay first a b script k.waiting left was → CutsTold k left l rest kept true → Tells (Arrives IsRunStep) a b
      → Tells (RunsLine was (command_of kept) s) b c → Tells (UnderLine was (command_of kept)) b c → (SameHomes (homes_of s) (homes_by (state_of was) (command_of kept) (homes_of was)))
      → WorkedWay first a c script l.waiting rest s
  line_worked s None b c script left rest h cut went r under homes = tt
  line_worked s (Some x) b None script left rest h cut went r under homes = tt
  line_worked s (Some x) b (Some z) None left rest h cut went r under homes = tt
  line_worked s (Some x) b (Some z) (Some script) left None h cut went r under homes = tt
  line_worked s (Some x) None (Some z) (Some script) left (Some n) h cut went r under homes = absurd r
  line_worked s (Some x) (Some y) (Some z) (Some script) None (Some n) h cut went r under homes = absurd cut
  line_worked s (Some x) (Some y) (Some z) (Some script) (Some m) (Some n) h cut went r under homes =
      worked_on first was script (k.waiting ++ m) (l.waiting ++ n) cut.0 kept cut.1 cut.2 x y z h went s r under homes

  -- the line failed
  pub line_works : (a b c : Option Content) (script left rest : Option (List ℕ)) (limit : ℕ) → WorkedWay first a b script k.waiting left was → Counted limit script k.budget left (Ok true) → CutsTold k left l rest kept true
      → Tells (Arrives IsRunStep) a b → Tells (Passes IsRunStep) b c → Tells (UnderLine was (command_of kept)) b c → WorksIn first a c script
  line_works None b c script left rest limit h counted cut went q under = tt
  line_works (Some x) b None script left rest limit h counted cut went q under = tt
  line_works (Some x) b (Some z) None left rest limit h counted cut went q under = tt
  line_works (Some x) None (Some z) (Some script) left rest limit h counted cut went q under = absurd went
  line_works (Some x) (Some y) (Some z) (Some script) None rest limit h counted cut went q under = absurd counted
  line_works (Some x) (Some y) (Some z) (Some script) (Some m) None limit h counted cut went q under = absurd cut
  line_works (Some x) (Some y) (Some z) (Some script) (Some m) (Some n) limit h counted cut went q under =
      works_on first was script (k.waiting ++ m) (l.waiting ++ n) cut.0 kept cut.1 cut.2 x y z h went q under

-- the script ended, or it could not be read on
pub script_works : (first was : StoreState) (a b : Option Content) (script left : Option (List ℕ)) (waiting : List ℕ) (budget limit : ℕ) → WorkedWay first a b script waiting left was → Counted limit script budget left (Ok true) → WorksIn first a b script
script_works first was None b script left waiting budget limit h counted = tt
script_works first was (Some x) None script left waiting budget limit h counted = tt
script_works first was (Some x) (Some y) None left waiting budget limit h counted = tt
script_works first was (Some x) (Some y) (Some script) None waiting budget limit h counted = absurd counted
script_works first was (Some x) (Some y) (Some script) (Some m) waiting budget limit h counted = h.works

-- no line was run
pub none_works : (S : MachineState) (homes : Homes) (a : Option Content) (script : Option (List ℕ)) → WorksFrom S homes a a script
none_works S homes None script = tt
none_works S homes (Some c) None = tt
none_works S homes (Some c) (Some script) = subst (λ (ms : List Moment). Chain (IsAtWork S homes script c.now.answered) c.now ms) (sym (since_none c c refl)) tt

-- ---- a run from its first call

-- while the store is opened
opening_chain : (homes : Homes) (before : List ℕ) (m : Moment) (ms : List Moment) → m.answered ≡ before → Chain Silent m ms → Chain (TakesFromHome homes) m ms → Chain (IsOpening homes before) m ms
opening_chain homes before m [] at silent pools = tt
opening_chain homes before m (n ∷ ns) at silent pools = (record { answered = at; pools = pools.0 }, opening_chain homes before n ns (silent.0 ∙ at) silent.1 pools.1)

-- from each content on the files that come into use are of the homes that its disk gives
abbrev pub TakesFromStart : PoolId → Content → Content → Type 0
TakesFromStart home a b = Passes (TakesFromHome (homes_on home a.now.disk)) a b

opening_works_in : (home : PoolId) (x y : Content) → Passes IsStoreStep x y → TakesFromStart home x y → Chain (IsOpening (homes_on home x.now.disk) x.now.answered) x.now (moments_since x y)
opening_works_in home x y h pools =
    opening_chain (homes_on home x.now.disk) x.now.answered x.now (moments_since x y) refl (silent_chain x y h) (passes_chain (TakesFromHome (homes_on home x.now.disk)) x y pools)

-- the store couldn't be opened
opening_alone : (home : PoolId) (S : MachineState) (x y : Content) (script : List ℕ) → Passes IsStoreStep x y → TakesFromStart home x y → WorksSinceOpening (homes_on home x.now.disk) S script x y
opening_alone home S x y script h pools = record {
  opening = moments_since x y;
  lines = [];
  split = sym (append-nil (moments_since x y));
  opens = opening_works_in home x y h pools;
  works = tt;
}

pub opening_works : (home : PoolId) (a b : Option Content) (script : Option (List ℕ)) → Tells (Passes IsStoreStep) a b → Tells (TakesFromStart home) a b → WorksOnCommands home a b script
opening_works home None b script h pools = tt
opening_works home (Some x) None script h pools = absurd h
opening_works home (Some x) (Some y) None h pools = λ S is. tt
opening_works home (Some x) (Some y) (Some script) h pools = λ S is. opening_alone home S x y script h pools

-- and the lines
works_from : (home : PoolId) (s : StoreState) (script : List ℕ) (x y z : Content) → Opened home s x y → TakesFromStart home x y → Passes IsRunStep y z → Chain (IsAtWork (state_of s) (homes_of s) script y.now.answered) y.now (moments_since y z)
    → WorksSinceOpening (homes_on home x.now.disk) (state_of s) script x z
works_from home s script x y z o pools k works =
    let arrives : Arrives IsStoreStep x y = o.opens.arrives in
    record {
      opening = moments_since x y;
      lines = moments_since y z;
      split = since_split IsStoreStep IsRunStep x y z arrives k;
      opens = opening_works_in home x y (Passes-of IsStoreStep x y arrives) pools;
      works = subst (λ (m : Moment). Chain (IsAtWork (state_of s) (homes_on home x.now.disk) script x.now.answered) m (moments_since y z)) (sym (last_since IsStoreStep x y arrives))
          (subst (λ (a : List ℕ). Chain (IsAtWork (state_of s) (homes_on home x.now.disk) script a) y.now (moments_since y z)) (answers_nothing x y arrives)
          (subst (λ (f : Homes). Chain (IsAtWork (state_of s) f script y.now.answered) y.now (moments_since y z)) o.homes works));
    }

works_since : (home : PoolId) (s : StoreState) (x y : Content) (c : Option Content) (script : Option (List ℕ)) → Opened home s x y → TakesFromStart home x y → Tells (Passes IsRunStep) (Some y) c → WorksIn s (Some y) c script
    → WorksOpened (homes_on home x.now.disk) (state_of s) (Some x) c script
works_since home s x y None script o pools k works = tt
works_since home s x y (Some z) None o pools k works = tt
works_since home s x y (Some z) (Some script) o pools k works = works_from home s script x y z o pools k works

pub run_works : (home : PoolId) (s : StoreState) (a b c : Option Content) (script : Option (List ℕ)) → Tells (Opened home s) a b → Tells (TakesFromStart home) a b → Tells (Passes IsRunStep) b c → WorksIn s b c script
    → WorksOnCommands home a c script
run_works home s None b c script h pools k works = tt
run_works home s (Some x) None c script h pools k works = absurd h
run_works home s (Some x) (Some y) c script h pools k works = λ S is.
    subst (λ (T : MachineState). WorksOpened (homes_on home x.now.disk) T (Some x) c script) (one_meaning (meaning (full x.now.disk)) (state_of s) S h.means is) (works_since home s x y c script h pools k works)
