-- What the commands of a run had where they needed it first, a file or a record id: line by line, and over a whole run.
use Rattle.std.proofs.Common.{◌≡◌, ◌⊎◌, inl, inr, ℕ, true, false, List, [], ◌∷◌, ◌++◌, Option, Some, None, Ok, refl, sym, ap, ◌∙◌, subst, append-nil}
use Rattle.qls_model.specs.declared.machine.PoolId.{PoolId}
use Rattle.qls_model.specs.declared.machine.Command.{Command}
use Rattle.std.specs.List.{AllByRecursion}
use Rattle.qls_model.specs.Machine.{MachineState}
use Rattle.qls_site.specs.Disk.{Disk, full}
use Rattle.qls_site.specs.Content.{Content, Moment, Tells, moments_since}
use Rattle.qls_command.specs.Lines.{lines, commands, command_of}
use Rattle.qls_pool.specs.Moments.{Chain, Arrives, Passes}
use Rattle.qls_top.specs.Answers.{state_answered}
use Rattle.qls_top.specs.Cutting.{Cutter, kept_of_line, CutsTold, Counted}
use Rattle.qls_meaning.specs.History.{last_of}
use Rattle.qls_meaning.specs.Meaning.{meaning}
use Rattle.qls_journals.specs.Homes.{Homes, homes_on}
use Rattle.qls_journals.specs.Moments.{IsStoreStep}
use Rattle.qls_store.specs.Homes.{homes_of}
use Rattle.qls_store.specs.Stores.{StoreState, state_of, IsClean}
use Rattle.qls_top.specs.Moments.{AtReplies, IsRunStep, UnmarkedSince}
use Rattle.qls_top.specs.Running.{LineMeetsAtOnce, RunsLine}
use Rattle.qls_top.specs.Run.{IsUnderWay, NextIsFree, GoesOn, HadItsFiles, HadSinceOpening, HadFrom, HadClean, HadFiles, StaysClean, homes_answered}
use Rattle.qls_pool.proofs.Moments.{chain-append, chain_weaken, Arrives-same, Passes-of, since_of, since_then}
use Rattle.qls_top.proofs.Beginning.{Opened}
use Rattle.qls_top.proofs.Chains.{answers_nothing, unmarked_parts}
use Rattle.qls_top.proofs.Discipline.{Silent}
use Rattle.qls_top.proofs.LineDiscipline.{last_since, since_split, silent_chain}
use Rattle.qls_top.proofs.Lines.{cut_split, same_homes, step_in}
use Rattle.qls_top.proofs.Replying.{at_replies}
use Rattle.qls_top.proofs.Starting.{one_meaning}

-- what comes next is free, or this is the moment that is now
abbrev pub GoesOnBy : Homes → MachineState → List ℕ → List ℕ → Moment → Moment → Type 0
GoesOnBy homes S script before now n = GoesOn homes S script before n ⊎ (n ≡ now)

-- so far each command had what it needed first
pub record HadSoFar (first : StoreState) (script rest : List ℕ) (s : StoreState) (old now : Content) : Type 0 where
  pub way : IsUnderWay first script rest s old now
  pub start : NextIsFree (homes_of first) (state_of first) (commands script) old.now.disk ⊎ ((way.done ≡ []) × (now.now.disk ≡ old.now.disk))
  pub replies : Chain (AtReplies (GoesOnBy (homes_of first) (state_of first) script old.now.answered now.now)) old.now (moments_since old now)

-- where the files that came into use were unmarked, of a store that was clean
abbrev pub HadWay : StoreState → Option Content → Option Content → Option (List ℕ) → List ℕ → Option (List ℕ) → StoreState → Type 0
HadWay first (Some old) (Some new) (Some script) waiting (Some left) s = UnmarkedSince old new → IsClean first old.now.disk → HadSoFar first script (waiting ++ left) s old new
HadWay first None new script waiting left s = Unit {0}
HadWay first (Some old) None script waiting left s = Unit {0}
HadWay first (Some old) (Some new) None waiting left s = Unit {0}
HadWay first (Some old) (Some new) (Some script) waiting None s = Unit {0}

-- ---- one more line

module _ (first : StoreState) (script before rest line kept : List ℕ) (s t : StoreState) (cut : lines before ≡ line ∷ lines rest) (is : kept ≡ kept_of_line line)
    (old mid new : Content) (h : HadSoFar first script before s old mid) (went : Arrives IsRunStep old mid) (r : RunsLine s (command_of kept) t mid new) (clean : IsClean s mid.now.disk) where
  abbrev u : IsUnderWay first script before s old mid
  u = h.way

  abbrev Z : MachineState
  Z = state_of first

  abbrev homes_first : Homes
  homes_first = homes_of first

  -- the homes that are in force
  abbrev homes_here : Homes
  homes_here = homes_answered Z u.done homes_first

  splits : commands script ≡ u.done ++ command_of kept ∷ commands rest
  splits = cut_split script before rest line kept u.done u.split cut is

  free_now : LineMeetsAtOnce homes_here (state_answered Z u.done) (command_of kept) mid.now.disk → ⊥
  free_now =
      subst (λ (S : MachineState). LineMeetsAtOnce homes_here S (command_of kept) mid.now.disk → ⊥) u.state
      (subst (λ (f : Homes). LineMeetsAtOnce f (state_of s) (command_of kept) mid.now.disk → ⊥) (same_homes (homes_of s) homes_here u.homes) (r.had clean))

  -- the moment that was now goes on
  went_on : (n : Moment) → GoesOnBy homes_first Z script old.now.answered mid.now n → GoesOnBy homes_first Z script old.now.answered new.now n
  went_on n (inl g) = inl g
  went_on n (inr e) = inl (record {
    done = u.done;
    rest = command_of kept ∷ commands rest;
    split = splits;
    answered = ap (λ (m : Moment). m.answered) e ∙ u.answered;
    free = subst (λ (m : Moment). LineMeetsAtOnce homes_here (state_answered Z u.done) (command_of kept) m.disk → ⊥) (sym e) free_now;
  })

  started : NextIsFree homes_first Z (commands script) old.now.disk ⊎ ((u.done ≡ []) × (mid.now.disk ≡ old.now.disk)) → NextIsFree homes_first Z (commands script) old.now.disk
  started (inl free) = free
  started (inr (none, same)) =
      subst (λ (d : Disk). NextIsFree homes_first Z (commands script) d) same
      (subst (λ (cs : List (Option Command)). NextIsFree homes_first Z cs mid.now.disk) (sym (splits ∙ ap (λ (cs : List (Option Command)). cs ++ command_of kept ∷ commands rest) none))
      (subst (λ (cs : List (Option Command)). LineMeetsAtOnce (homes_answered Z cs homes_first) (state_answered Z cs) (command_of kept) mid.now.disk → ⊥) none free_now))

  had_in : HadSoFar first script rest t old new
  had_in =
      let xs : List Moment = went.since in
      let ys : List Moment = r.arrives.since in
      let P : Moment → Type 0 = GoesOnBy homes_first Z script old.now.answered new.now in
      let split : moments_since old new ≡ xs ++ ys = since_then IsRunStep IsRunStep old mid new (Passes-of IsRunStep old mid went) (Passes-of IsRunStep mid new r.arrives) in
      let so_far : Chain (AtReplies P) old.now xs =
      chain_weaken (AtReplies (GoesOnBy homes_first Z script old.now.answered mid.now)) (AtReplies P) (at_replies (GoesOnBy homes_first Z script old.now.answered mid.now) P went_on) old.now xs
      (subst (λ (ms : List Moment). Chain (AtReplies (GoesOnBy homes_first Z script old.now.answered mid.now)) old.now ms) (since_of IsRunStep old mid went) h.replies) in
      let last : Chain (AtReplies P) mid.now ys = chain_weaken (AtReplies (λ n. n ≡ new.now)) (AtReplies P) (at_replies (λ n. n ≡ new.now) P (λ n e. inr e)) mid.now ys r.last in
      record {
        way = step_in first script before rest line kept s t old mid new cut is u r;
        start = inl (started h.start);
        replies = subst (λ (ms : List Moment). Chain (AtReplies P) old.now ms) (sym split) (chain-append (AtReplies P) old.now xs ys so_far (subst (λ (m : Moment). Chain (AtReplies P) m ys) went.last last));
      }

pub line_had : (first : StoreState) (old mid new : Option Content) (script left rest : Option (List ℕ)) (a b : Cutter) (kept : List ℕ) (s t : StoreState)
    → HadWay first old mid script a.waiting left s → CutsTold a left b rest kept true → Tells (Arrives IsRunStep) old mid → Tells (StaysClean first s) old mid → Tells (RunsLine s (command_of kept) t) mid new → HadWay first old new script b.waiting rest t
line_had first None mid new script left rest a b kept s t u cut went clean r = tt
line_had first (Some old) mid None script left rest a b kept s t u cut went clean r = tt
line_had first (Some old) mid (Some new) None left rest a b kept s t u cut went clean r = tt
line_had first (Some old) mid (Some new) (Some script) left None a b kept s t u cut went clean r = tt
line_had first (Some old) None (Some new) (Some script) left (Some m) a b kept s t u cut went clean r = absurd r
line_had first (Some old) (Some mid) (Some new) (Some script) None (Some m) a b kept s t u cut went clean r = absurd cut
line_had first (Some old) (Some mid) (Some new) (Some script) (Some l) (Some m) a b kept s t u cut went clean r = λ unmarked begun.
    let parts = unmarked_parts IsRunStep IsRunStep old mid new went (Passes-of IsRunStep mid new r.arrives) unmarked in
    had_in first script (a.waiting ++ l) (b.waiting ++ m) cut.0 kept s t cut.1 cut.2 old mid new (u parts.0 begun) went r (clean parts.0 begun)

-- ---- the start, and the end

pub had_none : (s : StoreState) (o : Option Content) (script : Option (List ℕ)) → HadWay s o o script [] script s
had_none s None script = tt
had_none s (Some c) None = tt
had_none s (Some c) (Some script) = λ unmarked begun. record {
  way = record { done = []; split = refl; answered = sym (append-nil c.now.answered); state = refl; rid = refl; homes = record { default = refl; queue = λ name. refl; list = refl } };
  start = inr (refl, refl);
  replies = subst (λ (ms : List Moment). Chain (AtReplies (GoesOnBy (homes_of s) (state_of s) script c.now.answered c.now)) c.now ms) (sym (since_of IsRunStep c c (Arrives-same IsRunStep c c refl))) tt;
}

ended_in : (first : StoreState) (script rest : List ℕ) (s : StoreState) (old new : Content) → rest ≡ [] → HadSoFar first script rest s old new → Arrives IsRunStep old new → HadItsFiles (homes_of first) (state_of first) script old new
ended_in first script rest s old new none h went =
    let u = h.way in
    let Z : MachineState = state_of first in
    let home : Homes = homes_of first in
    let all : commands script ≡ u.done = u.split ∙ ap (λ (r : List ℕ). u.done ++ commands r) none ∙ append-nil u.done in
    record {
      start = by all h.start;
      replies = subst (λ (ms : List Moment). Chain (AtReplies (GoesOn home Z script old.now.answered)) old.now ms) (sym (since_of IsRunStep old new went))
          (chain_weaken (AtReplies (GoesOnBy home Z script old.now.answered new.now)) (AtReplies (GoesOn home Z script old.now.answered))
          (at_replies (GoesOnBy home Z script old.now.answered new.now) (GoesOn home Z script old.now.answered) (λ n g. last all n g)) old.now went.since
          (subst (λ (ms : List Moment). Chain (AtReplies (GoesOnBy home Z script old.now.answered new.now)) old.now ms) (since_of IsRunStep old new went) h.replies));
    }
  where
    by : commands script ≡ h.way.done → NextIsFree (homes_of first) (state_of first) (commands script) old.now.disk ⊎ ((h.way.done ≡ []) × (new.now.disk ≡ old.now.disk)) → NextIsFree (homes_of first) (state_of first) (commands script) old.now.disk
    by all (inl free) = free
    by all (inr (none, same)) = subst (λ (cs : List (Option Command)). NextIsFree (homes_of first) (state_of first) cs old.now.disk) (sym (all ∙ none)) tt

    last : commands script ≡ h.way.done → (n : Moment) → GoesOnBy (homes_of first) (state_of first) script old.now.answered new.now n → GoesOn (homes_of first) (state_of first) script old.now.answered n
    last all n (inl g) = g
    last all n (inr e) = record { done = h.way.done; rest = []; split = all ∙ sym (append-nil h.way.done); answered = ap (λ (m : Moment). m.answered) e ∙ h.way.answered; free = tt }

pub script_had : (first : StoreState) (old new : Option Content) (script left rest : Option (List ℕ)) (a b : Cutter) (kept : List ℕ) (limit : ℕ) (s : StoreState)
    → HadWay first old new script a.waiting left s → Counted limit script a.budget left (Ok true) → CutsTold a left b rest kept false → Tells (Arrives IsRunStep) old new → HadClean first old new script
script_had first None new script left rest a b kept limit s u counted cut went = tt
script_had first (Some old) None script left rest a b kept limit s u counted cut went = tt
script_had first (Some old) (Some new) None left rest a b kept limit s u counted cut went = tt
script_had first (Some old) (Some new) (Some script) None rest a b kept limit s u counted cut went = absurd counted
script_had first (Some old) (Some new) (Some script) (Some l) None a b kept limit s u counted cut went = absurd cut
script_had first (Some old) (Some new) (Some script) (Some l) (Some m) a b kept limit s u counted cut went = λ unmarked begun.
    ended_in first script (a.waiting ++ l) s old new cut.0 (u unmarked begun) went

-- ---- a run from its first call

all_silent : (before : List ℕ) (m : Moment) (ms : List Moment) → m.answered ≡ before → Chain Silent m ms → AllByRecursion (λ n. n.answered ≡ before) ms
all_silent before m [] at c = tt
all_silent before m (n ∷ ns) at c = (c.0 ∙ at, all_silent before n ns (c.0 ∙ at) c.1)

had_from : (home : PoolId) (s : StoreState) (script : List ℕ) (x y z : Content) → Opened home s x y → Passes IsRunStep y z → HadItsFiles (homes_of s) (state_of s) script y z
    → HadSinceOpening (homes_on home x.now.disk) (state_of s) script x z
had_from home s script x y z o k had =
    let arrives : Arrives IsStoreStep x y = o.opens.arrives in
    let last : last_of x.now (moments_since x y) ≡ y.now = last_since IsStoreStep x y arrives in
    record {
      opening = moments_since x y;
      lines = moments_since y z;
      split = since_split IsStoreStep IsRunStep x y z arrives k;
      unanswered = all_silent x.now.answered x.now (moments_since x y) refl (silent_chain x y (Passes-of IsStoreStep x y arrives));
      start = subst (λ (m : Moment). NextIsFree (homes_on home x.now.disk) (state_of s) (commands script) m.disk) (sym last)
          (subst (λ (f : Homes). NextIsFree f (state_of s) (commands script) y.now.disk) o.homes had.start);
      replies = subst (λ (m : Moment). Chain (AtReplies (GoesOn (homes_on home x.now.disk) (state_of s) script x.now.answered)) m (moments_since y z)) (sym last)
          (subst (λ (a : List ℕ). Chain (AtReplies (GoesOn (homes_on home x.now.disk) (state_of s) script a)) y.now (moments_since y z)) (answers_nothing x y arrives)
          (subst (λ (f : Homes). Chain (AtReplies (GoesOn f (state_of s) script y.now.answered)) y.now (moments_since y z)) o.homes had.replies));
    }

had_since : (home : PoolId) (s : StoreState) (x y : Content) (c : Option Content) (script : Option (List ℕ)) → Opened home s x y → Tells (Passes IsRunStep) (Some y) c → HadClean s (Some y) c script
    → HadFrom (homes_on home x.now.disk) (state_of s) (Some x) c script
had_since home s x y None script o k had = tt
had_since home s x y (Some z) None o k had = tt
had_since home s x y (Some z) (Some script) o k had = λ unmarked.
    let parts = unmarked_parts IsStoreStep IsRunStep x y z o.opens.arrives k unmarked in
    had_from home s script x y z o k (had parts.1 (o.opens.clean parts.0))

pub run_had : (home : PoolId) (s : StoreState) (a b c : Option Content) (script : Option (List ℕ)) → Tells (Opened home s) a b → Tells (Passes IsRunStep) b c → HadClean s b c script → HadFiles home a c script
run_had home s None b c script h k had = tt
run_had home s (Some x) None c script h k had = absurd h
run_had home s (Some x) (Some y) c script h k had = λ S is.
    subst (λ (T : MachineState). HadFrom (homes_on home x.now.disk) T (Some x) c script) (one_meaning (meaning (full x.now.disk)) (state_of s) S h.means is) (had_since home s x y c script h k had)
