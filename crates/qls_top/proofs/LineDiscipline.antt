-- A line that is run and answered: what files do from each moment to the next, and what is answered when.
use Rattle.std.proofs.Common.{◌≡◌, inl, inr, ℕ, Bool, false, List, [], ◌∷◌, ◌++◌, Option, Some, None, IfSome, Result, Ok, Err, IsErr, IfOk, refl, sym, ap, ◌∙◌, subst}
use Rattle.qls_model.specs.declared.machine.Command.{Command}
use Rattle.qls_model.specs.declared.machine.Reply.{Reply}
use Rattle.qls_site.specs.Content.{Moment, Content, Tells, moments_since, on_answered}
use Rattle.qls_site.proofs.Told.{Tells-weaken}
use Rattle.qls_meaning.specs.History.{History, FreeArea, AllUnmarked, last_of, now}
use Rattle.qls_pool.specs.Files.{IdsDiffer, OnDisk}
use Rattle.qls_pool.specs.Moments.{Chain, Passes, Arrives}
use Rattle.qls_pool.proofs.Moments.{chain-append, chain_weaken, since_is, since_of, since_then, Passes-of, Arrives-same}
use Rattle.qls_log.specs.Leaving.{LeavesInOrder, WritesInOrder}
use Rattle.qls_log.specs.Unwritten.{history_with}
use Rattle.qls_store.specs.Stores.{StoreState, state_of, IsStore, Fits, IsClean}
use Rattle.qls_store.specs.Homes.{homes_of, is_accepted}
use Rattle.qls_store.specs.Steps.{LeavesDead}
use Rattle.qls_journals.specs.State.{JournalsState}
use Rattle.qls_journals.specs.Homes.{Homes, TakesFromHome}
use Rattle.qls_journals.specs.Moments.{IsStoreStep, AreWritten, StaysWritten}
use Rattle.qls_top.specs.declared.fault.Fault.{Fault}
use Rattle.qls_top.specs.Answers.{answer_line}
use Rattle.qls_command.specs.Texts.{reply_text}
use Rattle.qls_top.specs.Moments.{AddsAnswer, IsRunStep}
use Rattle.qls_top.specs.Running.{RunsBuilt, UnderLine, IsUnderLine, WritesLine, LeavesLine, AnswersLine, AnswersInOrder, homes_by}
use Rattle.qls_top.proofs.Chains.{unmarked_front}
use Rattle.qls_top.proofs.Discipline.{NothingDead, ReadsWritten, FilesStayWritten, SameDisk, Silent, now_with, with_then, writes_then, answers_then, silent_answers, same_chain, same_leaves, same_pools, same_writes, stays_written, whole_answers}

-- ---- moments of one call and of the next

pub since_none : (a b : Content) → b ≡ a → moments_since a b ≡ []
since_none a b e = since_of IsStoreStep a b (Arrives-same IsStoreStep a b e)

pub since_split : (R Q : Moment → Moment → Type 0) (a b c : Content) → Arrives R a b → Passes Q b c → moments_since a c ≡ moments_since a b ++ moments_since b c
since_split R Q a b c h k =
    since_then R Q a b c (Passes-of R a b h) k ∙ ap (λ (xs : List Moment). xs ++ k.since) (sym (since_of R a b h)) ∙ ap (λ (ys : List Moment). moments_since a b ++ ys) (sym (since_is Q b c k))

pub last_since : (R : Moment → Moment → Type 0) (a b : Content) → Arrives R a b → last_of a.now (moments_since a b) ≡ b.now
last_since R a b h = ap (last_of a.now) (since_of R a b h) ∙ sym h.last

-- the history that goes up to a call goes up to the next with the call's moments
pub now_after : (R : Moment → Moment → Type 0) (a b : Content) (h : History) → Arrives R a b → now h ≡ a.now → now (history_with h (moments_since a b)) ≡ b.now
now_after R a b h arrives at = now_with h (moments_since a b) ∙ ap (λ (m : Moment). last_of m (moments_since a b)) at ∙ last_since R a b arrives

-- one chain behind another
pub chain_then : (Q : Moment → Moment → Type 0) (R S : Moment → Moment → Type 0) (a b c : Content) → Arrives R a b → Passes S b c → Chain Q a.now (moments_since a b) → Chain Q b.now (moments_since b c) → Chain Q a.now (moments_since a c)
chain_then Q R S a b c h k one two =
    subst (λ (ms : List Moment). Chain Q a.now ms) (sym (since_split R S a b c h k))
    (chain-append Q a.now (moments_since a b) (moments_since b c) one (subst (λ (m : Moment). Chain Q m (moments_since b c)) (sym (last_since R a b h)) two))

pub passes_chain : (R : Moment → Moment → Type 0) (a b : Content) → Passes R a b → Chain R a.now (moments_since a b)
passes_chain R a b h = subst (λ (ms : List Moment). Chain R a.now ms) (sym (since_is R a b h)) h.chain

pub silent_chain : (a b : Content) → Passes IsStoreStep a b → Chain Silent a.now (moments_since a b)
silent_chain a b h = chain_weaken IsStoreStep Silent (λ m n s. s.answered) a.now (moments_since a b) (passes_chain IsStoreStep a b h)

-- an answer's moments are the one before it again, and the one with it
answer_moments : (R : Moment → Moment → Type 0) (bytes : List ℕ) (a b : Content) → AddsAnswer bytes a b → R a.now a.now → R a.now (on_answered bytes a.now) → Chain R a.now (moments_since a b)
answer_moments R bytes a b (inl e) again said = subst (λ (ms : List Moment). Chain R a.now ms) (sym e) tt
answer_moments R bytes a b (inr (inl e)) again said = subst (λ (ms : List Moment). Chain R a.now ms) (sym e) (said, tt)
answer_moments R bytes a b (inr (inr e)) again said = subst (λ (ms : List Moment). Chain R a.now ms) (sym e) (again, (said, tt))

answer_stays : (bytes : List ℕ) (a b : Content) → AddsAnswer bytes a b → Chain SameDisk a.now (moments_since a b)
answer_stays bytes a b adds = answer_moments SameDisk bytes a b adds refl refl

-- ---- what a command did

record HasRun (was s : StoreState) (old mid : Content) : Type 0 where
  pub arrives : Arrives IsStoreStep old mid
  pub fits : Fits s mid.now.disk
  pub clean : AllUnmarked old.now arrives.since → IsClean was old.now.disk → IsClean s mid.now.disk

has_run : (was s : StoreState) (asked : Option Command) (old mid : Content) → Fits was old.now.disk → RunsBuilt was asked s old mid → HasRun was s old mid
has_run was s None old mid fits r =
    let disk : mid.now.disk ≡ old.now.disk = ap (λ (c : Content). c.now.disk) r.1 in
    record {
      arrives = Arrives-same IsStoreStep old mid r.1;
      fits = subst (λ (t : StoreState). Fits t mid.now.disk) (sym r.0) (subst (Fits was) (sym disk) fits);
      clean = λ unmarked clean. subst (λ (t : StoreState). IsClean t mid.now.disk) (sym r.0) (subst (IsClean was) (sym disk) clean);
    }
has_run was s (Some c) old mid fits r = record {
  arrives = r.arrives;
  fits = r.fits;
  clean = λ unmarked clean. r.clean (subst (AllUnmarked old.now) (sym (since_of IsStoreStep old mid r.arrives)) unmarked) clean;
}

-- ---- at work

under_chain : (homes : Homes) (accepted : Bool) (before : List ℕ) (m : Moment) (ms : List Moment) → m.answered ≡ before → Chain Silent m ms → Chain (TakesFromHome homes) m ms → (accepted ≡ false → Chain SameDisk m ms)
    → Chain (IsUnderLine homes accepted before) m ms
under_chain homes accepted before m [] at silent pools still = tt
under_chain homes accepted before m (n ∷ ns) at silent pools still = (
  record { answered = at; pools = pools.0; still = λ e. (still e).0 },
  under_chain homes accepted before n ns (silent.0 ∙ at) silent.1 pools.1 (λ e. (still e).1),
)

last_answered : (m : Moment) (ms : List Moment) → Chain Silent m ms → (last_of m ms).answered ≡ m.answered
last_answered m [] c = refl
last_answered m (n ∷ ns) c = last_answered n ns c.1 ∙ c.0

module _ (was : StoreState) (line : Option Command) where
  abbrev homes : Homes
  homes = homes_by (state_of was) line (homes_of was)

  abbrev accepted : Bool
  accepted = is_accepted (answer_line (state_of was) line).1

  -- the command alone
  under_command : (old new : Content) → Passes IsStoreStep old new → Passes (TakesFromHome homes) old new → (accepted ≡ false → new ≡ old) → UnderLine was line old new
  under_command old new h pools still =
      under_chain homes accepted old.now.answered old.now (moments_since old new) refl (silent_chain old new h) (passes_chain (TakesFromHome homes) old new pools)
      (λ e. subst (λ (ms : List Moment). Chain SameDisk old.now ms) (sym (since_none old new (still e))) tt)

  pub told_under_command : (a b : Option Content) → Tells (Passes IsStoreStep) a b → Tells (Passes (TakesFromHome homes)) a b → (accepted ≡ false → b ≡ a) → Tells (UnderLine was line) a b
  told_under_command None None h pools still = tt
  told_under_command None (Some y) h pools still = absurd h
  told_under_command (Some x) None h pools still = absurd h
  told_under_command (Some x) (Some y) h pools still = under_command x y h pools (λ e. some_is (still e))
    where
      some_is : Some y ≡ Some x → y ≡ x
      some_is e = cc

  -- and its answer
  module _ (s : StoreState) (answer : Reply) (stepped : (state_of s, answer) ≡ answer_line (state_of was) line) where
    under_answered : (old mid new : Content) → HasRun was s old mid → Passes (TakesFromHome homes) old mid → (is_accepted answer ≡ false → mid ≡ old) → Passes IsRunStep mid new → AddsAnswer (reply_text answer) mid new
        → UnderLine was line old new
    under_answered old mid new r pools still k adds =
        let silent : Chain Silent old.now (moments_since old mid) = silent_chain old mid (Passes-of IsStoreStep old mid r.arrives) in
        let at : mid.now.answered ≡ old.now.answered = ap (λ (m : Moment). m.answered) (sym (last_since IsStoreStep old mid r.arrives)) ∙ last_answered old.now (moments_since old mid) silent in
        let differ : IdsDiffer mid.now.disk = r.fits.pool.0 in
        let said : Moment = on_answered (reply_text answer) mid.now in
        chain_then (IsUnderLine homes accepted old.now.answered) IsStoreStep IsRunStep old mid new r.arrives k
        (under_command old mid (Passes-of IsStoreStep old mid r.arrives) pools (λ e. still (ap (λ p. is_accepted p.1) stepped ∙ e)))
        (answer_moments (IsUnderLine homes accepted old.now.answered) (reply_text answer) mid new adds
        (record { answered = at; pools = same_pools homes mid.now mid.now differ refl; still = λ e. refl })
        (record { answered = at; pools = same_pools homes mid.now said differ refl; still = λ e. refl }))

    pub told_under : (a b c : Option Content) → IfSome a (OnDisk (Fits was)) → Tells (RunsBuilt was line s) a b → Tells (Passes (TakesFromHome homes)) a b → (is_accepted answer ≡ false → b ≡ a)
        → Tells (Passes IsRunStep) b c → Tells (AddsAnswer (reply_text answer)) b c → Tells (UnderLine was line) a c
    told_under None None None fits r pools still k adds = tt
    told_under None None (Some z) fits r pools still k adds = absurd k
    told_under None (Some y) c fits r pools still k adds = absurd r
    told_under (Some x) None c fits r pools still k adds = absurd r
    told_under (Some x) (Some y) None fits r pools still k adds = absurd k
    told_under (Some x) (Some y) (Some z) fits r pools still k adds = under_answered x y z (has_run was s line x y fits r) pools (λ e. some_is (still e)) k adds
      where
        some_is : Some y ≡ Some x → y ≡ x
        some_is e = cc

-- ---- the discipline

-- the writes of a command that ended well, and then its files are written so still
abbrev pub WritesTo : StoreState → StoreState → Content → Content → Type 0
WritesTo was s old mid =
    (areas : List FreeArea) (h : History) → now h ≡ old.now → AreWritten areas h was.journals
    → WritesInOrder areas h (moments_since old mid) × AreWritten areas (history_with h (moments_since old mid)) s.journals

if_err : {X E : Type 0} (P : X → Type 0) (r : Result X E) → IsErr r → IfOk r P
if_err {X} {E} P (Ok x) e = absurd (not_err x e)
  where
    not_err : (x : X) → IsErr {T = X} {E = E} (Ok x) → ⊥
    not_err x e = cc
if_err P (Err f) e = tt

-- where the command failed
pub told_writes_command : {X : Type 0} (got : Result X Fault) (after : X → JournalsState) (r : Result StoreState Fault) (was : StoreState) (a b : Option Content) → IsErr r → Tells (StaysWritten got after was.journals) a b → Tells (WritesLine r was) a b
told_writes_command got after r was None None e w = tt
told_writes_command got after r was None (Some y) e w = absurd w
told_writes_command got after r was (Some x) None e w = absurd w
told_writes_command got after r was (Some x) (Some y) e w = λ h at written.
    ((w [] h at written).0, if_err (λ s. AreWritten [] (history_with h (moments_since x y)) s.journals) r e)

-- where no call was made
pub none_leaves : (s : StoreState) (a : Option Content) → Tells (LeavesDead s) a a
none_leaves s None = tt
none_leaves s (Some c) = λ quiet unmarked clean. subst (λ (ms : List Moment). Chain LeavesInOrder c.now ms) (sym (since_none c c refl)) tt

pub none_written_err : {X : Type 0} (r : Result X Fault) (after : X → JournalsState) (s : StoreState) (a : Option Content) → IsErr r → Tells (StaysWritten r after s.journals) a a
none_written_err r after s None e = tt
none_written_err r after s (Some c) e = λ areas h at written.
    (subst (λ (ms : List Moment). WritesInOrder areas h ms) (sym (since_none c c refl)) tt, if_err (λ x. AreWritten areas (history_with h (moments_since c c)) (after x)) r e)

pub told_answers_command : (was : StoreState) (a b : Option Content) → Tells (Passes IsStoreStep) a b → Tells (AnswersLine was) a b
told_answers_command was None None h = tt
told_answers_command was None (Some y) h = absurd h
told_answers_command was (Some x) None h = absurd h
told_answers_command was (Some x) (Some y) k = λ h at written quiet unmarked clean.
    silent_answers h (moments_since x y) (subst (λ (m : Moment). Chain Silent m (moments_since x y)) (sym at) (silent_chain x y k))

module _ (was s : StoreState) (line : Option Command) (bytes : List ℕ) where
  leaves_answered : (old mid new : Content) → HasRun was s old mid → LeavesDead was old mid → Passes IsRunStep mid new → AddsAnswer bytes mid new → LeavesLine was old new
  leaves_answered old mid new r leaves k adds = λ quiet unmarked clean.
      chain_then LeavesInOrder IsStoreStep IsRunStep old mid new r.arrives k
      (leaves quiet (unmarked_front old.now (moments_since old mid) (moments_since mid new) (subst (AllUnmarked old.now) (since_split IsStoreStep IsRunStep old mid new r.arrives k) unmarked)) clean)
      (same_chain LeavesInOrder same_leaves mid.now (moments_since mid new) r.fits.pool.0 (answer_stays bytes mid new adds))

  pub told_leaves : (a b c : Option Content) → IfSome a (OnDisk (Fits was)) → Tells (RunsBuilt was line s) a b → Tells (LeavesDead was) a b → Tells (Passes IsRunStep) b c → Tells (AddsAnswer bytes) b c → Tells (LeavesLine was) a c
  told_leaves None None None fits r leaves k adds = tt
  told_leaves None None (Some z) fits r leaves k adds = absurd k
  told_leaves None (Some y) c fits r leaves k adds = absurd r
  told_leaves (Some x) None c fits r leaves k adds = absurd r
  told_leaves (Some x) (Some y) None fits r leaves k adds = absurd k
  told_leaves (Some x) (Some y) (Some z) fits r leaves k adds = leaves_answered x y z (has_run was s line x y fits r) leaves k adds

  module _ (stays : FilesStayWritten) (store : IsStore s) where
    writes_answered : (old mid new : Content) → HasRun was s old mid → WritesTo was s old mid → Passes IsRunStep mid new → AddsAnswer bytes mid new → WritesTo was s old new
    writes_answered old mid new r writes k adds = λ areas h at written.
        let xs : List Moment = moments_since old mid in
        let ys : List Moment = moments_since mid new in
        let split : moments_since old new ≡ xs ++ ys = since_split IsStoreStep IsRunStep old mid new r.arrives k in
        let back : mid.now ≡ now (history_with h xs) = sym (now_after IsStoreStep old mid h r.arrives at) in
        let same : Chain SameDisk (now (history_with h xs)) ys = subst (λ (m : Moment). Chain SameDisk m ys) back (answer_stays bytes mid new adds) in
        let fits : Fits s (now (history_with h xs)).disk = subst (λ (m : Moment). Fits s m.disk) back r.fits in (
          subst (λ (ms : List Moment). WritesInOrder areas h ms) (sym split) (writes_then areas h xs ys (writes areas h at written).0 (same_writes areas (history_with h xs) ys fits.pool.0 same)),
          subst (λ (ms : List Moment). AreWritten areas (history_with h ms) s.journals) (sym split)
              (subst (λ (k : History). AreWritten areas k s.journals) (with_then h xs ys) (stays_written stays areas (history_with h xs) ys s store fits same (writes areas h at written).1)),
        )

    told_wrote : (a b c : Option Content) → IfSome a (OnDisk (Fits was)) → Tells (RunsBuilt was line s) a b → Tells (WritesTo was s) a b → Tells (Passes IsRunStep) b c → Tells (AddsAnswer bytes) b c → Tells (WritesTo was s) a c
    told_wrote None None None fits r writes k adds = tt
    told_wrote None None (Some z) fits r writes k adds = absurd k
    told_wrote None (Some y) c fits r writes k adds = absurd r
    told_wrote (Some x) None c fits r writes k adds = absurd r
    told_wrote (Some x) (Some y) None fits r writes k adds = absurd k
    told_wrote (Some x) (Some y) (Some z) fits r writes k adds = writes_answered x y z (has_run was s line x y fits r) writes k adds

    -- by the result: the new store, or an error of the answer
    pub told_writes : (a b c : Option Content) → IfSome a (OnDisk (Fits was)) → Tells (RunsBuilt was line s) a b → Tells (WritesTo was s) a b → Tells (Passes IsRunStep) b c → Tells (AddsAnswer bytes) b c → Tells (WritesLine (Ok s) was) a c
    told_writes a b c fits r writes k adds = Tells-weaken (WritesTo was s) (WritesLine (Ok s) was) a c (told_wrote a b c fits r writes k adds) (λ x y w h at written. w [] h at written)

    pub told_writes_err : (q : Result StoreState Fault) (a b c : Option Content) → IsErr q → IfSome a (OnDisk (Fits was)) → Tells (RunsBuilt was line s) a b → Tells (WritesTo was s) a b → Tells (Passes IsRunStep) b c
        → Tells (AddsAnswer bytes) b c → Tells (WritesLine q was) a c
    told_writes_err q a b c e fits r writes k adds =
        Tells-weaken (WritesTo was s) (WritesLine q was) a c (told_wrote a b c fits r writes k adds)
        (λ x y w h at written. ((w [] h at written).0, if_err (λ t. AreWritten [] (history_with h (moments_since x y)) t.journals) q e))

    module _ (alive : NothingDead) (reads : ReadsWritten) where
      answers_answered : (old mid new : Content) → HasRun was s old mid → WritesTo was s old mid → Passes IsRunStep mid new → AddsAnswer bytes mid new → AnswersLine was old new
      answers_answered old mid new r writes k adds = λ h at written quiet unmarked clean.
          let xs : List Moment = moments_since old mid in
          let ys : List Moment = moments_since mid new in
          let split : moments_since old new ≡ xs ++ ys = since_split IsStoreStep IsRunStep old mid new r.arrives k in
          let back : mid.now ≡ now (history_with h xs) = sym (now_after IsStoreStep old mid h r.arrives at) in
          let front : AllUnmarked old.now r.arrives.since =
          subst (AllUnmarked old.now) (since_of IsStoreStep old mid r.arrives) (unmarked_front old.now xs ys (subst (AllUnmarked old.now) split unmarked)) in
          subst (λ (ms : List Moment). AnswersInOrder h ms) (sym split)
          (answers_then h xs ys (silent_answers h xs (subst (λ (m : Moment). Chain Silent m xs) (sym at) (silent_chain old mid (Passes-of IsStoreStep old mid r.arrives))))
          (whole_answers alive reads stays s store (history_with h xs) ys (subst (λ (m : Moment). Fits s m.disk) back r.fits) (subst (λ (m : Moment). IsClean s m.disk) back (r.clean front clean))
          (subst (λ (m : Moment). Chain SameDisk m ys) back (answer_stays bytes mid new adds)) (writes [] h at written).1))

      pub told_answers : (a b c : Option Content) → IfSome a (OnDisk (Fits was)) → Tells (RunsBuilt was line s) a b → Tells (WritesTo was s) a b → Tells (Passes IsRunStep) b c → Tells (AddsAnswer bytes) b c → Tells (AnswersLine was) a c
      told_answers None None None fits r writes k adds = tt
      told_answers None None (Some z) fits r writes k adds = absurd k
      told_answers None (Some y) c fits r writes k adds = absurd r
      told_answers (Some x) None c fits r writes k adds = absurd r
      told_answers (Some x) (Some y) None fits r writes k adds = absurd k
      told_answers (Some x) (Some y) (Some z) fits r writes k adds = answers_answered x y z (has_run was s line x y fits r) writes k adds
