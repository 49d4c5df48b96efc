-- A run from its first call: the store is opened, and the lines that follow.
use Rattle.std.proofs.Common.{◌≡◌, inl, inr, ℕ, Bool, true, List, ◌++◌, Option, Some, None, IfSome, Result, Ok, Err, IfOk, ap, ◌∙◌, subst}
use Rattle.qls_model.specs.declared.machine.PoolId.{PoolId}
use Rattle.qls_model.specs.Machine.{MachineState}
use Rattle.qls_site.specs.Disk.{full}
use Rattle.qls_site.specs.Content.{Content, Tells}
use Rattle.qls_site.proofs.Told.{Tells-then, Tells-weaken}
use Rattle.qls_meaning.specs.Meaning.{meaning}
use Rattle.qls_meaning.specs.Spent.{list_rid}
use Rattle.qls_command.specs.Lines.{commands}
use Rattle.qls_pool.specs.Files.{OnDisk}
use Rattle.qls_pool.specs.Moments.{Passes, Arrives}
use Rattle.qls_pool.specs.Serials.{DrawsTaken}
use Rattle.qls_pool.proofs.Moments.{Arrives-passes}
use Rattle.qls_pool.proofs.Serials.{drawn_then}
use Rattle.qls_journals.specs.Homes.{Homes, SameHomes, homes_on}
use Rattle.qls_journals.specs.Moments.{IsStoreStep}
use Rattle.qls_store.specs.Homes.{homes_of}
use Rattle.qls_store.specs.Opening.{OpensStore, OpeningStops}
use Rattle.qls_store.specs.Stores.{StoreState, state_of, rid_of}
use Rattle.qls_top.specs.declared.fault.Fault.{Fault}
use Rattle.qls_top.specs.Answers.{answers_text, state_answered}
use Rattle.qls_top.specs.Moments.{Quietly, AnswersQuietly, IsRunStep}
use Rattle.qls_top.specs.Running.{LineMeetsEnd}
use Rattle.qls_top.specs.Run.{IsRun, IsRunClean, EndsFrom, EndsClean, RunsToEnd, MeetsEnd, SpentFrom, EndsSpent, EndsSpentIn, OpeningMeetsEnd, homes_answered, rid_answered}
use Rattle.qls_top.proofs.Chains.{answers_nothing, silent_arrives_quietly, unmarked_parts}
use Rattle.qls_top.proofs.Lines.{same_homes}

-- the store was opened over a start that means its state
pub record Opened (home : PoolId) (s : StoreState) (old new : Content) : Type 0 where
  pub means : meaning (full old.now.disk) ≡ Ok (state_of s)
  pub rid : rid_of s ≡ list_rid old.now.disk
  pub homes : homes_of s ≡ homes_on home old.now.disk
  pub opens : OpensStore s old new

pub opened : (home : PoolId) (s : StoreState) (a b : Option Content) → IfSome a (OnDisk (λ d. meaning (full d) ≡ Ok (state_of s))) → IfSome a (OnDisk (λ d. rid_of s ≡ list_rid d)) → IfSome a (OnDisk (λ d. SameHomes (homes_of s) (homes_on home d)))
    → Tells (OpensStore s) a b → Tells (Opened home s) a b
opened home s None None means rid homes opens = tt
opened home s None (Some y) means rid homes opens = absurd opens
opened home s (Some x) None means rid homes opens = absurd opens
opened home s (Some x) (Some y) means rid homes opens = record { means = means; rid = rid; homes = same_homes (homes_of s) (homes_on home x.now.disk) homes; opens = opens }

pub opened_arrives : (home : PoolId) (s : StoreState) (a b : Option Content) → Tells (Opened home s) a b → Tells (Arrives IsStoreStep) a b
opened_arrives home s a b h = Tells-weaken (Opened home s) (Arrives IsStoreStep) a b h (λ x y o. o.opens.arrives)

-- ---- and the lines

pub lines_quiet : (home : PoolId) (s : StoreState) (a b c : Option Content) → Tells (Opened home s) a b → Tells AnswersQuietly b c → Tells AnswersQuietly a c
lines_quiet home s a b c h k =
    Tells-then (Opened home s) AnswersQuietly AnswersQuietly a b c h k (λ x y z o q quiet. Arrives-passes Quietly x y z (silent_arrives_quietly x y o.opens.arrives) (q o.opens.quiet))

pub lines_drawn : (home : PoolId) (s : StoreState) (exact : Bool) (a b c : Option Content) (x y z : Option (List ℕ)) → Tells (Opened home s) a b → Tells (Passes IsRunStep) b c → DrawsTaken true a b x y → DrawsTaken exact b c y z → DrawsTaken exact a c x z
lines_drawn home s exact a b c x y z h k one two = drawn_then IsStoreStep IsRunStep exact a b c x y z (opened_arrives home s a b h) k one two

-- ---- a run to its end

run_from : (home : PoolId) (s : StoreState) (script : List ℕ) (x y z : Content) → Opened home s x y → Passes IsRunStep y z → IsRunClean s script y z → IsRun (state_of s) (list_rid x.now.disk) script x z
run_from home s script x y z o k run =
    let S : MachineState = state_of s in
    record {
      answered = run.answered ∙ ap (λ (a : List ℕ). a ++ answers_text S (commands script)) (answers_nothing x y o.opens.arrives);
      stored = λ quiet unmarked.
          let parts = unmarked_parts IsStoreStep IsRunStep x y z o.opens.arrives k unmarked in
          run.stored o.opens.quiet parts.1 (o.opens.clean parts.0);
      rid = λ unmarked.
          let parts = unmarked_parts IsStoreStep IsRunStep x y z o.opens.arrives k unmarked in
          run.rid parts.1 (o.opens.clean parts.0) ∙ ap (rid_answered S (commands script)) o.rid;
    }

pub if_ok : (P Q : Type 0) (r : Result (Unit {0}) Fault) → IfOk r (λ _. P) → (P → Q) → IfOk r (λ _. Q)
if_ok P Q (Ok x) h f = f h
if_ok P Q (Err e) h f = tt

ends_from : (home : PoolId) (s : StoreState) (x y : Content) (c : Option Content) (script rest : Option (List ℕ)) → Opened home s x y → Tells (Passes IsRunStep) (Some y) c → EndsClean s (Some y) c script rest
    → EndsFrom (state_of s) (list_rid x.now.disk) (Some x) c script rest
ends_from home s x y None script rest o k ends = tt
ends_from home s x y (Some z) None rest o k ends = tt
ends_from home s x y (Some z) (Some script) None o k ends = tt
ends_from home s x y (Some z) (Some script) (Some rest) o k ends = (ends.0, run_from home s script x y z o k ends.1)

pub run_done : (home : PoolId) (s : StoreState) (a b c : Option Content) (script rest : Option (List ℕ)) → Tells (Opened home s) a b → Tells (Passes IsRunStep) b c → EndsClean s b c script rest → RunsToEnd a c script rest
run_done home s None b c script rest h k ends = tt
run_done home s (Some x) None c script rest h k ends = absurd h
run_done home s (Some x) (Some y) c script rest h k ends = (state_of s, h.means, ends_from home s x y c script rest h k ends)

-- ---- a run that ends since no file is left, or no record id of the prepared list

meets_from : (home : PoolId) (s : StoreState) (script : List ℕ) (x y z : Content) → Opened home s x y → MeetsEnd (homes_of s) (state_of s) script y z → MeetsEnd (homes_on home x.now.disk) (state_of s) script x z
meets_from home s script x y z o e = record {
  done = e.done;
  next = e.next;
  rest = e.rest;
  split = e.split;
  answered = e.answered ∙ ap (λ (a : List ℕ). a ++ answers_text (state_of s) e.done) (answers_nothing x y o.opens.arrives);
  meets = subst (λ (f : Homes). LineMeetsEnd (homes_answered (state_of s) e.done f) (state_answered (state_of s) e.done) e.next z.now.disk) o.homes e.meets;
}

spent_from : (home : PoolId) (s : StoreState) (x y : Content) (c : Option Content) (script : Option (List ℕ)) → Opened home s x y → Tells (Passes IsRunStep) (Some y) c → EndsSpentIn s (Some y) c script
    → SpentFrom (homes_on home x.now.disk) (state_of s) (Some x) c script
spent_from home s x y None script o k e = tt
spent_from home s x y (Some z) None o k e = tt
spent_from home s x y (Some z) (Some script) o k e = λ unmarked.
    let parts = unmarked_parts IsStoreStep IsRunStep x y z o.opens.arrives k unmarked in
    meets_from home s script x y z o (e parts.1 (o.opens.clean parts.0))

pub run_spent : (home : PoolId) (s : StoreState) (a b c : Option Content) (script : Option (List ℕ)) → Tells (Opened home s) a b → Tells (Passes IsRunStep) b c → EndsSpentIn s b c script → EndsSpent home a c script
run_spent home s None b c script h k e = inr tt
run_spent home s (Some x) None c script h k e = absurd h
run_spent home s (Some x) (Some y) c script h k e = inr (state_of s, h.means, spent_from home s x y c script h k e)

-- a batch of the opening couldn't be had
pub opening_spent : (home : PoolId) (a b : Option Content) (script : Option (List ℕ)) → Tells (OpeningStops home) a b → EndsSpent home a b script
opening_spent home a b script h =
    inl (Tells-weaken (OpeningStops home) (OpeningMeetsEnd home) a b h (λ x y k. record { answered = answers_nothing x y k.arrives; meets = k.meets }))
