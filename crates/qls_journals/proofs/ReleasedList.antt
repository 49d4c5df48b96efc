-- Dead files of the prepared list go back: what it did, in the words of the journals.
use Rattle.std.proofs.Common.{◌≡◌, ◌⊎◌, inl, inr, ℕ, Option, Some, None, Result, Err, refl, ap, ◌∙◌}
use Rattle.qls_site.specs.Content.{Content, Tells}
use Rattle.qls_pool.specs.Pools.{PoolState}
use Rattle.qls_pool.specs.Moments.{Passes}
use Rattle.qls_pool.specs.Serials.{TakesNone}
use Rattle.qls_log.specs.declared.fault.LogError.{LogError}
use Rattle.qls_log.specs.declared.fault.LogError.TheVariants as log
use Rattle.qls_log.specs.Faults.{SiteCauses as LogSiteCauses}
use Rattle.qls_log.specs.Steps.{GoesBy, IsLogStep}
use Rattle.qls_prepared.specs.Lists.{BecomesClean as ListBecomesClean, PreparedState, StaysStill, rid_of}
use Rattle.qls_prepared.specs.Moments.{LeavesDead as ListLeavesDead}
use Rattle.qls_journals.specs.declared.cause.Cause.{Cause}
use Rattle.qls_journals.specs.declared.cause.Cause.TheVariants as cause
use Rattle.qls_journals.specs.Answers.{SiteCauses}
use Rattle.qls_journals.specs.Errors.{cause_by}
use Rattle.qls_journals.specs.Moments.{Changes, IsStoreStep}
use Rattle.qls_journals.specs.Releasing.{AreSame, GivesBack, HasGivenBack, ListComesAlive}
use Rattle.qls_journals.specs.State.{AreJournals, JournalsState}
use Rattle.qls_journals.proofs.ListCalls.{NextList, list_homes_kept, list_passes, own_opening, with_list}
use Rattle.qls_journals.proofs.Releases.{unmarked_none}

module _ (s : JournalsState) (all : AreJournals s) where
  gives : (x y : Content) → Passes IsStoreStep x y → TakesNone x y → ListLeavesDead s.list x y → GivesBack s x y
  gives x y passes none leaves = record { passes = passes; none = none; leaves = λ quiet whole. leaves quiet (unmarked_none x y none) whole.list }

  pub list_gives : {X : Type 0} (v : Result X LogError) (a b : Option Content) → Tells (GoesBy (IsLogStep (own_opening s.list)) v) a b → Tells TakesNone a b → Tells (ListLeavesDead s.list) a b → Tells (GivesBack s) a b
  list_gives v a b went none leaves = by a b (list_passes s all v a b went) none leaves
    where
      by : (a b : Option Content) → Tells (Passes IsStoreStep) a b → Tells TakesNone a b → Tells (ListLeavesDead s.list) a b → Tells (GivesBack s) a b
      by None None went none leaves = tt
      by None (Some y) went none leaves = absurd went
      by (Some x) None went none leaves = absurd went
      by (Some x) (Some y) went none leaves = gives x y went none leaves

  module _ (new : PreparedState) (left : PoolState) (next : NextList s.list new) where
    abbrev then : JournalsState
    then = with_list s all new left next

    pub list_same : new.entries ≡ s.list.entries → rid_of new ≡ rid_of s.list → AreSame s then
    list_same entries rid = record { queues = refl; entries = entries; rid = rid; homes = list_homes_kept s all new left next }

    pub list_alive : (a b : Option Content) → Tells TakesNone a b → Tells (ListBecomesClean s.list new) a b → Tells (ListComesAlive s then) a b
    list_alive None None none becomes = tt
    list_alive None (Some y) none becomes = absurd none
    list_alive (Some x) None none becomes = absurd none
    list_alive (Some x) (Some y) none becomes = λ whole. (becomes.clean (unmarked_none x y none) whole.list).alive

    done_by : (x y : Content) → GivesBack s x y → Changes s then x y → ListBecomesClean s.list new x y → StaysStill s.list x y → HasGivenBack s then x y
    done_by x y gave changes becomes still = record {
      back = gave;
      arrives = changes.arrives;
      quiet = changes.quiet;
      fits = changes.fits;
      whole = changes.whole (unmarked_none x y gave.none);
      queues = changes.alive (unmarked_none x y gave.none);
      list = λ whole alive. (becomes.clean (unmarked_none x y gave.none) whole.list).alive;
      still = λ clean. still (record { whole = clean.whole.list; alive = clean.list });
    }

    pub list_done : (a b : Option Content) → Tells (GivesBack s) a b → Tells (Changes s then) a b → Tells (ListBecomesClean s.list new) a b → Tells (StaysStill s.list) a b → Tells (HasGivenBack s then) a b
    list_done None None gave changes becomes still = tt
    list_done None (Some y) gave changes becomes still = absurd gave
    list_done (Some x) None gave changes becomes still = absurd gave
    list_done (Some x) (Some y) gave changes becomes still = done_by x y gave changes becomes still

-- ---- after an error

-- only these two are answered
pub list_causes : {X : Type 0} (e : LogError) (k : Cause) (x y : ℕ) (r : Result X LogError) → r ≡ Err e → (e ≡ log.Failed) ⊎ (e ≡ log.Memory) → k ≡ cause_by e → LogSiteCauses x y r → SiteCauses {X = JournalsState} x y (Err k)
list_causes e k x y r answers (inl is) gives causes =
    let which : k ≡ cause.Failed = gives ∙ ap cause_by is in
    record {
      kept = causes.kept;
      failed = λ _. causes.failed (answers ∙ ap (λ f. Err f) is);
      no_draw = λ h. other k which h;
      no_end = λ h. another k which h;
    }
  where
    other : (k : Cause) → k ≡ cause.Failed → ◌≡◌ {A = Result JournalsState Cause} (Err k) (Err cause.Draw) → ⊥
    other k a b = cc

    another : (k : Cause) → k ≡ cause.Failed → ◌≡◌ {A = Result JournalsState Cause} (Err k) (Err cause.Spent) → ⊥
    another k a b = cc
list_causes e k x y r answers (inr is) gives causes =
    let which : k ≡ cause.Memory = gives ∙ ap cause_by is in
    record {
      kept = causes.kept;
      failed = λ h. absurd (first k which h);
      no_draw = λ h. other k which h;
      no_end = λ h. another k which h;
    }
  where
    first : (k : Cause) → k ≡ cause.Memory → ◌≡◌ {A = Result JournalsState Cause} (Err k) (Err cause.Failed) → ⊥
    first k a b = cc

    other : (k : Cause) → k ≡ cause.Memory → ◌≡◌ {A = Result JournalsState Cause} (Err k) (Err cause.Draw) → ⊥
    other k a b = cc

    another : (k : Cause) → k ≡ cause.Memory → ◌≡◌ {A = Result JournalsState Cause} (Err k) (Err cause.Spent) → ⊥
    another k a b = cc
