-- Calls on the journals in a row that change no journal's pool, seen as one call; and what the batches of a transaction's end need.
use Rattle.std.specs.Prelude.{◌≡◌, ◌⊎◌, ℕ, Bool, true, List, [], ◌∷◌, Option, Some, None, Result, IfOk}
use Rattle.std.specs.List.{slice_get}
use Rattle.qls_site.specs.Disk.{Disk}
use Rattle.qls_site.specs.Content.{Content, Tells, moments_since}
use Rattle.qls_meaning.specs.History.{AllUnmarked}
use Rattle.qls_meaning.specs.Spent.{prepare_meets_end}
use Rattle.qls_pool.specs.Moments.{Arrives, EndsIn, Passes}
use Rattle.qls_pool.specs.Serials.{DrawsTaken}
use Rattle.qls_queue.specs.Records.{ended_by}
use Rattle.qls_decide.specs.declared.End.{End}
use Rattle.qls_decide.specs.declared.ListState.{ListState}
use Rattle.qls_decide.specs.declared.ListState.TheVariants as listed
use Rattle.qls_model.specs.declared.machine.Phase.{Phase}
use Rattle.qls_model.specs.declared.machine.Phase.TheVariants.{Open, Prepared}
use Rattle.qls_model.specs.Machine.{change_queue}
use Rattle.qls_model.specs.declared.machine.QueueState.{QueueState}
use Rattle.qls_journals.specs.declared.cause.Cause.{Cause}
use Rattle.qls_journals.specs.Answers.{is_exact, StoreCauses}
use Rattle.qls_journals.specs.Ends.{at_end_for}
use Rattle.qls_journals.specs.Homes.{Homes, homes_of, SameHomes, TakesFromHome}
use Rattle.qls_journals.specs.Moments.{IsStoreStep, Changes, LeavesDead, StaysWritten}
use Rattle.qls_journals.specs.State.{JournalsState, AreReleased, IsWhole, IsClean}
use Rattle.qls_store.specs.Ends.{Need}

-- the moments, the serials, what left use, what was written, the homes, the pools and the faults, as each call on the journals has them; if
-- the queues' dead files had gone back, so they have still
pub record Calls (r : Result JournalsState Cause) (was : JournalsState) (a b : Option Content) (x y : Option (List ℕ)) (sites sites_now draws draws_now : ℕ) : Type 0 where
  pub told : Tells (EndsIn (λ s. Changes was s) (Passes IsStoreStep) r) a b
  pub drawn : DrawsTaken (is_exact r) a b x y
  pub leaves : Tells (LeavesDead was) a b
  pub writes : Tells (StaysWritten r (λ s. s) was) a b
  pub homes : IfOk r (λ s. SameHomes (homes_of s) (homes_of was))
  pub released : IfOk r (λ s. AreReleased was.queues → AreReleased s.queues)
  pub pools : Tells (Passes (TakesFromHome (homes_of was))) a b
  pub causes : StoreCauses sites sites_now draws draws_now r

-- ---- room for several batches

-- one of the batches can't be had
pub record NeedsOne (homes : Homes) (needs : List Need) (d : Disk) : Type 0 where
  pub at : ℕ
  pub need : Need
  pub there : slice_get needs at ≡ Some need
  pub spent : at_end_for homes need.kind need.name need.bytes d ≡ true

-- a record id is to be given, of which the last one is given
pub record NeedsOneRid (raises : Bool) (d : Disk) : Type 0 where
  pub raised : raises ≡ true
  pub spent : prepare_meets_end d ≡ true

-- the calls stopped there, with nothing answered: where the journals were whole and the files that came into use were unmarked, the disk as
-- it is has no room for one of the batches, or no record id is left
pub record StopsInOne (was : JournalsState) (raises : Bool) (needs : List Need) (old new : Content) : Type 0 where
  pub arrives : Arrives IsStoreStep old new
  pub meets : AllUnmarked old.now (moments_since old new) → IsWhole was old.now.disk → NeedsOneRid raises new.now.disk ⊎ NeedsOne (homes_of was) needs new.now.disk

-- the disk has no room for the first of them
abbrev pub LacksFirst : Homes → List Need → Disk → Type 0
LacksFirst homes [] d = ⊥
LacksFirst homes (n ∷ ns) d = at_end_for homes n.kind n.name n.bytes d ≡ true

-- where the journals were whole, the disk before the call had room for the first of them, and a record id
abbrev pub HadFirst : JournalsState → Bool → List Need → Content → Content → Type 0
HadFirst was raises needs old new = IsWhole was old.now.disk → NeedsOneRid raises old.now.disk ⊎ LacksFirst (homes_of was) needs old.now.disk → ⊥

-- where the files that came into use were unmarked, the journals are clean if they were
abbrev pub StaysClean : JournalsState → JournalsState → Content → Content → Type 0
StaysClean was s old new = AllUnmarked old.now (moments_since old new) → IsClean was old.now.disk → IsClean s new.now.disk

-- ---- queues after ends

-- these ends in each of the named queues, in order
abbrev pub ended_in : List (List ℕ) → List End → List QueueState → List QueueState
ended_in [] ends qs = qs
ended_in (n ∷ ns) ends qs = ended_in ns ends (change_queue n (ended_by ends) qs)

-- the name is the first of these
abbrev pub ComesFirst : List ℕ → List (List ℕ) → Type 0
ComesFirst n [] = ⊥
ComesFirst n (m ∷ ms) = m ≡ n

-- ---- the entry of a transaction

-- an open transaction has none, and that of a prepared one is prepared
abbrev pub state_by : Phase → Option ListState
state_by Open = None
state_by Prepared = Some listed.Prepared
