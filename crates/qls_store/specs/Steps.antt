-- What a command does to a store.
use Rattle.std.specs.Prelude.{Result, Ok, Err}
use Rattle.qls_model.specs.declared.machine.Command.{Command}
use Rattle.qls_model.specs.declared.machine.Reply.{Reply}
use Rattle.qls_site.specs.Content.{Content, moments_since}
use Rattle.qls_meaning.specs.History.{AllUnmarked}
use Rattle.qls_pool.specs.Moments.{Arrives, Chain}
use Rattle.qls_site.specs.Disk.{IsQuiet}
use Rattle.qls_log.specs.Leaving.{LeavesInOrder}
use Rattle.qls_journals.specs.declared.cause.Cause.{Cause}
use Rattle.qls_journals.specs.Moments.{IsStoreStep, StaysQuiet}
use Rattle.qls_store.specs.declared.store.Stepped.{Stepped}
use Rattle.qls_store.specs.declared.store.Stepped.TheVariants.{Live, Ended}
use Rattle.qls_store.specs.Stores.{StoreState, state_of, Fits, IsClean}
use Rattle.qls_store.specs.Homes.{homes_of}
use Rattle.qls_store.specs.Ends.{MeetsAtOnce}

-- ---- answers

-- a store and a reply, or what ended the store
abbrev pub stepped : Stepped → Result (StoreState × Reply) Cause
stepped (Live s reply) = Ok (s, reply)
stepped (Ended cause) = Err cause

-- ---- the step

-- After a command: there was a file and a record id for its first batch, if the store was clean; the store fits the site, and nothing was
-- answered. Where the files that came into use were unmarked, the store is clean if it was
pub record RunsCommand (was : StoreState) (c : Command) (s : StoreState) (old new : Content) : Type 0 where
  pub arrives : Arrives IsStoreStep old new
  pub quiet : StaysQuiet old new
  pub had : IsClean was old.now.disk → MeetsAtOnce (homes_of was) (state_of was) c old.now.disk → ⊥
  pub fits : Fits s new.now.disk
  pub clean : AllUnmarked old.now (moments_since old new) → IsClean was old.now.disk → IsClean s new.now.disk

-- where nothing was pending, the store was clean and the files that came into use were unmarked, each file that leaves use does so in
-- order
abbrev pub LeavesDead : StoreState → Content → Content → Type 0
LeavesDead was old new = IsQuiet old.now.disk → AllUnmarked old.now (moments_since old new) → IsClean was old.now.disk → Chain LeavesInOrder old.now (moments_since old new)
