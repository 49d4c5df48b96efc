-- What is known once the journals of a site are open, and nothing is settled yet.
use Rattle.std.specs.Prelude.{◌≡◌, ℕ, Option, Result, Ok, Err, IfOk, IfSome}
use Rattle.std.specs.List.{AllByRecursion}
use Rattle.qls_model.specs.Sound.{IsNumbered}
use Rattle.qls_model.specs.declared.machine.PoolId.{PoolId}
use Rattle.qls_site.specs.Disk.{Image, IdsRise, full}
use Rattle.qls_site.specs.Content.{Content, Tells, moments_since}
use Rattle.qls_meaning.specs.Damage.{undamaged}
use Rattle.qls_meaning.specs.Journals.{journals_of}
use Rattle.qls_pool.specs.Moments.{EndsIn, Passes}
use Rattle.qls_pool.specs.Serials.{TakesNone}
use Rattle.qls_log.specs.Leaving.{LeavesInOrder}
use Rattle.qls_journals.specs.declared.cause.Cause.{Cause}
use Rattle.qls_journals.specs.declared.cause.Cause.TheVariants as cause
use Rattle.qls_journals.specs.Moments.{IsStoreStep}
use Rattle.qls_journals.specs.Opening.{Opens, OpensWritten}
use Rattle.qls_journals.specs.State.{JournalsState, AreJournals, NonePast, queues_of}
use Rattle.qls_look.specs.declared.fault.OpenFault.{OpenFault}
use Rattle.qls_look.specs.declared.fault.OpenFault.TheVariants.{Failed, Draw, Spent, Memory, Damaged}
use Rattle.qls_look.specs.Looking.{LookCauses, NeverTakes}
use Rattle.qls_store.specs.Opening.{LooksIfDamaged}

-- the fault of an opening that what ends the journals is
abbrev pub fault_by : Cause → OpenFault
fault_by cause.Failed = Failed
fault_by cause.Draw = Draw
fault_by cause.Spent = Spent
fault_by cause.Memory = Memory

-- no damage rule fails, or this is the first that does; no number is drawn, and no file taken
abbrev pub FindsAs : Image → Result JournalsState OpenFault → Type 0
FindsAs i (Ok s) = undamaged i ≡ Ok (journals_of i)
FindsAs i (Err (Damaged file rule)) = undamaged i ≡ Err (file, rule)
FindsAs i (Err Failed) = Unit {0}
FindsAs i (Err Memory) = Unit {0}
FindsAs i (Err Draw) = ⊥
FindsAs i (Err Spent) = ⊥

-- where no file lies past the reading of its journal no moment differs
abbrev pub StaysIfNonePast : Content → Content → Type 0
StaysIfNonePast old new = NonePast old.now.disk → AllByRecursion (λ m. m ≡ old.now) (moments_since old new)

-- What the opening of the journals answers, does and leaves
pub record Begins (home : PoolId) (r : Result JournalsState OpenFault) (a b : Option Content) (sites sites_now : ℕ) : Type 0 where
  pub found : IfSome a (λ c. FindsAs (full c.now.disk) r)
  pub rising : IfSome a (λ c. IdsRise (full c.now.disk))
  pub kept : IfOk r AreJournals
  pub homed : IfOk r (λ s. s.home ≡ home)
  pub numbered : IfOk r (λ s. AllByRecursion IsNumbered (queues_of s))
  pub told : Tells (EndsIn Opens (Passes IsStoreStep) r) a b
  pub none : Tells TakesNone a b
  pub leaves : Tells (Passes LeavesInOrder) a b
  pub writes : Tells (OpensWritten r (λ s. s)) a b
  pub looks : Tells LooksIfDamaged a b
  pub still : IfOk r (λ _. Tells StaysIfNonePast a b)
  pub causes : LookCauses sites sites_now r
  pub never : NeverTakes r
