-- Where a queue stands among the others by name.
use Rattle.std.specs.Prelude.{◌≡◌, ℕ, ◌≤◌, true, List, length, take, drop, Some, None, Result, Ok, Err}
use Rattle.std.specs.List.{AllByRecursion, slice_get}
use Rattle.qls_model.specs.Bytes.{comes_before}
use Rattle.qls_queue.specs.Live.{LiveState}
use Rattle.qls_journals.specs.State.{queue_held}

-- the queue of the name stands there
pub record StandsAt (qs : List LiveState) (name : List ℕ) (at : ℕ) : Type 0 where
  pub queue : LiveState
  pub there : slice_get qs at ≡ Some queue
  pub named : queue.queue.name ≡ name
  pub held : queue_held name qs ≡ Some queue

-- no queue has the name; those before the place come before it, and it comes before the others
pub record WouldStandAt (qs : List LiveState) (name : List ℕ) (at : ℕ) : Type 0 where
  pub within : at ≤ length qs
  pub none : queue_held name qs ≡ None
  pub before : AllByRecursion (λ q. comes_before q.queue.name name ≡ true) (take at qs)
  pub behind : AllByRecursion (λ q. comes_before name q.queue.name ≡ true) (drop at qs)

abbrev pub IsPlace : List LiveState → List ℕ → Result ℕ ℕ → Type 0
IsPlace qs name (Ok at) = StandsAt qs name at
IsPlace qs name (Err at) = WouldStandAt qs name at
