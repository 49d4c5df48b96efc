-- The moments that a call adds, each with the one before it.
use Rattle.std.specs.Prelude.{◌≡◌, List, [], ◌∷◌, ◌++◌, Result, Ok, Err}
use Rattle.qls_site.specs.Content.{Moment, Content}
use Rattle.qls_meaning.specs.History.{last_of}

-- R from each moment to the next
abbrev pub Chain : (Moment → Moment → Type 0) → Moment → List Moment → Type 0
Chain R m [] = Unit {0}
Chain R m (n ∷ ns) = R m n × Chain R n ns

-- the call added moments, each by R from the one before
pub record Passes (R : Moment → Moment → Type 0) (old new : Content) : Type 0 where
  pub since : List Moment
  pub moments : new.moments ≡ old.moments ++ since
  pub chain : Chain R old.now since

-- and the last of them is the one that is now
pub record Arrives (R : Moment → Moment → Type 0) (old new : Content) : Type 0 where
  pub since : List Moment
  pub moments : new.moments ≡ old.moments ++ since
  pub chain : Chain R old.now since
  pub last : new.now ≡ last_of old.now since

-- by the answer: at Ok the one, for what was answered, at an error the other
abbrev pub EndsIn : {X E C : Type 0} → (X → C → C → Type 0) → (C → C → Type 0) → Result X E → C → C → Type 0
EndsIn done failed (Ok x) old new = done x old new
EndsIn done failed (Err e) old new = failed old new

-- at Ok the call arrived, after an error what is now may differ from the last moment
abbrev pub Goes : {X E : Type 0} → (Moment → Moment → Type 0) → Result X E → Content → Content → Type 0
Goes R (Ok x) old new = Arrives R old new
Goes R (Err e) old new = Passes R old new
