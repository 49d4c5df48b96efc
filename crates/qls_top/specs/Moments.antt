-- The steps of a run, from each moment to the next.
use Rattle.std.specs.Prelude.{◌≡◌, ◌⊎◌, ℕ, List, [], ◌∷◌}
use Rattle.qls_site.specs.Disk.{IsQuiet}
use Rattle.qls_site.specs.Content.{Moment, Content, moments_since, on_answered}
use Rattle.qls_meaning.specs.History.{AllUnmarked}
use Rattle.qls_pool.specs.Discipline.{IsPoolStep}
use Rattle.qls_pool.specs.Moments.{Passes}
use Rattle.qls_pool.specs.Next.{HeadersStay}
use Rattle.qls_pool.specs.Files.{IdsDiffer}

-- where bytes were answered nothing is pending
abbrev pub Quietly : Moment → Moment → Type 0
Quietly m n = (n.answered ≡ m.answered) ⊎ IsQuiet n.disk

-- the call added the moment of this answer, or that and before it the one without it, or none
abbrev pub AddsAnswer : List ℕ → Content → Content → Type 0
AddsAnswer bytes old new =
    let said : Moment = on_answered bytes old.now in
    (moments_since old new ≡ []) ⊎ (moments_since old new ≡ said ∷ []) ⊎ (moments_since old new ≡ old.now ∷ said ∷ [])

-- where more is answered than at the moment before, this holds
abbrev pub AtReplies : (Moment → Type 0) → Moment → Moment → Type 0
AtReplies P m n = (n.answered ≡ m.answered) ⊎ P n

-- From a moment of a run to the next: a file is made, comes into use and is written as the pool has it; headers of files in use stay, and
-- no two files get one id
pub record IsRunStep (m n : Moment) : Type 0 where
  pub differ : IdsDiffer m.disk → IdsDiffer n.disk
  pub pool : IsPoolStep m n
  pub headers : HeadersStay m n

-- where nothing was pending at the start, bytes are answered while nothing is
abbrev pub AnswersQuietly : Content → Content → Type 0
AnswersQuietly old new = IsQuiet old.now.disk → Passes Quietly old new

-- every file that came into use since was unmarked
abbrev pub UnmarkedSince : Content → Content → Type 0
UnmarkedSince old new = AllUnmarked old.now (moments_since old new)
