-- What a show answers, and that it changes nothing.
use Rattle.std.specs.Prelude.{◌≡◌, ◌⊎◌, ℕ, Bool, true, List, [], ◌∷◌, ◌++◌, codes, Result, Ok, Err, IsErr, ◌==◌}
use Rattle.std.specs.List.{list_any, AllByRecursion}
use Rattle.std.specs.Fmt.{decimal}
use Rattle.qls_model.specs.Machine.{MachineState}
use Rattle.qls_filehdr.specs.Limits.{rule_word}
use Rattle.qls_site.specs.Disk.{full}
use Rattle.qls_site.specs.Content.{Moment, Content}
use Rattle.qls_meaning.specs.Damage.{Damage}
use Rattle.qls_meaning.specs.Meaning.{meaning}
use Rattle.qls_command.specs.Texts.{line, state_text}

-- ---- the text

-- `damaged file ID rule RULE`
abbrev pub damage_line : Damage → List ℕ
damage_line d = line (codes "damaged" ∷ codes "file" ∷ decimal d.0 ∷ codes "rule" ∷ rule_word d.1 ∷ [])

-- the text of the state, or the line of the damage
abbrev pub shown_text : Result MachineState Damage → List ℕ
shown_text (Ok S) = state_text S
shown_text (Err d) = damage_line d

-- this was answered
abbrev pub Answers : List ℕ → Content → Content → Type 0
Answers text old new = new.now.answered ≡ old.now.answered ++ text

-- ---- by the status

-- the start means a state, and just its text was answered
pub record AnswersState (old new : Content) : Type 0 where
  pub state : MachineState
  pub means : meaning (full old.now.disk) ≡ Ok state
  pub answered : new.now.answered ≡ old.now.answered ++ state_text state

-- the start is damaged, and just the line of the first damage was answered
pub record AnswersDamage (old new : Content) : Type 0 where
  pub damage : Damage
  pub means : meaning (full old.now.disk) ≡ Err damage
  pub answered : new.now.answered ≡ old.now.answered ++ damage_line damage

abbrev pub is_show_status : ℕ → Bool
is_show_status n = list_any (λ k. k == n) (0 ∷ 3 ∷ 5 ∷ 6 ∷ [])

-- the statuses on a damaged start
abbrev pub is_damaged_status : ℕ → Bool
is_damaged_status n = list_any (λ k. k == n) (3 ∷ 5 ∷ 6 ∷ [])

abbrev pub TellsDamage : ℕ → Content → Type 0
TellsDamage status c = IsErr (meaning (full c.now.disk)) → is_damaged_status status ≡ true

-- ---- at each moment

-- the disk is as it was, and nothing was answered since, or just this text
pub record IsAnswering (text : List ℕ) (was m : Moment) : Type 0 where
  pub disk : m.disk ≡ was.disk
  pub answered : (m.answered ≡ was.answered) ⊎ (m.answered ≡ was.answered ++ text)

-- so is what is now, and each moment that was added
pub record OnlyAnswers (text : List ℕ) (old new : Content) : Type 0 where
  pub now : IsAnswering text old.now new.now
  pub since : List Moment
  pub moments : new.moments ≡ old.moments ++ since
  pub each : AllByRecursion (IsAnswering text old.now) since

-- with the text of what the start means
abbrev pub OnlyShows : Content → Content → Type 0
OnlyShows old new = OnlyAnswers (shown_text (meaning (full old.now.disk))) old new
