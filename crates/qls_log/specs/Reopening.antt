-- A log of a journal all of whose files were taken in earlier openings.
use Rattle.std.specs.Prelude.{ℕ, ◌+◌, ◌-◌, ◌^◌, ◌<◌, ◌≤◌, false, List, [], length, IsTrue}
use Rattle.std.specs.List.{AllByRecursion}
use Rattle.qls_filehdr.specs.Limits.{is_legal_header}
use Rattle.qls_pool.specs.Files.{HeadedFile}
use Rattle.qls_log.specs.declared.opening.Opening.{Opening}
use Rattle.qls_log.specs.Logs.{LogState, IsLegalOpening, IsOfJournal, EndBefore, NumberedFrom, capacity_in}

-- nothing goes behind the files: the next batch takes a file of this opening
abbrev pub reopened : Opening → List HeadedFile → ℕ → ℕ → LogState
reopened o hs newest rid = record { opening = o; files = hs; older = length hs; newest = newest; used = capacity_in o; rid = rid; unsynced = []; ended = false }

-- these are files of the journal in a row, up to that number; their epochs are lesser than the opening's,
-- which comes next
pub record MayReopen (o : Opening) (hs : List HeadedFile) (number in_force : ℕ) : Type 0 where
  pub opening : IsLegalOpening o
  pub all : AllByRecursion (IsOfJournal o) hs
  pub olds : AllByRecursion (λ h. h.header.epoch < o.epoch) hs
  pub next : EndBefore o.epoch hs
  pub legal : AllByRecursion (λ h. IsTrue (is_legal_header h.header)) hs
  pub some : 0 < length hs
  pub few : length hs ≤ number
  pub numbers : NumberedFrom (number + 1 - length hs) hs number
  pub newest : number < 2 ^ 62
  pub rid : in_force < 2 ^ 62
