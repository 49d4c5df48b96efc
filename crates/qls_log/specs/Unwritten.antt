-- Which sectors of a log's files were written since they came into use: all of the data areas, but for those behind the last batch.
use Rattle.std.specs.Prelude.{◌≡◌, ℕ, ◌+◌, ◌*◌, ◌<◌, ◌≤◌, true, false, List, [], ◌∷◌, ◌++◌, Result, IfOk, nat_le}
use Rattle.std.specs.List.{AllByRecursion}
use Rattle.qls_site.specs.Disk.{file_of}
use Rattle.qls_site.specs.Content.{Moment, Content, moments_since}
use Rattle.qls_meaning.specs.History.{History, FreeArea, now, is_covered, is_unwritten}
use Rattle.qls_pool.specs.Files.{HeadedFile}
use Rattle.qls_log.specs.Leaving.{WritesInOrder}
use Rattle.qls_log.specs.declared.fault.LogError.{LogError}
use Rattle.qls_log.specs.Logs.{LogState, capacity_in}

-- just the sectors from this offset of the data area on are unwritten
abbrev pub IsFreeFrom : List FreeArea → History → ℕ → ℕ → ℕ → Type 0
IsFreeFrom areas h capacity used id =
    (k : ℕ) → 4096 ≤ 512 * k → 512 * k < 4096 + capacity → is_unwritten areas h id k ≡ nat_le (4096 + used) (512 * k)

-- each file is written whole, and the newest one up to here
abbrev pub AreWrittenTo : List FreeArea → History → ℕ → ℕ → List HeadedFile → Type 0
AreWrittenTo areas h capacity used [] = Unit {0}
AreWrittenTo areas h capacity used (f ∷ []) = IsFreeFrom areas h capacity used f.id
AreWrittenTo areas h capacity used (f ∷ g ∷ fs) = IsFreeFrom areas h capacity capacity f.id × AreWrittenTo areas h capacity used (g ∷ fs)

-- none of the file's unwritten sectors is being written: only so a later moment leaves them unwritten
abbrev pub IsClear : List FreeArea → History → ℕ → Type 0
IsClear areas h id = (k : ℕ) → is_unwritten areas h id k ≡ true → is_covered id k (now h) ≡ false

pub record IsWrittenTo (areas : List FreeArea) (h : History) (l : LogState) : Type 0 where
  pub written : AreWrittenTo areas h (capacity_in l.opening) l.used l.files
  pub clear : AllByRecursion (λ f. IsClear areas h f.id) l.files

-- the history with the moments that a call added
abbrev pub history_with : History → List Moment → History
history_with h ms = record h { since = h.since ++ ms }

-- from each history up to the call, writes are as the discipline has them, and at Ok the new log is written up to its last batch
abbrev pub BeginsWritten : {X : Type 0} → Result X LogError → (X → LogState) → Content → Content → Type 0
BeginsWritten r log a b =
    (areas : List FreeArea) (h : History) → now h ≡ a.now
    → WritesInOrder areas h (moments_since a b) × IfOk r (λ x. IsWrittenTo areas (history_with h (moments_since a b)) (log x))

-- the same, if the log was written up to its last batch before
abbrev pub StaysWritten : {X : Type 0} → Result X LogError → LogState → LogState → Content → Content → Type 0
StaysWritten r old new a b =
    (areas : List FreeArea) (h : History) → now h ≡ a.now → IsWrittenTo areas h old
    → WritesInOrder areas h (moments_since a b) × IfOk r (λ _. IsWrittenTo areas (history_with h (moments_since a b)) new)

-- writes are as the discipline has them, from each history up to the call
abbrev pub WritesWell : Content → Content → Type 0
WritesWell a b = (areas : List FreeArea) (h : History) → now h ≡ a.now → WritesInOrder areas h (moments_since a b)

-- these moments leave the log's files as they are
abbrev pub LeaveFiles : LogState → Moment → List Moment → Type 0
LeaveFiles l m [] = Unit {0}
LeaveFiles l m (n ∷ ns) = AllByRecursion (λ f. file_of f.id n.disk ≡ file_of f.id m.disk) l.files × LeaveFiles l n ns
