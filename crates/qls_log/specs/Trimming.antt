-- The newest files of a journal, which lie past its reading, go back to their pool.
use Rattle.std.specs.Prelude.{◌≡◌, ◌⊎◌, ℕ, zero, suc, ◌+◌, ◌-◌, ◌<◌, ◌≤◌, false, List, [], ◌∷◌, ◌++◌, length, take, drop, IsTrue, Result, Ok, Err}
use Rattle.std.specs.List.{AllByRecursion}
use Rattle.qls_model.specs.declared.machine.PoolId.{PoolId}
use Rattle.qls_site.specs.declared.site.SiteError.{SiteError}
use Rattle.qls_site.specs.Disk.{Disk, IsQuiet, file_of}
use Rattle.qls_filehdr.specs.declared.JournalKind.{JournalKind}
use Rattle.qls_site.specs.Content.{Content}
use Rattle.qls_filehdr.specs.Limits.{is_legal_header}
use Rattle.qls_meaning.specs.Reading.{journal_reading}
use Rattle.qls_meaning.specs.Damage.{oldest_rid}
use Rattle.qls_meaning.specs.Dead.{past_files}
use Rattle.qls_meaning.specs.Spent.{rid_of_reads}
use Rattle.qls_meaning.specs.Orderly.{journal_on}
use Rattle.qls_laws.specs.Undamaged.{BreaksNoRule}
use Rattle.qls_pool.specs.Pools.{PoolState}
use Rattle.qls_pool.specs.Files.{HeadedFile, IsPoolOf, is_among}
use Rattle.qls_pool.specs.Moments.{Arrives}
use Rattle.qls_pool.specs.Serials.{TakesNone}
use Rattle.qls_log.specs.declared.opening.Opening.{Opening}
use Rattle.qls_log.specs.declared.fault.LogError.{LogError}
use Rattle.qls_log.specs.declared.fault.LogError.TheVariants.{Memory}
use Rattle.qls_log.specs.Faults.{fault_of_site}
use Rattle.qls_log.specs.Logs.{LogState, IsOfJournal, ids}
use Rattle.qls_log.specs.Reads.{IsRead}
use Rattle.qls_log.specs.Standing.{HasFiles, RestsBut, files_on}
use Rattle.qls_log.specs.Returning.{with_backs, StopsBack}
use Rattle.qls_log.specs.Leaving.{LeavesInOrder}
use Rattle.qls_log.specs.Steps.{IsLogStep}

-- the newest files, so many, newest first
abbrev pub newest_first : ℕ → List HeadedFile → List HeadedFile
newest_first zero hs = []
newest_first (suc k) hs = drop (length hs - 1) hs ++ newest_first k (take (length hs - 1) hs)

-- the files without the newest ones
abbrev pub without_last : ℕ → List HeadedFile → List HeadedFile
without_last k hs = take (length hs - k) hs

-- the epoch and the number of the newest file
abbrev pub last_epoch : List HeadedFile → ℕ
last_epoch [] = 0
last_epoch (h ∷ []) = h.header.epoch
last_epoch (h ∷ g ∷ hs) = last_epoch (g ∷ hs)

abbrev pub last_number : List HeadedFile → ℕ
last_number [] = 0
last_number (h ∷ []) = h.header.number
last_number (h ∷ g ∷ hs) = last_number (g ∷ hs)

-- epochs don't fall from file to file
abbrev pub EpochsRise : List HeadedFile → Type 0
EpochsRise [] = Unit {0}
EpochsRise (h ∷ []) = Unit {0}
EpochsRise (h ∷ g ∷ hs) = (h.header.epoch ≤ g.header.epoch) × EpochsRise (g ∷ hs)

-- the numbers count on from this one
abbrev pub CountFrom : ℕ → List HeadedFile → Type 0
CountFrom n [] = Unit {0}
CountFrom n (h ∷ hs) = (h.header.number ≡ n) × CountFrom (n + 1) hs

-- the journal's files in a row
pub record AreInRow (o : Opening) (hs : List HeadedFile) : Type 0 where
  pub own : AllByRecursion (IsOfJournal o) hs
  pub legal : AllByRecursion (λ h. IsTrue (is_legal_header h.header)) hs
  pub rise : EpochsRise hs
  pub first : ℕ
  pub numbers : CountFrom first hs

-- The pool is the site's. These are the journal's files, with nothing pending, and the newest, so many, lie past its reading; it breaks
-- no rule, and this rid is in force behind what is read
pub record MayTrim (o : Opening) (pool : PoolState) (hs : List HeadedFile) (many in_force : ℕ) (d : Disk) : Type 0 where
  pub spare : IsPoolOf pool [] d
  pub there : HasFiles o hs d
  pub rests : RestsBut [] hs d
  pub fewer : many < length hs
  pub past : length (past_files (journal_on d o.kind o.name)) ≡ many
  pub rules : BreaksNoRule (journal_on d o.kind o.name)
  pub rid : rid_of_reads (oldest_rid (files_on o d)) (journal_reading (journal_on d o.kind o.name)) ≡ in_force

-- the one files went back by the log's steps; the journal reads the same, and the others may be trimmed still. Where nothing was pending
-- they left in order, and nothing is
pub record Trims (o : Opening) (pool : PoolState) (hs : List HeadedFile) (many in_force : ℕ) (done : List HeadedFile) (old new : Content) : Type 0 where
  pub told : new ≡ with_backs done old
  pub arrives : Arrives (IsLogStep o) old new
  pub none : TakesNone old new
  pub others : (id : ℕ) → is_among id (ids done) ≡ false → file_of id new.now.disk ≡ file_of id old.now.disk
  pub reading : journal_reading (journal_on new.now.disk o.kind o.name) ≡ journal_reading (journal_on old.now.disk o.kind o.name)
  pub may : MayTrim o pool hs many in_force new.now.disk
  pub leaves : IsQuiet old.now.disk → Arrives LeavesInOrder old new
  pub quiet : IsQuiet old.now.disk → IsQuiet new.now.disk

-- ---- the log that is left

-- with the files that are left, an opening of the next epoch
abbrev pub opened_behind : JournalKind → List ℕ → PoolId → List HeadedFile → Opening
opened_behind kind name home hs = record { kind = kind; name = name; home = home; epoch = last_epoch hs + 1 }

-- at Ok each of the files went back, in order; else one relocation failed or was refused memory, or there was none before the first
abbrev pub GivesNewest : {X : Type 0} → List HeadedFile → Result X LogError → Content → Content → Type 0
GivesNewest hs (Ok x) old new = new ≡ with_backs hs old
GivesNewest hs (Err e) old new = ((e ≡ Memory) × (new ≡ old)) ⊎ ((fault : SiteError) × (e ≡ fault_of_site fault) × StopsBack hs fault old new)

-- what was read of the journal is read of the log
abbrev pub ReadsTheSame : LogState → Content → Content → Type 0
ReadsTheSame l a b = IsRead l (journal_reading (journal_on a.now.disk l.opening.kind l.opening.name)) b.now.disk
