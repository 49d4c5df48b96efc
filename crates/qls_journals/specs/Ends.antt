-- What a call needs that can't be had: a file, where neither an empty one nor an id nor a file number is left.
use Rattle.std.specs.Prelude.{◌≡◌, ℕ, Bool, true, false, List, [], ◌∷◌, Option, Some, None, if◌then◌else◌, ◌==◌}
use Rattle.qls_model.specs.declared.machine.PoolId.{PoolId}
use Rattle.qls_record.specs.Record.{Record}
use Rattle.qls_site.specs.Disk.{Disk}
use Rattle.qls_site.specs.Content.{Content, moments_since}
use Rattle.qls_filehdr.specs.declared.JournalKind.{JournalKind}
use Rattle.qls_meaning.specs.Journals.{Headed, Journal}
use Rattle.qls_meaning.specs.History.{AllUnmarked}
use Rattle.qls_meaning.specs.Orderly.{journal_on}
use Rattle.qls_meaning.specs.Spent.{new_journal_meets_end, batch_meets_end, greatest_epoch}
use Rattle.qls_blocks.specs.Batching.{length_of, block_length}
use Rattle.qls_pool.specs.Moments.{Arrives}
use Rattle.qls_log.specs.Steps.{room_behind}
use Rattle.qls_journals.specs.State.{JournalsState, IsWhole}
use Rattle.qls_journals.specs.Homes.{Home, Homes, home_by, homes_of}
use Rattle.qls_journals.specs.Moments.{IsStoreStep}

-- the journal has a file of this epoch
abbrev pub has_own : ℕ → List Headed → Bool
has_own epoch fs = greatest_epoch fs == epoch

-- These blocks don't fit into what is left in the journal's files of this opening, and no further file can be had; where the journal has no
-- file, its first one can't be had
abbrev pub at_end_in : Home → Disk → Journal → List Headed → ℕ → Bool
at_end_in home d j [] needed = new_journal_meets_end home.pool d
at_end_in home d j (f ∷ fs) needed =
    let own = has_own home.epoch (f ∷ fs) in batch_meets_end home.pool d (f ∷ fs) own (if own then room_behind j else 0) needed

abbrev pub at_end_by : Option Home → Disk → Journal → ℕ → Bool
at_end_by None d j needed = false
at_end_by (Some home) d j needed = at_end_in home d j j.files needed

abbrev pub at_end_for : Homes → JournalKind → List ℕ → ℕ → Disk → Bool
at_end_for homes kind name needed d = at_end_by (home_by kind name homes) d (journal_on d kind name) needed

abbrev pub batch_at_end : Homes → JournalKind → List ℕ → List Record → Disk → Bool
batch_at_end homes kind name rs d = at_end_for homes kind name (block_length (length_of rs)) d

-- The call stopped there, with nothing answered. Where the journals were whole and the files that came into use were unmarked, the disk as
-- it is has no room for these records
pub record StopsAtEnd (was : JournalsState) (kind : JournalKind) (name : List ℕ) (rs : List Record) (old new : Content) : Type 0 where
  pub arrives : Arrives IsStoreStep old new
  pub meets : AllUnmarked old.now (moments_since old new) → IsWhole was old.now.disk → batch_at_end (homes_of was) kind name rs new.now.disk ≡ true

-- where the journals were whole, the disk before the call had room for these records
abbrev pub HadRoom : JournalsState → JournalKind → List ℕ → List Record → Content → Content → Type 0
HadRoom was kind name rs old new = IsWhole was old.now.disk → batch_at_end (homes_of was) kind name rs old.now.disk ≡ true → ⊥

-- ---- a new queue

-- no call was made, and there is neither an empty file nor an id for its first file
pub record NewQueueStops (was : JournalsState) (home : PoolId) (old new : Content) : Type 0 where
  pub same : new ≡ old
  pub meets : new_journal_meets_end home new.now.disk ≡ true

-- there was one
abbrev pub HadNewQueue : JournalsState → PoolId → Content → Content → Type 0
HadNewQueue was home old new = new_journal_meets_end home old.now.disk ≡ true → ⊥
