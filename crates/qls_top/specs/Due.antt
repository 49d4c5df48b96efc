-- The epoch of each file in use, by whether it came into use in this run.
use Rattle.std.specs.Prelude.{◌≡◌, ℕ, ◌<◌, Bool, true, false, [], Option, Some, None}
use Rattle.qls_site.specs.Disk.{FileState, file_of, full_file}
use Rattle.qls_site.specs.Content.{Content, moments_since}
use Rattle.qls_filehdr.specs.declared.FileHeader.{FileHeader}
use Rattle.qls_filehdr.specs.Limits.{is_name}
use Rattle.qls_meaning.specs.Journals.{headed, is_in_use}
use Rattle.qls_meaning.specs.History.{History, came_into_use, now}
use Rattle.qls_pool.specs.Discipline.{TakesInOrder}
use Rattle.qls_journals.specs.Homes.{Home, Homes, home_by}
use Rattle.qls_store.specs.Stores.{StoreState}
use Rattle.qls_store.specs.Homes.{homes_of}

-- it is that of its journal's home where the file came into use in this run, and a lesser one where the run found it
abbrev pub IsDueBy : Bool → Option Home → ℕ → Type 0
IsDueBy came None epoch = Unit {0}
IsDueBy true (Some home) epoch = epoch ≡ home.epoch
IsDueBy false (Some home) epoch = epoch < home.epoch

-- where the header names a journal
abbrev pub IsDue : History → Homes → ℕ → FileHeader → Type 0
IsDue h homes id header =
    is_name header.kind header.name ≡ true → IsDueBy (came_into_use id false h.start h.since) (home_by header.kind header.name homes) header.epoch

-- so of each file in use
abbrev pub AreDue : History → Homes → Type 0
AreDue h homes = (id : ℕ) (f : FileState) → file_of id (now h).disk ≡ Some f → is_in_use f.place ≡ true → IsDue h homes f.id (headed (full_file f)).header

-- from each history up to the call in which files are so by the store's homes, files are made and come into use in order
abbrev pub TakesDue : StoreState → Content → Content → Type 0
TakesDue s old new = (h : History) → now h ≡ old.now → AreDue h (homes_of s) → TakesInOrder [] h (moments_since old new)
