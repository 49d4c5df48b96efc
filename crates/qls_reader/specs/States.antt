-- What a reader has read, and what its next step answers.
use Rattle.std.specs.Prelude.{◌≡◌, ℕ, ◌+◌, ◌-◌, ◌≤◌, Bool, true, false, List, length, Some, None, Result, Ok, Err}
use Rattle.qls_record.specs.declared.Got.{Got}
use Rattle.qls_site.specs.Disk.{Disk}
use Rattle.qls_meaning.specs.Journals.{Headed}
use Rattle.qls_meaning.specs.Reading.{record_in, holder, number_of, place_of, length_in, located, read_of}
use Rattle.qls_reader.specs.declared.spot.FileSpot.{FileSpot}
use Rattle.qls_reader.specs.declared.fault.ReadFault.{ReadFault}
use Rattle.qls_reader.specs.declared.reader.Next.{Next}
use Rattle.qls_reader.specs.declared.reader.Next.TheVariants as next
use Rattle.qls_reader.specs.Spots.{end_spot}
use Rattle.qls_reader.specs.Windows.{AreAhead, windows_from}

-- the files, the place in their joined data areas, the bytes that were read ahead of it, and whether the end was reached
pub record ReaderState : Type 0 where
  pub files : List FileSpot
  pub place : ℕ
  pub held : List ℕ
  pub ended : Bool

-- by a disk: what was read ahead stands there
abbrev pub ReadsAhead : Disk → ReaderState → Type 0
ReadsAhead d r = AreAhead d r.files r.place r.held

-- in how many windows the bytes are read that it hasn't read yet
abbrev pub unread : ReaderState → ℕ
unread r = windows_from (r.place + length r.held) r.files

-- the record that was handed out stands at the place, located in its files, and the new place is behind it
pub record HandsOut (fs : List Headed) (old new : ReaderState) (got : Got) : Type 0 where
  pub stands : record_in fs old.place ≡ Some (read_of got).what
  pub after : new.place ≡ old.place + length_in fs old.place (read_of got).what
  pub there : read_of got ≡ located fs (record { what = (read_of got).what; at = old.place; after = new.place })

-- by the files' bytes: End exactly where no record stands at the place
abbrev pub ReadsNext : List Headed → ReaderState → ReaderState → Result Next ReadFault → Type 0
ReadsNext fs old new (Ok (next.Got got)) = HandsOut fs old new got
ReadsNext fs old new (Ok (next.End file at)) = record_in fs old.place ≡ None
ReadsNext fs old new (Err e) = Unit {0}

-- by the answer alone: a record has 128 bytes at least; at the end the reader stays, and so it does after a fault, but for
-- what it read ahead
abbrev pub Steps : ReaderState → ReaderState → Result Next ReadFault → Type 0
Steps old new (Ok (next.Got got)) = (old.ended ≡ false) × (new.ended ≡ false) × (new.files ≡ old.files) × (old.place + 128 ≤ new.place)
Steps old new (Ok (next.End file at)) = (new ≡ record old { held = new.held; ended = true }) × (end_spot old.files old.place ≡ record { file = file; at = at })
Steps old new (Err e) = (old.ended ≡ false) × (new ≡ record old { held = new.held })

-- what is handed out starts at this place of the files, and takes so many bytes there
pub record IsLocated (fs : List Headed) (place length : ℕ) (got : Got) : Type 0 where
  pub file : got.file ≡ number_of (holder fs place)
  pub at : got.at ≡ place_of (holder fs place)
  pub end_file : got.end_file ≡ number_of (holder fs (place + length - 1))
