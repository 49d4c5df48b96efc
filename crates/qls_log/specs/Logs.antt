-- What a log knows: its files, and where its next batch goes.
use Rattle.std.specs.Prelude.{◌≡◌, ℕ, ◌+◌, ◌-◌, ◌*◌, ◌%◌, ◌^◌, ◌<◌, ◌≤◌, Bool, true, List, [], ◌∷◌, map, length, take, drop, IsTrue}
use Rattle.std.specs.List.{AllByRecursion}
use Rattle.qls_model.specs.Limits.{is_partition, is_kib}
use Rattle.qls_filehdr.specs.declared.FileHeader.{FileHeader}
use Rattle.qls_filehdr.specs.Limits.{is_name, is_first_place, is_legal_header}
use Rattle.qls_blocks.specs.declared.plan.FreshFile.{FreshFile}
use Rattle.qls_pool.specs.Files.{HeadedFile, is_among}
use Rattle.qls_log.specs.declared.opening.Opening.{Opening}

-- The files of the journal, oldest first, the first of which, so many, were taken in earlier openings; and the number of the newest
-- file. So many bytes of the newest file's data area are written; the rid is the one in force behind the last batch. The last batch lies
-- pending in the files of these ids
pub record LogState : Type 0 where
  pub opening : Opening
  pub files : List HeadedFile
  pub older : ℕ
  pub newest : ℕ
  pub used : ℕ
  pub rid : ℕ
  pub unsynced : List ℕ
  pub ended : Bool

-- the log without its first files, so many of them
abbrev pub without_first : ℕ → LogState → LogState
without_first n l = record l { files = drop n l.files; older = l.older - n }

abbrev pub capacity_in : Opening → ℕ
capacity_in o = o.home.kib * 1024

-- ---- headers

-- the header of a file with this serial and number, as a batch plans it
abbrev pub header_for : Opening → ℕ → ℕ → FreshFile → FileHeader
header_for o serial number fresh = record {
  serial = serial;
  rid = fresh.rid;
  part = o.home.part;
  kib = o.home.kib;
  first = fresh.first;
  number = number;
  epoch = o.epoch;
  kind = o.kind;
  name = o.name;
}

-- The home, the epoch and the name are within the limits. The epoch may be the one past the last, with which no file can be taken
pub record IsLegalOpening (o : Opening) : Type 0 where
  pub part : is_partition o.home.part ≡ true
  pub kib : is_kib o.home.kib ≡ true
  pub epoch : (0 < o.epoch) × (o.epoch ≤ 2 ^ 62)
  pub name : is_name o.kind o.name ≡ true

-- a file of so many KiB may have these values in its header
pub record FitsFile (kib : ℕ) (fresh : FreshFile) : Type 0 where
  pub rid : fresh.rid < 2 ^ 62
  pub first : is_first_place kib fresh.first ≡ true

-- each file has the header that was planned for it, and the numbers go on behind the newest
abbrev pub AreHeaded : Opening → ℕ → List FreshFile → List HeadedFile → Type 0
AreHeaded o newest [] [] = Unit {0}
AreHeaded o newest [] (h ∷ hs) = ⊥
AreHeaded o newest (f ∷ fs) [] = ⊥
AreHeaded o newest (f ∷ fs) (h ∷ hs) = (h.header ≡ header_for o h.header.serial (newest + 1) f) × AreHeaded o (newest + 1) fs hs

-- ---- what holds of every log that isn't ended

-- the numbers count on from this one, up to the newest
abbrev pub NumberedFrom : ℕ → List HeadedFile → ℕ → Type 0
NumberedFrom n [] newest = n ≡ newest + 1
NumberedFrom n (h ∷ hs) newest = (h.header.number ≡ n) × NumberedFrom (n + 1) hs newest

-- the header is one of this opening
abbrev pub IsOfOpening : Opening → HeadedFile → Type 0
IsOfOpening o h = h.header ≡ header_for o h.header.serial h.header.number (record { first = h.header.first; rid = h.header.rid })

-- the header is one of this journal, of any epoch
abbrev pub IsOfJournal : Opening → HeadedFile → Type 0
IsOfJournal o h = h.header ≡ record (header_for o h.header.serial h.header.number (record { first = h.header.first; rid = h.header.rid })) { epoch = h.header.epoch }

-- the newest of these files has the epoch before this one
abbrev pub EndBefore : ℕ → List HeadedFile → Type 0
EndBefore epoch [] = Unit {0}
EndBefore epoch (h ∷ []) = h.header.epoch + 1 ≡ epoch
EndBefore epoch (h ∷ g ∷ hs) = EndBefore epoch (g ∷ hs)

-- the ids of files
abbrev pub ids : List HeadedFile → List ℕ
ids hs = map (λ h. h.id) hs

-- Files of earlier openings come first, and then those of this one, whose epoch is next. Nothing is written behind the former
pub record IsSound (l : LogState) : Type 0 where
  pub opening : IsLegalOpening l.opening
  pub all : AllByRecursion (IsOfJournal l.opening) l.files
  pub older : l.older ≤ length l.files
  pub olds : AllByRecursion (λ h. h.header.epoch < l.opening.epoch) (take l.older l.files)
  pub own : AllByRecursion (IsOfOpening l.opening) (drop l.older l.files)
  pub full : l.older ≡ length l.files → l.used ≡ capacity_in l.opening
  pub next : l.older ≡ length l.files → EndBefore l.opening.epoch l.files
  pub legal : AllByRecursion (λ h. IsTrue (is_legal_header h.header)) l.files
  pub some : 0 < length l.files
  pub few : length l.files ≤ l.newest
  pub numbers : NumberedFrom (l.newest + 1 - length l.files) l.files l.newest
  pub newest : l.newest < 2 ^ 62
  pub used : (l.used % 4096 ≡ 0) × (l.used ≤ capacity_in l.opening)
  pub rid : l.rid < 2 ^ 62
  pub unsynced : AllByRecursion (λ id. is_among id (ids l.files) ≡ true) l.unsynced

abbrev pub serials : List HeadedFile → List ℕ
serials hs = map (λ h. h.header.serial) hs
