-- Slots by rising record id: each has a record, or is a hole where one went out.
use Rattle.std.specs.Prelude.{◌≡◌, ℕ, ◌+◌, ◌*◌, ◌<◌, ◌≤◌, nat_lt, slice_get, slice_index_or, if◌then◌else◌, Bool, true, not, ◌&&◌, List, [], ◌∷◌, map, Option, Some, None, is_some, length, take, drop}
use Rattle.std.specs.List.{filter_map}
use Rattle.qls_model.specs.declared.machine.Status.{Status}
use Rattle.qls_enqmap.specs.declared.Held.{Held}
use Rattle.qls_enqmap.specs.declared.blocks.Blocks.{Blocks}

abbrev pub Slots : Type 0
Slots = List (ℕ × Option Held)

-- the records, without the holes
abbrev pub held_in : Slots → List Held
held_in es = filter_map (λ e. e.1) es

abbrev pub HasRid : ℕ → Option Held → Type 0
HasRid rid None = Unit {0}
HasRid rid (Some h) = h.rid ≡ rid

-- the ids rise from this one on, and each record has its slot's
abbrev pub RisesFrom : ℕ → Slots → Type 0
RisesFrom rid [] = Unit {0}
RisesFrom rid (e ∷ es) = (rid ≤ e.0) × HasRid e.0 e.1 × RisesFrom (e.0 + 1) es

-- the slot with another status of its record
abbrev pub restatus : Status → Option Held → Option Held
restatus status None = None
restatus status (Some h) = Some (record h { status = status })

-- which slots have a record
abbrev pub occupied : Slots → List Bool
occupied es = map (λ e. is_some e.1) es

-- none is true; the first, the last is true where there is one
abbrev pub none_of : List Bool → Bool
none_of [] = true
none_of (b ∷ bs) = not b && none_of bs

abbrev pub first_of : List Bool → Bool
first_of [] = true
first_of (b ∷ bs) = b

abbrev pub last_of : List Bool → Bool
last_of [] = true
last_of (b ∷ []) = b
last_of (b ∷ c ∷ bs) = last_of (c ∷ bs)

-- each is true
abbrev pub all_of : List Bool → Bool
all_of [] = true
all_of (b ∷ bs) = b && all_of bs

-- each id is below this one
abbrev pub RidsBelow : ℕ → Slots → Type 0
RidsBelow rid [] = Unit {0}
RidsBelow rid (e ∷ es) = (e.0 < rid) × RidsBelow rid es

-- the files don't fall, from this one on
abbrev pub FilesRise : ℕ → List Held → Type 0
FilesRise file [] = Unit {0}
FilesRise file (h ∷ hs) = (file ≤ h.file) × FilesRise h.file hs

-- the file of the last record, or this one where there is none
abbrev pub last_file : ℕ → List Held → ℕ
last_file file [] = file
last_file file (h ∷ hs) = last_file h.file hs

-- the file of the slot's record; 0 at a hole
abbrev pub slot_file : Option Held → ℕ
slot_file None = 0
slot_file (Some h) = h.file

-- the record, its file at a place
abbrev pub record_in : Option (ℕ × Option Held) → Option Held
record_in None = None
record_in (Some e) = e.1

abbrev pub file_in : Option Held → Option ℕ
file_in None = None
file_in (Some h) = Some h.file

-- a place before which there are n records, and at which there is one if any follow
pub record IsPlace (es : Slots) (n : ℕ) (place : ℕ) : Type 0 where
  pub before : length (held_in (take place es)) ≡ n
  pub first : first_of (drop place (occupied es)) ≡ true

-- how many records there are before a place
abbrev pub before : Slots → ℕ → ℕ
before es n = length (held_in (take n es))

-- the slot at this place has this id
abbrev pub IsSlotOf : Slots → ℕ → ℕ → Type 0
IsSlotOf es place rid = (v : Option Held) × (slice_get es place ≡ Some (rid, v))

-- one record more, one record less from this place on
abbrev pub Gains : Slots → Slots → ℕ → Type 0
Gains es us place = (n : ℕ) → before us n ≡ before es n + (if nat_lt place n then 1 else 0)

abbrev pub Loses : Slots → Slots → ℕ → Type 0
Loses es us place = (n : ℕ) → before us n + (if nat_lt place n then 1 else 0) ≡ before es n

-- the counts are those of the blocks of so many slots; there are blocks for all slots
pub record IsCounted (width : ℕ) (counts : List ℕ) (es : Slots) : Type 0 where
  pub each : (b : ℕ) → before es (b * width + width) ≡ before es (b * width) + slice_index_or counts b 0
  pub covers : length es ≤ length counts * width

-- counts of small, middle, large and huge blocks
pub record AreCounted (blocks : Blocks) (es : Slots) : Type 0 where
  pub small : IsCounted 64 blocks.small.items es
  pub middle : IsCounted 4096 blocks.middle.items es
  pub large : IsCounted 262144 blocks.large.items es
  pub huge : IsCounted 16777216 blocks.huge.items es

-- there is a block for the slot at this place
pub record HasRoom (blocks : Blocks) (place : ℕ) : Type 0 where
  pub small : place < length blocks.small.items * 64
  pub middle : place < length blocks.middle.items * 4096
  pub large : place < length blocks.large.items * 262144
  pub huge : place < length blocks.huge.items * 16777216

-- what holds of the slots, the counts of blocks, the number of records, the place of the first, and whether the files are known to rise
pub record IsKept (es : Slots) (blocks : Blocks) (count : ℕ) (start : ℕ) (rising : Bool) : Type 0 where
  pub rises : RisesFrom 0 es
  pub blocks_counted : AreCounted blocks es
  pub counted : count ≡ length (held_in es)
  pub within : start ≤ length es
  pub holes : none_of (take start (occupied es)) ≡ true
  pub first : first_of (drop start (occupied es)) ≡ true
  pub last : last_of (occupied es) ≡ true
  pub files : rising ≡ true → FilesRise 0 (held_in es)
