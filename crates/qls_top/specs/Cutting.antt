-- How a script is cut into lines while it is read in pieces.
use Rattle.std.specs.Prelude.{◌≡◌, ℕ, ◌+◌, ◌*◌, ◌<◌, Bool, true, false, List, [], ◌∷◌, ◌++◌, length, take, Option, Some, None, Result, Ok, Err, ◌==◌}
use Rattle.std.specs.List.{list_any}
use Rattle.qls_command.specs.Lines.{lines}
use Rattle.qls_top.specs.declared.fault.Fault.{Fault}
use Rattle.qls_top.specs.declared.fault.Fault.TheVariants as fault

-- the bytes that were read and belong to no line yet, and how many more may be read
pub record Cutter : Type 0 where
  pub waiting : List ℕ
  pub budget : ℕ

-- the greatest length of a script, in bytes
abbrev pub script_limit : ℕ
script_limit = 67108864

abbrev pub has_feed : List ℕ → Bool
has_feed bytes = list_any (λ b. b == 10) bytes

-- what is kept of a line: one byte more than the longest command has, so a longer line stays none
abbrev pub kept_of_line : List ℕ → List ℕ
kept_of_line line = take 2100001 line

-- ---- one step: the bytes that wait, up to a line feed

-- the line's bytes before the feed went to the line, or all that waited
abbrev pub TakesPart : List ℕ → List ℕ → List ℕ → List ℕ → Bool → Type 0
TakesPart waiting rest line kept true = (part : List ℕ) × (waiting ≡ part ++ 10 ∷ rest) × (has_feed part ≡ false) × (kept ≡ kept_of_line (line ++ part))
TakesPart waiting rest line kept false = (rest ≡ []) × (has_feed waiting ≡ false) × (kept ≡ kept_of_line (line ++ waiting))

-- bytes of the script wait, or the script is at its end
abbrev pub Refills : Option (List ℕ) → Cutter → Option (List ℕ) → Bool → Type 0
Refills (Some l) new (Some m) true = (l ≡ new.waiting ++ m) × (0 < length new.waiting)
Refills (Some l) new (Some m) false = (l ≡ []) × (m ≡ []) × (new.waiting ≡ [])
Refills None new None more = Unit {0}
Refills None new (Some m) more = ⊥
Refills (Some l) new None more = ⊥

-- what may end the reading of a script
abbrev pub is_of_script : Fault → Bool
is_of_script fault.Source = true
is_of_script fault.TooLong = true
is_of_script fault.Memory = true
is_of_script fault.Site = false
is_of_script fault.Draw = false
is_of_script fault.Spent = false
is_of_script fault.Damaged = false

-- nothing was left, or one byte was read; a read that failed took nothing
abbrev pub EndsAt : List ℕ → List ℕ → Result (Unit {0}) Fault → Type 0
EndsAt l m (Ok x) = (l ≡ []) × (m ≡ [])
EndsAt l m (Err fault.TooLong) = length l ≡ length m + 1
EndsAt l m (Err fault.Source) = m ≡ l
EndsAt l m (Err f) = m ≡ l

abbrev pub EndsBy : Option (List ℕ) → Option (List ℕ) → Result (Unit {0}) Fault → Type 0
EndsBy None None result = Unit {0}
EndsBy None (Some m) result = ⊥
EndsBy (Some l) None result = ⊥
EndsBy (Some l) (Some m) result = EndsAt l m result

-- how far the script's end may be: a byte that may be read counts two, one that waits counts one
abbrev pub measured : Cutter → ℕ
measured c = 2 * c.budget + length c.waiting

-- ---- a whole line

-- a line is the first of those that are left; without one, none are left
abbrev pub Cuts : List ℕ → List ℕ → List ℕ → Bool → Type 0
Cuts old new kept true = (line : List ℕ) × (lines old ≡ line ∷ lines new) × (kept ≡ kept_of_line line)
Cuts old new kept false = (old ≡ []) × (new ≡ [])

-- what was left of the script, and what is left now
abbrev pub CutsTold : Cutter → Option (List ℕ) → Cutter → Option (List ℕ) → List ℕ → Bool → Type 0
CutsTold old (Some l) new (Some m) kept more = Cuts (old.waiting ++ l) (new.waiting ++ m) kept more
CutsTold old None new None kept more = Unit {0}
CutsTold old None new (Some m) kept more = ⊥
CutsTold old (Some l) new None kept more = ⊥

-- a part of the next line has been read: it has no line feed, and what waits and what is left follow it
abbrev pub HasPart : List ℕ → List ℕ → List ℕ → Type 0
HasPart old new kept = (part : List ℕ) × (old ≡ part ++ new) × (has_feed part ≡ false) × (kept ≡ kept_of_line part)

abbrev pub SoFar : Cutter → Option (List ℕ) → Cutter → Option (List ℕ) → List ℕ → Type 0
SoFar old (Some l) new (Some m) kept = HasPart (old.waiting ++ l) (new.waiting ++ m) kept
SoFar old None new None kept = Unit {0}
SoFar old None new (Some m) kept = ⊥
SoFar old (Some l) new None kept = ⊥

-- ---- the count of bytes

-- the bytes read went off the budget, and where it was too little one byte more was read
abbrev pub CountsDown : ℕ → List ℕ → ℕ → List ℕ → Result Bool Fault → Type 0
CountsDown old l new m (Ok more) = length l + new ≡ length m + old
CountsDown old l new m (Err fault.TooLong) = length l ≡ length m + old + 1
CountsDown old l new m (Err f) = length l + new ≡ length m + old

abbrev pub Counted : ℕ → Option (List ℕ) → ℕ → Option (List ℕ) → Result Bool Fault → Type 0
Counted old None new None result = Unit {0}
Counted old None new (Some m) result = ⊥
Counted old (Some l) new None result = ⊥
Counted old (Some l) new (Some m) result = CountsDown old l new m result
