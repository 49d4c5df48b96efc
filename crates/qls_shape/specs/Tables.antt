-- Tables of fields: numbers at fixed places, of 2, 4 or 8 bytes.
use Rattle.std.specs.Prelude.{ℕ, ◌+◌, ◌<◌, ◌≤◌, ◌^◌, ◌⊎◌, Bool, true, ◌&&◌, ◌||◌, List, [], ◌∷◌, ◌++◌, take, drop, map, Option, Some, None, if◌then◌else◌, ◌==◌, nat_le}
use Rattle.std.specs.Int.{Width, w16, w32, w64, to_le_bytes}
use Rattle.qls_shape.specs.Fields.{number_at}
use Rattle.qls_shape.specs.declared.layout.Field.{Field}

-- a table: how many bytes it has, and its fields
pub record Table : Type 0 where
  pub total : ℕ
  pub fields : List Field

-- the widths of numbers
abbrev pub is_width : ℕ → Bool
is_width n = n == 2 || n == 4 || n == 8

abbrev pub width_of : ℕ → Width
width_of n = if n == 2 then w16 else if n == 4 then w32 else w64

-- from a place on: each field has a width, begins no earlier than the one before has ended, and ends within the total
abbrev pub are_in_order : ℕ → ℕ → List Field → Bool
are_in_order from total [] = true
are_in_order from total (f ∷ fs) =
    is_width f.width && nat_le from f.at && nat_le (f.at + f.width) total && are_in_order (f.at + f.width) total fs

abbrev pub is_table : ℕ → List Field → Bool
is_table total fields = are_in_order 0 total fields

-- the table of these fields, where they are one
abbrev pub table_of : ℕ → List Field → Option Table
table_of total fields = if is_table total fields then Some (record { total = total; fields = fields }) else None

-- the number in a field, and those in all fields
abbrev pub number_in : List ℕ → Field → ℕ
number_in bytes f = number_at (width_of f.width) f.at bytes

abbrev pub numbers_of : List Field → List ℕ → List ℕ
numbers_of fields bytes = map (number_in bytes) fields

-- the bytes with a number put into a field, and with one put into each
abbrev pub with_number : Field → ℕ → List ℕ → List ℕ
with_number f n bytes = take f.at bytes ++ to_le_bytes (width_of f.width) n ++ drop (f.at + f.width) bytes

abbrev pub with_numbers : List Field → List ℕ → List ℕ → List ℕ
with_numbers [] numbers bytes = bytes
with_numbers (f ∷ fs) [] bytes = bytes
with_numbers (f ∷ fs) (n ∷ numbers) bytes = with_numbers fs numbers (with_number f n bytes)

-- each number fits its field
abbrev pub Fit : List Field → List ℕ → Type 0
Fit [] numbers = Unit {0}
Fit (f ∷ fs) [] = Unit {0}
Fit (f ∷ fs) (n ∷ numbers) = (n < 256 ^ f.width) × Fit fs numbers

-- the place lies in no field
abbrev pub IsOutside : ℕ → List Field → Type 0
IsOutside i [] = Unit {0}
IsOutside i (f ∷ fs) = ((i < f.at) ⊎ (f.at + f.width ≤ i)) × IsOutside i fs

-- each field begins where the one before has ended, from a place to the total
abbrev pub are_joined : ℕ → ℕ → List Field → Bool
are_joined from total [] = from == total
are_joined from total (f ∷ fs) = is_width f.width && from == f.at && are_joined (f.at + f.width) total fs

-- the numbers' bytes, one after another
abbrev pub spelled : List Field → List ℕ → List ℕ
spelled [] numbers = []
spelled (f ∷ fs) [] = []
spelled (f ∷ fs) (n ∷ numbers) = to_le_bytes (width_of f.width) n ++ spelled fs numbers
