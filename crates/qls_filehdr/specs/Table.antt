-- The numbers of a file header's first sixty bytes.
use Rattle.std.specs.Prelude.{ℕ, List, [], ◌∷◌}
use Rattle.std.specs.Int.{w16, w32, w64}
use Rattle.qls_shape.specs.Fields.{number_at}
use Rattle.qls_filehdr.specs.declared.read.Numbers.{Numbers}
use Rattle.qls_shape.specs.declared.layout.Field.{Field}
use Rattle.qls_shape.specs.Tables.{Table}

abbrev pub field : ℕ → ℕ → Field
field at width = record { at = at; width = width }

-- magic, version, flags, serial, rid, partition, data KiB, first place, file number, epoch, kind, length of the name
abbrev pub header_table : Table
header_table = record {
  total = 60;
  fields =
      field 0 4 ∷ field 4 2 ∷ field 6 2 ∷ field 8 8 ∷ field 16 8 ∷ field 24 4 ∷ field 28 4 ∷ field 32 8 ∷ field 40 8 ∷ field 48 8 ∷ field 56 2
      ∷ field 58 2 ∷ [];
}

-- those behind the magic, as they stand in the bytes
abbrev pub numbers_at : List ℕ → Numbers
numbers_at bytes = record {
  version = number_at w16 4 bytes;
  flags = number_at w16 6 bytes;
  serial = number_at w64 8 bytes;
  rid = number_at w64 16 bytes;
  part = number_at w32 24 bytes;
  kib = number_at w32 28 bytes;
  first = number_at w64 32 bytes;
  number = number_at w64 40 bytes;
  epoch = number_at w64 48 bytes;
  kind = number_at w16 56 bytes;
  name_size = number_at w16 58 bytes;
}
