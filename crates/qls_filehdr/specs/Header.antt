-- The one spelling of a file header, and reading it with the first rule that fails.
use Rattle.std.specs.Prelude.{ℕ, ◌+◌, ◌-◌, ◌&&◌, List, ◌++◌, length, take, drop, replicate, Result, Ok, if◌then◌else◌, ◌==◌, ◌^◌, nat_lt, nat_le, codes}
use Rattle.std.specs.List.{list_all}
use Rattle.std.specs.Int.{w16, w32, w64}
use Rattle.qls_model.specs.Bytes.{same}
use Rattle.qls_shape.specs.Adler.{adler_of}
use Rattle.qls_shape.specs.Fields.{u16, u32, u64, bytes_from, number_at}
use Rattle.qls_shape.specs.Claims.{claim, ◌>>◌}
use Rattle.qls_filehdr.specs.declared.JournalKind.{JournalKind}
use Rattle.qls_filehdr.specs.declared.JournalKind.TheVariants.{Queue, List as Listed}
use Rattle.qls_filehdr.specs.declared.FileHeader.{FileHeader}
use Rattle.qls_filehdr.specs.declared.Rule.{Rule}
use Rattle.qls_filehdr.specs.declared.Rule.TheVariants as rule
use Rattle.qls_model.specs.Limits.{is_partition, is_kib}
use Rattle.qls_filehdr.specs.Limits.{is_first_place, is_counter, is_name}

-- the version of files that come into use; from version 3 on the header tells its own
abbrev pub version_of : FileHeader → ℕ
version_of h = 2

abbrev pub kind_number : JournalKind → ℕ
kind_number Queue = 1
kind_number Listed = 2

-- sixty bytes of numbers
abbrev pub header_numbers : FileHeader → List ℕ
header_numbers h =
    codes "QLSf" ++ u16 (version_of h) ++ u16 0 ++ u64 h.serial ++ u64 h.rid ++ u32 h.part ++ u32 h.kib ++ u64 h.first
    ++ u64 h.number ++ u64 h.epoch ++ u16 (kind_number h.kind) ++ u16 (length h.name)

-- the bytes that the checksum covers
abbrev pub header_front : FileHeader → List ℕ
header_front h = header_numbers h ++ h.name

-- with the checksum, and zeros up to 4,096
abbrev pub header_spelling : FileHeader → List ℕ
header_spelling h = let front = header_front h in front ++ u32 (adler_of front) ++ replicate (4032 - length h.name) 0

abbrev pub name_at : List ℕ → List ℕ
name_at bytes = bytes_from 60 (number_at w16 58 bytes) bytes

-- the kind of a number, where it is one
abbrev pub journal_kind : ℕ → JournalKind
journal_kind n = if n == 1 then Queue else Listed

-- the header whose fields stand in the bytes
abbrev pub header_fields : List ℕ → FileHeader
header_fields bytes = record {
  serial = number_at w64 8 bytes;
  rid = number_at w64 16 bytes;
  part = number_at w32 24 bytes;
  kib = number_at w32 28 bytes;
  first = number_at w64 32 bytes;
  number = number_at w64 40 bytes;
  epoch = number_at w64 48 bytes;
  kind = journal_kind (number_at w16 56 bytes);
  name = name_at bytes;
}

-- the rules on the numbers, in their order
abbrev pub number_claims : List ℕ → Result (Unit {0}) Rule
number_claims bytes =
    let h = header_fields bytes in do
      claim (same (take 4 bytes) (codes "QLSf")) rule.Magic
      claim (number_at w16 4 bytes == 2) rule.Version
      claim (number_at w16 6 bytes == 0) rule.Flags
      claim (is_partition h.part) rule.Partition
      claim (is_kib h.kib) rule.Kib
      claim (is_first_place h.kib h.first) rule.Place
      claim (nat_lt h.rid (2 ^ 62) && is_counter h.number && is_counter h.epoch) rule.Counter
      claim (nat_le 1 (number_at w16 56 bytes) && nat_le (number_at w16 56 bytes) 2) rule.Kind

-- the rules on what follows the name, which ends at a place: the checksum of the bytes before it, and zeros
abbrev pub rest_claims : ℕ → List ℕ → Result (Unit {0}) Rule
rest_claims end bytes = do
  claim (number_at w32 end bytes == adler_of (take end bytes)) rule.Checksum
  claim (list_all (λ b. b == 0) (drop (4 + end) (take 4096 bytes))) rule.Zeros

-- the header that stands in 4,096 bytes, or the first rule that fails
abbrev pub header_of : List ℕ → Result FileHeader Rule
header_of bytes =
    let h = header_fields bytes in do
      number_claims bytes
      claim (is_name h.kind h.name) rule.Name
      rest_claims (60 + number_at w16 58 bytes) bytes
      Ok h
