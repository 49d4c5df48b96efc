-- The record at a place of the first of some files.
use Rattle.std.specs.Prelude.{ℕ, ◌+◌, List, [], ◌∷◌, take, drop, Option, None}
use Rattle.qls_shape.specs.declared.Version.TheVariants.{Two}
use Rattle.qls_record.specs.declared.Head.{Head}
use Rattle.qls_record.specs.Record.{Record, header_length}
use Rattle.qls_record.specs.Spelling.{record_at}
use Rattle.qls_record.specs.Head.{record_with}
use Rattle.qls_site.specs.Disk.{Disk}
use Rattle.qls_reader.specs.declared.spot.FileSpot.{FileSpot}
use Rattle.qls_reader.specs.Spots.{stream_on}

-- the record that stands there for the first file's serial
abbrev pub record_on : Disk → List FileSpot → ℕ → Option Record
record_on d [] p = None
record_on d (s ∷ ss) p = record_at Two s.serial (drop p (stream_on d (s ∷ ss)))

-- where the xid begins, and the body, behind the header
abbrev pub body_place : Head → ℕ
body_place h = header_length Two h.kind + h.xid_size

-- the record of a head, whose xid and body stand behind the header
abbrev pub record_from : List ℕ → Head → Record
record_from bytes h = record_with h (take h.xid_size (drop (header_length Two h.kind) bytes)) (take h.body_size (drop (body_place h) bytes))
