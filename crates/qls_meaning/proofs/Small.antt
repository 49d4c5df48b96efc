-- Small journals: files whose data areas have a few units of 128 bytes each.
use Rattle.std.proofs.Common.{ℕ, true, false, List, [], ◌∷◌, replicate}
use Rattle.qls_shape.specs.declared.Version.TheVariants.{Two}
use Rattle.qls_record.specs.declared.Kind.{Kind}
use Rattle.qls_record.specs.declared.Kind.TheVariants.{Enqueue, Dequeue, Filler}
use Rattle.qls_record.specs.Record.{Record}
use Rattle.qls_record.specs.Spelling.{spelling}
use Rattle.qls_filehdr.specs.declared.JournalKind.{JournalKind}
use Rattle.qls_filehdr.specs.declared.JournalKind.TheVariants.{Queue, List as Listed}
use Rattle.qls_meaning.specs.Journals.{Headed, Journal}
use Rattle.qls_meaning.specs.Reading.{Placed, Read}

-- ---- records

abbrev pub plain : Kind → ℕ → Record
plain kind rid = record { kind = kind; flagged = false; rid = rid; target = 0; xid = []; props = []; body = [] }

abbrev pub put : ℕ → Record
put rid = plain Enqueue rid

abbrev pub take_of : ℕ → ℕ → Record
take_of rid target = record (plain Dequeue rid) { target = target }

abbrev pub filler : ℕ → Record
filler rid = plain Filler rid

-- a record by an xid of one byte
abbrev pub by : ℕ → Record → Record
by x r = record r { xid = x ∷ [] }

abbrev pub flagged : Record → Record
flagged r = record r { flagged = true }

-- a put whose record has two units, three units
abbrev pub long_put : ℕ → Record
long_put rid = record (put rid) { body = replicate 100 0x5a }

abbrev pub longer_put : ℕ → Record
longer_put rid = record (put rid) { body = replicate 300 0x5a }

abbrev pub spelled : ℕ → Record → List ℕ
spelled serial r = spelling Two serial r

-- units in which nothing stands
abbrev pub blank : ℕ → List ℕ
blank bytes = replicate bytes 0

-- a record of the reading of an epoch, and of that of a journal
abbrev pub stands : Record → ℕ → ℕ → Placed
stands r at after = record { what = r; at = at; after = after }

abbrev pub lies : Record → ℕ → ℕ → ℕ → Read
lies r file at end_file = record { what = r; file = file; at = at; end_file = end_file }

-- ---- files

-- the file of this number, which is its id too, of this epoch, serial, rid and first place
abbrev pub file : JournalKind → ℕ → ℕ → ℕ → ℕ → ℕ → List ℕ → Headed
file kind number epoch serial rid first area = record {
  id = number;
  header = record { serial = serial; rid = rid; part = 1; kib = 4; first = first; number = number; epoch = epoch; kind = kind; name = [] };
  area = area;
}

abbrev pub queue_file : ℕ → ℕ → ℕ → ℕ → ℕ → List ℕ → Headed
queue_file number epoch serial rid first area = file Queue number epoch serial rid first area

abbrev pub list_file : ℕ → ℕ → ℕ → ℕ → ℕ → List ℕ → Headed
list_file number epoch serial rid first area = file Listed number epoch serial rid first area

abbrev pub queue : List Headed → Journal
queue files = record { kind = Queue; name = []; files = files }

abbrev pub prepared_list : List Headed → Journal
prepared_list files = record { kind = Listed; name = []; files = files }
