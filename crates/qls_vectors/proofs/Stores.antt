-- Whole stores: headers and records as they are spelled, in files with a data area of 4 KiB where nothing else is said.
use Rattle.std.proofs.Common.{ℕ, true, false, List, [], ◌∷◌, ◌++◌, take, drop, replicate}
use Rattle.std.specs.List.{concat}
use Rattle.qls_shape.specs.declared.Version.TheVariants.{Two}
use Rattle.qls_site.specs.declared.site.Place.TheVariants.{InUse, Empty}
use Rattle.qls_site.specs.declared.site.ImageFile.{ImageFile}
use Rattle.qls_site.specs.Disk.{Image}
use Rattle.qls_record.specs.declared.Kind.{Kind}
use Rattle.qls_record.specs.declared.Kind.TheVariants.{Enqueue, Dequeue, Commit, Abort, Filler}
use Rattle.qls_record.specs.Record.{Record}
use Rattle.qls_record.specs.Spelling.{spelling}
use Rattle.qls_filehdr.specs.declared.JournalKind.TheVariants.{Queue, List as Listed}
use Rattle.qls_filehdr.specs.declared.FileHeader.{FileHeader}
use Rattle.qls_filehdr.specs.Header.{header_spelling}

-- ---- records

abbrev pub put : ℕ → List ℕ → List ℕ → Record
put rid xid body = record { kind = Enqueue; flagged = false; rid = rid; target = 0; xid = xid; props = []; body = body }

-- a take, and in the prepared list a decision: its own rid, the target, and the xid
abbrev pub take_of : ℕ → ℕ → List ℕ → Record
take_of rid target xid = record { kind = Dequeue; flagged = false; rid = rid; target = target; xid = xid; props = []; body = [] }

abbrev pub flagged : Record → Record
flagged r = record r { flagged = true }

-- the end of a transaction in a queue, and in the prepared list the end of an entry
abbrev pub end_of : Kind → ℕ → List ℕ → Record
end_of kind rid xid = record { kind = kind; flagged = false; rid = rid; target = 0; xid = xid; props = []; body = [] }

abbrev pub filler : ℕ → Record
filler rid = record { kind = Filler; flagged = false; rid = rid; target = 0; xid = []; props = []; body = [] }

abbrev pub fillers : ℕ → ℕ → ℕ → List ℕ
fillers n serial rid = concat (replicate n (spelling Two serial (filler rid)))

-- a block with one record of a unit, and fillers
abbrev pub block : ℕ → Record → List ℕ
block serial r = spelling Two serial r ++ fillers 31 serial r.rid

-- ---- files

-- a header of queue a in pool 1 4: serial, rid, first place, number, epoch
abbrev pub head_a : ℕ → ℕ → ℕ → ℕ → ℕ → FileHeader
head_a serial rid first number epoch = record { serial = serial; rid = rid; part = 1; kib = 4; first = first; number = number; epoch = epoch; kind = Queue; name = 97 ∷ [] }

abbrev pub used : ℕ → List ℕ → ImageFile
used id bytes = record { id = id; place = InUse; bytes = bytes }

-- empty, in pool 1 4
abbrev pub empty : ℕ → List ℕ → ImageFile
empty id bytes = record { id = id; place = Empty 1 4; bytes = bytes }

-- ---- a queue with one message of two bytes

abbrev pub bytes1 : List ℕ
bytes1 = header_spelling (head_a 7 0 4096 1 1) ++ block 7 (put 1 [] (0x68 ∷ 0x69 ∷ []))

abbrev pub store1 : Image
store1 = used 1 bytes1 ∷ []

-- ---- a record over two files

abbrev pub long_record : List ℕ
long_record = spelling Two 7 (put 1 [] (replicate 4033 0x5a))

abbrev pub area5a : List ℕ
area5a = take 4096 long_record

abbrev pub area5b : List ℕ
area5b = drop 4096 long_record ++ fillers 31 8 1

abbrev pub file5a : ImageFile
file5a = used 1 (header_spelling (head_a 7 0 4096 1 1) ++ area5a)

-- the second file under this header
abbrev pub file5b : FileHeader → ImageFile
file5b h = used 2 (header_spelling h ++ area5b)

abbrev pub head5b : FileHeader
head5b = head_a 8 1 4224 2 1

abbrev pub store5 : Image
store5 = file5a ∷ file5b head5b ∷ []

-- what a second opening takes for a put of one byte, after rid 1
abbrev pub later : ℕ → ℕ → ImageFile
later id number = used id (header_spelling (head_a 9 1 4096 number 2) ++ block 9 (put 2 [] (2 ∷ [])))

-- ---- the prepared list

abbrev pub head_list : FileHeader
head_list = record { serial = 9; rid = 0; part = 1; kib = 4; first = 4096; number = 1; epoch = 1; kind = Listed; name = [] }

-- ---- a transaction of one phase without a decision, in a list made by hand

abbrev pub store_one_phase : Image
store_one_phase =
    used 1 (header_spelling (head_a 7 0 4096 1 1) ++ block 7 (put 1 (1 ∷ []) (0x0a ∷ [])))
    ∷ used 2 (header_spelling head_list ++ spelling Two 9 (flagged (put 1 (1 ∷ []) [])) ++ replicate 3968 0)
    ∷ []

-- ---- a put over two files: what a crash leaves after its two writes

abbrev pub first_put : List ℕ
first_put = block 7 (put 1 [] (1 ∷ []))

abbrev pub torn_record : List ℕ
torn_record = spelling Two 8 (put 2 [] (replicate 4033 0x5a))

-- the files under their headers, with these data areas in files 2 and 3
abbrev pub store_torn : List ℕ → List ℕ → Image
store_torn two three =
    used 1 (header_spelling (head_a 7 0 4096 1 1) ++ first_put)
    ∷ used 2 (header_spelling (head_a 8 1 4096 2 1) ++ two)
    ∷ used 3 (header_spelling (head_a 9 2 4224 3 1) ++ three)
    ∷ []

abbrev pub part_two : List ℕ
part_two = take 4096 torn_record

abbrev pub part_three : List ℕ
part_three = drop 4096 torn_record ++ fillers 31 9 2

-- the first sector of the part in file 2 and no other
abbrev pub first_sector : Image
first_sector = store_torn (take 512 torn_record ++ replicate 3584 0) (replicate 4096 0)

-- all but the last sector of the part in file 2, and the part in file 3 whole
abbrev pub without_a_sector : Image
without_a_sector = store_torn (take 3584 torn_record ++ replicate 512 0) part_three

abbrev pub both_whole : Image
both_whole = store_torn part_two part_three

abbrev pub none_written : Image
none_written = store_torn (replicate 4096 0) (replicate 4096 0)

-- ---- a transaction with a put in each of two queues, prepared

-- the file of a queue of this name with one put of one byte by xid 01
abbrev pub coming : ℕ → ℕ → ℕ → List ℕ
coming serial name byte =
    header_spelling (record { serial = serial; rid = 0; part = 1; kib = 4; first = 4096; number = 1; epoch = 1; kind = Queue; name = name ∷ [] })
    ++ block serial (put 1 (1 ∷ []) (byte ∷ []))

abbrev pub two_queues : Image
two_queues = used 1 (coming 7 97 0x0a) ∷ used 2 (coming 8 98 0x0b) ∷ []

abbrev pub prepared_file : List ℕ
prepared_file = header_spelling head_list ++ block 9 (put 1 (1 ∷ []) [])

abbrev pub store_prepared : Image
store_prepared = two_queues ++ used 3 prepared_file ∷ []

-- the list's next file, of this serial, number and epoch, with a record
abbrev pub list_file : ℕ → ℕ → ℕ → Record → List ℕ
list_file serial number epoch r = header_spelling (record head_list { serial = serial; rid = 1; number = number; epoch = epoch }) ++ block serial r

-- the decision to commit
abbrev pub store_decided : Image
store_decided = store_prepared ++ used 4 (list_file 10 2 1 (flagged (take_of 1 1 (1 ∷ [])))) ∷ []

-- queue a's next file, and queue b's, of this serial and epoch, with a record
abbrev pub queue_file : ℕ → ℕ → ℕ → Record → List ℕ
queue_file serial name epoch r =
    header_spelling (record { serial = serial; rid = 1; part = 1; kib = 4; first = 4096; number = 2; epoch = epoch; kind = Queue; name = name ∷ [] }) ++ block serial r

-- the commit in both queues
abbrev pub store_committed : Image
store_committed = store_decided ++ used 5 (queue_file 11 97 1 (end_of Commit 1 (1 ∷ []))) ∷ used 6 (queue_file 12 98 1 (end_of Commit 1 (1 ∷ []))) ∷ []

-- the end in the list, after which its older files went back
abbrev pub store_ended : Image
store_ended =
    two_queues
    ++ empty 3 prepared_file
    ∷ empty 4 (list_file 10 2 1 (flagged (take_of 1 1 (1 ∷ []))))
    ∷ used 5 (queue_file 11 97 1 (end_of Commit 1 (1 ∷ [])))
    ∷ used 6 (queue_file 12 98 1 (end_of Commit 1 (1 ∷ [])))
    ∷ used 7 (list_file 13 3 1 (end_of Commit 1 (1 ∷ [])))
    ∷ []

-- ---- an open transaction at a crash, the next opening, and its xid used again

abbrev pub store_open : Image
store_open = used 1 (coming 7 97 0x0a) ∷ []

-- the abort is written in the next epoch, and the message's file went back
abbrev pub store_settled : Image
store_settled = empty 1 (coming 7 97 0x0a) ∷ used 2 (queue_file 8 97 2 (end_of Abort 1 (1 ∷ []))) ∷ []

-- a list with an entry of one phase and its decision
abbrev pub committed_again : List ℕ
committed_again = header_spelling head_list ++ spelling Two 9 (flagged (put 1 (1 ∷ []) [])) ++ spelling Two 9 (flagged (take_of 1 1 (1 ∷ []))) ++ fillers 30 9 1

abbrev pub store_used_again : Image
store_used_again = used 1 committed_again ∷ used 2 (queue_file 8 97 2 (end_of Abort 1 (1 ∷ []))) ∷ []

-- the same without the abort
abbrev pub store_unsettled : Image
store_unsettled = used 1 (coming 7 97 0x0a) ∷ used 2 committed_again ∷ []

-- ---- the last number of a queue

abbrev pub store_last_number : Image
store_last_number = used 1 (header_spelling (head_a 5 4611686018427387902 4096 1 1) ++ spelling Two 5 (put 4611686018427387903 [] (1 ∷ [])) ++ replicate 3968 0) ∷ []
