-- Stores of six files, changed in some header field or byte, and what an independent reading of the format says of each.
use Rattle.std.proofs.Common.{◌≡◌, ℕ, false, List, [], ◌∷◌, ◌++◌, Ok, Err, refl, replicate, take, drop}
use Rattle.std.proofs.Math.ListN.{set}
use Rattle.qls_shape.specs.declared.Version.TheVariants.{Two}
use Rattle.qls_model.specs.declared.machine.Status.TheVariants.{Ready, Coming, Going}
use Rattle.qls_model.specs.declared.machine.Message.{Message}
use Rattle.qls_model.specs.declared.machine.Phase.TheVariants.{Prepared}
use Rattle.qls_model.specs.Machine.{MachineState}
use Rattle.qls_site.specs.declared.site.Place.TheVariants.{Empty}
use Rattle.qls_site.specs.declared.site.ImageFile.{ImageFile}
use Rattle.qls_record.specs.declared.Kind.TheVariants.{Dequeue}
use Rattle.qls_record.specs.Spelling.{spelling}
use Rattle.qls_filehdr.specs.declared.JournalKind.TheVariants.{Queue, List as Listed}
use Rattle.qls_filehdr.specs.declared.FileHeader.{FileHeader}
use Rattle.qls_filehdr.specs.declared.Rule.TheVariants as rule
use Rattle.qls_filehdr.specs.Header.{header_spelling}
use Rattle.qls_meaning.specs.Meaning.{meaning}
use Rattle.qls_vectors.proofs.Stores.{put, fillers, used}

abbrev long : List ℕ
long = spelling Two 8 (put 2 [] (replicate 4033 0x5a))

abbrev area1 : List ℕ
area1 = spelling Two 7 (put 1 [] (1 ∷ [])) ++ fillers 31 7 1

abbrev area2 : List ℕ
area2 = take 4096 long

abbrev area3 : List ℕ
area3 = drop 4096 long ++ fillers 31 9 2

abbrev area4 : List ℕ
area4 =
    spelling Two 10 (record { kind = Dequeue; flagged = false; rid = 2; target = 1; xid = 5 ∷ []; props = []; body = [] })
    ++ spelling Two 10 (put 3 (5 ∷ []) (3 ∷ [])) ++ fillers 30 10 3

abbrev area5 : List ℕ
area5 = spelling Two 11 (put 1 (5 ∷ []) []) ++ fillers 31 11 1

abbrev file : ℕ → FileHeader → List ℕ → ImageFile
file id h area = used id (header_spelling h ++ area)

abbrev empty6 : ImageFile
empty6 = record { id = 6; place = Empty 1 4; bytes = replicate 8192 0 }

abbrev head1 : FileHeader
head1 = record { serial = 7; rid = 0; part = 1; kib = 4; first = 4096; number = 1; epoch = 1; kind = Queue; name = 97 ∷ [] }

abbrev head2 : FileHeader
head2 = record { serial = 8; rid = 1; part = 1; kib = 4; first = 4096; number = 2; epoch = 1; kind = Queue; name = 97 ∷ [] }

abbrev head3 : FileHeader
head3 = record { serial = 9; rid = 2; part = 1; kib = 4; first = 4224; number = 3; epoch = 1; kind = Queue; name = 97 ∷ [] }

abbrev head4 : FileHeader
head4 = record { serial = 10; rid = 2; part = 1; kib = 4; first = 4096; number = 4; epoch = 2; kind = Queue; name = 97 ∷ [] }

abbrev head5 : FileHeader
head5 = record { serial = 11; rid = 0; part = 1; kib = 4; first = 4096; number = 1; epoch = 1; kind = Listed; name = [] }

abbrev message1 : Message
message1 = record { number = 1; body = 1 ∷ []; status = Going (5 ∷ []) }

abbrev message2 : Message
message2 = record { number = 2; body = replicate 4033 0x5a; status = Ready }

abbrev message3 : Message
message3 = record { number = 3; body = 3 ∷ []; status = Coming (5 ∷ []) }

-- queue a with these messages, and xid 05 in doubt
abbrev holding : List Message → MachineState
holding ms = record { queues = record { name = 97 ∷ []; last = 3; messages = ms } ∷ []; xids = record { xid = 5 ∷ []; phase = Prepared } ∷ [] }

all_three : meaning (
    file 1 head1 area1
    ∷ file 2 head2 area2
    ∷ file 3 head3 area3
    ∷ file 4 head4 area4
    ∷ file 5 head5 area5
    ∷ empty6
    ∷ []) ≡ Ok (holding (message1 ∷ message2 ∷ message3 ∷ []))
all_three = refl

two_are_left : meaning (
    file 2 head2 area2
    ∷ file 3 head3 area3
    ∷ file 4 head4 area4
    ∷ file 5 head5 area5
    ∷ empty6
    ∷ []) ≡ Ok (holding (message2 ∷ message3 ∷ []))
two_are_left = refl

one_is_left : meaning (
    file 3 head3 area3
    ∷ file 4 head4 area4
    ∷ file 5 head5 area5
    ∷ empty6
    ∷ []) ≡ Ok (holding (message3 ∷ []))
one_is_left = refl

number_of_file_4 : meaning (
    file 3 head3 area3
    ∷ file 4 (record head4 { kind = Listed; name = [] }) area4
    ∷ file 5 head5 area5
    ∷ empty6
    ∷ []) ≡ Err (4, rule.Number)
number_of_file_4 = refl

order_of_file_5 : meaning (
    file 1 head1 area1
    ∷ file 2 head2 area2
    ∷ file 3 head3 area3
    ∷ file 4 head4 area4
    ∷ file 5 (record head5 { first = 4224; number = 5 }) area5
    ∷ empty6
    ∷ []) ≡ Err (5, rule.Order)
order_of_file_5 = refl

home_of_file_4 : meaning (
    file 3 head3 area3
    ∷ file 4 (record head4 { rid = 0; part = 2 }) area4
    ∷ file 5 head5 area5
    ∷ empty6
    ∷ []) ≡ Err (4, rule.Home)
home_of_file_4 = refl

home_of_file_3 : meaning (
    file 2 (record head2 { first = 0 }) area2
    ∷ file 3 (record head3 { part = 2 }) area3
    ∷ file 4 head4 area4
    ∷ file 5 head5 area5
    ∷ empty6
    ∷ []) ≡ Err (3, rule.Home)
home_of_file_3 = refl

number_of_file_3 : meaning (
    file 3 head3 area3
    ∷ file 4 (record head4 { number = 1 }) area4
    ∷ file 5 head5 area5
    ∷ empty6
    ∷ []) ≡ Err (3, rule.Number)
number_of_file_3 = refl

end_of_file_2 : meaning (
    file 1 head1 area1
    ∷ file 2 (record head2 { serial = 9 }) area2
    ∷ file 3 head3 area3
    ∷ file 4 head4 area4
    ∷ file 5 head5 area5
    ∷ empty6
    ∷ []) ≡ Err (2, rule.End)
end_of_file_2 = refl

order_of_file_1 : meaning (
    used 1 (set (header_spelling head1 ++ area1) 4240 2)
    ∷ file 2 head2 area2
    ∷ file 3 head3 area3
    ∷ file 4 head4 area4
    ∷ file 5 head5 area5
    ∷ empty6
    ∷ []) ≡ Err (1, rule.Order)
order_of_file_1 = refl

end_of_file_1 : meaning (
    used 1 (set (header_spelling head1 ++ area1) 4160 2)
    ∷ file 2 head2 area2
    ∷ file 3 head3 area3
    ∷ file 4 head4 area4
    ∷ file 5 head5 area5
    ∷ empty6
    ∷ []) ≡ Err (1, rule.End)
end_of_file_1 = refl

epoch_of_file_2 : meaning (
    file 1 (record head1 { serial = 10; epoch = 3 }) area1
    ∷ file 2 head2 area2
    ∷ file 3 head3 area3
    ∷ file 4 head4 area4
    ∷ file 5 head5 area5
    ∷ empty6
    ∷ []) ≡ Err (2, rule.Epoch)
epoch_of_file_2 = refl

rid_of_file_2 : meaning (
    file 1 (record head1 { first = 0 }) area1
    ∷ file 2 head2 area2
    ∷ file 3 head3 area3
    ∷ file 4 (record head4 { first = 4224 }) area4
    ∷ file 5 head5 area5
    ∷ empty6
    ∷ []) ≡ Err (2, rule.Rid)
rid_of_file_2 = refl

epoch_of_file_3 : meaning (
    file 3 head3 area3
    ∷ file 4 (record head4 { number = 2 }) area4
    ∷ file 5 (record head5 { part = 2 }) area5
    ∷ empty6
    ∷ []) ≡ Err (3, rule.Epoch)
epoch_of_file_3 = refl

home_of_file_2 : meaning (
    file 1 head1 area1
    ∷ file 2 (record head2 { part = 2 }) area2
    ∷ file 3 head3 area3
    ∷ file 4 head4 area4
    ∷ file 5 head5 area5
    ∷ empty6
    ∷ []) ≡ Err (2, rule.Home)
home_of_file_2 = refl

first_of_file_2 : meaning (
    file 1 head1 area1
    ∷ file 2 (record head2 { first = 4352 }) area2
    ∷ file 3 head3 area3
    ∷ file 4 head4 area4
    ∷ file 5 head5 area5
    ∷ empty6
    ∷ []) ≡ Err (2, rule.First)
first_of_file_2 = refl

first_of_file_4 : meaning (
    file 1 head1 area1
    ∷ file 2 head2 area2
    ∷ file 3 head3 area3
    ∷ file 4 (record head4 { first = 4224 }) area4
    ∷ file 5 head5 area5
    ∷ empty6
    ∷ []) ≡ Err (4, rule.First)
first_of_file_4 = refl

epoch_of_file_1 : meaning (
    file 1 (record head1 { number = 5 }) area1
    ∷ file 2 head2 area2
    ∷ file 3 head3 area3
    ∷ file 4 head4 area4
    ∷ file 5 head5 area5
    ∷ empty6
    ∷ []) ≡ Err (1, rule.Epoch)
epoch_of_file_1 = refl

rid_of_file_3 : meaning (
    file 2 head2 area2
    ∷ file 3 (record head3 { rid = 1 }) area3
    ∷ file 4 head4 area4
    ∷ file 5 head5 area5
    ∷ empty6
    ∷ []) ≡ Err (3, rule.Rid)
rid_of_file_3 = refl

order_of_file_3 : meaning (
    used 3 (set (header_spelling head3 ++ area3) 4368 1)
    ∷ file 4 head4 area4
    ∷ file 5 head5 area5
    ∷ empty6
    ∷ []) ≡ Err (3, rule.Order)
order_of_file_3 = refl

rid_of_file_4 : meaning (
    file 1 head1 area1
    ∷ file 2 head2 area2
    ∷ file 3 head3 area3
    ∷ file 4 (record head4 { rid = 1 }) area4
    ∷ file 5 (record head5 { number = 3 }) area5
    ∷ empty6
    ∷ []) ≡ Err (4, rule.Rid)
rid_of_file_4 = refl

epoch_of_file_4 : meaning (
    file 2 (record head2 { epoch = 2 }) area2
    ∷ file 3 (record head3 { epoch = 3 }) area3
    ∷ file 4 head4 area4
    ∷ file 5 head5 area5
    ∷ empty6
    ∷ []) ≡ Err (4, rule.Epoch)
epoch_of_file_4 = refl

first_of_file_3 : meaning (
    file 2 head2 area2
    ∷ file 3 (record head3 { first = 0 }) area3
    ∷ file 4 head4 area4
    ∷ file 5 head5 area5
    ∷ empty6
    ∷ []) ≡ Err (3, rule.First)
first_of_file_3 = refl

number_of_file_2 : meaning (
    file 1 head1 area1
    ∷ file 2 (record head2 { number = 1 }) area2
    ∷ file 3 head3 area3
    ∷ file 4 head4 area4
    ∷ file 5 head5 area5
    ∷ empty6
    ∷ []) ≡ Err (2, rule.Number)
number_of_file_2 = refl
