-- What whole stores mean.
use Rattle.std.proofs.Common.{◌≡◌, ℕ, List, [], ◌∷◌, ◌++◌, Ok, Err, refl, length, replicate, take, drop}
use Rattle.qls_shape.specs.declared.Version.TheVariants.{Two}
use Rattle.qls_site.specs.Disk.{Image}
use Rattle.qls_model.specs.declared.machine.Status.TheVariants.{Ready}
use Rattle.qls_model.specs.declared.machine.Message.{Message}
use Rattle.qls_model.specs.Machine.{MachineState}
use Rattle.qls_record.specs.Spelling.{spelling}
use Rattle.qls_filehdr.specs.declared.FileHeader.{FileHeader}
use Rattle.qls_filehdr.specs.declared.Rule.TheVariants as rule
use Rattle.qls_filehdr.specs.Header.{header_spelling}
use Rattle.qls_meaning.specs.Meaning.{meaning}
use Rattle.qls_vectors.proofs.Stores.{store1, bytes1, store5, store_one_phase, store_last_number, file5a, file5b, head5b, later, used, put, head_a, block}

-- queue a with this last number and these messages, and no xid
abbrev pub only_a : ℕ → List Message → MachineState
only_a last ms = record { queues = record { name = 97 ∷ []; last = last; messages = ms } ∷ []; xids = [] }

abbrev pub ready : ℕ → List ℕ → Message
ready n body = record { number = n; body = body; status = Ready }

bytes1_length : length bytes1 ≡ 8192
bytes1_length = refl

one_message : meaning store1 ≡ Ok (only_a 1 (ready 1 (0x68 ∷ 0x69 ∷ []) ∷ []))
one_message = refl

over_two_files : meaning store5 ≡ Ok (only_a 1 (ready 1 (replicate 4033 0x5a) ∷ []))
over_two_files = refl

in_two_epochs : meaning (file5a ∷ file5b head5b ∷ later 3 3 ∷ []) ≡ Ok (only_a 2 (ready 1 (replicate 4033 0x5a) ∷ ready 2 (2 ∷ []) ∷ []))
in_two_epochs = refl

-- an entry of one phase that isn't decided aborts
one_phase_aborts : meaning store_one_phase ≡ Ok (only_a 1 [])
one_phase_aborts = refl

last_number : meaning store_last_number ≡ Ok (only_a 4611686018427387903 (ready 4611686018427387903 (1 ∷ []) ∷ []))
last_number = refl

-- ---- A put ends at a block's end inside a fresh file, in which no record of its batch starts, and no filler follows: the file's first
-- place is where the batch ends. Data areas have 8 KiB here

abbrev head8 : FileHeader → FileHeader
head8 h = record h { kib = 8 }

abbrev second_put : List ℕ
second_put = spelling Two 7 (put 2 [] (replicate 8128 0x5a))

-- the second put's file, with this first place, and these bytes behind the put
abbrev ends_inside : ℕ → List ℕ → Image
ends_inside first behind =
    used 1 (header_spelling (head8 (head_a 7 0 4096 1 1)) ++ spelling Two 7 (put 1 [] (replicate 4032 0x5a)) ++ take 4096 second_put)
    ∷ used 2 (header_spelling (head8 (head_a 8 2 first 2 1)) ++ drop 4096 second_put ++ behind)
    ∷ []

abbrev two_puts : List Message
two_puts = ready 1 (replicate 4032 0x5a) ∷ ready 2 (replicate 8128 0x5a) ∷ []

planned_at_the_end : meaning (ends_inside 8192 (replicate 4096 0)) ≡ Ok (only_a 2 two_puts)
planned_at_the_end = refl

next_begins_there : meaning (ends_inside 8192 (block 8 (put 3 [] (1 ∷ [])))) ≡ Ok (only_a 3 (two_puts ++ ready 3 (1 ∷ []) ∷ []))
next_begins_there = refl

not_0_there : meaning (ends_inside 0 (replicate 4096 0)) ≡ Err (2, rule.First)
not_0_there = refl

-- ---- A record ends in a file and the reading with it, at a sector's end: the part behind its first sector was torn away. No record
-- starts in that file, and the place that its header plans is the end of the reading

abbrev sector_record : List ℕ
sector_record = spelling Two 7 (put 1 [] (replicate 4544 0x5a))

abbrev torn_behind : ℕ → Image
torn_behind first =
    used 1 (header_spelling (head_a 7 0 4096 1 1) ++ take 4096 sector_record)
    ∷ used 2 (header_spelling (head_a 8 1 first 2 1) ++ drop 4096 sector_record ++ replicate 3584 0)
    ∷ []

torn_behind_means : meaning (torn_behind 4608) ≡ Ok (only_a 1 (ready 1 (replicate 4544 0x5a) ∷ []))
torn_behind_means = refl

torn_behind_fails : meaning (torn_behind 0) ≡ Err (2, rule.First)
torn_behind_fails = refl
