-- A message is taken, and its file goes back; the next opening takes it again.
use Rattle.std.proofs.Common.{◌≡◌, ℕ, Bool, true, false, List, [], ◌∷◌, ◌++◌, map, Ok, refl, replicate}
use Rattle.qls_site.specs.declared.site.Place.TheVariants.{Empty}
use Rattle.qls_site.specs.Disk.{Image, at_rest}
use Rattle.qls_filehdr.specs.Header.{header_spelling}
use Rattle.qls_meaning.specs.Journals.{journals_of}
use Rattle.qls_meaning.specs.Dead.{has_dead_oldest}
use Rattle.qls_meaning.specs.Meaning.{meaning}
use Rattle.qls_meaning.specs.Spent.{list_rid, no_file_left, greatest_id}
use Rattle.qls_vectors.proofs.Stores.{put, take_of, head_a, used, empty, block, store_prepared, store_decided, store_ended}
use Rattle.qls_vectors.proofs.Meanings.{only_a, ready}

abbrev put_file : List ℕ
put_file = header_spelling (head_a 7 0 4096 1 1) ++ block 7 (put 1 [] (1 ∷ []))

abbrev take_file : List ℕ
take_file = header_spelling (head_a 8 1 4096 2 1) ++ block 8 (take_of 1 1 [])

-- before the return, and after it
abbrev taken : Image
taken = used 1 put_file ∷ used 2 take_file ∷ []

abbrev returned : Image
returned = empty 1 put_file ∷ used 2 take_file ∷ []

abbrev dead_oldest : Image → List Bool
dead_oldest i = map has_dead_oldest (journals_of i)

oldest_is_dead : dead_oldest taken ≡ true ∷ []
oldest_is_dead = refl

none_is_dead : dead_oldest returned ≡ false ∷ []
none_is_dead = refl

-- the return leaves the meaning, and with it the last number
taken_means : meaning taken ≡ Ok (only_a 1 [])
taken_means = refl

returned_means : meaning returned ≡ Ok (only_a 1 [])
returned_means = refl

-- the next opening puts a message: into the file that went back, as number 3 in epoch 2, and then the older file is dead and goes back
abbrev again_file : List ℕ
again_file = header_spelling (head_a 9 1 4096 3 2) ++ block 9 (put 2 [] (2 ∷ []))

put_again_means : meaning (used 1 again_file ∷ used 2 take_file ∷ []) ≡ Ok (only_a 2 (ready 2 (2 ∷ []) ∷ []))
put_again_means = refl

older_is_dead : dead_oldest (used 1 again_file ∷ used 2 take_file ∷ []) ≡ true ∷ []
older_is_dead = refl

put_again_returned : meaning (used 1 again_file ∷ empty 2 take_file ∷ []) ≡ Ok (only_a 2 (ready 2 (2 ∷ []) ∷ []))
put_again_returned = refl

-- ---- the prepared list: an entry holds its file while it is there

held_in_doubt : dead_oldest store_prepared ≡ false ∷ false ∷ false ∷ []
held_in_doubt = refl

held_when_decided : dead_oldest store_decided ≡ false ∷ false ∷ false ∷ []
held_when_decided = refl

none_dead_at_the_end : dead_oldest store_ended ≡ false ∷ false ∷ false ∷ []
none_dead_at_the_end = refl

-- ---- counters

-- the rid of the last entry, and that of the oldest file's header where no entry is left
rid_of_the_entry : list_rid (at_rest store_decided) ≡ 1
rid_of_the_entry = refl

rid_of_the_header : list_rid (at_rest store_ended) ≡ 1
rid_of_the_header = refl

no_list_no_rid : list_rid (at_rest returned) ≡ 0
no_list_no_rid = refl

greatest_of_all : greatest_id (at_rest store_ended) ≡ 7
greatest_of_all = refl

-- the last id is there, and the pool has no file; with a file in the pool there is one left
abbrev last_id : ℕ → Image
last_id part = record { id = 4611686018427387903; place = Empty part 4; bytes = replicate 8192 0 } ∷ []

none_left : no_file_left (record { part = 1; kib = 4 }) (at_rest (last_id 2)) ≡ true
none_left = refl

one_left : no_file_left (record { part = 1; kib = 4 }) (at_rest (last_id 1)) ≡ false
one_left = refl
