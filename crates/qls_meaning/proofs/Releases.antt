-- Files that may go back: dead ones, and those past the reading.
use Rattle.std.proofs.Common.{◌≡◌, ℕ, true, false, List, [], ◌∷◌, ◌++◌, map, refl, take, drop}
use Rattle.qls_record.specs.declared.Kind.TheVariants.{Commit}
use Rattle.qls_record.specs.Record.{Record}
use Rattle.qls_meaning.specs.Journals.{Headed}
use Rattle.qls_meaning.specs.Dead.{is_dead, has_dead_oldest, past_files}
use Rattle.qls_meaning.proofs.Small.{plain, put, take_of, filler, by, long_put, spelled, blank, queue_file, list_file, queue, prepared_list}

-- ---- dead files

-- a message in file 1, and in file 2 this record
abbrev two_files : Record → List Headed
two_files r = queue_file 1 1 7 0 4096 (spelled 7 (put 1)) ∷ queue_file 2 1 8 1 4096 (spelled 8 r) ∷ []

held_by_its_message : has_dead_oldest (queue (two_files (filler 1))) ≡ false
held_by_its_message = refl

dead_once_taken : has_dead_oldest (queue (two_files (take_of 1 1))) ≡ true
dead_once_taken = refl

-- going is present
held_while_going : has_dead_oldest (queue (two_files (by 3 (take_of 1 1)))) ≡ false
held_while_going = refl

-- the newest file is never dead
newest_is_kept : has_dead_oldest (queue (queue_file 1 1 7 0 4096 (spelled 7 (put 1) ++ spelled 7 (take_of 1 1)) ∷ [])) ≡ false
newest_is_kept = refl

-- a record holds each file in which it has a byte
abbrev across : List Headed
across =
    queue_file 1 1 7 0 4096 (spelled 7 (put 1) ++ take 128 (spelled 7 (long_put 2)))
    ∷ queue_file 2 1 8 2 4224 (drop 128 (spelled 7 (long_put 2)) ++ spelled 8 (take_of 2 1))
    ∷ queue_file 3 1 9 2 4096 (blank 128)
    ∷ []

both_are_held : map (is_dead (queue across)) across ≡ false ∷ false ∷ false ∷ []
both_are_held = refl

-- a file that holds no enqueue is dead, though an older one isn't
abbrev middle : List Headed
middle =
    queue_file 1 1 7 0 4096 (spelled 7 (put 1))
    ∷ queue_file 2 1 8 1 4096 (spelled 8 (put 2))
    ∷ queue_file 3 1 9 2 4096 (spelled 9 (take_of 2 2))
    ∷ []

middle_is_dead : map (is_dead (queue middle)) middle ≡ false ∷ true ∷ false ∷ []
middle_is_dead = refl

-- entries hold the list's files, decided or not, until they end
abbrev list_files : Record → List Headed
list_files r = list_file 1 1 7 0 4096 (spelled 7 (by 1 (put 1))) ∷ list_file 2 1 8 1 4096 (spelled 8 r) ∷ []

held_by_its_entry : has_dead_oldest (prepared_list (list_files (by 1 (take_of 1 1)))) ≡ false
held_by_its_entry = refl

dead_once_ended : has_dead_oldest (prepared_list (list_files (by 1 (plain Commit 1)))) ≡ true
dead_once_ended = refl

-- ---- files past the reading

abbrev numbers : List Headed → List ℕ
numbers fs = map (λ f. f.header.number) (past_files (queue fs))

none_past : numbers middle ≡ []
none_past = refl

-- the file in which the reading ends isn't past it, also where it ends at its data area
ends_in_the_last : numbers (queue_file 1 1 7 0 4096 (spelled 7 (put 1)) ∷ queue_file 2 1 8 1 4096 (blank 128) ∷ queue_file 3 1 9 1 4096 (blank 128) ∷ []) ≡ 3 ∷ []
ends_in_the_last = refl

two_past : numbers (queue_file 1 1 7 0 4096 (blank 128) ∷ queue_file 2 1 8 1 4096 (blank 128) ∷ queue_file 3 1 9 1 4096 (blank 128) ∷ []) ≡ 2 ∷ 3 ∷ []
two_past = refl
