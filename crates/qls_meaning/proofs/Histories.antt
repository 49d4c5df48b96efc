-- Sectors that are unwritten, and the epoch of a file to be taken, over a few moments.
use Rattle.std.proofs.Common.{◌≡◌, true, false, List, [], ◌∷◌, refl, replicate}
use Rattle.qls_site.specs.declared.site.Place.TheVariants.{InUse, Empty}
use Rattle.qls_site.specs.Disk.{write_at, sync_at, relocate_at}
use Rattle.qls_site.specs.Content.{Moment, on_disk}
use Rattle.qls_meaning.specs.Journals.{Headed}
use Rattle.qls_meaning.specs.History.{History, FreeArea, is_unwritten, came_into_use}
use Rattle.qls_meaning.specs.Orderly.{next_epoch}
use Rattle.qls_meaning.proofs.Small.{queue_file}

-- file 1 is in use, and file 2 in its pool
abbrev start : Moment
start = record {
  disk =
      record { id = 1; place = InUse; stable = replicate 8192 0; pending = [] }
      ∷ record { id = 2; place = Empty 1 4; stable = replicate 8192 0; pending = [] }
      ∷ [];
  answered = [];
}

abbrev linked : Moment
linked = on_disk (relocate_at 2 InUse) start

abbrev begun : Moment
begun = on_disk (write_at 2 4096 (replicate 512 1)) linked

abbrev stable : Moment
stable = on_disk (sync_at 2) begun

abbrev returned : Moment
returned = on_disk (relocate_at 2 (Empty 1 4)) stable

abbrev up_to : List Moment → History
up_to ms = record { start = start; since = ms }

file_2_came : came_into_use 2 false start (linked ∷ []) ≡ true
file_2_came = refl

file_2_left : came_into_use 2 false start (linked ∷ begun ∷ stable ∷ returned ∷ []) ≡ false
file_2_left = refl

file_1_was_there : is_unwritten [] (up_to (linked ∷ [])) 1 8 ≡ false
file_1_was_there = refl

unwritten_at_first : is_unwritten [] (up_to (linked ∷ [])) 2 8 ≡ true
unwritten_at_first = refl

written_while_pending : is_unwritten [] (up_to (linked ∷ begun ∷ [])) 2 8 ≡ false
written_while_pending = refl

written_once_stable : is_unwritten [] (up_to (linked ∷ begun ∷ stable ∷ [])) 2 8 ≡ false
written_once_stable = refl

next_is_unwritten : is_unwritten [] (up_to (linked ∷ begun ∷ stable ∷ [])) 2 9 ≡ true
next_is_unwritten = refl

-- a file that comes into use again is unwritten again
again_unwritten : is_unwritten [] (up_to (linked ∷ begun ∷ stable ∷ returned ∷ linked ∷ [])) 2 8 ≡ true
again_unwritten = refl

-- what an open value has free counts as unwritten from the start on
abbrev areas : List FreeArea
areas = record { id = 1; from = 4608 } ∷ []

free_counts : is_unwritten areas (up_to (linked ∷ [])) 1 9 ≡ true
free_counts = refl

used_does_not : is_unwritten areas (up_to (linked ∷ [])) 1 8 ≡ false
used_does_not = refl

-- ---- epochs

-- the journal's newest file is file 1, in epoch 3
abbrev newest : List Headed
newest = queue_file 1 3 7 0 4096 [] ∷ []

found_by_the_opening : next_epoch [] (up_to (linked ∷ [])) newest ≡ 4
found_by_the_opening = refl

taken_by_the_value : next_epoch areas (up_to (linked ∷ [])) newest ≡ 3
taken_by_the_value = refl

taken_in_the_call : next_epoch [] (up_to (linked ∷ [])) (queue_file 2 3 7 0 4096 [] ∷ []) ≡ 3
taken_in_the_call = refl

new_journal : next_epoch [] (up_to (linked ∷ [])) [] ≡ 1
new_journal = refl
