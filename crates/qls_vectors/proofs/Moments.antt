-- A put over two files, at the moment after its two writes, and its images.
use Rattle.std.proofs.Common.{◌≡◌, true, false, [], ◌∷◌, ◌++◌, refl, replicate}
use Rattle.qls_site.specs.Disk.{Disk, full, bare, at_rest, write_at}
use Rattle.qls_site.specs.Chosen.{chosen_image}
use Rattle.qls_vectors.proofs.Stores.{none_written, part_two, part_three, first_sector, without_a_sector, both_whole}

-- the files are taken, and both parts are written
abbrev written : Disk
written = write_at 3 4096 part_three (write_at 2 4096 part_two (at_rest none_written))

first_sector_is_chosen : chosen_image (true ∷ []) written ≡ first_sector
first_sector_is_chosen = refl

one_is_left_out : chosen_image (replicate 7 true ++ false ∷ replicate 8 true) written ≡ without_a_sector
one_is_left_out = refl

all_of_them : chosen_image (replicate 16 true) written ≡ both_whole
all_of_them = refl

full_is_whole : full written ≡ both_whole
full_is_whole = refl

none_of_them : chosen_image [] written ≡ bare written
none_of_them = refl

bare_is_without : bare written ≡ none_written
bare_is_without = refl
