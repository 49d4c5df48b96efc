-- Where records lie: the numbers of files, and places in files.
use Rattle.std.specs.Prelude.{ℕ, ◌+◌, ◌-◌, ◌/◌, ◌%◌}
use Rattle.qls_meaning.specs.Reading.{Placed}
use Rattle.qls_log.specs.declared.spot.Spot.{Spot}

-- from a place on, up to another; places count from the data area of the file with number present on, and go on through the next ones
abbrev pub spot_in : ℕ → ℕ → ℕ → ℕ → Spot
spot_in capacity present place after = record { file = present + place / capacity; at = 4096 + place % capacity; end_file = present + (after - 1) / capacity }

abbrev pub spot_of : ℕ → ℕ → Placed → Spot
spot_of capacity present r = spot_in capacity present r.at r.after
