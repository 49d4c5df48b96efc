-- What is read of small epochs.
use Rattle.std.proofs.Common.{◌≡◌, true, false, List, [], ◌∷◌, ◌++◌, refl, take, drop}
use Rattle.qls_meaning.specs.Journals.{Headed}
use Rattle.qls_meaning.specs.Reading.{epoch_reading, epoch_end, journal_reading}
use Rattle.qls_meaning.proofs.Small.{put, filler, long_put, longer_put, spelled, blank, stands, lies, queue_file, queue}

-- ---- the reading ends at the first place where no record stands, whatever stands behind it

abbrev gap : List Headed
gap = queue_file 1 1 7 0 4096 (spelled 7 (put 1) ++ blank 128 ++ spelled 7 (put 2)) ∷ []

gap_ends_it : epoch_reading true gap ≡ stands (put 1) 0 128 ∷ []
gap_ends_it = refl

gap_is_the_end : epoch_end true gap ≡ 128
gap_is_the_end = refl

-- ---- a record is spelled for the serial of the file in which it starts, and of no other

abbrev two_serials : List Headed
two_serials = queue_file 1 1 7 0 4096 (spelled 7 (put 1)) ∷ queue_file 2 1 8 1 4096 (spelled 8 (put 2)) ∷ []

both_are_read : epoch_reading true two_serials ≡ stands (put 1) 0 128 ∷ stands (put 2) 128 256 ∷ []
both_are_read = refl

abbrev other_serial : List Headed
other_serial = queue_file 1 1 7 0 4096 (spelled 7 (put 1)) ∷ queue_file 2 1 8 1 4096 (spelled 7 (put 2)) ∷ []

other_is_not_read : epoch_reading true other_serial ≡ stands (put 1) 0 128 ∷ []
other_is_not_read = refl

-- a record of two units starts in the first file and goes on in the second
abbrev across : List Headed
across =
    queue_file 1 1 7 0 4096 (spelled 7 (put 1) ++ take 128 (spelled 7 (long_put 2)))
    ∷ queue_file 2 1 8 2 4224 (drop 128 (spelled 7 (long_put 2)) ++ spelled 8 (filler 2))
    ∷ []

across_is_read : journal_reading (queue across) ≡ lies (put 1) 1 4096 1 ∷ lies (long_put 2) 1 4224 2 ∷ lies (filler 2) 2 4224 2 ∷ []
across_is_read = refl

-- ---- where the reading of the oldest epoch begins

-- the beginning of a record of three units is gone with an older file: this file has its second unit, the next one its third
abbrev covered : List Headed
covered =
    queue_file 4 1 7 5 0 (take 128 (drop 128 (spelled 6 (longer_put 5))))
    ∷ queue_file 5 1 8 5 4224 (drop 256 (spelled 6 (longer_put 5)) ++ spelled 8 (put 6))
    ∷ []

begins_behind : journal_reading (queue covered) ≡ lies (put 6) 5 4224 5 ∷ []
begins_behind = refl

-- no file of the epoch has a first place: nothing is read, and the end is that of the stream
abbrev all_covered : List Headed
all_covered = queue_file 4 1 7 5 0 (spelled 7 (put 6)) ∷ queue_file 5 1 8 5 0 (spelled 8 (put 6)) ∷ []

nothing_is_read : epoch_reading true all_covered ≡ []
nothing_is_read = refl

ends_behind_all : epoch_end true all_covered ≡ 256
ends_behind_all = refl

-- an epoch that isn't the oldest begins at the data area of its first file, whatever the header says
begins_at_once : epoch_reading false all_covered ≡ stands (put 6) 0 128 ∷ stands (put 6) 128 256 ∷ []
begins_at_once = refl
