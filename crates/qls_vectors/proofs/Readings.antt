-- The reading of a record over two files, with the fillers behind it.
use Rattle.std.proofs.Common.{◌≡◌, ℕ, zero, suc, ◌+◌, List, [], ◌∷◌, map, refl, replicate}
use Rattle.qls_meaning.specs.Journals.{journals_of}
use Rattle.qls_meaning.specs.Reading.{Read, journal_reading}
use Rattle.qls_vectors.proofs.Stores.{store5, put, filler}

-- n fillers of the second file, from this place on
abbrev fillers_from : ℕ → ℕ → List Read
fillers_from zero at = []
fillers_from (suc n) at = record { what = filler 1; file = 2; at = at; end_file = 2 } ∷ fillers_from n (at + 128)

two_files_are_read : map journal_reading (journals_of store5)
    ≡ (record { what = put 1 [] (replicate 4033 0x5a); file = 1; at = 4096; end_file = 2 } ∷ fillers_from 31 4224) ∷ []
two_files_are_read = refl
