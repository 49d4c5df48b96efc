-- What a batch spells: each record for the serial of the file where it starts.
use Rattle.std.specs.Prelude.{ℕ, ◌+◌, ◌/◌, List, [], ◌∷◌, ◌++◌, slice_index}
use Rattle.qls_shape.specs.declared.Version.TheVariants.{Two}
use Rattle.qls_record.specs.Record.{Record, record_length}
use Rattle.qls_record.specs.Spelling.{spelling}

-- the serial of the file that holds a place
abbrev pub serial_at : ℕ → List ℕ → ℕ → ℕ
serial_at capacity serials p = slice_index serials (p / capacity)

abbrev pub spelled_over : ℕ → List ℕ → ℕ → List Record → List ℕ
spelled_over capacity serials p [] = []
spelled_over capacity serials p (r ∷ rs) = spelling Two (serial_at capacity serials p) r ++ spelled_over capacity serials (p + record_length Two r) rs
