-- The reading of an epoch is the one list of records that are spelled one behind the other, up to where none is.
use Rattle.std.proofs.Common.{◌≡◌, ℕ, suc, zero, ◌+◌, ◌*◌, ◌/◌, ◌<◌, List, [], ◌∷◌, length, drop, Option, Some, None, Bool, refl, sym, ap, ◌∙◌, arith}
use Rattle.qls_record.specs.Record.{Record}
use Rattle.qls_record.specs.Spelling.{record_at, spelling}
use Rattle.qls_record.proofs.RoundTrip.{record_at_spells, record_at-spelling}
use Rattle.qls_record.proofs.RecordLength.{stands_split}
use Rattle.qls_meaning.specs.Journals.{Headed, version_in}
use Rattle.qls_meaning.specs.Reading.{Holder, holder, Placed, stream, record_in, held_record, length_in, and_then, records_from, begin_place, epoch_reading}
use Rattle.qls_laws.specs.Readings.{IsSpelledFor, IsSpelledAt, IsReading}
use Rattle.qls_laws.proofs.Prefix.{follow}
use Rattle.qls_laws.proofs.Ends.{record_fits}

-- the record that is read at a place is the one that is spelled there
spelled_for : (h : Option Holder) (bytes : List ℕ) (r : Record) → held_record bytes h ≡ Some r → IsSpelledFor h bytes r
spelled_for None bytes r e = absurd (cc)
spelled_for (Some h) bytes r e = record_at_spells (version_in h.file) h.file.header.serial bytes r e

read_for : (h : Option Holder) (bytes : List ℕ) (r : Record) → IsSpelledFor h bytes r → held_record bytes h ≡ Some r
read_for None bytes r s = absurd s
read_for (Some h) bytes r s =
    let text = spelling (version_in h.file) h.file.header.serial r in
    ap (record_at (version_in h.file) h.file.header.serial) (stands_split bytes text s.stands)
    ∙ record_at-spelling (version_in h.file) h.file.header.serial r (drop (length text) bytes) s.legal

pub spelled_where_read : (fs : List Headed) (p : ℕ) (r : Record) → record_in fs p ≡ Some r → IsSpelledAt fs p r
spelled_where_read fs p r e = spelled_for (holder fs p) (drop p (stream fs)) r e

pub read_where_spelled : (fs : List Headed) (p : ℕ) (r : Record) → IsSpelledAt fs p r → record_in fs p ≡ Some r
read_where_spelled fs p r s = read_for (holder fs p) (drop p (stream fs)) r s

-- ---- what is read is a reading

none_spelled : (fs : List Headed) (p : ℕ) → record_in fs p ≡ None → (r : Record) → IsSpelledAt fs p r → ⊥
none_spelled fs p none r s = let e = read_where_spelled fs p r s in absurd (cc)

none_past : (fs : List Headed) (p : ℕ) → length (stream fs) < p + 128 → (r : Record) → IsSpelledAt fs p r → ⊥
none_past fs p late r s = let fits = record_fits fs p r (read_where_spelled fs p r s) in absurd (omega (arith, fits.0, fits.1))

reading_step : (fs : List Headed) (n p : ℕ) → length (stream fs) < p + 128 * suc n + 128
    → ((q : ℕ) → length (stream fs) < q + 128 * n + 128 → IsReading fs q (records_from fs n q))
    → (o : Option Record) → record_in fs p ≡ o → IsReading fs p (and_then o (follow fs n p))
reading_step fs n p enough ih None e = none_spelled fs p e
reading_step fs n p enough ih (Some r) e =
    let fits = record_fits fs p r e in
    (refl, spelled_where_read fs p r e, refl, ih (p + length_in fs p r) (omega (arith, fits.0)))

is_reading : (fs : List Headed) (n p : ℕ) → length (stream fs) < p + 128 * n + 128 → IsReading fs p (records_from fs n p)
is_reading fs zero p enough = none_past fs p (omega arith)
is_reading fs (suc n) p enough = reading_step fs n p enough (is_reading fs n) (record_in fs p) refl

pub epoch_is_reading : (oldest : Bool) (fs : List Headed) → IsReading fs (begin_place oldest fs) (epoch_reading oldest fs)
epoch_is_reading oldest fs = is_reading fs (length (stream fs) / 128) (begin_place oldest fs) (omega arith)

-- ---- and there is no other

nothing_follows : (fs : List Headed) (n p : ℕ) → ((r : Record) → IsSpelledAt fs p r → ⊥) → (o : Option Record) → record_in fs p ≡ o → [] ≡ and_then o (follow fs n p)
nothing_follows fs n p none None e = refl
nothing_follows fs n p none (Some r) e = absurd (none r (spelled_where_read fs p r e))

only_reading : (fs : List Headed) (n p : ℕ) → length (stream fs) < p + 128 * n + 128 → (rs : List Placed) → IsReading fs p rs → rs ≡ records_from fs n p
only_reading fs zero p enough [] h = refl
only_reading fs (suc n) p enough [] h = nothing_follows fs n p h (record_in fs p) refl
only_reading fs zero p enough (r ∷ rs) h =
    let fits = record_fits fs p r.what (read_where_spelled fs p r.what h.1) in absurd (omega (arith, fits.0, fits.1))
only_reading fs (suc n) p enough (r ∷ rs) h =
    let read = read_where_spelled fs p r.what h.1 in
    let fits = record_fits fs p r.what read in
    let rest = only_reading fs n r.after (omega (arith, fits.0, h.2)) rs h.3 in
    let first : r ∷ rs ≡ follow fs n p r.what =
    (let at = h.0 in let after = h.2 in λ i. record { what = r.what; at = at i; after = after i } ∷ (rest ∙ ap (records_from fs n) after) i) in
    first ∙ ap (λ o. and_then o (follow fs n p)) (sym read)

pub epoch_only_reading : (oldest : Bool) (fs : List Headed) (rs : List Placed) → IsReading fs (begin_place oldest fs) rs → rs ≡ epoch_reading oldest fs
epoch_only_reading oldest fs rs h = only_reading fs (length (stream fs) / 128) (begin_place oldest fs) (omega arith) rs h
