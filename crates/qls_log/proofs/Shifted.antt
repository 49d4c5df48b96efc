-- Places behind some files: what stands there stands in the files that follow.
use Rattle.std.proofs.Common.{◌≡◌, ℕ, ◌+◌, ◌-◌, ◌<◌, Bool, List, [], ◌∷◌, ◌++◌, map, length, take, drop, None, refl, sym, ap, ap₂, ◌∙◌, arith}
use Rattle.std.proofs.Math.Seq.{drop-append_seam, drop-drop, take-append-add}
use Rattle.std.proofs.lemmas.Grind.{flat_map-append}
use Rattle.qls_shape.specs.declared.Version.TheVariants.{Two}
use Rattle.qls_record.specs.Record.{Record, record_length}
use Rattle.qls_meaning.specs.Journals.{Headed}
use Rattle.qls_meaning.specs.Reading.{Placed, Read, holder, stream, record_in, held_record, held_length, length_in, end_from, begin_place, epoch_reading, located, number_of, place_of}
use Rattle.qls_laws.specs.Readings.{Stand, AgreeUpTo}
use Rattle.qls_laws.proofs.Ends.{record_fits}
use Rattle.qls_laws.proofs.Leftover.{all_moved, is_reading}
use Rattle.qls_laws.proofs.Unique.{epoch_only_reading}
use Rattle.qls_blocks.specs.Batching.{laid_from}
use Rattle.qls_blocks.proofs.Stream.{holder-behind}

pub stream_both : (fs gs : List Headed) → stream (fs ++ gs) ≡ stream fs ++ stream gs
stream_both fs gs = flat_map-append (λ f. f.area) fs gs

module _ (past own : List Headed) where
  abbrev start : ℕ
  start = length (stream past)

  abbrev all : List Headed
  all = past ++ own

  rest_behind : (p : ℕ) → drop (start + p) (stream all) ≡ drop p (stream own)
  rest_behind p = ap (drop (start + p)) (stream_both past own) ∙ sym (drop-drop p start (stream past ++ stream own)) ∙ ap (drop p) (drop-append_seam (stream past) (stream own))

  pub record_behind : (p : ℕ) → record_in all (start + p) ≡ record_in own p
  record_behind p = ap₂ held_record (rest_behind p) (holder-behind past own p)

  length_behind : (p : ℕ) (r : Record) → length_in all (start + p) r ≡ length_in own p r
  length_behind p r = ap (λ o. held_length o r) (holder-behind past own p)

  pub stand_back : (p : ℕ) (rs : List Placed) → Stand all (start + p) (all_moved start rs) → Stand own p rs
  stand_back p [] s = tt
  stand_back p (r ∷ rs) s =
      let at : r.at ≡ p = omega (arith, s.0) in
      let after : r.after ≡ p + length_in own p r.what = omega (arith, s.2, length_behind p r.what) in
      (at, sym (record_behind p) ∙ s.1, after, stand_back r.after rs s.3)

  pub located_behind : (p : ℕ) (rs : List Placed) → Stand own p rs → map (located all) (all_moved start rs) ≡ map (located own) rs
  located_behind p [] s = refl
  located_behind p (r ∷ rs) s =
      let fits = record_fits own p r.what s.1 in
      let at = holder-behind past own r.at in
      let last : holder all (start + r.after - 1) ≡ holder own (r.after - 1) = ap (holder all) (less_one start r.after (omega (arith, fits.0, s.2))) ∙ holder-behind past own (r.after - 1) in
      ap₂ (λ (x : Read) (xs : List Read). x ∷ xs) (λ i. record { what = r.what; file = number_of (at i); at = place_of (at i); end_file = number_of (last i) }) (located_behind r.after rs s.3)
    where
      less_one : (n k : ℕ) → 0 < k → n + k - 1 ≡ n + (k - 1)
      less_one n k h = omega (arith, h)

-- a batch, counted from an earlier file on
pub laid_moved : (n p : ℕ) (rs : List Record) → all_moved n (laid_from p rs) ≡ laid_from (n + p) rs
laid_moved n p [] = refl
laid_moved n p (r ∷ rs) =
    let after : n + (p + record_length Two r) ≡ n + p + record_length Two r = omega arith in
    ap₂ (λ (x : Placed) (xs : List Placed). x ∷ xs) (λ i. record { what = r; at = n + p; after = after i }) (laid_moved n (p + record_length Two r) rs ∙ ap (λ q. laid_from q rs) after)

-- what agrees behind the same files agrees in those that follow
pub agree_behind : (past fs gs : List Headed) (q : ℕ) → AgreeUpTo (length (stream past) + q) (past ++ fs) (past ++ gs) → AgreeUpTo q fs gs
agree_behind past fs gs q a =
    let n : ℕ = length (stream past) in
    let cut : (hs : List Headed) → take (n + q) (stream (past ++ hs)) ≡ stream past ++ take q (stream hs) = λ hs. ap (take (n + q)) (stream_both past hs) ∙ take-append-add (stream past) (stream hs) q in
    record {
      records = λ p bytes l. ap (held_record bytes) (sym (holder-behind past gs p)) ∙ a.records (n + p) bytes (omega (arith, l)) ∙ ap (held_record bytes) (holder-behind past fs p);
      lengths = λ p r l. sym (length_behind past gs p r) ∙ a.lengths (n + p) r (omega (arith, l)) ∙ length_behind past fs p r;
      front =
          sym (drop-append_seam (stream past) (take q (stream gs))) ∙ ap (drop n) (sym (cut gs) ∙ a.front ∙ cut fs) ∙ drop-append_seam (stream past) (take q (stream fs));
    }

-- what stands from an epoch's first place up to a place where nothing does is its reading
pub reading_by : (oldest : Bool) (fs : List Headed) (rs : List Placed) → Stand fs (begin_place oldest fs) rs → record_in fs (end_from (begin_place oldest fs) rs) ≡ None → epoch_reading oldest fs ≡ rs
reading_by oldest fs rs h none = sym (epoch_only_reading oldest fs rs (is_reading fs (begin_place oldest fs) rs h none))
