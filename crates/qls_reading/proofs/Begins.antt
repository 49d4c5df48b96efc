-- Where the reading of an epoch begins, by its headers.
use Rattle.std.proofs.Common.{◌≡◌, ◌⊎◌, inl, inr, ℕ, ◌+◌, ◌-◌, ◌*◌, ◌%◌, ◌<◌, ◌≤◌, Bool, true, false, cond, ◌&&◌, ◌||◌, List, [], ◌∷◌, map, length, Option, Some, None, IfSome, refl, sym, ap, ap₂, ◌∙◌, arith, eqb, leb}
use Rattle.std.specs.List.{AllByRecursion}
use Rattle.std.proofs.lemmas.Bool.Decides.{nat_tests}
use Rattle.qls_site.specs.Disk.{Disk}
use Rattle.qls_site.specs.Content.{Content}
use Rattle.qls_model.specs.Limits.{is_kib, file_size}
use Rattle.qls_filehdr.specs.Limits.{is_first_place}
use Rattle.qls_filehdr.proofs.HeaderTrip.{legal_parts}
use Rattle.qls_meaning.specs.Reading.{stream, begin_place, first_place}
use Rattle.qls_scan.specs.declared.answers.HeadedFile.{HeadedFile}
use Rattle.qls_scan.specs.Heads.{HasLegalHeader}
use Rattle.qls_reader.specs.Spots.{begin_of}
use Rattle.qls_reader.specs.Places.{AreSound}
use Rattle.qls_reader.proofs.Stream.{begin_there}
use Rattle.qls_reading.specs.declared.rules.Course.{Course}
use Rattle.qls_reading.specs.declared.tally.Tally.{Tally}
use Rattle.qls_reading.specs.Groups.{spot_of, units_of, AreCounted}
use Rattle.qls_reading.specs.Tested.{IsBegun}
use Rattle.qls_reading.specs.Left.{file_on, files_on, AreOnSite}
use Rattle.qls_reading.proofs.Counts.{length-stream}
use Rattle.qls_reading.proofs.Enter.{AreSized}
use Rattle.qls_reading.proofs.Way.{IsUnderWay}
use Rattle.qls_reading.proofs.Steps.{begins}
use Rattle.qls_reading.proofs.Told.{are_sized, are_spots}

-- ---- what a legal header tells

pub sound_header : (h : HeadedFile) → HasLegalHeader h → (is_kib h.header.kib && is_first_place h.header.kib h.header.first) ≡ true
sound_header h legal = let parts = legal_parts h.header legal in ap₂ (λ (a b : Bool). a && b) parts.kib parts.first

pub are_sound : (hs : List HeadedFile) → AllByRecursion HasLegalHeader hs → AreSound (map spot_of hs)
are_sound [] h = tt
are_sound (f ∷ hs) h = (sound_header f h.0, are_sound hs h.1)

parted : (a b c : Bool) → ((a && b) && c) ≡ true → a ≡ true
parted true b c e = refl
parted false b c e = absurd (cc)

pub kib_some : (kib : ℕ) → is_kib kib ≡ true → 4 ≤ kib
kib_some kib e = let least : leb 4 kib ≡ true = parted (leb 4 kib) (leb kib 65536) (eqb (kib % 4) 0) e in grind (arith, nat_tests, least)

first_within : (kib first : ℕ) → is_first_place kib first ≡ true → (first ≡ 0) ⊎ (first - 4096 ≤ 1024 * kib)
first_within kib first e = by_test (eqb first 0) refl e
  where
    middle : (a b c : Bool) → ((a && b) && c) ≡ true → b ≡ true
    middle true true c e = refl
    middle true false c e = absurd (cc)
    middle false b c e = absurd (cc)

    by_test : (b : Bool) → eqb first 0 ≡ b → (b || ((leb 4096 first && leb (first + 128) (file_size kib)) && eqb (first % 128) 0)) ≡ true → (first ≡ 0) ⊎ (first - 4096 ≤ 1024 * kib)
    by_test true is e = let none : first ≡ 0 = grind (arith, nat_tests, is) in inl none
    by_test false is e =
        let most : leb (first + 128) (4096 + 1024 * kib) ≡ true = middle (leb 4096 first) (leb (first + 128) (file_size kib)) (eqb (first % 128) 0) e in
        let low : first + 128 ≤ 4096 + 1024 * kib = grind (arith, nat_tests, most) in
        inr (omega (arith, low))

-- ---- the joined areas

module _ (d : Disk) where
  first_inside : (hs : List HeadedFile) → AreSized d hs → AllByRecursion HasLegalHeader hs → first_place (files_on d hs) ≤ length (stream (files_on d hs))
  first_inside [] s h = omega arith
  first_inside (f ∷ hs) s h = by_test (eqb f.header.first 0) refl (first_inside hs s.1 h.1)
    where
      all : length (stream (files_on d (f ∷ hs))) ≡ length (file_on d f).area + length (stream (files_on d hs))
      all = length-stream (file_on d f) (files_on d hs)

      by_test : (b : Bool) → eqb f.header.first 0 ≡ b → first_place (files_on d hs) ≤ length (stream (files_on d hs))
          → cond b (length (file_on d f).area + first_place (files_on d hs)) (f.header.first - 4096) ≤ length (stream (files_on d (f ∷ hs)))
      by_test true is rest = let size = all in omega (arith, size, rest)
      by_test false is rest = by_first (first_within f.header.kib f.header.first (legal_parts f.header h.0).first)
        where
          by_first : (f.header.first ≡ 0) ⊎ (f.header.first - 4096 ≤ 1024 * f.header.kib) → f.header.first - 4096 ≤ length (stream (files_on d (f ∷ hs)))
          by_first (inl none) = let size = all in omega (arith, none, size)
          by_first (inr low) = let size = all in let own = s.0 in omega (arith, low, size, own)

  begin_inside : (oldest : Bool) (hs : List HeadedFile) → AreSized d hs → AllByRecursion HasLegalHeader hs → begin_place oldest (files_on d hs) ≤ length (stream (files_on d hs))
  begin_inside true hs s h = first_inside hs s h
  begin_inside false hs s h = omega arith

  pub length-units : (hs : List HeadedFile) → AreSized d hs → length (stream (files_on d hs)) ≡ 128 * units_of hs
  length-units [] s = refl
  length-units (f ∷ hs) s = omega (arith, length-stream (file_on d f) (files_on d hs), s.0, length-units hs s.1)

  pub first_area : (f : HeadedFile) → length (file_on d f).area ≡ 1024 * f.header.kib → HasLegalHeader f → 0 < length (file_on d f).area
  first_area f size legal = let some = kib_some f.header.kib (legal_parts f.header legal).kib in omega (arith, size, some)

-- ---- the reading of an epoch begins

pub begun_within : (hs : List HeadedFile) (from : Course) → IsBegun hs from → from.came ≤ length hs
begun_within [] from begun = absurd begun
begun_within (f ∷ hs) from begun = omega (arith, begun.0)

pub begun_some : (hs : List HeadedFile) (from : Course) → IsBegun hs from → 0 < from.came
begun_some [] from begun = absurd begun
begun_some (f ∷ hs) from begun = omega (arith, begun.0)

pub told_begins : (a : Option Content) (hs : List HeadedFile) (from : Course) (old : Tally) (units place : ℕ) → AreCounted hs → AllByRecursion HasLegalHeader hs → IsBegun hs from
    → IfSome a (AreOnSite hs) → place ≡ begin_of from.given (map spot_of hs) → units ≡ units_of hs → IfSome a (λ c. IsUnderWay c.now.disk hs from old old from units place)
told_begins None hs from old units place counted legal begun on at size = tt
told_begins (Some c) [] from old units place counted legal begun on at size = absurd begun
told_begins (Some c) (f ∷ hs) from old units place counted legal begun on at size =
    let d = c.now.disk in
    let sized = are_sized (f ∷ hs) c on in
    let there : place ≡ begin_place from.given (files_on d (f ∷ hs)) = at ∙ begin_there from.given (map spot_of (f ∷ hs)) (files_on d (f ∷ hs)) (are_spots d (f ∷ hs) sized) in
    let inside = begin_inside d from.given (f ∷ hs) sized legal in
    let area = first_area d f sized.0 legal.0 in
    begins d (f ∷ hs) from old sized counted units place (omega arith) begun.0 begun.1 (omega (arith, area)) there (omega (arith, inside, there))
    (length-units d (f ∷ hs) sized ∙ ap (λ n. 128 * n) (sym size))
