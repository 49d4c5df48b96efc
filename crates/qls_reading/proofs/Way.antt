-- A reading on its way through an epoch.
use Rattle.std.proofs.Common.{◌≡◌, ◌⊎◌, inl, inr, ℕ, zero, suc, ◌+◌, ◌-◌, ◌*◌, ◌<◌, ◌≤◌, Bool, true, false, cond, not, List, [], ◌∷◌, ◌++◌, map, length, drop, Option, Some, None, Result, Ok, Err, refl, sym, ap, ap₂, ◌∙◌, subst, arith, ltb}
use Rattle.std.specs.List.{filter}
use Rattle.std.proofs.lemmas.List.{drop-drop}
use Rattle.qls_shape.specs.Claims.{each, ◌>>=◌}
use Rattle.qls_site.specs.Disk.{Disk}
use Rattle.qls_record.specs.Record.{Record, is_filler}
use Rattle.qls_meaning.specs.Journals.{Headed}
use Rattle.qls_meaning.specs.Reading.{Placed, Read, stream, record_in, length_in, and_then, records_from, end_from, begin_place, epoch_reading, epoch_end, located, read_of}
use Rattle.qls_meaning.specs.Damage.{Checked, Damage, spread}
use Rattle.qls_meaning.specs.Spent.{rid_of_reads}
use Rattle.qls_laws.proofs.Prefix.{follow}
use Rattle.qls_laws.proofs.Ends.{record_fits}
use Rattle.qls_scan.specs.declared.answers.HeadedFile.{HeadedFile}
use Rattle.qls_reading.specs.declared.rules.Spot.{Spot}
use Rattle.qls_reading.specs.declared.rules.Course.{Course}
use Rattle.qls_reading.specs.declared.tally.Tally.{Tally}
use Rattle.qls_reading.specs.Groups.{AreCounted}
use Rattle.qls_reading.specs.Tested.{come_by, fronts, last_id, come_on}
use Rattle.qls_reading.specs.Left.{files_on, left, file_left, start_at, claims_left}
use Rattle.qls_reading.proofs.Behind.{Stand, all_from, all_less, goes_over, before_or_not}
use Rattle.qls_reading.proofs.Counts.{come_at, id_at, come_within, come_ahead, come_before, id_at-drop, start_at-drop}
use Rattle.qls_reading.proofs.Enter.{IsSpotAt, AreSized, sized_rest, on_rest, counted_rest, spot_ahead, none_ahead, IsGivenTo, enters}

-- ---- the records that are left

stand_step : (fs : List Headed) (n p : ℕ) → ((q : ℕ) → Stand q (records_from fs n q)) → (o : Option Record) → record_in fs p ≡ o → Stand p (and_then o (follow fs n p))
stand_step fs n p ih None e = tt
stand_step fs n p ih (Some r) e = let fits = record_fits fs p r e in (refl, omega (arith, fits.0), ih (p + length_in fs p r))

pub records_stand : (fs : List Headed) (n p : ℕ) → Stand p (records_from fs n p)
records_stand fs zero p = tt
records_stand fs (suc n) p = stand_step fs n p (records_stand fs n) (record_in fs p) refl

-- ---- tests in a row

turned : {A B C : Type 0} (a : Result A Damage) (f : A → Result B Damage) (g : B → Result C Damage) → ((a >>= f) >>= g) ≡ (a >>= λ x. (f x >>= g))
turned (Ok x) f g = refl
turned (Err e) f g = refl

is_ok : {B : Type 0} (a : Checked) (x y : B) → (a >>= λ _. Ok x) ≡ Ok y → x ≡ y
is_ok {B = B} (Ok u) x y e = let got : Result B Damage = Ok x in cc
is_ok (Err d) x y e = absurd (cc)

module _ (d : Disk) (hs : List HeadedFile) where
  abbrev pub headed : List Headed
  headed = files_on d hs

  -- ---- ids of files

  by_id : (spot : Spot) (id : ℕ) (n : ℕ) (gs : List HeadedFile) → id ≡ id_at n headed → drop (suc n) headed ≡ files_on d gs → last_id id (come_by spot gs) ≡ id_at (n + length (come_by spot gs)) headed
  by_id spot id n [] e f = e ∙ ap (λ m. id_at m headed) (no_more n)
    where
      no_more : (m : ℕ) → m ≡ m + 0
      no_more m = omega arith
  by_id spot id n (g ∷ gs) e f = by_test (ltb spot.file g.header.number) (by_id spot g.id (suc n) gs here there)
    where
      here : g.id ≡ id_at (suc n) headed
      here = sym (ap (id_at 0) f) ∙ id_at-drop (suc n) 0 headed ∙ ap (λ m. id_at m headed) (no_more n)
        where
          no_more : (m : ℕ) → suc m + 0 ≡ suc m
          no_more m = omega arith

      there : drop (suc (suc n)) headed ≡ files_on d gs
      there = ap (λ m. drop m headed) (one_more n) ∙ sym (drop-drop 1 (suc n) headed) ∙ ap (drop 1) f
        where
          one_more : (m : ℕ) → suc (suc m) ≡ suc m + 1
          one_more m = omega arith

      by_test : (b : Bool) → last_id g.id (come_by spot gs) ≡ id_at (suc n + length (come_by spot gs)) headed
          → last_id id (cond b [] (g ∷ come_by spot gs)) ≡ id_at (n + length (cond b [] (g ∷ come_by spot gs))) headed
      by_test true h = e ∙ ap (λ m. id_at m headed) (no_more n)
        where
          no_more : (m : ℕ) → m ≡ m + 0
          no_more m = omega arith
      by_test false h = h ∙ ap (λ m. id_at m headed) (turn n (length (come_by spot gs)))
        where
          turn : (m k : ℕ) → suc m + k ≡ m + suc k
          turn m k = omega arith

  last_there : (spot : Spot) (came id : ℕ) → 1 ≤ came → id ≡ id_at (came - 1) headed
      → last_id id (come_by spot (drop came hs)) ≡ id_at (came + length (come_by spot (drop came hs)) - 1) headed
  last_there spot zero id some e = absurd (omega (arith, some))
  last_there spot (suc n) id some e =
      by_id spot id n (drop (suc n) hs) (e ∙ ap (λ m. id_at m headed) (less n)) (on_rest d (suc n) hs)
      ∙ ap (λ m. id_at m headed) (turn n (length (come_by spot (drop (suc n) hs))))
    where
      less : (m : ℕ) → suc m - 1 ≡ m
      less m = omega arith

      turn : (m k : ℕ) → m + k ≡ suc m + k - 1
      turn m k = omega arith

  -- ---- on the way

  -- what was taken, and what these records add to it, is all
  pub record AreTakenBy (rs all : List Read) (old now : Tally) : Type 0 where
    pub reads : map read_of now.reads ++ filter (λ r. not (is_filler r.what.kind)) rs ≡ map read_of old.reads ++ filter (λ r. not (is_filler r.what.kind)) all
    pub rid : rid_of_reads now.rid rs ≡ rid_of_reads old.rid all
    pub fillers : now.fillers + length (filter (λ r. is_filler r.what.kind) rs) ≡ old.fillers + length (filter (λ r. is_filler r.what.kind) all)

  module _ (from : Course) (old : Tally) where
    abbrev pub begin : ℕ
    begin = begin_place from.given headed

    abbrev pub end : ℕ
    end = epoch_end from.given headed

    -- what is left with this course, rid and records
    abbrev pub left_with : Course → ℕ → List Placed → Checked
    left_with c rid rs = left from.given begin end c.id (start_at c.came headed) rid rs (drop c.came headed)

    -- so many records more may come from this place on
    pub record IsUnderWay (now : Tally) (course : Course) (n place : ℕ) : Type 0 where
      pub claims : claims_left headed from old.rid ≡ left_with course now.rid (records_from headed n place)
      pub taken : AreTakenBy (map (located headed) (records_from headed n place)) (map (located headed) (epoch_reading from.given headed)) old now
      pub end_is : end ≡ end_from place (records_from headed n place)
      pub some : 1 ≤ course.came
      pub come : course.came ≤ come_at place headed
      pub id : course.id ≡ id_at (course.came - 1) headed
      pub begun : begin ≤ place
      pub ahead : 0 < start_at course.came headed
      pub given : IsGivenTo d from.given begin end course.given (start_at course.came headed) place
      pub room : length (stream headed) ≤ place + 128 * n
      pub within : place ≤ length (stream headed)

    module _ (sized : AreSized d hs) (counted : AreCounted hs) where
      -- the course at a place
      abbrev pub IsCourseAt : ℕ → Course → Type 0
      IsCourseAt place c = (c.came ≡ come_at place headed) × (c.id ≡ id_at (c.came - 1) headed) × (c.given ≡ false)

      pub record ComesTo (now : Tally) (course : Course) (n place : ℕ) (spot : Spot) : Type 0 where
        pub claims : left_with course now.rid (records_from headed n place)
            ≡ (come_on course now.rid spot (drop course.came hs) >>= λ c. left_with c now.rid (records_from headed n place))
        pub stands : (c : Course) → come_on course now.rid spot (drop course.came hs) ≡ Ok c → IsCourseAt place c

      abbrev course_on : Course → ℕ → ℕ → Course
      course_on course k id = record { came = course.came + k; id = id; given = false }

      -- the files that are come to are tested, and the course is the one at the place
      comes_as : (now : Tally) (course : Course) (n place : ℕ) (spot : Spot) (k id : ℕ)
          → length (come_by spot (drop course.came hs)) ≡ k → last_id course.id (come_by spot (drop course.came hs)) ≡ id
          → course.came + k ≡ come_at place headed → id ≡ id_at (course.came + k - 1) headed
          → left_with course now.rid (records_from headed n place)
          ≡ (fronts course.given now.rid spot (come_by spot (drop course.came hs)) >>= λ _. left_with (course_on course k id) now.rid (records_from headed n place))
          → ComesTo now course n place spot
      comes_as now course n place spot k id k_is id_is came_is last claims =
          let by = come_by spot (drop course.came hs) in
          let to : Course = record { came = course.came + length by; id = last_id course.id by; given = false } in
          let same : to ≡ course_on course k id = λ i. record { came = course.came + k_is i; id = id_is i; given = false } in
          record {
            claims = claims ∙ ap (λ c. fronts course.given now.rid spot by >>= λ _. left_with c now.rid (records_from headed n place)) (sym same)
                ∙ sym (turned (fronts course.given now.rid spot by) (λ _. Ok to) (λ c. left_with c now.rid (records_from headed n place)));
            stands = λ c e. subst (IsCourseAt place) (sym same ∙ is_ok (fronts course.given now.rid spot by) to c e) (came_is, last, refl);
          }

      by_files : (now : Tally) (course : Course) (n place : ℕ) (spot : Spot) → IsUnderWay now course n place → IsSpotAt hs place spot
          → start_at course.came headed ≤ place → ComesTo now course n place spot
      by_files now course n place spot way s l =
          let start = start_at course.came headed in
          let rs = records_from headed n place in
          let ahead = drop course.came hs in
          let stand = records_stand headed n place in
          let more = enters d from.given begin end course.given course.id start place now.rid rs spot ahead (sized_rest d course.came hs sized) (counted_rest course.came hs counted)
          stand way.end_is l way.ahead way.given (spot_ahead d course.came place spot hs sized s l) in
          let by = come_by spot ahead in
          let k = length by in
          let rest : drop course.came headed ≡ files_on d ahead = on_rest d course.came hs in
          let start_is : start + start_at k (files_on d ahead) ≡ start_at (course.came + k) headed =
          ap (λ fs. start + start_at k fs) (sym rest) ∙ start_at-drop course.came k headed in
          let drop_is : drop k (files_on d ahead) ≡ drop (course.came + k) headed = ap (drop k) (sym rest) ∙ drop-drop k course.came headed in
          let within : course.came ≤ length headed = let some = come_within place headed in omega (arith, way.come, some) in
          let came : course.came + k ≡ come_at place headed =
          ap (λ m. course.came + m) (more.count ∙ ap (come_at (place - start)) (sym rest)) ∙ sym (come_ahead course.came place headed l within) in
          comes_as now course n place spot k (last_id course.id by) refl refl came (last_there spot course.came course.id way.some way.id)
          (goes_over from.given begin end course.id start now.rid (drop course.came headed) rs (all_less start place l rs (all_from place rs stand))
          ∙ ap (λ fs. each (file_left from.given begin end now.rid rs) (spread start fs)) rest
          ∙ more.claims
          ∙ ap₂ (λ (m : ℕ) (fs : List Headed). fronts course.given now.rid spot by >>= λ _. left from.given begin end (last_id course.id by) m now.rid rs fs) start_is drop_is)

      by_none : (now : Tally) (course : Course) (n place : ℕ) (spot : Spot) → IsUnderWay now course n place → IsSpotAt hs place spot
          → place < start_at course.came headed → ComesTo now course n place spot
      by_none now course n place spot way s l =
          let none : come_by spot (drop course.came hs) ≡ [] = none_ahead d course.came place spot hs sized counted s l in
          let least = come_before course.came place headed l in
          comes_as now course n place spot 0 course.id (ap length none) (ap (last_id course.id) none) (omega (arith, least, way.come))
          (way.id ∙ ap (λ m. id_at (m - 1) headed) (no_more course.came))
          (ap (λ m. left from.given begin end course.id (start_at m headed) now.rid (records_from headed n place) (drop m headed)) (no_more course.came)
          ∙ ap (λ by. fronts course.given now.rid spot by >>= λ _. left_with (course_on course 0 course.id) now.rid (records_from headed n place)) (sym none))
        where
          no_more : (m : ℕ) → m ≡ m + 0
          no_more m = omega arith

      pub comes : (now : Tally) (course : Course) (n place : ℕ) (spot : Spot) → IsUnderWay now course n place → IsSpotAt hs place spot → ComesTo now course n place spot
      comes now course n place spot way s = by_order (before_or_not place (start_at course.came headed))
        where
          by_order : (place < start_at course.came headed) ⊎ (start_at course.came headed ≤ place) → ComesTo now course n place spot
          by_order (inl before) = by_none now course n place spot way s before
          by_order (inr behind) = by_files now course n place spot way s behind
