-- The steps of a reading through an epoch: its beginning, a record, and its end.
use Rattle.std.proofs.Common.{◌≡◌, ◌⊎◌, inl, inr, ℕ, suc, ◌+◌, ◌-◌, ◌*◌, ◌/◌, ◌^◌, ◌<◌, ◌≤◌, Bool, true, false, cond, ◌&&◌, not, List, [], ◌∷◌, ◌++◌, map, length, drop, Some, Result, Ok, Err, refl, sym, ap, ap₂, ◌∙◌, subst, arith, eqb, ltb, leb, append_assoc, append-nil}
use Rattle.std.specs.List.{filter}
use Rattle.std.proofs.lemmas.List.{map-append}
use Rattle.qls_shape.specs.Claims.{claim, of_file, ◌>>=◌}
use Rattle.qls_site.specs.Disk.{Disk}
use Rattle.qls_record.specs.declared.Got.{Got}
use Rattle.qls_record.specs.Record.{Record, is_filler, is_enqueue, rid_given}
use Rattle.qls_filehdr.specs.declared.Rule.{Rule}
use Rattle.qls_filehdr.specs.declared.Rule.TheVariants as rule
use Rattle.qls_meaning.specs.Journals.{Headed}
use Rattle.qls_meaning.specs.Reading.{Placed, Read, stream, record_in, length_in, and_then, records_from, end_from, begin_place, epoch_reading, located, read_of}
use Rattle.qls_meaning.specs.Damage.{Checked, Damage}
use Rattle.qls_meaning.specs.Dead.{after_end}
use Rattle.qls_meaning.specs.Spent.{rid_of_reads}
use Rattle.qls_laws.proofs.Prefix.{follow}
use Rattle.qls_laws.proofs.Ends.{record_fits}
use Rattle.qls_scan.specs.declared.answers.HeadedFile.{HeadedFile}
use Rattle.qls_reader.specs.States.{ReaderState, HandsOut}
use Rattle.qls_reading.specs.declared.rules.Spot.{Spot}
use Rattle.qls_reading.specs.declared.rules.Course.{Course}
use Rattle.qls_reading.specs.declared.tally.Tally.{Tally}
use Rattle.qls_reading.specs.declared.fault.LogFault.TheVariants.{Damaged}
use Rattle.qls_reading.specs.Groups.{AreCounted}
use Rattle.qls_reading.specs.Tested.{come_on, is_in_order, order_of, with_record, TakesRecord}
use Rattle.qls_reading.specs.Left.{files_on, left, start_at, end_id, claims_left, IsReadOn}
use Rattle.qls_reading.proofs.Behind.{Stand, takes, nothing_left, not_most, at_most, before_or_not, rid_of_kind}
use Rattle.qls_reading.proofs.Counts.{come_at, id_at, drop_after, last_come, come_within, come_some, come_rises, come_beyond, come_all}
use Rattle.qls_reading.proofs.Enter.{IsSpotAt, AreSized}
use Rattle.qls_reading.proofs.Way.{records_stand, AreTakenBy, begin, end, left_with, IsUnderWay, IsCourseAt, comes}

-- ---- one record more

module _ (got : Got) (rest all : List Read) (old now : Tally) where
  reads_more : (b : Bool) (more : List Read) → map read_of (cond b now.reads (now.reads ++ got ∷ [])) ++ more ≡ map read_of now.reads ++ cond (not b) (read_of got ∷ more) more
  reads_more true more = refl
  reads_more false more =
      ap (λ (rs : List Read). rs ++ more) (map-append read_of now.reads (got ∷ []))
      ∙ append_assoc (map read_of now.reads) (read_of got ∷ []) more

  fillers_more : (b : Bool) (more : List Read) → cond b (now.fillers + 1) now.fillers + length more ≡ now.fillers + length (cond b (read_of got ∷ more) more)
  fillers_more true more = omega arith
  fillers_more false more = refl

  taken_more : (d : Disk) (hs : List HeadedFile) → AreTakenBy d hs (read_of got ∷ rest) all old now → cond (is_enqueue got.head.kind) got.head.rid now.rid ≡ got.head.rid
      → AreTakenBy d hs rest all old (with_record now got)
  taken_more d hs t rid = record {
    reads = reads_more (is_filler got.head.kind) (filter (λ r. not (is_filler r.what.kind)) rest) ∙ t.reads;
    rid = ap (λ n. rid_of_reads n rest) (sym rid) ∙ t.rid;
    fillers = fillers_more (is_filler got.head.kind) (filter (λ r. is_filler r.what.kind) rest) ∙ t.fillers;
  }

-- ---- tests in a row

and_then_ok : {A : Type 0} (a : Checked) (x : A) (d : Damage) → (a >>= λ _. Ok x) ≡ Err d → a ≡ Err d
and_then_ok (Ok u) x d e = absurd (cc)
and_then_ok {A} (Err e') x d e = let made : Result A Damage = Err e' in let same : e' ≡ d = cc in ap Err same

abbrev pub Went : Type 0
Went = Result Course Damage

pub both_ok : (a : Went) (f : Course → Checked) (to : Course) → (a >>= λ x. (f x >>= λ _. Ok x)) ≡ Ok to → (a ≡ Ok to) × (f to ≡ Ok tt)
both_ok (Ok x) f to e = inside (f x) refl e
  where
    inside : (c : Checked) → f x ≡ c → let went : Went = c >>= λ _. Ok x in let all : Went = Ok to in let one : Went = Ok x in went ≡ all → (one ≡ all) × (f to ≡ Ok tt)
    inside (Ok u) is e = let same : x ≡ to = cc in (e, ap f (sym same) ∙ is)
    inside (Err d) is e = absurd (cc)
both_ok (Err d) f to e = absurd (cc)

-- what fails there fails with anything behind it
fails_first : (a : Went) (f g : Course → Checked) (d : Damage) → (a >>= λ x. (f x >>= λ _. Ok x)) ≡ Err d → (a >>= λ x. (f x >>= λ _. g x)) ≡ Err d
fails_first (Ok x) f g d e = inside (f x) e
  where
    inside : (c : Checked) → let went : Went = c >>= λ _. Ok x in let fault : Went = Err d in went ≡ fault → (c >>= λ _. g x) ≡ Err d
    inside (Ok u) e = absurd (cc)
    inside (Err d') e = let same : d' ≡ d = cc in ap Err same
fails_first (Err d') f g d e = let same : d' ≡ d = cc in ap Err same

stops : {A : Type 0} (a : Result A Damage) (g : A → Checked) (d : Damage) → a ≡ Err d → (a >>= g) ≡ Err d
stops a g d e = ap (λ r. r >>= g) e

goes_on : {A : Type 0} (a : Result A Damage) (g : A → Checked) (x : A) → a ≡ Ok x → (a >>= g) ≡ g x
goes_on a g x e = ap (λ r. r >>= g) e

same_then : {A : Type 0} (a : Result A Damage) (f g : A → Checked) → ((x : A) → a ≡ Ok x → f x ≡ g x) → (a >>= f) ≡ (a >>= g)
same_then (Ok x) f g h = h x refl
same_then (Err d) f g h = refl

pub in_order_claim : (id : ℕ) (b : Bool) → of_file id (claim b rule.Order) ≡ Ok tt → b ≡ true
in_order_claim id true e = refl
in_order_claim id false e = absurd (cc)

both_true : (a b : Bool) → (a && b) ≡ true → a ≡ true
both_true true b e = refl
both_true false b e = absurd (cc)

module _ (d : Disk) (hs : List HeadedFile) (from : Course) (old : Tally) (sized : AreSized d hs) (counted : AreCounted hs) where
  abbrev fs : List Headed
  fs = files_on d hs

  -- ---- the beginning

  from_begin : (oldest : Bool) (q p : ℕ) → q ≤ p → p ≡ begin_place oldest fs → (oldest && leb q (begin_place oldest fs)) ≡ oldest
  from_begin true q p l e = at_most q (begin_place true fs) (omega (arith, l, e))
  from_begin false q p l e = refl

  pub begins : (units place : ℕ) → 1 ≤ length fs → from.came ≡ 1 → from.id ≡ id_at 0 fs → 0 < start_at 1 fs → place ≡ begin_place from.given fs → place ≤ length (stream fs) → length (stream fs) ≡ 128 * units
      → IsUnderWay d hs from old old from units place
  begins units place some came id ahead at within size =
      let units_is : length (stream fs) / 128 ≡ units = omega (arith, size) in
      let all : records_from fs units place ≡ epoch_reading from.given fs = ap₂ (records_from fs) (sym units_is) at in
      record {
        claims = ap₂ (λ (n : ℕ) (rs : List Placed). left from.given (begin d hs from old) (end d hs from old) from.id (start_at n fs) old.rid rs (drop n fs)) refl (sym all);
        taken = record {
          reads = ap (λ rs. map read_of old.reads ++ filter (λ r. not (is_filler r.what.kind)) (map (located fs) rs)) all;
          rid = ap (λ rs. rid_of_reads old.rid (map (located fs) rs)) all;
          fillers = ap (λ rs. old.fillers + length (filter (λ r. is_filler r.what.kind) (map (located fs) rs))) all;
        };
        end_is = ap₂ end_from (sym at) (sym all);
        some = omega (arith, came);
        come = let one = come_some place fs some in omega (arith, came, one);
        id = id ∙ ap (λ m. id_at m fs) (omega (arith, came));
        begun = omega (arith, at);
        ahead = subst (λ m. 0 < start_at m fs) (sym came) ahead;
        given = λ q a b. from_begin from.given q place b at;
        room = omega (arith, size);
        within = within;
      }

  -- ---- a record

  module _ (now : Tally) (course : Course) (n place : ℕ) (way : IsUnderWay d hs from old now course (suc n) place) where
    module _ (reader after : ReaderState) (got : Got) (at : reader.place ≡ place) (out : HandsOut fs reader after got) where
      abbrev what : Record
      what = (read_of got).what

      abbrev one : Placed
      one = record { what = what; at = place; after = after.place }

      stands : record_in fs place ≡ Some what
      stands = ap (record_in fs) (sym at) ∙ out.stands

      after_is : after.place ≡ place + length_in fs place what
      after_is = out.after ∙ ap₂ (λ (m q : ℕ). m + length_in fs q what) at at

      left_now : records_from fs (suc n) place ≡ one ∷ records_from fs n after.place
      left_now = ap (λ o. and_then o (follow fs n place)) stands ∙ (λ i. record { what = what; at = place; after = after_is' i } ∷ records_from fs n (after_is' i))
        where
          after_is' : place + length_in fs place what ≡ after.place
          after_is' = sym after_is

      located_is : located fs one ≡ read_of got
      located_is = sym (out.there ∙ ap (λ p. located fs (record { what = what; at = p; after = after.place })) at)

      stand : Stand place (one ∷ records_from fs n after.place)
      stand = subst (Stand place) left_now (records_stand fs (suc n) place)

      fits : (128 ≤ length_in fs place what) × (place + length_in fs place what ≤ length (stream fs))
      fits = record_fits fs place what stands

      filled : 0 < length fs
      filled = let many = come_within place fs in omega (arith, many, way.some, way.come)

      before : place < length (stream fs)
      before = let f = fits in omega (arith, f.0, f.1)

      -- the course at the place, its order, and what is left behind the record
      abbrev left_here : Course → Checked
      left_here c = order_of c.id now.rid got >>= λ _. left_with d hs from old c got.head.rid (records_from fs n after.place)

      left_is : (c : Course) → IsCourseAt d hs from old sized counted place c → left_with d hs from old c now.rid (records_from fs (suc n) place) ≡ left_here c
      left_is c is =
          ap (left_with d hs from old c now.rid) left_now
          ∙ takes from.given (begin d hs from old) (end d hs from old) c.id (start_at c.came fs) now.rid place one (records_from fs n after.place) (drop c.came fs) stand
          (subst (λ m. place < start_at m fs) (sym is.0) (come_beyond place fs before))

      claims_here : IsSpotAt hs place (record { file = got.file; at = got.at })
          → claims_left fs from old.rid ≡ (come_on course now.rid (record { file = got.file; at = got.at }) (drop course.came hs) >>= left_here)
      claims_here spot =
          let to = comes d hs from old sized counted now course (suc n) place (record { file = got.file; at = got.at }) way spot in
          way.claims ∙ to.claims
          ∙ same_then (come_on course now.rid (record { file = got.file; at = got.at }) (drop course.came hs)) (λ c. left_with d hs from old c now.rid (records_from fs (suc n) place)) left_here (λ c e. left_is c (to.stands c e))

      pub refuses_one : (now' : Tally) (id : ℕ) (broken : Rule) → IsSpotAt hs place (record { file = got.file; at = got.at })
          → TakesRecord hs course now now' got (Err (Damaged id broken)) → claims_left fs from old.rid ≡ Err (id, broken)
      refuses_one now' id broken spot taken =
          claims_here spot
          ∙ fails_first (come_on course now.rid (record { file = got.file; at = got.at }) (drop course.came hs)) (λ c. order_of c.id now.rid got)
          (λ c. left_with d hs from old c got.head.rid (records_from fs n after.place)) (id, broken) taken

      pub takes_one : (now' : Tally) (to : Course) → IsSpotAt hs place (record { file = got.file; at = got.at }) → TakesRecord hs course now now' got (Ok to)
          → IsUnderWay d hs from old now' to n after.place
      takes_one now' to spot taken =
          let parts = both_ok (come_on course now.rid (record { file = got.file; at = got.at }) (drop course.came hs)) (λ c. order_of c.id now.rid got) to taken.0 in
          let here = (comes d hs from old sized counted now course (suc n) place (record { file = got.file; at = got.at }) way spot).stands to parts.0 in
          let later = after_is in
          let fit = fits in
          let beyond : place < start_at to.came fs = subst (λ m. place < start_at m fs) (sym here.0) (come_beyond place fs before) in
          let ordered = both_true (eqb got.head.rid (rid_given now.rid got.head.kind)) (ltb got.head.rid (2 ^ 62)) (in_order_claim to.id (is_in_order now.rid got.head.kind got.head.rid) parts.1) in
          let is_rid : cond (is_enqueue got.head.kind) got.head.rid now.rid ≡ got.head.rid =
          rid_of_kind from.given (begin d hs from old) (end d hs from old) got.head.kind now.rid got.head.rid ordered in
          subst (λ t. IsUnderWay d hs from old t to n after.place) (sym taken.1) (record {
            claims =
                claims_here spot
                ∙ goes_on (come_on course now.rid (record { file = got.file; at = got.at }) (drop course.came hs)) left_here to parts.0
                ∙ ap (λ (c : Checked). c >>= λ _. left_with d hs from old to got.head.rid (records_from fs n after.place)) parts.1;
            taken = taken_more got (map (located fs) (records_from fs n after.place)) (map (located fs) (epoch_reading from.given fs)) old now d hs
                (subst (λ rs. AreTakenBy d hs rs (map (located fs) (epoch_reading from.given fs)) old now)
                (ap (map (located fs)) left_now ∙ ap (λ (r : Read). r ∷ map (located fs) (records_from fs n after.place)) located_is) way.taken) is_rid;
            end_is = way.end_is ∙ ap (end_from place) left_now;
            some = let one = come_some place fs filled in omega (arith, here.0, one);
            come = let rises = come_rises place after.place fs (omega (arith, later)) in omega (arith, here.0, rises);
            id = here.1;
            begun = omega (arith, way.begun, later);
            ahead = omega (arith, beyond);
            given = λ q a b. subst (λ g. (from.given && leb q (begin d hs from old)) ≡ g) (sym here.2) (past_begin from.given q (omega (arith, a, beyond, way.begun)));
            room = omega (arith, way.room, later, fit.0);
            within = omega (arith, later, fit.1);
          })
        where
          past_begin : (oldest : Bool) (q : ℕ) → begin d hs from old < q → (oldest && leb q (begin d hs from old)) ≡ false
          past_begin true q l = not_most q (begin d hs from old) l
          past_begin false q l = refl

  -- ---- the end

  module _ (now : Tally) (course : Course) (n place : ℕ) (spot : Spot) (way : IsUnderWay d hs from old now course n place) (none : records_from fs n place ≡ []) (there : IsSpotAt hs place spot) where
    abbrev went : Result Course Damage
    went = come_on course now.rid spot (drop course.came hs)

    end_there : end d hs from old ≡ place
    end_there = way.end_is ∙ ap (end_from place) none

    nothing_behind : (c : Course) → IsCourseAt d hs from old sized counted place c → left_with d hs from old c now.rid (records_from fs n place) ≡ Ok tt
    nothing_behind c is = ap (left_with d hs from old c now.rid) none ∙ by_order (before_or_not place (length (stream fs)))
      where
        by_order : (place < length (stream fs)) ⊎ (length (stream fs) ≤ place) → left_with d hs from old c now.rid [] ≡ Ok tt
        by_order (inl before) =
            let beyond = come_beyond place fs before in
            let ends = end_there in
            let late : place < start_at c.came fs = subst (λ m. place < start_at m fs) (sym is.0) beyond in
            nothing_left from.given (begin d hs from old) (end d hs from old) c.id (start_at c.came fs) now.rid (drop c.came fs) (omega (arith, late, ends))
        by_order (inr behind) =
            let all : drop c.came fs ≡ [] = ap (λ m. drop m fs) (is.0 ∙ come_all place fs behind) ∙ drop_all fs in
            ap (left from.given (begin d hs from old) (end d hs from old) c.id (start_at c.came fs) now.rid []) all
          where
            drop_all : (gs : List Headed) → drop (length gs) gs ≡ []
            drop_all [] = refl
            drop_all (g ∷ gs) = drop_all gs

    claims_end : claims_left fs from old.rid ≡ (went >>= λ _. Ok tt)
    claims_end =
        let to = comes d hs from old sized counted now course n place spot way there in
        way.claims ∙ to.claims ∙ same_then went (λ c. left_with d hs from old c now.rid (records_from fs n place)) (λ _. Ok tt) (λ c e. nothing_behind c (to.stands c e))

    pub refuses_end : (fault : Damage) → went ≡ Err fault → claims_left fs from old.rid ≡ Err fault
    refuses_end fault e = claims_end ∙ stops went (λ _. Ok tt) fault e

    pub reads_end : (to : Course) → went ≡ Ok to → IsReadOn fs from to old now
    reads_end to e =
        let is = (comes d hs from old sized counted now course n place spot way there).stands to e in
        let taken = subst (λ rs. AreTakenBy d hs (map (located fs) rs) (map (located fs) (epoch_reading from.given fs)) old now) none way.taken in
        let last : come_at place fs ≡ suc (to.came - 1) = omega (arith, is.0, way.some, way.come) in
        record {
          claims = claims_end ∙ goes_on went (λ _. Ok tt) to e;
          tallied = record {
            reads = sym (append-nil (map read_of now.reads)) ∙ taken.reads;
            rid = taken.rid;
            fillers = no_more now.fillers ∙ taken.fillers;
          };
          past = ap (λ m. drop m fs) is.0 ∙ drop_after place fs ∙ ap (λ p. after_end p fs) (sym end_there);
          id = is.1 ∙ last_come (to.came - 1) place fs last ∙ ap (λ p. end_id p fs) (sym end_there);
        }
      where
        no_more : (m : ℕ) → m ≡ m + 0
        no_more m = omega arith
