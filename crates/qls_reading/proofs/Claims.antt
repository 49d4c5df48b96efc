-- The rules on an epoch: on its first file, on what is left behind it, and on its end.
use Rattle.std.proofs.Common.{◌≡◌, ◌⊎◌, inl, inr, ℕ, suc, ◌+◌, ◌-◌, ◌<◌, ◌≤◌, Bool, true, false, cond, ◌&&◌, ◌||◌, List, [], ◌∷◌, ◌++◌, length, drop, Option, Some, None, IfSome, Result, Ok, Err, refl, sym, ap, ap₂, ◌∙◌, subst, arith, eqb, ltb, leb, length-drop}
use Rattle.std.specs.List.{AllByRecursion, filter}
use Rattle.std.proofs.lemmas.List.{length-map}
use Rattle.std.proofs.lemmas.Bool.Decides.{nat_tests}
use Rattle.qls_shape.specs.Claims.{claim, each, of_file, ◌>>=◌, ◌>>◌}
use Rattle.qls_site.specs.Disk.{Disk}
use Rattle.qls_site.specs.Content.{Content}
use Rattle.qls_filehdr.specs.declared.Rule.TheVariants as rule
use Rattle.qls_meaning.specs.Journals.{Headed}
use Rattle.qls_meaning.specs.Reading.{Placed, begin_place, epoch_reading, epoch_end}
use Rattle.qls_meaning.specs.Damage.{Checked, Damage, spread, rid_before, first_in, file_claims, end_claim, epoch_claims, last_start}
use Rattle.qls_meaning.specs.Dead.{after_end}
use Rattle.qls_laws.proofs.Rules.{ats}
use Rattle.qls_scan.specs.declared.answers.HeadedFile.{HeadedFile}
use Rattle.qls_scan.specs.Heads.{HasLegalHeader}
use Rattle.qls_reading.specs.declared.rules.Course.{Course}
use Rattle.qls_reading.specs.declared.tally.Tally.{Tally}
use Rattle.qls_reading.specs.declared.fault.LogFault.{LogFault}
use Rattle.qls_reading.specs.declared.fault.LogFault.TheVariants.{Failed, Memory, Damaged}
use Rattle.qls_reading.specs.Tested.{front_claims, begun, ended}
use Rattle.qls_reading.specs.Left.{file_on, files_on, AreOnSite, order_left, file_left, left, start_at, end_id, claims_left, IsReadOn, ReadsOn, IsEpochRead, ReadsEpoch}
use Rattle.qls_reading.proofs.Behind.{Stand, AllFrom, all_within, comes_to, front_at, not_less, is_less, not_most, at_most, before_or_not}
use Rattle.qls_reading.proofs.Counts.{start_none}
use Rattle.qls_reading.proofs.Enter.{fronts_apart}
use Rattle.qls_reading.proofs.Way.{records_stand}
use Rattle.qls_reading.proofs.Told.{are_sized}
use Rattle.qls_reading.proofs.Begins.{first_area}

-- ---- the first file

module _ (rid : ℕ) (h : HeadedFile) (f : Headed) (fs : List Headed) (id : f.id ≡ h.id) (header : f.header ≡ h.header) (some : 0 < length f.area) where
  abbrev all : List Headed
  all = f ∷ fs

  reading_stands : (oldest : Bool) → Stand (begin_place oldest all) (epoch_reading oldest all)
  reading_stands oldest = records_stand all _ (begin_place oldest all)

  abbrev left_behind : Bool → Checked
  left_behind oldest = left oldest (begin_place oldest all) (epoch_end oldest all) h.id (start_at 1 all) rid (epoch_reading oldest all) fs

  start_is : length f.area + start_at 0 fs ≡ length f.area
  start_is = let none = start_none fs in omega (arith, none)

  same_front : front_at false 0 (epoch_end false all) false 0 rid 0 f ≡ front_claims (Some 4096) rid h
  same_front =
      (λ i. of_file (id i) (claim (eqb (header i).first (cond (ltb 0 (0 + length f.area)) (4096 + (0 - 0)) 0)) rule.First) >> of_file (id i) (claim (eqb (header i).rid rid) rule.Rid))
      ∙ ap (λ b. of_file h.id (claim (eqb h.header.first (cond b 4096 0)) rule.First) >> of_file h.id (claim (eqb h.header.rid rid) rule.Rid)) (is_less 0 (0 + length f.area) (omega (arith, some)))
      ∙ sym (fronts_apart h.id (eqb h.header.first 4096) (eqb h.header.rid rid))

  first_of : (oldest last : Bool) → each (file_claims oldest last rid all (epoch_reading oldest all)) (spread 0 all)
      ≡ (cond oldest (Ok tt) (front_claims (Some 4096) rid h) >>= λ _. left_behind oldest)
  first_of true last =
      let rs = epoch_reading true all in
      let order = order_left true (begin_place true all) (epoch_end true all) f.id rid rs in
      let from : AllFrom 0 rs = all_from_none (begin_place true all) rs (reading_stands true) in
      ap (λ b. (of_file f.id (claim ((ltb (epoch_end true all) 0 || b) || eqb f.header.first (first_in 0 (length f.area) (ats rs ++ epoch_end true all ∷ []))) rule.First)
      >> (of_file f.id (claim ((ltb (epoch_end true all) 0 || true) || eqb f.header.rid (rid_before rid rs 0)) rule.Rid)
      >> each order (filter (λ r. leb 0 r.at && ltb r.at (0 + length f.area)) rs))) >>= λ _. each (file_left true (begin_place true all) (epoch_end true all) rid rs) (spread (0 + length f.area) fs))
      (at_most 0 (begin_place true all) (omega arith))
      ∙ in_row (ltb (epoch_end true all) 0) (eqb f.header.first (first_in 0 (length f.area) (ats rs ++ epoch_end true all ∷ []))) (eqb f.header.rid (rid_before rid rs 0)) (each order (filter (λ r. leb 0 r.at && ltb r.at (0 + length f.area)) rs)) (each (file_left true (begin_place true all) (epoch_end true all) rid rs) (spread (0 + length f.area) fs))
      ∙ ap (λ qs. each order qs >>= λ _. each (file_left true (begin_place true all) (epoch_end true all) rid rs) (spread (0 + length f.area) fs)) (all_within 0 (0 + length f.area) rs from)
      ∙ (λ i. left true (begin_place true all) (epoch_end true all) (id i) (end_is i) rid rs fs)
    where
      end_is : 0 + length f.area ≡ length f.area + start_at 0 fs
      end_is = let same = start_is in omega (arith, same)

      all_from_none : (p : ℕ) (rs : List Placed) → Stand p rs → AllFrom 0 rs
      all_from_none p [] h = tt
      all_from_none p (r ∷ rs) h = (omega arith, all_from_none r.after rs h.2)

      in_row : (a c e : Bool) (orders rest : Checked) → ((of_file f.id (claim ((a || true) || c) rule.First) >> (of_file f.id (claim ((a || true) || e) rule.Rid) >> orders)) >>= λ _. rest) ≡ (orders >>= λ _. rest)
      in_row true c e orders rest = refl
      in_row false c e orders rest = refl
  first_of false last =
      let rs = epoch_reading false all in
      comes_to false 0 (epoch_end false all) false 0 rid 0 f fs rs (reading_stands false) refl (omega arith) refl refl
      ∙ ap (λ (x : Checked). x >>= λ _. left false 0 (epoch_end false all) f.id (0 + length f.area) rid rs fs) same_front
      ∙ (λ i. front_claims (Some 4096) rid h >>= λ _. left false 0 (epoch_end false all) (id i) (end_is i) rid rs fs)
    where
      end_is : 0 + length f.area ≡ length f.area + start_at 0 fs
      end_is = let same = start_is in omega (arith, same)

-- ---- the end

some_more : (n : ℕ) → leb (suc n) 0 ≡ false
some_more n = not_most (suc n) 0 (omega arith)

last_there : (p : ℕ) (f : Headed) (fs : List Headed) → leb (last_start (f ∷ fs)) p ≡ leb (length (after_end p (f ∷ fs))) 0
last_there p f [] =
    let low : leb 0 p ≡ true = grind (arith, nat_tests) in
    low ∙ elim (ltb p (length f.area)) as (λ b. true ≡ leb (length (cond b [] (after_end (p - length f.area) []))) 0) [ true ↦ refl | false ↦ refl ]
last_there p f (g ∷ fs) = by_order (before_or_not p (length f.area)) (last_there (p - length f.area) g fs)
  where
    by_order : (p < length f.area) ⊎ (length f.area ≤ p) → leb (last_start (g ∷ fs)) (p - length f.area) ≡ leb (length (after_end (p - length f.area) (g ∷ fs))) 0
        → leb (length f.area + last_start (g ∷ fs)) p ≡ leb (length (cond (ltb p (length f.area)) (g ∷ fs) (after_end (p - length f.area) (g ∷ fs)))) 0
    by_order (inl before) ih =
        let late : leb (length f.area + last_start (g ∷ fs)) p ≡ false = grind (arith, nat_tests, before) in
        late ∙ sym (some_more (length fs)) ∙ ap (λ b. leb (length (cond b (g ∷ fs) (after_end (p - length f.area) (g ∷ fs)))) 0) (sym (is_less p (length f.area) before))
    by_order (inr behind) ih =
        same_test (length f.area) (last_start (g ∷ fs)) p behind ∙ ih
        ∙ ap (λ b. leb (length (cond b (g ∷ fs) (after_end (p - length f.area) (g ∷ fs)))) 0) (sym (not_less p (length f.area) behind))
      where
        same_test : (n m p : ℕ) → n ≤ p → leb (n + m) p ≡ leb m (p - n)
        same_test n m p l = by_test (leb (n + m) p) refl
          where
            by_test : (b : Bool) → leb (n + m) p ≡ b → b ≡ leb m (p - n)
            by_test true e = let low : m ≤ p - n = grind (arith, nat_tests, e, l) in let is : leb m (p - n) ≡ true = grind (arith, nat_tests, low) in sym is
            by_test false e = let high : p - n < m = grind (arith, nat_tests, e, l) in let is : leb m (p - n) ≡ false = grind (arith, nat_tests, high) in sym is

end_is : (oldest last : Bool) (rid : ℕ) (f : Headed) (fs : List Headed) (R : List Placed) (E came : ℕ) → E ≡ epoch_end oldest (f ∷ fs) → R ≡ epoch_reading oldest (f ∷ fs) → drop came (f ∷ fs) ≡ after_end E (f ∷ fs)
    → end_claim oldest last rid (f ∷ fs) (epoch_reading oldest (f ∷ fs)) (f ∷ fs) ≡ of_file (end_id E (f ∷ fs)) (claim (last || leb (length (f ∷ fs) - came) 0) rule.End)
end_is oldest last rid f fs R E came e r past =
    let size : length (f ∷ fs) - came ≡ length (after_end E (f ∷ fs)) = sym (length-drop came (f ∷ fs)) ∙ ap length past in
    ap (λ p. of_file (end_id p (f ∷ fs)) (claim (last || leb (last_start (f ∷ fs)) p) rule.End)) (sym e)
    ∙ ap (λ b. of_file (end_id E (f ∷ fs)) (claim (last || b) rule.End)) (last_there E f fs ∙ ap (λ n. leb n 0) (sym size))

-- ---- the epoch

passes : (id : ℕ) (b : Bool) (n past : ℕ) → (of_file id (claim b rule.End) >>= λ _. Ok n) ≡ Ok past → (of_file id (claim b rule.End) ≡ Ok tt) × (past ≡ n)
passes id true n past e = let one : Result ℕ Damage = Ok n in (refl, sym (cc))
passes id false n past e = absurd (cc)

stops_there : (id : ℕ) (b : Bool) (n : ℕ) (fault : Damage) → (of_file id (claim b rule.End) >>= λ _. Ok n) ≡ Err fault → of_file id (claim b rule.End) ≡ Err fault
stops_there id true n fault e = absurd (cc)
stops_there id false n fault e = let one : Result ℕ Damage = Err (id, rule.End) in let same : (id, rule.End) ≡ fault = cc in ap Err same

both_ok : (a b : Checked) → a ≡ Ok tt → b ≡ Ok tt → (a >>= λ _. b) ≡ Ok tt
both_ok (Ok u) b e f = f
both_ok (Err d) b e f = absurd (cc)

first_fails : (a b : Checked) (fault : Damage) → a ≡ Err fault → (a >>= λ _. b) ≡ Err fault
first_fails (Ok u) b fault e = absurd (cc)
first_fails (Err d) b fault e = let one : Checked = Err d in let same : d ≡ fault = cc in ap Err same

then_fails : (a b : Checked) (fault : Damage) → a ≡ Ok tt → b ≡ Err fault → (a >>= λ _. b) ≡ Err fault
then_fails (Ok u) b fault e f = f
then_fails (Err d) b fault e f = absurd (cc)

-- what `begun` says of the first file
begun_is : (oldest : Bool) (rid : ℕ) (h : HeadedFile) (hs : List HeadedFile) (c : Course) → begun oldest rid (h ∷ hs) ≡ Ok c
    → (cond oldest (Ok tt) (front_claims (Some 4096) rid h) ≡ Ok tt) × (c ≡ record { came = 1; id = h.id; given = oldest })
begun_is oldest rid h hs c e = by (cond oldest (Ok tt) (front_claims (Some 4096) rid h)) refl e
  where
    to : Course
    to = record { came = 1; id = h.id; given = oldest }

    by : (a : Checked) → cond oldest (Ok tt) (front_claims (Some 4096) rid h) ≡ a → let went : Result Course Damage = a >>= λ _. Ok to in let all : Result Course Damage = Ok c in went ≡ all
        → (cond oldest (Ok tt) (front_claims (Some 4096) rid h) ≡ Ok tt) × (c ≡ to)
    by (Ok u) is e = (is, sym (cc))
    by (Err d) is e = absurd (cc)

pub begun_given : (oldest : Bool) (rid : ℕ) (hs : List HeadedFile) (c : Course) → begun oldest rid hs ≡ Ok c → c.given ≡ oldest
begun_given oldest rid [] c e =
    let none : Course = record { came = 0; id = 0; given = oldest } in
    let same : none ≡ c = is_same none c e in
    sym (ap (λ k. k.given) same)
  where
    is_same : (x y : Course) → let one : Result Course Damage = Ok x in let two : Result Course Damage = Ok y in one ≡ two → x ≡ y
    is_same x y e = cc
begun_given oldest rid (h ∷ hs) c e = ap (λ k. k.given) (begun_is oldest rid h hs c e).1

begun_fails : (oldest : Bool) (rid : ℕ) (h : HeadedFile) (hs : List HeadedFile) (fault : Damage) → begun oldest rid (h ∷ hs) ≡ Err fault → cond oldest (Ok tt) (front_claims (Some 4096) rid h) ≡ Err fault
begun_fails oldest rid h hs fault e = by (cond oldest (Ok tt) (front_claims (Some 4096) rid h)) refl e
  where
    to : Course
    to = record { came = 1; id = h.id; given = oldest }

    by : (a : Checked) → cond oldest (Ok tt) (front_claims (Some 4096) rid h) ≡ a → let went : Result Course Damage = a >>= λ _. Ok to in let all : Result Course Damage = Err fault in went ≡ all
        → cond oldest (Ok tt) (front_claims (Some 4096) rid h) ≡ Err fault
    by (Ok u) is e = absurd (cc)
    by (Err d) is e = let same : d ≡ fault = cc in is ∙ ap Err same

module _ (d : Disk) (oldest last : Bool) (rid : ℕ) (h : HeadedFile) (hs : List HeadedFile) (some : 0 < length (file_on d h).area) where
  abbrev whole : List Headed
  whole = files_on d (h ∷ hs)

  abbrev front : Checked
  front = cond oldest (Ok tt) (front_claims (Some 4096) rid h)

  epoch_is : epoch_claims oldest last rid whole (epoch_reading oldest whole)
      ≡ ((front >>= λ _. left_behind rid h (file_on d h) (files_on d hs) refl refl some oldest) >>= λ _. end_claim oldest last rid whole (epoch_reading oldest whole) whole)
  epoch_is = ap (λ (a : Checked). a >>= λ _. end_claim oldest last rid whole (epoch_reading oldest whole) whole) (first_of rid h (file_on d h) (files_on d hs) refl refl some oldest last)

  pub begun_broken : (fault : Damage) → begun oldest rid (h ∷ hs) ≡ Err fault → epoch_claims oldest last rid whole (epoch_reading oldest whole) ≡ Err fault
  begun_broken fault e =
      let at = begun_fails oldest rid h hs fault e in
      epoch_is ∙ first_fails _ _ fault (first_fails front _ fault at)

  module _ (from : Course) (begin : begun oldest rid (h ∷ hs) ≡ Ok from) where
    is_from : from ≡ record { came = 1; id = h.id; given = oldest }
    is_from = (begun_is oldest rid h hs from begin).1

    passed : front ≡ Ok tt
    passed = (begun_is oldest rid h hs from begin).0

    left_is : claims_left whole from rid ≡ left_behind rid h (file_on d h) (files_on d hs) refl refl some oldest
    left_is = ap (λ c. claims_left whole c rid) is_from

    pub reading_broken : (fault : Damage) → claims_left whole from rid ≡ Err fault → epoch_claims oldest last rid whole (epoch_reading oldest whole) ≡ Err fault
    reading_broken fault e = epoch_is ∙ first_fails _ _ fault (then_fails front _ fault passed (sym left_is ∙ e))

    module _ (to : Course) (old new : Tally) (same : old.rid ≡ rid) (read : IsReadOn whole from to old new) where
      read_same : IsReadOn whole (record { came = 1; id = h.id; given = oldest }) to old new
      read_same = subst (λ c. IsReadOn whole c to old new) is_from read

      claims_ok : (front >>= λ _. left_behind rid h (file_on d h) (files_on d hs) refl refl some oldest) ≡ Ok tt
      claims_ok = both_ok front _ passed (sym left_is ∙ ap (claims_left whole from) (sym same) ∙ read.claims)

      counted : length whole ≡ length (h ∷ hs)
      counted = length-map (h ∷ hs) (file_on d)

      at_end : end_claim oldest last rid whole (epoch_reading oldest whole) whole ≡ of_file to.id (claim (last || leb (length (h ∷ hs) - to.came) 0) rule.End)
      at_end =
          end_is oldest last rid (file_on d h) (files_on d hs) (epoch_reading oldest whole) (epoch_end oldest whole) to.came refl refl read_same.past
          ∙ ap₂ (λ (id n : ℕ). of_file id (claim (last || leb (n - to.came) 0) rule.End)) (sym read_same.id) counted

      pub end_broken : (fault : Damage) → ended last (length (h ∷ hs)) to ≡ Err fault → epoch_claims oldest last rid whole (epoch_reading oldest whole) ≡ Err fault
      end_broken fault e = epoch_is ∙ then_fails _ _ fault claims_ok (at_end ∙ stops_there to.id (last || leb (length (h ∷ hs) - to.came) 0) (length (h ∷ hs) - to.came) fault e)

      pub epoch_read : (past : ℕ) → ended last (length (h ∷ hs)) to ≡ Ok past → IsEpochRead oldest last whole old new past
      epoch_read past e =
          let parts = passes to.id (last || leb (length (h ∷ hs) - to.came) 0) (length (h ∷ hs) - to.came) past e in
          record {
            claims = ap (λ n. epoch_claims oldest last n whole (epoch_reading oldest whole)) same ∙ epoch_is ∙ both_ok _ _ claims_ok (at_end ∙ parts.0);
            tallied = read_same.tallied;
            past = parts.1 ∙ ap (λ n. n - to.came) (sym counted) ∙ sym (length-drop to.came whole) ∙ ap length read_same.past;
          }

-- ---- where the site tells

module _ (hs : List HeadedFile) (oldest last : Bool) (old : Tally) (some : 0 < length hs) (legal : AllByRecursion HasLegalHeader hs) where
  abbrev Epoch : Result ℕ LogFault → Tally → Content → Type 0
  Epoch r new c = ReadsEpoch oldest last (files_on c.now.disk hs) old new r

  pub told_begun_broken : (a : Option Content) (fault : Damage) (any : Tally) → IfSome a (AreOnSite hs) → begun oldest old.rid hs ≡ Err fault → IfSome a (Epoch (Err (Damaged fault.0 fault.1)) any)
  told_begun_broken a fault any on e = by hs some legal a on e
    where
      by : (hs : List HeadedFile) → 0 < length hs → AllByRecursion HasLegalHeader hs → (a : Option Content) → IfSome a (AreOnSite hs) → begun oldest old.rid hs ≡ Err fault
          → IfSome a (λ c. ReadsEpoch oldest last (files_on c.now.disk hs) old any (Err (Damaged fault.0 fault.1)))
      by hs some legal None on e = tt
      by [] some legal (Some c) on e = absurd (omega (arith, some))
      by (h ∷ hs) some legal (Some c) on e = begun_broken c.now.disk oldest last old.rid h hs (first_area c.now.disk h (are_sized (h ∷ hs) c on).0 legal.0) fault e

  pub told_broken : (a : Option Content) (from : Course) (fault : LogFault) (mid any : Tally) → IfSome a (AreOnSite hs) → begun oldest old.rid hs ≡ Ok from
      → IfSome a (λ c. ReadsOn (files_on c.now.disk hs) from old mid (Err fault)) → IfSome a (Epoch (Err fault) any)
  told_broken a from fault mid any on e read = by fault hs some legal a on e read
    where
      by : (fault : LogFault) (hs : List HeadedFile) → 0 < length hs → AllByRecursion HasLegalHeader hs → (a : Option Content) → IfSome a (AreOnSite hs) → begun oldest old.rid hs ≡ Ok from
          → IfSome a (λ c. ReadsOn (files_on c.now.disk hs) from old mid (Err fault)) → IfSome a (λ c. ReadsEpoch oldest last (files_on c.now.disk hs) old any (Err fault))
      by fault hs some legal None on e read = tt
      by Failed hs some legal (Some c) on e read = tt
      by Memory hs some legal (Some c) on e read = tt
      by (Damaged id broken) [] some legal (Some c) on e read = absurd (omega (arith, some))
      by (Damaged id broken) (h ∷ hs) some legal (Some c) on e read =
          reading_broken c.now.disk oldest last old.rid h hs (first_area c.now.disk h (are_sized (h ∷ hs) c on).0 legal.0) from e (id, broken) read

  pub told_end_broken : (a : Option Content) (from to : Course) (fault : Damage) (mid any : Tally) → IfSome a (AreOnSite hs) → begun oldest old.rid hs ≡ Ok from
      → IfSome a (λ c. ReadsOn (files_on c.now.disk hs) from old mid (Ok to)) → ended last (length hs) to ≡ Err fault → IfSome a (Epoch (Err (Damaged fault.0 fault.1)) any)
  told_end_broken a from to fault mid any on e read end = by hs some legal a on e read end
    where
      by : (hs : List HeadedFile) → 0 < length hs → AllByRecursion HasLegalHeader hs → (a : Option Content) → IfSome a (AreOnSite hs) → begun oldest old.rid hs ≡ Ok from
          → IfSome a (λ c. ReadsOn (files_on c.now.disk hs) from old mid (Ok to)) → ended last (length hs) to ≡ Err fault → IfSome a (λ c. ReadsEpoch oldest last (files_on c.now.disk hs) old any (Err (Damaged fault.0 fault.1)))
      by hs some legal None on e read end = tt
      by [] some legal (Some c) on e read end = absurd (omega (arith, some))
      by (h ∷ hs) some legal (Some c) on e read end =
          end_broken c.now.disk oldest last old.rid h hs (first_area c.now.disk h (are_sized (h ∷ hs) c on).0 legal.0) from e to old mid refl read fault end

  pub told_epoch : (a : Option Content) (from to : Course) (new : Tally) (past : ℕ) → IfSome a (AreOnSite hs) → begun oldest old.rid hs ≡ Ok from
      → IfSome a (λ c. ReadsOn (files_on c.now.disk hs) from old new (Ok to)) → ended last (length hs) to ≡ Ok past → IfSome a (Epoch (Ok past) new)
  told_epoch a from to new past on e read end = by hs some legal a on e read end
    where
      by : (hs : List HeadedFile) → 0 < length hs → AllByRecursion HasLegalHeader hs → (a : Option Content) → IfSome a (AreOnSite hs) → begun oldest old.rid hs ≡ Ok from
          → IfSome a (λ c. ReadsOn (files_on c.now.disk hs) from old new (Ok to)) → ended last (length hs) to ≡ Ok past → IfSome a (λ c. ReadsEpoch oldest last (files_on c.now.disk hs) old new (Ok past))
      by hs some legal None on e read end = tt
      by [] some legal (Some c) on e read end = absurd (omega (arith, some))
      by (h ∷ hs) some legal (Some c) on e read end =
          epoch_read c.now.disk oldest last old.rid h hs (first_area c.now.disk h (are_sized (h ∷ hs) c on).0 legal.0) from e to old new refl read past end
