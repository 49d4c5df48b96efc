-- A journal without its oldest file: what is read of it, and that it breaks no rule.
use Rattle.std.proofs.Common.{◌≡◌, ◌⊎◌, inl, inr, ℕ, ◌+◌, ◌-◌, ◌/◌, ◌^◌, ◌<◌, ◌≤◌, Bool, true, false, cond, ◌&&◌, List, [], ◌∷◌, ◌++◌, map, length, drop, Some, None, refl, sym, ap, ap₂, ◌∙◌, subst, arith, eqb, ltb, leb, length-append}
use Rattle.std.proofs.Math.Seq.{drop-drop, drop-append_seam}
use Rattle.std.proofs.lemmas.Bool.{cases_lt}
use Rattle.std.proofs.lemmas.Bool.Decides.{nat_tests}
use Rattle.std.specs.List.{AllByRecursion, filter}
use Rattle.qls_record.specs.Record.{Record, rid_given, is_enqueue}
use Rattle.qls_filehdr.specs.declared.FileHeader.{FileHeader}
use Rattle.qls_meaning.specs.Journals.{Headed}
use Rattle.qls_meaning.specs.Reading.{Placed, holder, stream, record_in, held_record, held_length, length_in, end_from, first_place, epoch_reading}
use Rattle.qls_meaning.specs.Damage.{rid_before, rid_at_end, first_in, oldest_rid}
use Rattle.qls_laws.specs.Readings.{Stand, IsReading, IsSpelledAt}
use Rattle.qls_laws.specs.Returns.{HasPlaces}
use Rattle.qls_laws.proofs.Ends.{record_fits, record_in-epoch_end}
use Rattle.qls_laws.proofs.Reaches.{records_stand, stand_end}
use Rattle.qls_laws.proofs.Unique.{epoch_only_reading, spelled_where_read, read_where_spelled}
use Rattle.qls_laws.proofs.Rules.{Ascends, ats, rid_before-append, end_from-append, filter-append}
use Rattle.qls_laws.proofs.Claimed.{InOrder, in_file, KeepsRules, AllKeep}

less : (m n : ℕ) → m < n → ltb m n ≡ true
less m n h = grind (arith, nat_tests)

not_less : (m n : ℕ) → n ≤ m → ltb m n ≡ false
not_less m n h = grind (arith, nat_tests)

not_most : (m n : ℕ) → n < m → leb m n ≡ false
not_most m n h = grind (arith, nat_tests)

-- ---- places behind a file

pub behind : (f : Headed) (fs : List Headed) (p : ℕ) → holder (f ∷ fs) (length f.area + p) ≡ holder fs p
behind f fs p =
    ap (λ b. cond b (Some (record { file = f; within = length f.area + p })) (holder fs (length f.area + p - length f.area))) (not_less (length f.area + p) (length f.area) (omega arith))
    ∙ ap (holder fs) (omega arith)

pub within : (f : Headed) (fs : List Headed) (p : ℕ) → p < length f.area → holder (f ∷ fs) p ≡ Some (record { file = f; within = p })
within f fs p h = ap (λ b. cond b (Some (record { file = f; within = p })) (holder fs (p - length f.area))) (less p (length f.area) h)

rest_behind : (f : Headed) (fs : List Headed) (p : ℕ) → drop (length f.area + p) (stream (f ∷ fs)) ≡ drop p (stream fs)
rest_behind f fs p = ap (λ n. drop n (f.area ++ stream fs)) (turned (length f.area) p) ∙ sym (drop-drop p (length f.area) (f.area ++ stream fs)) ∙ ap (drop p) (drop-append_seam f.area (stream fs))
  where
    turned : (m n : ℕ) → m + n ≡ m + n
    turned m n = refl

record_behind : (f : Headed) (fs : List Headed) (p : ℕ) → record_in (f ∷ fs) (length f.area + p) ≡ record_in fs p
record_behind f fs p = ap₂ held_record (rest_behind f fs p) (behind f fs p)

length_behind : (f : Headed) (fs : List Headed) (p : ℕ) (r : Record) → length_in (f ∷ fs) (length f.area + p) r ≡ length_in fs p r
length_behind f fs p r = ap (λ o. held_length o r) (behind f fs p)

-- ---- records by places that count from a later start

abbrev pub moved : ℕ → Placed → Placed
moved n r = record { what = r.what; at = n + r.at; after = n + r.after }

abbrev pub all_moved : ℕ → List Placed → List Placed
all_moved n rs = map (moved n) rs

pub end_moved : (n p : ℕ) (rs : List Placed) → end_from (n + p) (all_moved n rs) ≡ n + end_from p rs
end_moved n p [] = refl
end_moved n p (r ∷ rs) = end_moved n r.after rs

ats_moved : (n : ℕ) (rs : List Placed) (e : ℕ) → ats (all_moved n rs) ++ (n + e) ∷ [] ≡ map (λ p. n + p) (ats rs ++ e ∷ [])
ats_moved n [] e = refl
ats_moved n (r ∷ rs) e = ap (λ (ps : List ℕ). (n + r.at) ∷ ps) (ats_moved n rs e)

moved_less : (k p s : ℕ) → ltb (k + p) (k + s) ≡ ltb p s
moved_less k p s = grind arith

moved_most : (k p s : ℕ) → leb (k + p) (k + s) ≡ leb p s
moved_most k p s = grind arith

first_moved : (n start size : ℕ) (ps : List ℕ) → first_in (n + start) size (map (λ p. n + p) ps) ≡ first_in start size ps
first_moved n start size [] = refl
first_moved n start size (p ∷ ps) =
    let a = moved_less n p start in
    let b : ltb (n + p) (n + start + size) ≡ ltb p (start + size) = ap (ltb (n + p)) (omega arith) ∙ moved_less n p (start + size) in
    let d : n + p - (n + start) ≡ p - start = omega arith in
    let rest = first_moved n start size ps in
    λ i. cond (a i) (rest i) (cond (b i) (4096 + d i) 0)

rid_moved : (n start rid : ℕ) (rs : List Placed) → rid_before rid (all_moved n rs) (n + start) ≡ rid_before rid rs start
rid_moved n start rid [] = refl
rid_moved n start rid (r ∷ rs) =
    ap (λ b. rid_before (cond (is_enqueue r.what.kind && b) r.what.rid rid) (all_moved n rs) (n + start)) (moved_less n r.at start)
    ∙ rid_moved n start (cond (is_enqueue r.what.kind && ltb r.at start) r.what.rid rid) rs

filter_moved : (n start size : ℕ) (rs : List Placed) → filter (in_file (n + start) size) (all_moved n rs) ≡ all_moved n (filter (in_file start size) rs)
filter_moved n start size [] = refl
filter_moved n start size (r ∷ rs) =
    (let a = moved_most n start r.at in
    let b : ltb (n + r.at) (n + start + size) ≡ ltb r.at (start + size) = ap (ltb (n + r.at)) (omega arith) ∙ moved_less n r.at (start + size) in
    let rest = filter_moved n start size rs in
    λ i. cond (a i && b i) (moved n r ∷ rest i) (rest i))
    ∙ elim (in_file start size r) as (λ b. cond b (moved n r ∷ all_moved n (filter (in_file start size) rs)) (all_moved n (filter (in_file start size) rs)) ≡ all_moved n (cond b (r ∷ filter (in_file start size) rs) (filter (in_file start size) rs))) [ true ↦ refl | false ↦ refl ]

pub moved_ascend : (n p : ℕ) (rs : List Placed) → Ascends p rs → Ascends (n + p) (all_moved n rs)
moved_ascend n p [] h = tt
moved_ascend n p (r ∷ rs) h = (ap (λ k. n + k) h.0, omega (arith, h.1), moved_ascend n r.after rs h.2)

pub stand_ascends : (fs : List Headed) (p : ℕ) (rs : List Placed) → Stand fs p rs → Ascends p rs
stand_ascends fs p [] h = tt
stand_ascends fs p (r ∷ rs) h = (h.0, omega (arith, h.2), stand_ascends fs r.after rs h.3)

-- what stands behind the first file stands in the others
record MovedBack (f : Headed) (fs : List Headed) (p : ℕ) (rs : List Placed) : Type 0 where
  reads : List Placed
  is : rs ≡ all_moved (length f.area) reads
  stand : Stand fs p reads

moved_back : (f : Headed) (fs : List Headed) (p : ℕ) (rs : List Placed) → Stand (f ∷ fs) (length f.area + p) rs → MovedBack f fs p rs
moved_back f fs p [] h = record { reads = []; is = refl; stand = tt }
moved_back f fs p (r ∷ rs) h =
    let n : ℕ = length f.area in
    let len : ℕ = length_in fs p r.what in
    let after : r.after ≡ n + (p + len) = h.2 ∙ ap (λ k. n + p + k) (length_behind f fs p r.what) ∙ omega arith in
    let rest : MovedBack f fs (p + len) rs = moved_back f fs (p + len) rs (subst (λ q. Stand (f ∷ fs) q rs) after h.3) in
    record {
      reads = record { what = r.what; at = p; after = p + len } ∷ rest.reads;
      is = λ i. record { what = r.what; at = h.0 i; after = after i } ∷ rest.is i;
      stand = (refl, sym (record_behind f fs p) ∙ h.1, refl, rest.stand);
    }

-- ---- what begins in the first file, and what doesn't

abbrev pub AllBefore : ℕ → List Placed → Type 0
AllBefore q rs = AllByRecursion (λ r. r.at < q) rs

-- the records up to the first that doesn't begin before a place, and the others
record Cut (n p : ℕ) (fs : List Headed) (rs : List Placed) : Type 0 where
  front : List Placed
  rest : List Placed
  is : rs ≡ front ++ rest
  before : AllBefore n front
  reaches : n ≤ end_from p front
  stand_front : Stand fs p front
  stand : Stand fs (end_from p front) rest

cut : (n p : ℕ) (fs : List Headed) (rs : List Placed) → Stand fs p rs → n ≤ end_from p rs → Cut n p fs rs
cut n p fs [] s l = record { front = []; rest = []; is = refl; before = tt; reaches = l; stand_front = tt; stand = tt }
cut n p fs (r ∷ rs) s l = by (cases_lt p n) (cut n r.after fs rs s.3 l)
  where
    by : (p < n) ⊎ (n ≤ p) → Cut n r.after fs rs → Cut n p fs (r ∷ rs)
    by (inl h) c = record {
      front = r ∷ c.front;
      rest = c.rest;
      is = ap (λ (xs : List Placed). r ∷ xs) c.is;
      before = (omega (arith, h, s.0), c.before);
      reaches = c.reaches;
      stand_front = (s.0, s.1, s.2, c.stand_front);
      stand = c.stand;
    }
    by (inr h) c = record { front = []; rest = r ∷ rs; is = refl; before = tt; reaches = h; stand_front = tt; stand = s }

pub before_later : (m n : ℕ) (rs : List Placed) → m ≤ n → AllBefore m rs → AllBefore n rs
before_later m n [] h b = tt
before_later m n (r ∷ rs) h b = (omega (arith, h, b.0), before_later m n rs h b.1)

pub first_past : (start size : ℕ) (xs : List Placed) (ps : List ℕ) → AllBefore start xs → first_in start size (ats xs ++ ps) ≡ first_in start size ps
first_past start size [] ps b = refl
first_past start size (x ∷ xs) ps b =
    ap (λ t. cond t (first_in start size (ats xs ++ ps)) (cond (ltb x.at (start + size)) (4096 + (x.at - start)) 0)) (less x.at start b.0) ∙ first_past start size xs ps b.1

pub ats_append : (xs ys : List Placed) (ps : List ℕ) → ats (xs ++ ys) ++ ps ≡ ats xs ++ (ats ys ++ ps)
ats_append [] ys ps = refl
ats_append (x ∷ xs) ys ps = ap (λ (qs : List ℕ). x.at ∷ qs) (ats_append xs ys ps)

pub rid_past : (q : ℕ) (xs ys : List Placed) (rid : ℕ) → AllBefore q xs → rid_before rid (xs ++ ys) q ≡ rid_before (rid_at_end rid xs) ys q
rid_past q [] ys rid b = refl
rid_past q (x ∷ xs) ys rid b =
    ap (λ t. rid_before (cond (is_enqueue x.what.kind && t) x.what.rid rid) (xs ++ ys) q) (less x.at q b.0)
    ∙ ap (λ t. rid_before (cond t x.what.rid rid) (xs ++ ys) q) (and_true (is_enqueue x.what.kind))
    ∙ rid_past q xs ys (cond (is_enqueue x.what.kind) x.what.rid rid) b.1
  where
    and_true : (t : Bool) → (t && true) ≡ t
    and_true true = refl
    and_true false = refl

pub none_in : (start size : ℕ) (xs : List Placed) → AllBefore start xs → filter (in_file start size) xs ≡ []
none_in start size [] b = refl
none_in start size (x ∷ xs) b =
    ap (λ t. cond (t && ltb x.at (start + size)) (x ∷ filter (in_file start size) xs) (filter (in_file start size) xs)) (not_most start x.at b.0) ∙ none_in start size xs b.1

-- ---- the first place of the files that are left

-- the first place of a file is that of the next record, or of the reading's end
next_first : (start size q end : ℕ) (ys : List Placed) → Ascends q ys → end ≡ end_from q ys → start ≤ q → first_in start size (ats ys ++ end ∷ []) ≡ cond (ltb q (start + size)) (4096 + (q - start)) 0
next_first start size q end [] h e l =
    ap (λ k. first_in start size (k ∷ [])) e ∙ ap (λ b. cond b 0 (cond (ltb q (start + size)) (4096 + (q - start)) 0)) (not_less q start l)
next_first start size q end (y ∷ ys) h e l =
    ap (λ k. cond (ltb k start) (first_in start size (ats ys ++ end ∷ [])) (cond (ltb k (start + size)) (4096 + (k - start)) 0)) h.0
    ∙ ap (λ b. cond b (first_in start size (ats ys ++ end ∷ [])) (cond (ltb q (start + size)) (4096 + (q - start)) 0)) (not_less q start l)

module _ (begin end rid : ℕ) (reads xs ys : List Placed) (q : ℕ) (is : reads ≡ xs ++ ys) (ascends : Ascends q ys) (ends : end ≡ end_from q ys) where
  first_of : (start size : ℕ) (header : FileHeader) → KeepsRules begin end rid reads start size header → begin < start → AllBefore start xs → start ≤ q → q ≤ end
      → header.first ≡ cond (ltb q (start + size)) (4096 + (q - start)) 0
  first_of start size header k late b l m =
      k.first (omega (arith, l, m)) late ∙ ap (λ (rs : List Placed). first_in start size (ats rs ++ end ∷ [])) is ∙ ap (first_in start size) (ats_append xs ys (end ∷ []))
      ∙ first_past start size xs (ats ys ++ end ∷ []) b ∙ next_first start size q end ys ascends ends l

  first_left : (start : ℕ) (fs : List Headed) → AllKeep begin end rid reads start fs → begin < start → AllBefore start xs → start ≤ q → q ≤ end → q ≤ start + length (stream fs) → first_place fs ≡ q - start
  first_left start [] k late b l m r = omega (arith, r)
  first_left start (f ∷ fs) k late b l m r =
      let size : ℕ = length f.area in
      let first : f.header.first ≡ cond (ltb q (start + size)) (4096 + (q - start)) 0 = first_of start size f.header k.0 late b l m in
      by (cases_lt q (start + size)) first
      (λ more. first_left (start + size) fs k.1 (omega (arith, late)) (before_later start (start + size) xs (omega arith) b) more m (omega (arith, r, length-append f.area (stream fs))))
    where
      not_none : (n : ℕ) → eqb (4096 + n) 0 ≡ false
      not_none n = grind (arith, nat_tests)

      by : (q < start + length f.area) ⊎ (start + length f.area ≤ q) → f.header.first ≡ cond (ltb q (start + length f.area)) (4096 + (q - start)) 0
          → (start + length f.area ≤ q → first_place fs ≡ q - (start + length f.area)) → cond (eqb f.header.first 0) (length f.area + first_place fs) (f.header.first - 4096) ≡ q - start
      by (inl h) e rest =
          ap (λ k. cond (eqb k 0) (length f.area + first_place fs) (k - 4096)) (e ∙ ap (λ b. cond b (4096 + (q - start)) 0) (less q (start + length f.area) h))
          ∙ ap (λ b. cond b (length f.area + first_place fs) (4096 + (q - start) - 4096)) (not_none (q - start)) ∙ omega arith
      by (inr h) e rest =
          ap (λ k. cond (eqb k 0) (length f.area + first_place fs) (k - 4096)) (e ∙ ap (λ b. cond b (4096 + (q - start)) 0) (not_less q (start + length f.area) h))
          ∙ omega (arith, rest h, h)

-- ---- a reading from what stands

none_spelled : (fs : List Headed) (p : ℕ) → record_in fs p ≡ None → (r : Record) → IsSpelledAt fs p r → ⊥
none_spelled fs p none r s = let e = read_where_spelled fs p r s in absurd (cc)

pub is_reading : (fs : List Headed) (p : ℕ) (rs : List Placed) → Stand fs p rs → record_in fs (end_from p rs) ≡ None → IsReading fs p rs
is_reading fs p [] h none = none_spelled fs p none
is_reading fs p (r ∷ rs) h none = (h.0, spelled_where_read fs p r.what h.1, h.2, is_reading fs r.after rs h.3 none)

-- what stands from the first place up to a place where nothing does is the reading
pub reading_from : (fs : List Headed) (rs : List Placed) → Stand fs (first_place fs) rs → record_in fs (end_from (first_place fs) rs) ≡ None → epoch_reading true fs ≡ rs
reading_from fs rs h none = sym (epoch_only_reading true fs rs (is_reading fs (first_place fs) rs h none))

stand_within : (fs : List Headed) (p : ℕ) (rs : List Placed) → Stand fs p rs → p ≤ length (stream fs) → end_from p rs ≤ length (stream fs)
stand_within fs p [] h l = l
stand_within fs p (r ∷ rs) h l = let fits = record_fits fs p r.what h.1 in stand_within fs r.after rs h.3 (omega (arith, fits.1, h.2))

-- ---- the reading of the files that are left

-- the records that start in the oldest file, and the others as the files that are left have them
pub record Left (f : Headed) (fs : List Headed) : Type 0 where
  pub front : List Placed
  pub reads : List Placed
  pub is : epoch_reading true (f ∷ fs) ≡ front ++ all_moved (length f.area) reads
  pub before : AllByRecursion (λ r. r.at < length f.area) front
  pub stand_front : Stand (f ∷ fs) (first_place (f ∷ fs)) front
  pub reaches : end_from (first_place (f ∷ fs)) front ≡ length f.area + first_place fs
  pub stand : Stand fs (first_place fs) reads
  pub reading : epoch_reading true fs ≡ reads

module _ (f : Headed) (fs : List Headed) where
  abbrev n : ℕ
  n = length f.area

  abbrev B : ℕ
  B = first_place (f ∷ fs)

  abbrev R : List Placed
  R = epoch_reading true (f ∷ fs)

  abbrev E : ℕ
  E = end_from B R

  whole_stands : Stand (f ∷ fs) B R
  whole_stands = records_stand (f ∷ fs) (length (stream (f ∷ fs)) / 128) B

  none_at_end : record_in (f ∷ fs) E ≡ None
  none_at_end = record_in-epoch_end true (f ∷ fs)

  left_by : (front rest : List Placed) (q : ℕ) → R ≡ front ++ rest → AllBefore n front → Stand (f ∷ fs) B front → end_from B front ≡ n + q → Stand (f ∷ fs) (n + q) rest → first_place fs ≡ q → Left f fs
  left_by front rest q is before stand_front reaches stand first =
      let back : MovedBack f fs q rest = moved_back f fs q rest stand in
      let whole : R ≡ front ++ all_moved n back.reads = is ∙ ap (λ (xs : List Placed). front ++ xs) back.is in
      let ends : E ≡ n + end_from q back.reads =
      ap (end_from B) whole ∙ end_from-append B front (all_moved n back.reads) ∙ ap (λ p. end_from p (all_moved n back.reads)) reaches ∙ end_moved n q back.reads in
      let none : record_in fs (end_from q back.reads) ≡ None = sym (record_behind f fs (end_from q back.reads)) ∙ ap (record_in (f ∷ fs)) (sym ends) ∙ none_at_end in
      let there : Stand fs (first_place fs) back.reads = subst (λ p. Stand fs p back.reads) (sym first) back.stand in
      record {
        front = front;
        reads = back.reads;
        is = whole;
        before = before;
        stand_front = stand_front;
        reaches = reaches ∙ ap (λ k. n + k) (sym first);
        stand = there;
        reading = reading_from fs back.reads there (ap (λ p. record_in fs (end_from p back.reads)) first ∙ none);
      }

  -- no record starts in the oldest file
  left_whole : f.header.first ≡ 0 → Left f fs
  left_whole e =
      let begins : B ≡ n + first_place fs = ap (λ k. cond (eqb k 0) (n + first_place fs) (k - 4096)) e in
      left_by [] R (first_place fs) refl tt tt begins (subst (λ p. Stand (f ∷ fs) p R) begins whole_stands) refl

  not_none : (k : ℕ) → 4096 ≤ k → eqb k 0 ≡ false
  not_none k h = grind (arith, nat_tests)

  left_cut : 4096 ≤ f.header.first → f.header.first - 4096 < n → (rid : ℕ) → AllKeep B E rid R n fs → n ≤ E → Left f fs
  left_cut some l rid keep reached =
      let begins : B ≡ f.header.first - 4096 = ap (λ b. cond b (n + first_place fs) (f.header.first - 4096)) (not_none f.header.first some) in
      let late : B < n = omega (arith, begins, l) in
      let size : length (stream (f ∷ fs)) ≡ n + length (stream fs) = length-append f.area (stream fs) in
      let c : Cut n B (f ∷ fs) R = cut n B (f ∷ fs) R whole_stands reached in
      let q : ℕ = end_from B c.front in
      let back : q ≡ n + (q - n) = omega (arith, c.reaches) in
      let ends : E ≡ end_from q c.rest = ap (end_from B) c.is ∙ end_from-append B c.front c.rest in
      let high : q ≤ E = let later = stand_end (f ∷ fs) q c.rest c.stand in omega (arith, ends, later) in
      let fits : E ≤ length (stream (f ∷ fs)) = stand_within (f ∷ fs) B R whole_stands (omega (arith, late, size)) in
      left_by c.front c.rest (q - n) c.is c.before c.stand_front back (subst (λ p. Stand (f ∷ fs) p c.rest) back c.stand)
      (first_left B E rid R c.front c.rest q c.is (stand_ascends (f ∷ fs) q c.rest c.stand) ends n fs keep late c.before c.reaches high (omega (arith, high, fits, size)))

  zero_plus : (k : ℕ) → 0 + k ≡ k
  zero_plus k = omega arith

  pub left : HasPlaces f → (rid : ℕ) → AllKeep B E rid R 0 (f ∷ fs) → n ≤ E → Left f fs
  left p rid keep reached = by p.first
    where
      by : (f.header.first ≡ 0) ⊎ ((4096 ≤ f.header.first) × (f.header.first - 4096 < length f.area)) → Left f fs
      by (inl e) = left_whole e
      by (inr h) = left_cut h.0 h.1 rid (subst (λ k. AllKeep B E rid R k fs) (zero_plus n) keep.1) reached

-- ---- the rules on the files that are left

module _ (f : Headed) (fs : List Headed) (l : Left f fs) (rid : ℕ) where
  abbrev size : ℕ
  size = length f.area

  abbrev first : ℕ
  first = first_place (f ∷ fs)

  abbrev reads : List Placed
  reads = epoch_reading true (f ∷ fs)

  abbrev end : ℕ
  end = end_from first reads

  abbrev end_left : ℕ
  end_left = end_from (first_place fs) l.reads

  abbrev rest : List Placed
  rest = all_moved size l.reads

  pub ends_left : end ≡ size + end_left
  ends_left = ap (end_from first) l.is ∙ end_from-append first l.front rest ∙ ap (λ p. end_from p rest) l.reaches ∙ end_moved size (first_place fs) l.reads

  rest_ascends : Ascends (size + first_place fs) rest
  rest_ascends = moved_ascend size (first_place fs) l.reads (stand_ascends fs (first_place fs) l.reads l.stand)

  begins_before : first ≤ size + first_place fs
  begins_before = let later = stand_end (f ∷ fs) first l.front l.stand_front in omega (arith, later, l.reaches)

  -- the rid in force as the next file begins
  abbrev next_rid : ℕ
  next_rid = rid_at_end rid l.front

  rid_left : (start : ℕ) → rid_before rid reads (size + start) ≡ rid_before next_rid l.reads start
  rid_left start =
      ap (λ (rs : List Placed). rid_before rid rs (size + start)) l.is ∙ rid_past (size + start) l.front rest rid (before_later size (size + start) l.front (omega arith) l.before)
      ∙ rid_moved size start next_rid l.reads

  order_left : (rs : List Placed) → AllByRecursion (InOrder rid reads) (all_moved size rs) → AllByRecursion (InOrder next_rid l.reads) rs
  order_left [] h = tt
  order_left (r ∷ rs) h = (subst (λ k. (eqb r.what.rid (rid_given k r.what.kind) && ltb r.what.rid (2 ^ 62)) ≡ true) (rid_left r.at) h.0, order_left rs h.1)

  all_rest : (xs ys : List Placed) → AllByRecursion (InOrder rid reads) (xs ++ ys) → AllByRecursion (InOrder rid reads) ys
  all_rest [] ys h = h
  all_rest (x ∷ xs) ys h = all_rest xs ys h.1

  keeps_left : (start long : ℕ) (header : FileHeader) → KeepsRules first end rid reads (size + start) long header → 0 < size → KeepsRules (first_place fs) end_left next_rid l.reads start long header
  keeps_left start long header k some = record {
    first = λ low late.
        k.first (omega (arith, low, ends_left)) (omega (arith, late, begins_before)) ∙ (λ i. first_in (size + start) long (ats (l.is i) ++ ends_left i ∷ []))
        ∙ ap (first_in (size + start) long) (ats_append l.front rest ((size + end_left) ∷ []))
        ∙ first_past (size + start) long l.front (ats rest ++ (size + end_left) ∷ []) (before_later size (size + start) l.front (omega arith) l.before)
        ∙ ap (first_in (size + start) long) (ats_moved size l.reads end_left) ∙ first_moved size start long (ats l.reads ++ end_left ∷ []);
    rid_is = λ low late. k.rid_is (omega (arith, low, ends_left)) (omega (arith, some)) ∙ rid_left start;
    order =
        order_left (filter (in_file start long) l.reads)
        (subst (AllByRecursion (InOrder rid reads)) (filter_moved size start long l.reads)
        (all_rest (filter (in_file (size + start) long) l.front) (filter (in_file (size + start) long) rest)
        (subst (AllByRecursion (InOrder rid reads)) (filter-append (in_file (size + start) long) l.front rest) (subst (λ (rs : List Placed). AllByRecursion (InOrder rid reads) (filter (in_file (size + start) long) rs)) l.is k.order))));
  }

  all_left : (start : ℕ) (gs : List Headed) → 0 < size → AllKeep first end rid reads (size + start) gs → AllKeep (first_place fs) end_left next_rid l.reads start gs
  all_left start [] some k = tt
  all_left start (g ∷ gs) some k = (
    keeps_left start (length g.area) g.header k.0 some,
    all_left (start + length g.area) gs some (subst (λ p. AllKeep first end rid reads p gs) (add size start (length g.area)) k.1),
  )
    where
      add : (a b c : ℕ) → a + b + c ≡ a + (b + c)
      add a b c = omega arith

  -- the next file's header has it
  rid_next : 0 < size → size ≤ end → (gs : List Headed) → AllKeep first end rid reads size gs → 0 < length gs → oldest_rid gs ≡ next_rid
  rid_next some reached [] k there = absurd (omega (arith, there))
  rid_next some reached (g ∷ gs) k there =
      k.0.rid_is reached some ∙ ap (rid_before rid reads) (plus size) ∙ rid_left 0 ∙ rid_before-append [] l.reads (first_place fs) 0 (stand_ascends fs (first_place fs) l.reads l.stand) (omega arith) next_rid
    where
      plus : (k : ℕ) → k ≡ k + 0
      plus k = omega arith

  pub rules_left : 0 < size → size ≤ end → 0 < length fs → AllKeep first end rid reads 0 (f ∷ fs)
      → AllKeep (first_place fs) (end_from (first_place fs) (epoch_reading true fs)) (oldest_rid fs) (epoch_reading true fs) 0 fs × (oldest_rid fs ≡ next_rid)
  rules_left some reached there keep =
      let here : AllKeep first end rid reads size fs = subst (λ p. AllKeep first end rid reads p fs) (zero size) keep.1 in
      let is : oldest_rid fs ≡ next_rid = rid_next some reached fs here there in (
        subst (λ (X : Type 0). X) (sym (λ i. AllKeep (first_place fs) (end_from (first_place fs) (l.reading i)) (is i) (l.reading i) 0 fs)) (all_left 0 fs some (subst (λ p. AllKeep first end rid reads p fs) (plus size) here)),
        is,
      )
    where
      zero : (k : ℕ) → 0 + k ≡ k
      zero k = omega arith

      plus : (k : ℕ) → k ≡ k + 0
      plus k = omega arith
