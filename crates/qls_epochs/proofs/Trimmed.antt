-- A journal without its newest file, where that lies past the reading.
use Rattle.std.proofs.Common.{◌≡◌, ◌⊎◌, inl, inr, ℕ, suc, ◌+◌, ◌-◌, ◌/◌, ◌^◌, ◌<◌, ◌≤◌, Bool, true, false, cond, ◌&&◌, ◌||◌, List, [], ◌∷◌, ◌++◌, map, length, take, drop, Option, Some, None, Ok, refl, sym, ap, ap₂, ◌∙◌, subst, arith, eqb, ltb, leb, append_assoc, append-nil, length-append}
use Rattle.std.proofs.Math.Seq.{take-append_seam}
use Rattle.std.proofs.lemmas.Bool.{cases_lt}
use Rattle.std.proofs.lemmas.Bool.Decides.{nat_tests}
use Rattle.std.specs.List.{filter}
use Rattle.qls_shape.specs.Claims.{claim, each, of_file, ◌>>=◌, ◌>>◌}
use Rattle.qls_record.specs.Record.{Record, rid_given}
use Rattle.qls_filehdr.specs.declared.Rule.TheVariants as rule
use Rattle.qls_meaning.specs.Journals.{Headed, Journal, epochs}
use Rattle.qls_meaning.specs.Reading.{Placed, Read, holder, stream, record_in, held_record, held_length, length_in, end_from, first_place, begin_place, epoch_reading, epoch_end, number_of, place_of, located, reads_of, journal_reading}
use Rattle.qls_meaning.specs.Damage.{Checked, Spread, spread, rid_before, rid_at_end, first_in, next_claims, chain_claims, file_claims, end_claim, epoch_claims, epochs_claims, oldest_rid}
use Rattle.qls_meaning.specs.Dead.{after_end, past_in, past_files}
use Rattle.qls_laws.specs.Readings.{Stand, AgreeUpTo, IsReading}
use Rattle.qls_laws.specs.Undamaged.{BreaksNoRule}
use Rattle.qls_laws.proofs.Ends.{record_fits, record_in-epoch_end}
use Rattle.qls_laws.proofs.Reaches.{records_stand, stand_end, stand_there}
use Rattle.qls_laws.proofs.Rules.{ats, each-append}
use Rattle.qls_laws.proofs.Unique.{epoch_only_reading}
use Rattle.qls_laws.proofs.Claimed.{ok_next, next_ok, in_file}
use Rattle.qls_laws.proofs.Leftover.{is_reading}
use Rattle.qls_epochs.specs.Trims.{without_newest}
use Rattle.qls_epochs.proofs.Turns.{Runs, runs, grown, one_more}
use Rattle.qls_epochs.proofs.Ended.{any_end, past_on}

less : (m n : ℕ) → m < n → ltb m n ≡ true
less m n h = grind (arith, nat_tests)

not_less : (m n : ℕ) → n ≤ m → ltb m n ≡ false
not_less m n h = grind (arith, nat_tests)

-- ---- lists by their last element

none_last : (xs : List Headed) (x : Headed) → [] ≡ xs ++ x ∷ [] → ⊥
none_last [] x e = absurd (cc)
none_last (y ∷ xs) x e = absurd (cc)

heads : (x y : Headed) (xs ys : List Headed) → ◌≡◌ {A = List Headed} (x ∷ xs) (y ∷ ys) → (x ≡ y) × (xs ≡ ys)
heads x y xs ys e = (cc, ap (drop 1) e)

pub same_last : (xs ys : List Headed) (x y : Headed) → xs ++ x ∷ [] ≡ ys ++ y ∷ [] → (xs ≡ ys) × (x ≡ y)
same_last [] [] x y e = (refl, (heads x y [] [] e).0)
same_last [] (b ∷ ys) x y e = absurd (none_last ys y (heads x b [] (ys ++ y ∷ []) e).1)
same_last (a ∷ xs) [] x y e = absurd (none_last xs x (sym (heads a y (xs ++ x ∷ []) [] e).1))
same_last (a ∷ xs) (b ∷ ys) x y e =
    let first = heads a b (xs ++ x ∷ []) (ys ++ y ∷ []) e in
    let rest = same_last xs ys x y first.1 in
    (ap₂ (λ (h : Headed) (hs : List Headed). h ∷ hs) first.0 rest.0, rest.1)

pub record Snoc (fs : List Headed) : Type 0 where
  pub front : List Headed
  pub newest : Headed
  pub is : fs ≡ front ++ newest ∷ []
  pub less : take (length fs - 1) fs ≡ front

pub snoc : (f : Headed) (fs : List Headed) → Snoc (f ∷ fs)
snoc f [] = record { front = []; newest = f; is = refl; less = refl }
snoc f (g ∷ fs) =
    let s = snoc g fs in
    record {
      front = f ∷ s.front;
      newest = s.newest;
      is = ap (λ (xs : List Headed). f ∷ xs) s.is;
      less = ap (λ n. take n (f ∷ g ∷ fs)) (fewer (length fs)) ∙ ap (λ (xs : List Headed). f ∷ xs) (ap (λ n. take n (g ∷ fs)) (few (length fs)) ∙ s.less);
    }
  where
    fewer : (n : ℕ) → suc (suc n) - 1 ≡ suc n
    fewer n = omega arith

    few : (n : ℕ) → n ≡ suc n - 1
    few n = omega arith

-- ---- the files without the last one

stream_on : (e : List Headed) (x : Headed) → stream (e ++ x ∷ []) ≡ stream e ++ x.area
stream_on [] x = append-nil x.area
stream_on (f ∷ e) x = ap (λ (bs : List ℕ). f.area ++ bs) (stream_on e x) ∙ sym (append_assoc f.area (stream e) x.area)

holder_on : (e : List Headed) (x : Headed) (p : ℕ) → p < length (stream e) → holder (e ++ x ∷ []) p ≡ holder e p
holder_on [] x p h = absurd (omega (arith, h))
holder_on (f ∷ e) x p h = by (cases_lt p (length f.area)) (holder_on e x (p - length f.area))
  where
    by : (p < length f.area) ⊎ (length f.area ≤ p) → (p - length f.area < length (stream e) → holder (e ++ x ∷ []) (p - length f.area) ≡ holder e (p - length f.area)) → holder ((f ∷ e) ++ x ∷ []) p ≡ holder (f ∷ e) p
    by (inl l) rest =
        ap (λ b. cond b (Some (record { file = f; within = p })) (holder (e ++ x ∷ []) (p - length f.area))) (less p (length f.area) l)
        ∙ sym (ap (λ b. cond b (Some (record { file = f; within = p })) (holder e (p - length f.area))) (less p (length f.area) l))
    by (inr l) rest = ap (λ o. cond (ltb p (length f.area)) (Some (record { file = f; within = p })) o) (rest (omega (arith, l, h, length-append f.area (stream e))))

first_on : (e : List Headed) (x : Headed) → first_place (e ++ x ∷ []) < length (stream e) → first_place e ≡ first_place (e ++ x ∷ [])
first_on [] x h = absurd (omega (arith, h))
first_on (f ∷ e) x h = by (eqb f.header.first 0) h (first_on e x)
  where
    by : (b : Bool) → cond b (length f.area + first_place (e ++ x ∷ [])) (f.header.first - 4096) < length (f.area ++ stream e) → (first_place (e ++ x ∷ []) < length (stream e) → first_place e ≡ first_place (e ++ x ∷ []))
        → cond b (length f.area + first_place e) (f.header.first - 4096) ≡ cond b (length f.area + first_place (e ++ x ∷ [])) (f.header.first - 4096)
    by true l rest = ap (λ n. length f.area + n) (rest (omega (arith, l, length-append f.area (stream e))))
    by false l rest = refl

begin_on : (oldest : Bool) (e : List Headed) (x : Headed) → begin_place oldest (e ++ x ∷ []) < length (stream e) → begin_place oldest e ≡ begin_place oldest (e ++ x ∷ [])
begin_on true e x h = first_on e x h
begin_on false e x h = refl

agree_on : (e : List Headed) (x : Headed) → AgreeUpTo (length (stream e)) (e ++ x ∷ []) e
agree_on e x = record {
  records = λ p bytes l. ap (held_record bytes) (sym (holder_on e x p l));
  lengths = λ p r l. ap (λ o. held_length o r) (sym (holder_on e x p l));
  front = take_all (stream e) ∙ sym (ap (take (length (stream e))) (stream_on e x) ∙ take-append_seam (stream e) x.area);
}
  where
    take_all : (bs : List ℕ) → take (length bs) bs ≡ bs
    take_all bs = ap (take (length bs)) (sym (append-nil bs)) ∙ take-append_seam bs []

agree_back : (e : List Headed) (x : Headed) → AgreeUpTo (length (stream e)) e (e ++ x ∷ [])
agree_back e x =
    let a = agree_on e x in
    record { records = λ p bytes l. sym (a.records p bytes l); lengths = λ p r l. sym (a.lengths p r l); front = sym a.front }

-- where nothing stands with the last file, nothing stands without it
none_on : (e : List Headed) (x : Headed) (p : ℕ) → record_in (e ++ x ∷ []) p ≡ None → record_in e p ≡ None
none_on e x p none = by (record_in e p) refl
  where
    some : (r : Record) → None ≡ Some r → ⊥
    some r h = cc

    by : (o : Option Record) → record_in e p ≡ o → record_in e p ≡ None
    by None h = h
    by (Some r) h =
        let fits = record_fits e p r h in
        let there = stand_there (length (stream e)) e (e ++ x ∷ []) (agree_back e x) p (record { what = r; at = p; after = p + length_in e p r } ∷ []) (refl, h, refl, tt) fits.1 in
        absurd (some r (sym none ∙ there.1))

located_on : (e : List Headed) (x : Headed) (p : ℕ) (rs : List Placed) → Stand (e ++ x ∷ []) p rs → end_from p rs ≤ length (stream e) → map (located e) rs ≡ map (located (e ++ x ∷ [])) rs
located_on e x p [] s l = refl
located_on e x p (r ∷ rs) s l =
    let fits = record_fits (e ++ x ∷ []) p r.what s.1 in
    let later = stand_end (e ++ x ∷ []) r.after rs s.3 in
    let at = sym (holder_on e x r.at (omega (arith, s.0, s.2, fits.0, later, l))) in
    let last = sym (holder_on e x (r.after - 1) (omega (arith, s.0, s.2, fits.0, later, l))) in
    λ i. record { what = r.what; file = number_of (at i); at = place_of (at i); end_file = number_of (last i) } ∷ located_on e x r.after rs s.3 l i

-- the files after the end are those without the last one, and the last one
inside : (end : ℕ) (e : List Headed) (x : Headed) → end < length (stream e) → after_end end (e ++ x ∷ []) ≡ after_end end e ++ x ∷ []
inside end [] x h = absurd (omega (arith, h))
inside end (f ∷ e) x h = by (cases_lt end (length f.area)) (inside (end - length f.area) e x)
  where
    by : (end < length f.area) ⊎ (length f.area ≤ end) → (end - length f.area < length (stream e) → after_end (end - length f.area) (e ++ x ∷ []) ≡ after_end (end - length f.area) e ++ x ∷ [])
        → after_end end ((f ∷ e) ++ x ∷ []) ≡ after_end end (f ∷ e) ++ x ∷ []
    by (inl l) rest =
        ap (λ b. cond b (e ++ x ∷ []) (after_end (end - length f.area) (e ++ x ∷ []))) (less end (length f.area) l)
        ∙ sym (ap (λ b. cond b e (after_end (end - length f.area) e) ++ x ∷ []) (less end (length f.area) l))
    by (inr l) rest =
        ap (λ b. cond b (e ++ x ∷ []) (after_end (end - length f.area) (e ++ x ∷ []))) (not_less end (length f.area) l)
        ∙ rest (omega (arith, l, h, length-append f.area (stream e)))
        ∙ sym (ap (λ b. cond b e (after_end (end - length f.area) e) ++ x ∷ []) (not_less end (length f.area) l))

outside : (end : ℕ) (e : List Headed) (x : Headed) → length (stream e) ≤ end → after_end end (e ++ x ∷ []) ≡ []
outside end [] x h = elim (ltb end (length x.area)) as (λ b. cond b [] (after_end (end - length x.area) []) ≡ []) [ true ↦ refl | false ↦ refl ]
outside end (f ∷ e) x h =
    let size = length-append f.area (stream e) in
    ap (λ b. cond b (e ++ x ∷ []) (after_end (end - length f.area) (e ++ x ∷ []))) (not_less end (length f.area) (omega (arith, h, size)))
    ∙ outside (end - length f.area) e x (omega (arith, h, size))

-- ---- the claims of a file, by the place where the reading begins

abbrev rules_at : Bool → ℕ → ℕ → List Placed → Spread → Checked
rules_at oldest begin rid reads s =
    of_file s.file.id (claim ((ltb (end_from begin reads) s.start || (oldest && leb s.start begin)) || eqb s.file.header.first (first_in s.start (length s.file.area) (ats reads ++ end_from begin reads ∷ []))) rule.First)
    >> (of_file s.file.id (claim ((ltb (end_from begin reads) s.start || (oldest && eqb s.start 0)) || eqb s.file.header.rid (rid_before rid reads s.start)) rule.Rid)
    >> each (λ r. of_file s.file.id (claim (eqb r.what.rid (rid_given (rid_before rid reads r.at) r.what.kind) && ltb r.what.rid (2 ^ 62)) rule.Order)) (filter (in_file s.start (length s.file.area)) reads))

spread_on : (start : ℕ) (e : List Headed) (x : Headed) → spread start (e ++ x ∷ []) ≡ spread start e ++ spread (start + length (stream e)) (x ∷ [])
spread_on start [] x = ap (λ n. spread n (x ∷ [])) (omega arith)
spread_on start (f ∷ e) x =
    ap (λ (ss : List Spread). record { file = f; start = start } ∷ ss)
    (spread_on (start + length f.area) e x ∙ ap (λ n. spread (start + length f.area) e ++ spread n (x ∷ [])) (let size = length-append f.area (stream e) in omega (arith, size)))

-- ---- one epoch

record Less (oldest : Bool) (e : List Headed) (x : Headed) (ps : List Headed) (f : Headed) : Type 0 where
  same : x ≡ f
  past : after_end (epoch_end oldest e) e ≡ ps
  begin : begin_place oldest e ≡ begin_place oldest (e ++ x ∷ [])
  reading : epoch_reading oldest e ≡ epoch_reading oldest (e ++ x ∷ [])
  lie : map (located e) (epoch_reading oldest e) ≡ map (located (e ++ x ∷ [])) (epoch_reading oldest (e ++ x ∷ []))

module _ (oldest : Bool) (e : List Headed) (x : Headed) (ps : List Headed) (f : Headed) (past : after_end (epoch_end oldest (e ++ x ∷ [])) (e ++ x ∷ []) ≡ ps ++ f ∷ []) where
  abbrev reads : List Placed
  reads = epoch_reading oldest (e ++ x ∷ [])

  abbrev start : ℕ
  start = begin_place oldest (e ++ x ∷ [])

  abbrev end : ℕ
  end = epoch_end oldest (e ++ x ∷ [])

  ends_inside : end < length (stream e)
  ends_inside = by (cases_lt end (length (stream e)))
    where
      by : (end < length (stream e)) ⊎ (length (stream e) ≤ end) → end < length (stream e)
      by (inl l) = l
      by (inr l) = absurd (none_last ps f (sym (outside end e x l) ∙ past))

  there : Stand (e ++ x ∷ []) start reads
  there = records_stand (e ++ x ∷ []) (length (stream (e ++ x ∷ [])) / 128) start

  less_one : Less oldest e x ps f
  less_one =
      let l : end < length (stream e) = ends_inside in
      let last = same_last (after_end end e) ps x f (sym (inside end e x l) ∙ past) in
      let begin : begin_place oldest e ≡ start = begin_on oldest e x (let later = stand_end (e ++ x ∷ []) start reads there in omega (arith, later, l)) in
      let stand : Stand e start reads = stand_there (length (stream e)) (e ++ x ∷ []) e (agree_on e x) start reads there (omega (arith, l)) in
      let none : record_in e end ≡ None = none_on e x end (record_in-epoch_end oldest (e ++ x ∷ [])) in
      let reading : epoch_reading oldest e ≡ reads = sym (epoch_only_reading oldest e reads (subst (λ p. IsReading e p reads) (sym begin) (is_reading e start reads stand none))) in
      record {
        same = last.1;
        past = (λ i. after_end (end_from (begin i) (reading i)) e) ∙ last.0;
        begin = begin;
        reading = reading;
        lie = ap (map (located e)) reading ∙ located_on e x start reads there (omega (arith, l));
      }

  claims_less : (rid : ℕ) → epoch_claims oldest true rid (e ++ x ∷ []) reads ≡ Ok tt → epoch_claims oldest true rid e (epoch_reading oldest e) ≡ Ok tt
  claims_less rid h =
      let s = less_one in
      let all : each (rules_at oldest start rid reads) (spread 0 (e ++ x ∷ [])) ≡ Ok tt = (next_ok _ _ h).0 in
      let front : each (rules_at oldest start rid reads) (spread 0 e) ≡ Ok tt =
      each-append (rules_at oldest start rid reads) (spread 0 e) (spread (0 + length (stream e)) (x ∷ [])) (ap (each (rules_at oldest start rid reads)) (sym (spread_on 0 e x)) ∙ all) in
      let own : each (rules_at oldest (begin_place oldest e) rid (epoch_reading oldest e)) (spread 0 e) ≡ Ok tt = (λ i. each (rules_at oldest (s.begin i) rid (s.reading i)) (spread 0 e)) ∙ front in
      ok_next (each (file_claims oldest true rid e (epoch_reading oldest e)) (spread 0 e)) (end_claim oldest true rid e (epoch_reading oldest e) e) own (any_end oldest rid e e)

-- ---- all epochs

record AllLess (oldest : Bool) (es : List (List Headed)) (x : Headed) (ps : List Headed) (f : Headed) : Type 0 where
  same : x ≡ f
  past : past_in oldest es ≡ ps
  reading : reads_of oldest es ≡ reads_of oldest (grown es x)
  claims : (rid : ℕ) → epochs_claims oldest rid (grown es x) ≡ Ok tt → epochs_claims oldest rid es ≡ Ok tt

past_grown : (oldest : Bool) (e d : List Headed) (es : List (List Headed)) (x : Headed) → past_in oldest (e ∷ grown (d ∷ es) x) ≡ past_in false (grown (d ∷ es) x)
past_grown oldest e d [] x = refl
past_grown oldest e d (c ∷ es) x = refl

claims_grown : (oldest : Bool) (rid : ℕ) (e d : List Headed) (es : List (List Headed)) (x : Headed)
    → epochs_claims oldest rid (e ∷ grown (d ∷ es) x) ≡ (epoch_claims oldest false rid e (epoch_reading oldest e) >>= λ _. epochs_claims false (rid_at_end rid (epoch_reading oldest e)) (grown (d ∷ es) x))
claims_grown oldest rid e d [] x = refl
claims_grown oldest rid e d (c ∷ es) x = refl

all_less : (oldest : Bool) (e : List Headed) (es : List (List Headed)) (x : Headed) (ps : List Headed) (f : Headed) → past_in oldest (grown (e ∷ es) x) ≡ ps ++ f ∷ [] → AllLess oldest (e ∷ es) x ps f
all_less oldest e [] x ps f h =
    let s = less_one oldest e x ps f h in
    record { same = s.same; past = s.past; reading = ap (λ (rs : List Read). rs ++ []) s.lie; claims = claims_less oldest e x ps f h }
all_less oldest e (d ∷ es) x ps f h =
    let s = all_less false d es x ps f (sym (past_grown oldest e d es x) ∙ h) in
    record {
      same = s.same;
      past = s.past;
      reading = ap (λ (rs : List Read). map (located e) (epoch_reading oldest e) ++ rs) s.reading;
      claims = λ rid k.
          let parts = next_ok (epoch_claims oldest false rid e (epoch_reading oldest e)) (epochs_claims false (rid_at_end rid (epoch_reading oldest e)) (grown (d ∷ es) x)) (sym (claims_grown oldest rid e d es x) ∙ k) in
          ok_next (epoch_claims oldest false rid e (epoch_reading oldest e)) (epochs_claims false (rid_at_end rid (epoch_reading oldest e)) (d ∷ es)) parts.0 (s.claims (rid_at_end rid (epoch_reading oldest e)) parts.1);
    }

-- ---- the files of a journal

-- the only file of a journal doesn't lie past the reading
pub not_alone : (x : Headed) (ps : List Headed) (f : Headed) → past_in true (epochs (x ∷ [])) ≡ ps ++ f ∷ [] → ⊥
not_alone x ps f h = none_last ps f (sym (outside (epoch_end true (x ∷ [])) [] x (omega arith)) ∙ h)

pub record FilesLess (fs : List Headed) (x : Headed) (ps : List Headed) (f : Headed) : Type 0 where
  pub same : x ≡ f
  pub past : past_in true (epochs fs) ≡ ps
  pub reading : reads_of true (epochs fs) ≡ reads_of true (epochs (fs ++ x ∷ []))
  pub claims : epochs_claims true (oldest_rid (fs ++ x ∷ [])) (epochs (fs ++ x ∷ [])) ≡ Ok tt → epochs_claims true (oldest_rid fs) (epochs fs) ≡ Ok tt

pub files_less : (fs : List Headed) (x : Headed) (ps : List Headed) (f : Headed) → past_in true (epochs (fs ++ x ∷ [])) ≡ ps ++ f ∷ [] → FilesLess fs x ps f
files_less [] x ps f h = absurd (not_alone x ps f h)
files_less (g ∷ gs) x ps f h = by (one_more g gs x) (runs g gs)
  where
    by : (epochs ((g ∷ gs) ++ x ∷ []) ≡ grown (epochs (g ∷ gs)) x) ⊎ (epochs ((g ∷ gs) ++ x ∷ []) ≡ epochs (g ∷ gs) ++ (x ∷ []) ∷ []) → Runs g (epochs (g ∷ gs)) → FilesLess (g ∷ gs) x ps f
    by (inl k) r =
        let is : epochs ((g ∷ gs) ++ x ∷ []) ≡ grown ((g ∷ r.more) ∷ r.rest) x = k ∙ ap (λ es. grown es x) r.is in
        let s = all_less true (g ∷ r.more) r.rest x ps f (sym (ap (past_in true) is) ∙ h) in
        record {
          same = s.same;
          past = ap (past_in true) r.is ∙ s.past;
          reading = ap (reads_of true) r.is ∙ s.reading ∙ ap (reads_of true) (sym is);
          claims = λ c. ap (epochs_claims true g.header.rid) r.is ∙ s.claims g.header.rid (sym (ap (epochs_claims true g.header.rid) is) ∙ c);
        }
    by (inr k) r =
        let is : epochs ((g ∷ gs) ++ x ∷ []) ≡ ((g ∷ r.more) ∷ r.rest) ++ (x ∷ []) ∷ [] = k ∙ ap (λ es. es ++ (x ∷ []) ∷ []) r.is in
        absurd (none_last ps f (sym (ap (past_in true) is ∙ past_on true (g ∷ r.more) r.rest (x ∷ []) ∙ outside (epoch_end false (x ∷ [])) [] x (omega arith)) ∙ h))

chain_less : (fs : List Headed) (x : Headed) → chain_claims (fs ++ x ∷ []) ≡ Ok tt → chain_claims fs ≡ Ok tt
chain_less [] x h = refl
chain_less (f ∷ []) x h = refl
chain_less (f ∷ g ∷ fs) x h =
    let parts = next_ok (next_claims f g) (chain_claims ((g ∷ fs) ++ x ∷ [])) h in
    ok_next (next_claims f g) (chain_claims (g ∷ fs)) parts.0 (chain_less (g ∷ fs) x parts.1)

-- ---- the laws

newest_of : (fs : List Headed) (ps : List Headed) (f : Headed) → past_in true (epochs fs) ≡ ps ++ f ∷ [] → (fs ≡ take (length fs - 1) fs ++ f ∷ []) × FilesLess (take (length fs - 1) fs) f ps f
newest_of [] ps f h = absurd (none_last ps f h)
newest_of (g ∷ gs) ps f h =
    let s = snoc g gs in
    let l = files_less s.front s.newest ps f (sym (ap (λ fs. past_in true (epochs fs)) s.is) ∙ h) in (
      s.is ∙ ap₂ (λ (xs : List Headed) (x : Headed). xs ++ x ∷ []) (sym s.less) l.same,
      subst (λ (X : Type 0). X) (λ i. FilesLess (sym s.less i) (l.same i) ps f) l,
    )

pub newest_is : (j : Journal) (ps : List Headed) (f : Headed) → past_files j ≡ ps ++ f ∷ [] → j.files ≡ (without_newest j).files ++ f ∷ []
newest_is j ps f h = (newest_of j.files ps f h).0

pub trimmed_past : (j : Journal) (ps : List Headed) (f : Headed) → past_files j ≡ ps ++ f ∷ [] → past_files (without_newest j) ≡ ps
trimmed_past j ps f h = (newest_of j.files ps f h).1.past

pub trimmed_reading : (j : Journal) (ps : List Headed) (f : Headed) → past_files j ≡ ps ++ f ∷ [] → journal_reading (without_newest j) ≡ journal_reading j
trimmed_reading j ps f h = let n = newest_of j.files ps f h in n.1.reading ∙ ap (λ fs. reads_of true (epochs fs)) (sym n.0)

pub trimmed_rules : (j : Journal) (ps : List Headed) (f : Headed) → past_files j ≡ ps ++ f ∷ [] → BreaksNoRule j → BreaksNoRule (without_newest j)
trimmed_rules j ps f h b =
    let n = newest_of j.files ps f h in
    record {
      chain = chain_less (without_newest j).files f (sym (ap chain_claims n.0) ∙ b.chain);
      reading = n.1.claims (sym (ap (λ fs. epochs_claims true (oldest_rid fs) (epochs fs)) n.0) ∙ b.reading);
    }
