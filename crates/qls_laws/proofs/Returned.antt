-- The laws on a journal without its oldest file.
use Rattle.std.proofs.Common.{◌≡◌, ◌⊎◌, inl, inr, ℕ, ◌+◌, ◌-◌, ◌<◌, ◌≤◌, Bool, true, false, cond, not, List, [], ◌∷◌, ◌++◌, map, length, drop, Option, Some, Result, Ok, refl, sym, ap, ap₂, ◌∙◌, subst, arith, eqb, ltb}
use Rattle.std.proofs.lemmas.Bool.{cases_lt}
use Rattle.std.proofs.lemmas.Bool.Decides.{nat_tests}
use Rattle.std.proofs.lemmas.List.{map-append}
use Rattle.std.specs.List.{AllByRecursion, filter}
use Rattle.qls_record.specs.Record.{Record}
use Rattle.qls_shape.specs.Claims.{claim, of_file, ◌>>◌}
use Rattle.qls_filehdr.specs.declared.JournalKind.{JournalKind}
use Rattle.qls_filehdr.specs.declared.Rule.{Rule}
use Rattle.qls_filehdr.specs.declared.Rule.TheVariants as rule
use Rattle.qls_meaning.specs.Journals.{Headed, Journal}
use Rattle.qls_meaning.specs.Reading.{Holder, Placed, Read, holder, stream, held_record, end_from, first_place, epoch_reading, epoch_end, number_of, place_of, located, journal_reading}
use Rattle.qls_meaning.specs.Damage.{rid_at_end, next_claims, chain_claims}
use Rattle.qls_meaning.specs.Dead.{after_end, past_in, oldest_number}
use Rattle.qls_laws.specs.Readings.{Stand}
use Rattle.qls_laws.specs.Returns.{without_oldest, starts_elsewhere, IsWholeRun}
use Rattle.qls_laws.proofs.Ends.{record_fits}
use Rattle.qls_laws.proofs.Rules.{filter-append}
use Rattle.qls_laws.proofs.Claimed.{one_run, reading_of_run, AllKeep, keeps_rules, rules_kept, next_ok}
use Rattle.qls_laws.proofs.Leftover.{Left, left, all_moved, moved, ends_left, rules_left, behind, within}

less : (m n : ℕ) → m < n → ltb m n ≡ true
less m n h = grind (arith, nat_tests)

not_less : (m n : ℕ) → n ≤ m → ltb m n ≡ false
not_less m n h = grind (arith, nat_tests)

differs : (m n : ℕ) → m < n → eqb n m ≡ false
differs m n h = grind (arith, nat_tests)

own : (n : ℕ) → eqb n n ≡ true
own n = grind (arith, nat_tests)

-- ---- numbers

numbered : (id : ℕ) (b : Bool) (x : Result (Unit {0}) Rule) → of_file id (claim b rule.Number >> x) ≡ Ok tt → b ≡ true
numbered id true x h = refl
numbered id false x h = absurd (cc)

is_equal : (m n : ℕ) → eqb m n ≡ true → m ≡ n
is_equal m n h = grind (arith, nat_tests)

-- the files behind it have greater numbers
abbrev pub AllAbove : ℕ → List Headed → Type 0
AllAbove n fs = AllByRecursion (λ f. n < f.header.number) fs

above_later : (m n : ℕ) (fs : List Headed) → m ≤ n → AllAbove n fs → AllAbove m fs
above_later m n [] h a = tt
above_later m n (f ∷ fs) h a = (omega (arith, h, a.0), above_later m n fs h a.1)

pub numbers_rise : (f : Headed) (fs : List Headed) → chain_claims (f ∷ fs) ≡ Ok tt → AllAbove f.header.number fs
numbers_rise f [] h = tt
numbers_rise f (g ∷ fs) h =
    let parts = next_ok (next_claims f g) (chain_claims (g ∷ fs)) h in
    let next : g.header.number ≡ f.header.number + 1 = is_equal g.header.number (f.header.number + 1) (numbered g.id _ _ parts.0) in
    (omega (arith, next), above_later f.header.number g.header.number fs (omega (arith, next)) (numbers_rise g fs parts.1))

-- ---- where records lie

above_step : (n : ℕ) (f : Headed) (p : ℕ) (o : Option Holder) (b : Bool) → n < f.header.number → ((bytes : List ℕ) (r : Record) → held_record bytes o ≡ Some r → n < number_of o)
    → (bytes : List ℕ) (r : Record) → held_record bytes (cond b (Some (record { file = f; within = p })) o) ≡ Some r → n < number_of (cond b (Some (record { file = f; within = p })) o)
above_step n f p o true h rest bytes r e = h
above_step n f p o false h rest bytes r e = rest bytes r e

held_above : (n : ℕ) (fs : List Headed) (p : ℕ) → AllAbove n fs → (bytes : List ℕ) (r : Record) → held_record bytes (holder fs p) ≡ Some r → n < number_of (holder fs p)
held_above n [] p a bytes r e = absurd (cc)
held_above n (f ∷ fs) p a bytes r e = above_step n f p (holder fs (p - length f.area)) (ltb p (length f.area)) a.0 (held_above n fs (p - length f.area) a.1) bytes r e

located_moved : (f : Headed) (fs : List Headed) (r : Placed) → 0 < r.after → located (f ∷ fs) (moved (length f.area) r) ≡ located fs r
located_moved f fs r some =
    let n : ℕ = length f.area in
    let at = behind f fs r.at in
    let last : holder (f ∷ fs) (n + r.after - 1) ≡ holder fs (r.after - 1) = ap (holder (f ∷ fs)) (less_one n r.after some) ∙ behind f fs (r.after - 1) in
    λ i. record { what = r.what; file = number_of (at i); at = place_of (at i); end_file = number_of (last i) }
  where
    less_one : (n k : ℕ) → 0 < k → n + k - 1 ≡ n + (k - 1)
    less_one n k h = omega (arith, h)

all_located : (f : Headed) (fs : List Headed) (p : ℕ) (rs : List Placed) → Stand fs p rs → map (located (f ∷ fs)) (all_moved (length f.area) rs) ≡ map (located fs) rs
all_located f fs p [] s = refl
all_located f fs p (r ∷ rs) s =
    let fits = record_fits fs p r.what s.1 in
    ap₂ (λ (x : Read) (xs : List Read). x ∷ xs) (located_moved f fs r (omega (arith, fits.0, s.2))) (all_located f fs r.after rs s.3)

-- those that start in the oldest file are left out
none_front : (f : Headed) (fs : List Headed) (rs : List Placed) → AllByRecursion (λ r. r.at < length f.area) rs → filter (starts_elsewhere f.header.number) (map (located (f ∷ fs)) rs) ≡ []
none_front f fs [] b = refl
none_front f fs (r ∷ rs) b =
    ap (λ k. cond (not (eqb k f.header.number)) (located (f ∷ fs) r ∷ filter (starts_elsewhere f.header.number) (map (located (f ∷ fs)) rs)) (filter (starts_elsewhere f.header.number) (map (located (f ∷ fs)) rs)))
    (ap number_of (within f fs r.at b.0))
    ∙ ap (λ t. cond (not t) (located (f ∷ fs) r ∷ filter (starts_elsewhere f.header.number) (map (located (f ∷ fs)) rs)) (filter (starts_elsewhere f.header.number) (map (located (f ∷ fs)) rs))) (own f.header.number)
    ∙ none_front f fs rs b.1

-- all others stay
all_rest : (n : ℕ) (fs : List Headed) (p : ℕ) (rs : List Placed) → AllAbove n fs → Stand fs p rs → filter (starts_elsewhere n) (map (located fs) rs) ≡ map (located fs) rs
all_rest n fs p [] a s = refl
all_rest n fs p (r ∷ rs) a s =
    let more : n < number_of (holder fs r.at) = subst (λ k. n < number_of (holder fs k)) (sym s.0) (held_above n fs p a (drop p (stream fs)) r.what s.1) in
    ap (λ t. cond (not t) (located fs r ∷ filter (starts_elsewhere n) (map (located fs) rs)) (filter (starts_elsewhere n) (map (located fs) rs))) (differs n (number_of (holder fs r.at)) more)
    ∙ ap (λ (xs : List Read). located fs r ∷ xs) (all_rest n fs r.after rs a s.3)

-- ---- a journal

-- no file lies past the reading, so it ends in the second file or later
ends_behind : (f g : Headed) (fs : List Headed) (end : ℕ) → after_end end (f ∷ g ∷ fs) ≡ [] → (length f.area ≤ end) × (after_end (end - length f.area) (g ∷ fs) ≡ [])
ends_behind f g fs end h = by (cases_lt end (length f.area))
  where
    none : g ∷ fs ≡ [] → ⊥
    none e = cc

    by : (end < length f.area) ⊎ (length f.area ≤ end) → (length f.area ≤ end) × (after_end (end - length f.area) (g ∷ fs) ≡ [])
    by (inl l) = absurd (none (sym (ap (λ b. cond b (g ∷ fs) (after_end (end - length f.area) (g ∷ fs))) (less end (length f.area) l)) ∙ h))
    by (inr l) = (l, sym (ap (λ b. cond b (g ∷ fs) (after_end (end - length f.area) (g ∷ fs))) (not_less end (length f.area) l)) ∙ h)

abbrev run : JournalKind → List ℕ → List Headed → Journal
run kind name fs = record { kind = kind; name = name; files = fs }

module _ (kind : JournalKind) (name : List ℕ) (f g : Headed) (fs : List Headed) (w : IsWholeRun (run kind name (f ∷ g ∷ fs))) where
  past_all : after_end (epoch_end true (f ∷ g ∷ fs)) (f ∷ g ∷ fs) ≡ []
  past_all = sym (ap (past_in true) (one_run w.epoch f (g ∷ fs) w.one)) ∙ w.past

  pub reached : length f.area ≤ epoch_end true (f ∷ g ∷ fs)
  reached = (ends_behind f g fs (epoch_end true (f ∷ g ∷ fs)) past_all).0

  pub keeps : AllKeep (first_place (f ∷ g ∷ fs)) (epoch_end true (f ∷ g ∷ fs)) f.header.rid (epoch_reading true (f ∷ g ∷ fs)) 0 (f ∷ g ∷ fs)
  keeps = keeps_rules w.epoch kind name (f ∷ g ∷ fs) w.one w.rules.reading

  pub parted : Left f (g ∷ fs)
  parted = left f (g ∷ fs) w.places.0 f.header.rid keeps reached

  rules : AllKeep (first_place (g ∷ fs)) (end_from (first_place (g ∷ fs)) (epoch_reading true (g ∷ fs))) g.header.rid (epoch_reading true (g ∷ fs)) 0 (g ∷ fs) × (g.header.rid ≡ rid_at_end f.header.rid parted.front)
  rules = rules_left f (g ∷ fs) parted f.header.rid w.places.0.some reached (omega arith) keeps

  pub next_rid_is : g.header.rid ≡ rid_at_end f.header.rid parted.front
  next_rid_is = rules.1

  pub whole_without : IsWholeRun (run kind name (g ∷ fs))
  whole_without = record {
    epoch = w.epoch;
    one = w.one.1;
    places = w.places.1;
    rules = record {
      chain = (next_ok (next_claims f g) (chain_claims (g ∷ fs)) w.rules.chain).1;
      reading = rules_kept w.epoch kind name (g ∷ fs) w.one.1 rules.0;
    };
    past =
        ap (past_in true) (one_run w.epoch g fs w.one.1) ∙ ap (λ n. after_end n (g ∷ fs)) (ap (end_from (first_place (g ∷ fs))) parted.reading ∙ back (length f.area) _ _ (ends_left f (g ∷ fs) parted f.header.rid))
        ∙ (ends_behind f g fs (epoch_end true (f ∷ g ∷ fs)) past_all).1;
  }
    where
      back : (n a b : ℕ) → b ≡ n + a → a ≡ b - n
      back n a b e = omega (arith, e)

  pub reading_all : journal_reading (run kind name (f ∷ g ∷ fs)) ≡ map (located (f ∷ g ∷ fs)) parted.front ++ journal_reading (run kind name (g ∷ fs))
  reading_all =
      reading_of_run w.epoch kind name (f ∷ g ∷ fs) w.one (omega arith) ∙ ap (map (located (f ∷ g ∷ fs))) parted.is ∙ map-append (located (f ∷ g ∷ fs)) parted.front (all_moved (length f.area) parted.reads)
      ∙ ap (λ (rs : List Read). map (located (f ∷ g ∷ fs)) parted.front ++ rs)
      (all_located f (g ∷ fs) (first_place (g ∷ fs)) parted.reads parted.stand ∙ ap (map (located (g ∷ fs))) (sym parted.reading) ∙ sym (reading_of_run w.epoch kind name (g ∷ fs) w.one.1 (omega arith)))

  pub reading_without : journal_reading (run kind name (g ∷ fs)) ≡ filter (starts_elsewhere f.header.number) (journal_reading (run kind name (f ∷ g ∷ fs)))
  reading_without =
      sym (
      ap (filter (starts_elsewhere f.header.number)) reading_all
      ∙ filter-append (starts_elsewhere f.header.number) (map (located (f ∷ g ∷ fs)) parted.front) (journal_reading (run kind name (g ∷ fs)))
      ∙ ap₂ (λ (x y : List Read). x ++ y) (none_front f (g ∷ fs) parted.front parted.before)
      (ap (filter (starts_elsewhere f.header.number)) again ∙ all_rest f.header.number (g ∷ fs) (first_place (g ∷ fs)) parted.reads (numbers_rise f (g ∷ fs) w.rules.chain) parted.stand ∙ sym again)
      )
    where
      again : journal_reading (run kind name (g ∷ fs)) ≡ map (located (g ∷ fs)) parted.reads
      again = reading_of_run w.epoch kind name (g ∷ fs) w.one.1 (omega arith) ∙ ap (map (located (g ∷ fs))) parted.reading

-- ---- the laws

pub returned_is_whole : (j : Journal) → 1 < length j.files → IsWholeRun j → IsWholeRun (without_oldest j)
returned_is_whole j = by j.files
  where
    by : (fs : List Headed) → 1 < length fs → IsWholeRun (run j.kind j.name fs) → IsWholeRun (run j.kind j.name (drop 1 fs))
    by [] some w = absurd (omega (arith, some))
    by (f ∷ []) some w = absurd (omega (arith, some))
    by (f ∷ g ∷ fs) some w = whole_without j.kind j.name f g fs w

pub returned_reads : (j : Journal) → 1 < length j.files → IsWholeRun j → journal_reading (without_oldest j) ≡ filter (starts_elsewhere (oldest_number j.files)) (journal_reading j)
returned_reads j = by j.files
  where
    by : (fs : List Headed) → 1 < length fs → IsWholeRun (run j.kind j.name fs) → journal_reading (run j.kind j.name (drop 1 fs)) ≡ filter (starts_elsewhere (oldest_number fs)) (journal_reading (run j.kind j.name fs))
    by [] some w = absurd (omega (arith, some))
    by (f ∷ []) some w = absurd (omega (arith, some))
    by (f ∷ g ∷ fs) some w = reading_without j.kind j.name f g fs w
