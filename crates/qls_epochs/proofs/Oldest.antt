-- A journal without its oldest file: what is read of it, and that it stays whole.
use Rattle.std.proofs.Common.{◌≡◌, ℕ, ◌-◌, ◌/◌, ◌<◌, ◌≤◌, ◌⊎◌, inl, inr, suc, Bool, true, false, cond, not, List, [], ◌∷◌, ◌++◌, map, length, drop, Some, refl, sym, ap, ap₂, ◌∙◌, subst, arith, eqb, ltb, append_assoc, length-append}
use Rattle.std.proofs.lemmas.Bool.{cases_lt}
use Rattle.std.proofs.lemmas.Bool.Decides.{nat_tests}
use Rattle.std.specs.List.{AllByRecursion, filter}
use Rattle.qls_shape.specs.Claims.{each}
use Rattle.qls_record.specs.Record.{is_enqueue}
use Rattle.qls_filehdr.specs.declared.JournalKind.{JournalKind}
use Rattle.qls_meaning.specs.Journals.{Headed, Journal, epochs, onto_epoch}
use Rattle.qls_meaning.specs.Reading.{Placed, Read, holder, stream, end_from, first_place, begin_place, epoch_reading, number_of, located, reads_of, journal_reading}
use Rattle.qls_meaning.specs.Damage.{spread, rid_at_end, next_claims, chain_claims, file_claims, end_claim, epochs_claims}
use Rattle.qls_meaning.specs.Dead.{after_end, past_in, oldest_number}
use Rattle.qls_meaning.specs.Spent.{rid_of_reads}
use Rattle.qls_laws.specs.Readings.{Stand}
use Rattle.qls_laws.specs.Returns.{HasPlaces, IsWholeRun, without_oldest, starts_elsewhere}
use Rattle.qls_laws.proofs.Seen.{All-epochs}
use Rattle.qls_laws.proofs.Rules.{filter-append}
use Rattle.qls_laws.proofs.Ends.{record_fits}
use Rattle.qls_laws.proofs.Reaches.{records_stand}
use Rattle.qls_laws.proofs.Claimed.{HaveEpoch, next_ok, one_run, reading_of_run, rules_kept}
use Rattle.qls_laws.proofs.Leftover.{all_moved, within, Left}
use Rattle.qls_laws.proofs.Returned.{numbers_rise, parted, next_rid_is, whole_without, reading_all}
use Rattle.qls_laws.proofs.DeadQueue.{run}
use Rattle.qls_epochs.specs.Whole.{IsWhole}
use Rattle.qls_epochs.proofs.Alls.{all_by, all_both}
use Rattle.qls_epochs.proofs.Later.{begins_at_once, reads_the_same, AsOldest, as_oldest}
use Rattle.qls_epochs.proofs.Turns.{Runs, runs, IsRun, all_runs, first_in_row}
use Rattle.qls_epochs.proofs.Ended.{AllEnd, all_end, end_all, rid_of_located}

less : (m n : ℕ) → m < n → ltb m n ≡ true
less m n h = grind (arith, nat_tests)

not_less : (m n : ℕ) → n ≤ m → ltb m n ≡ false
not_less m n h = grind (arith, nat_tests)

differs : (m n : ℕ) → m < n → eqb n m ≡ false
differs m n h = grind (arith, nat_tests)

same : (m n : ℕ) → m ≡ n → eqb m n ≡ true
same m n h = grind (arith, nat_tests)

-- ---- the numbers of the files in which records lie

abbrev AllFrom : ℕ → List Headed → Type 0
AllFrom n fs = AllByRecursion (λ f. n ≤ f.header.number) fs

-- the file that holds a place has such a number
number_from : (n : ℕ) (fs : List Headed) (p : ℕ) → AllFrom n fs → p < length (stream fs) → n ≤ number_of (holder fs p)
number_from n [] p a l = absurd (omega (arith, l))
number_from n (f ∷ fs) p a l = by (cases_lt p (length f.area)) (λ h. number_from n fs (p - length f.area) a.1 (omega (arith, l, h, length-append f.area (stream fs))))
  where
    by : (p < length f.area) ⊎ (length f.area ≤ p) → (length f.area ≤ p → n ≤ number_of (holder fs (p - length f.area))) → n ≤ number_of (cond (ltb p (length f.area)) (Some (record { file = f; within = p })) (holder fs (p - length f.area)))
    by (inl h) rest = subst (λ b. n ≤ number_of (cond b (Some (record { file = f; within = p })) (holder fs (p - length f.area)))) (sym (less p (length f.area) h)) a.0
    by (inr h) rest = subst (λ b. n ≤ number_of (cond b (Some (record { file = f; within = p })) (holder fs (p - length f.area)))) (sym (not_less p (length f.area) h)) (rest h)

start_from : (n : ℕ) (fs : List Headed) (p : ℕ) (rs : List Placed) → AllFrom n fs → Stand fs p rs → AllByRecursion (λ r. n ≤ r.file) (map (located fs) rs)
start_from n fs p [] a s = tt
start_from n fs p (r ∷ rs) a s =
    let fits = record_fits fs p r.what s.1 in
    (number_from n fs r.at a (omega (arith, fits.0, fits.1, s.0)), start_from n fs r.after rs a s.3)

stands : (oldest : Bool) (e : List Headed) → Stand e (begin_place oldest e) (epoch_reading oldest e)
stands oldest e = records_stand e (length (stream e) / 128) (begin_place oldest e)

reads_from : (n : ℕ) (oldest : Bool) (es : List (List Headed)) → AllByRecursion (AllFrom n) es → AllByRecursion (λ r. n ≤ r.file) (reads_of oldest es)
reads_from n oldest [] a = tt
reads_from n oldest (e ∷ es) a =
    all_both (λ r. n ≤ r.file) (map (located e) (epoch_reading oldest e)) (reads_of false es) (start_from n e (begin_place oldest e) (epoch_reading oldest e) a.0 (stands oldest e)) (reads_from n false es a.1)

-- a record that starts in the first of the files, and ends there or later
abbrev StartsIn : ℕ → Read → Type 0
StartsIn n r = (r.file ≡ n) × (n ≤ r.end_file)

starts_in : (f : Headed) (fs : List Headed) (p : ℕ) (rs : List Placed) → AllFrom f.header.number (f ∷ fs) → AllByRecursion (λ r. r.at < length f.area) rs → Stand (f ∷ fs) p rs
    → AllByRecursion (StartsIn f.header.number) (map (located (f ∷ fs)) rs)
starts_in f fs p [] a b s = tt
starts_in f fs p (r ∷ rs) a b s =
    let fits = record_fits (f ∷ fs) p r.what s.1 in
    ((ap number_of (within f fs r.at b.0), number_from f.header.number (f ∷ fs) (r.after - 1) a (omega (arith, fits.0, fits.1, s.2))), starts_in f fs r.after rs a b.1 s.3)

-- in one file all start there
all_there : (f : Headed) (p : ℕ) (rs : List Placed) → Stand (f ∷ []) p rs → AllByRecursion (λ r. r.at < length f.area) rs
all_there f p [] s = tt
all_there f p (r ∷ rs) s =
    let fits = record_fits (f ∷ []) p r.what s.1 in
    let size = length-append f.area [] in
    (omega (arith, fits.0, fits.1, s.0, size), all_there f r.after rs s.3)

-- ---- the rid in force

rid_both : (rid : ℕ) (xs ys : List Placed) → rid_at_end rid (xs ++ ys) ≡ rid_at_end (rid_at_end rid xs) ys
rid_both rid [] ys = refl
rid_both rid (x ∷ xs) ys = rid_both (cond (is_enqueue x.what.kind) x.what.rid rid) xs ys

rid_moved : (rid n : ℕ) (rs : List Placed) → rid_at_end rid (all_moved n rs) ≡ rid_at_end rid rs
rid_moved rid n [] = refl
rid_moved rid n (r ∷ rs) = rid_moved (cond (is_enqueue r.what.kind) r.what.rid rid) n rs

-- ---- both parts of a reading

-- the records that start in the oldest file, and the reading of the journal without it
pub record Parted (kind : JournalKind) (name : List ℕ) (f g : Headed) (fs : List Headed) : Type 0 where
  pub front : List Read
  pub is : journal_reading (run kind name (f ∷ g ∷ fs)) ≡ front ++ journal_reading (run kind name (g ∷ fs))
  pub start : AllByRecursion (λ r. (r.file ≡ f.header.number) × (f.header.number ≤ r.end_file)) front
  pub rid_is : g.header.rid ≡ rid_of_reads f.header.rid front
  pub whole : IsWhole (run kind name (g ∷ fs))

module _ (kind : JournalKind) (name : List ℕ) (f g : Headed) (fs : List Headed) (w : IsWhole (run kind name (f ∷ g ∷ fs))) where
  abbrev n : ℕ
  n = f.header.number

  r : Runs g (epochs (g ∷ fs))
  r = runs g fs

  from : AllFrom n (f ∷ g ∷ fs)
  from = (omega arith, all_by (λ x. n < x.header.number) (λ x. n ≤ x.header.number) (λ x l. omega (arith, l)) (g ∷ fs) (numbers_rise f (g ∷ fs) w.rules.chain))

  -- what is left is whole where its epochs are
  left_whole : AllEnd true g.header.rid ((g ∷ r.more) ∷ r.rest) → IsWhole (run kind name (g ∷ fs))
  left_whole a =
      let parts = end_all true g.header.rid ((g ∷ r.more) ∷ r.rest) a in
      record {
        places = w.places.1;
        rules = record {
          chain = (next_ok (next_claims f g) (chain_claims (g ∷ fs)) w.rules.chain).1;
          reading = ap (epochs_claims true g.header.rid) r.is ∙ parts.0;
        };
        past = ap (past_in true) r.is ∙ parts.1;
      }

  -- ---- the first epoch has more files

  module _ (both : epochs (f ∷ g ∷ fs) ≡ (f ∷ g ∷ r.more) ∷ r.rest) where
    abbrev own : List Headed
    own = f ∷ g ∷ r.more

    all : AllEnd true f.header.rid (own ∷ r.rest)
    all = subst (AllEnd true f.header.rid) both (all_end true f.header.rid (epochs (f ∷ g ∷ fs)) w.rules.reading w.past)

    one : HaveEpoch f.header.epoch own
    one = (subst (AllByRecursion IsRun) both (all_runs (f ∷ g ∷ fs))).0

    first_run : IsWholeRun (run kind name own)
    first_run = record {
      epoch = f.header.epoch;
      one = one;
      places = (subst (AllByRecursion (AllByRecursion HasPlaces)) both (All-epochs HasPlaces (f ∷ g ∷ fs) w.places)).0;
      rules = record {
        chain = first_in_row f (g ∷ fs) w.rules.chain (g ∷ r.more) r.rest both;
        reading = ap (epochs_claims true f.header.rid) (one_run f.header.epoch f (g ∷ r.more) one) ∙ all.0;
      };
      past = ap (past_in true) (one_run f.header.epoch f (g ∷ r.more) one) ∙ all.1;
    }

    abbrev p : Left f (g ∷ r.more)
    p = parted kind name f g r.more first_run

    v : IsWholeRun (run kind name (g ∷ r.more))
    v = whole_without kind name f g r.more first_run

    rid_same : rid_at_end f.header.rid (epoch_reading true own) ≡ rid_at_end g.header.rid (epoch_reading true (g ∷ r.more))
    rid_same =
        ap (rid_at_end f.header.rid) p.is ∙ rid_both f.header.rid p.front (all_moved (length f.area) p.reads) ∙ rid_moved (rid_at_end f.header.rid p.front) (length f.area) p.reads
        ∙ (λ i. rid_at_end (sym (next_rid_is kind name f g r.more first_run) i) (sym p.reading i))

    left_ends : AllEnd true g.header.rid ((g ∷ r.more) ∷ r.rest)
    left_ends = (
      sym (ap (epochs_claims true g.header.rid) (one_run v.epoch g r.more v.one)) ∙ v.rules.reading,
      sym (ap (past_in true) (one_run v.epoch g r.more v.one)) ∙ v.past,
      subst (λ k. AllEnd false k r.rest) rid_same all.2,
    )

    abbrev front : List Read
    front = map (located own) p.front

    first_reads : map (located own) (epoch_reading true own) ≡ front ++ map (located (g ∷ r.more)) (epoch_reading true (g ∷ r.more))
    first_reads =
        sym (reading_of_run f.header.epoch kind name own one (omega arith)) ∙ reading_all kind name f g r.more first_run
        ∙ ap (λ (rs : List Read). front ++ rs) (reading_of_run v.epoch kind name (g ∷ r.more) v.one (omega arith))

    parted_more : Parted kind name f g fs
    parted_more = record {
      front = front;
      is =
          ap (reads_of true) both ∙ ap (λ (rs : List Read). rs ++ reads_of false r.rest) first_reads
          ∙ append_assoc front (map (located (g ∷ r.more)) (epoch_reading true (g ∷ r.more))) (reads_of false r.rest) ∙ ap (λ (rs : List Read). front ++ rs) (ap (reads_of true) (sym r.is));
      start = starts_in f (g ∷ r.more) (first_place own) p.front (subst (AllByRecursion (AllFrom n)) both (All-epochs (λ x. n ≤ x.header.number) (f ∷ g ∷ fs) from)).0 p.before p.stand_front;
      rid_is = next_rid_is kind name f g r.more first_run ∙ sym (rid_of_located own f.header.rid p.front);
      whole = left_whole left_ends;
    }

  -- ---- the oldest file is the only one of its epoch

  module _ (apart : epochs (f ∷ g ∷ fs) ≡ (f ∷ []) ∷ (g ∷ r.more) ∷ r.rest) where
    abbrev next : List Headed
    next = g ∷ r.more

    abbrev R : List Placed
    R = epoch_reading true (f ∷ [])

    abbrev rid : ℕ
    rid = rid_at_end f.header.rid R

    ends : AllEnd true f.header.rid ((f ∷ []) ∷ next ∷ r.rest)
    ends = subst (AllEnd true f.header.rid) apart (all_end true f.header.rid (epochs (f ∷ g ∷ fs)) w.rules.reading w.past)

    become : AsOldest rid g r.more
    become =
        as_oldest rid g r.more w.places.1.0.some true
        (next_ok (each (file_claims false true rid next (epoch_reading false next)) (spread 0 next)) (end_claim false true rid next (epoch_reading false next) next) ends.2.0).0

    begin : first_place next ≡ 0
    begin = begins_at_once g r.more become.first

    next_one : HaveEpoch g.header.epoch next
    next_one = (subst (AllByRecursion IsRun) apart (all_runs (f ∷ g ∷ fs))).1.0

    next_ends : AllEnd true g.header.rid (next ∷ r.rest)
    next_ends = (
      sym (ap (epochs_claims true g.header.rid) (one_run g.header.epoch g r.more next_one)) ∙ rules_kept g.header.epoch kind name next next_one become.keep,
      (λ i. after_end (end_from (begin i) (reads_the_same next begin i)) next) ∙ ends.2.1,
      subst (λ k. AllEnd false k r.rest) (λ i. rid_at_end (sym become.rid_is i) (sym (reads_the_same next begin) i)) ends.2.2,
    )

    parted_alone : Parted kind name f g fs
    parted_alone = record {
      front = map (located (f ∷ [])) R;
      is =
          ap (reads_of true) apart ∙ ap (λ (rs : List Placed). map (located (f ∷ [])) R ++ (map (located next) rs ++ reads_of false r.rest)) (sym (reads_the_same next begin))
          ∙ ap (λ (rs : List Read). map (located (f ∷ [])) R ++ rs) (ap (reads_of true) (sym r.is));
      start = starts_in f [] (first_place (f ∷ [])) R (omega arith, tt) (all_there f (first_place (f ∷ [])) R (stands true (f ∷ []))) (stands true (f ∷ []));
      rid_is = become.rid_is ∙ sym (rid_of_located (f ∷ []) f.header.rid R);
      whole = left_whole next_ends;
    }

  pub part : Parted kind name f g fs
  part = by (eqb f.header.epoch g.header.epoch) refl
    where
      by : (b : Bool) → eqb f.header.epoch g.header.epoch ≡ b → Parted kind name f g fs
      by true e = parted_more (ap (onto_epoch f) r.is ∙ ap (λ b. cond b ((f ∷ g ∷ r.more) ∷ r.rest) ((f ∷ []) ∷ (g ∷ r.more) ∷ r.rest)) e)
      by false e = parted_alone (ap (onto_epoch f) r.is ∙ ap (λ b. cond b ((f ∷ g ∷ r.more) ∷ r.rest) ((f ∷ []) ∷ (g ∷ r.more) ∷ r.rest)) e)

  -- what is left starts in later files
  starts_later : AllByRecursion (λ x. suc n ≤ x.file) (journal_reading (run kind name (g ∷ fs)))
  starts_later =
      reads_from (suc n) true (epochs (g ∷ fs))
      (All-epochs (λ x. suc n ≤ x.header.number) (g ∷ fs) (all_by (λ x. n < x.header.number) (λ x. suc n ≤ x.header.number) (λ x l. omega (arith, l)) (g ∷ fs) (numbers_rise f (g ∷ fs) w.rules.chain)))

-- ---- the laws

none_there : (n : ℕ) (rs : List Read) → AllByRecursion (StartsIn n) rs → filter (starts_elsewhere n) rs ≡ []
none_there n [] a = refl
none_there n (r ∷ rs) a = ap (λ b. cond (not b) (r ∷ filter (starts_elsewhere n) rs) (filter (starts_elsewhere n) rs)) (same r.file n a.0.0) ∙ none_there n rs a.1

all_elsewhere : (n : ℕ) (rs : List Read) → AllByRecursion (λ r. suc n ≤ r.file) rs → filter (starts_elsewhere n) rs ≡ rs
all_elsewhere n [] a = refl
all_elsewhere n (r ∷ rs) a =
    ap (λ b. cond (not b) (r ∷ filter (starts_elsewhere n) rs) (filter (starts_elsewhere n) rs)) (differs n r.file (omega (arith, a.0))) ∙ ap (λ (xs : List Read). r ∷ xs) (all_elsewhere n rs a.1)

pub returned_is_whole : (j : Journal) → 1 < length j.files → IsWhole j → IsWhole (without_oldest j)
returned_is_whole j = by j.files
  where
    by : (fs : List Headed) → 1 < length fs → IsWhole (run j.kind j.name fs) → IsWhole (run j.kind j.name (drop 1 fs))
    by [] some w = absurd (omega (arith, some))
    by (f ∷ []) some w = absurd (omega (arith, some))
    by (f ∷ g ∷ fs) some w = (part j.kind j.name f g fs w).whole

pub returned_reads : (j : Journal) → 1 < length j.files → IsWhole j → journal_reading (without_oldest j) ≡ filter (starts_elsewhere (oldest_number j.files)) (journal_reading j)
returned_reads j = by j.files
  where
    two : (f g : Headed) (fs : List Headed) → IsWhole (run j.kind j.name (f ∷ g ∷ fs))
        → journal_reading (run j.kind j.name (g ∷ fs)) ≡ filter (starts_elsewhere f.header.number) (journal_reading (run j.kind j.name (f ∷ g ∷ fs)))
    two f g fs w =
        let n = f.header.number in
        let p = part j.kind j.name f g fs w in
        let K = journal_reading (run j.kind j.name (g ∷ fs)) in
        sym (
        ap (filter (starts_elsewhere n)) p.is ∙ filter-append (starts_elsewhere n) p.front K
        ∙ ap₂ (λ (x y : List Read). x ++ y) (none_there n p.front p.start) (all_elsewhere n K (starts_later j.kind j.name f g fs w))
        )

    by : (fs : List Headed) → 1 < length fs → IsWhole (run j.kind j.name fs) → journal_reading (run j.kind j.name (drop 1 fs)) ≡ filter (starts_elsewhere (oldest_number fs)) (journal_reading (run j.kind j.name fs))
    by [] some w = absurd (omega (arith, some))
    by (f ∷ []) some w = absurd (omega (arith, some))
    by (f ∷ g ∷ fs) some w = two f g fs w
