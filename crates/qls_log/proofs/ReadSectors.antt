-- What is read of a log lies in sectors that were written.
use Rattle.std.proofs.Common.{◌≡◌, ℕ, zero, suc, ◌+◌, ◌-◌, ◌*◌, ◌/◌, ◌<◌, ◌≤◌, Bool, true, false, cond, nat_le, nat_lt, List, [], ◌∷◌, ◌++◌, map, length, take, ◌==◌, Option, Some, None, refl, sym, ap, ap₂, ◌∙◌, subst, arith, append-nil}
use Rattle.std.proofs.Math.Seq.{take-append_seam}
use Rattle.std.proofs.lemmas.Bool.Decides.{nat_tests}
use Rattle.std.specs.List.{AllByRecursion}
use Rattle.qls_record.specs.Record.{Record}
use Rattle.qls_meaning.specs.Chance.{EachPlace, SpellsWritten, WrittenAt, places}
use Rattle.qls_meaning.specs.History.{History, FreeArea, now, is_unwritten}
use Rattle.qls_meaning.specs.Journals.{Headed, epochs}
use Rattle.qls_meaning.specs.Reading.{Placed, Read, holder, stream, record_in, length_in, end_from, begin_place, epoch_reading, epoch_end}
use Rattle.qls_laws.specs.Readings.{Stand}
use Rattle.qls_laws.proofs.Claimed.{one_run}
use Rattle.qls_laws.proofs.Seen.{All-epochs}
use Rattle.qls_epochs.proofs.Turns.{runs}
use Rattle.qls_blocks.proofs.Stream.{holder-behind}
use Rattle.qls_laws.proofs.Ends.{record_in-epoch_end}
use Rattle.qls_laws.proofs.Reaches.{records_stand, stand_end}
use Rattle.qls_pool.specs.Files.{HeadedFile}
use Rattle.qls_log.specs.Logs.{LogState, IsSound, capacity_in}
use Rattle.qls_log.specs.Reads.{IsRead}
use Rattle.qls_log.specs.Standing.{IsThatFile, AreThoseFiles, LogThere, files_on, end_of}
use Rattle.qls_log.specs.Unwritten.{IsFreeFrom, AreWrittenTo, IsWrittenTo}
use Rattle.qls_log.proofs.Older.{Halves, halves, Apart, apart_by, is_oldest, not_none, epochs_both}

-- ---- the sector of a byte

past_header : (q : ℕ) → 4096 ≤ 512 * ((4096 + q) / 512)
past_header q = omega arith

in_sector : (q : ℕ) → 512 * ((4096 + q) / 512) ≤ 4096 + q
in_sector q = omega arith

not_yet : (a b : ℕ) → b < a → nat_le a b ≡ false
not_yet a b l = grind (arith, nat_tests)

less_of : (p n : ℕ) → nat_lt p n ≡ true → p < n
less_of p n e = grind (arith, nat_tests, e)

least_of : (p n : ℕ) → nat_lt p n ≡ false → n ≤ p
least_of p n e = grind (arith, nat_tests, e)

one_product : (n c : ℕ) → (suc n - 1) * c ≡ n * c
one_product n c = ap (λ k. k * c) (one n)
  where
    one : (k : ℕ) → suc k - 1 ≡ k
    one k = omega arith

next_product : (n c : ℕ) → suc n * c ≡ n * c + c
next_product n c = grind arith

module _ (areas : List FreeArea) (h : History) where
  byte_written : (cap to q id : ℕ) → IsFreeFrom areas h cap to id → q < to → q < cap → is_unwritten areas h id ((4096 + q) / 512) ≡ false
  byte_written cap to q id free before within =
      let k : ℕ = (4096 + q) / 512 in
      let low : 512 * k ≤ 4096 + q = in_sector q in
      free k (past_header q) (omega (arith, low, within)) ∙ not_yet (4096 + to) (512 * k) (omega (arith, low, before))

  -- each byte before the end of the batch was written
  held_written : (cap used : ℕ) (hs : List HeadedFile) (fs : List Headed) → used ≤ cap → AreThoseFiles cap hs fs → AreWrittenTo areas h cap used hs → (q : ℕ) → q < (length hs - 1) * cap + used → WrittenAt areas h (holder fs q)
  held_written cap used [] [] less t w q l = tt
  held_written cap used [] (f ∷ fs) less t w q l = absurd t
  held_written cap used (k ∷ hs) [] less t w q l = absurd t
  held_written cap used (k ∷ []) (f ∷ g ∷ fs) less t w q l = absurd t.1
  held_written cap used (k ∷ []) (f ∷ []) less t w q l =
      let before : q < used = omega (arith, l, one_product 0 cap) in
      by (nat_lt q (length f.area)) refl before
    where
      by : (b : Bool) → nat_lt q (length f.area) ≡ b → q < used → WrittenAt areas h (cond b (Some (record { file = f; within = q })) None)
      by true e before = ap (λ id. is_unwritten areas h id ((4096 + q) / 512)) t.0.id ∙ byte_written cap used q k.id w before (omega (arith, before, less))
      by false e before = tt
  held_written cap used (k ∷ j ∷ hs) (f ∷ []) less t w q l = absurd t.1
  held_written cap used (k ∷ j ∷ hs) (f ∷ g ∷ fs) less t w q l =
      by (nat_lt q (length f.area)) refl (λ e. held_written cap used (j ∷ hs) (g ∷ fs) less t.1 w.1 (q - length f.area) (moved e))
    where
      moved : nat_lt q (length f.area) ≡ false → q - length f.area < (length (j ∷ hs) - 1) * cap + used
      moved e =
          let past : length f.area ≤ q = least_of q (length f.area) e in
          let whole : q < suc (length hs) * cap + used = subst (λ n. q < n + used) (one_product (suc (length hs)) cap) l in
          let rest : (length (j ∷ hs) - 1) * cap ≡ length hs * cap = one_product (length hs) cap in
          omega (arith, past, whole, rest, next_product (length hs) cap, t.0.area)

      by : (b : Bool) → nat_lt q (length f.area) ≡ b → (nat_lt q (length f.area) ≡ false → WrittenAt areas h (holder (g ∷ fs) (q - length f.area)))
          → WrittenAt areas h (cond b (Some (record { file = f; within = q })) (holder (g ∷ fs) (q - length f.area)))
      by true e later =
          let within : q < cap = omega (arith, less_of q (length f.area) e, t.0.area) in
          ap (λ id. is_unwritten areas h id ((4096 + q) / 512)) t.0.id ∙ byte_written cap cap q k.id w.0 within within
      by false e later = later e

  -- ---- at each place of the reading

  some_is : (r s : Record) → ◌≡◌ {A = Option Record} (Some r) (Some s) → r ≡ s
  some_is r s e = cc

  none_some : (r : Record) → ◌≡◌ {A = Option Record} None (Some r) → ⊥
  none_some r e = cc

  places_written : (fs : List Headed) (limit : ℕ) → ((q : ℕ) → q < limit → WrittenAt areas h (holder fs q)) → (p : ℕ) (rs : List Placed) → Stand fs p rs → end_from p rs ≤ limit → record_in fs (end_from p rs) ≡ None
      → AllByRecursion (SpellsWritten areas h fs) (map (λ r. r.at) rs ++ end_from p rs ∷ [])
  places_written fs limit w p [] s l none = (λ r e q low high. absurd (none_some r (sym none ∙ e)), tt)
  places_written fs limit w p (r ∷ rs) s l none = (
    λ other e q low high.
        let here : record_in fs r.at ≡ Some r.what = ap (record_in fs) s.0 ∙ s.1 in
        let same : other ≡ r.what = some_is other r.what (sym e ∙ here) in
        let size : length_in fs r.at other ≡ length_in fs p r.what = (λ i. length_in fs (s.0 i) (same i)) in
        let behind : r.after ≤ end_from r.after rs = stand_end fs r.after rs s.3 in
        w q (omega (arith, high, size, s.2, s.0, behind, l)),
    places_written fs limit w r.after rs s.3 l none,
  )

-- ---- files that are written whole

module _ (areas : List FreeArea) (h : History) where
  -- so is each byte of the file
  abbrev IsWrittenWhole : Headed → Type 0
  IsWrittenWhole f = (q : ℕ) → q < length f.area → is_unwritten areas h f.id ((4096 + q) / 512) ≡ false

  whole_one : (cap to : ℕ) (k : HeadedFile) (f : Headed) → IsThatFile cap k f → IsFreeFrom areas h cap to k.id → cap ≤ to → IsWrittenWhole f
  whole_one cap to k f t free late q l = ap (λ id. is_unwritten areas h id ((4096 + q) / 512)) t.id ∙ byte_written areas h cap to q k.id free (omega (arith, l, late, t.area)) (omega (arith, l, t.area))

  -- the first files are, and the newest one too where it is full
  first_whole : (cap used n : ℕ) (hs : List HeadedFile) (fs : List Headed) → AreThoseFiles cap hs fs → AreWrittenTo areas h cap used hs → (length hs ≤ n → used ≡ cap) → AllByRecursion IsWrittenWhole (take n fs)
  first_whole cap used zero hs fs t w full = tt
  first_whole cap used (suc n) [] [] t w full = tt
  first_whole cap used (suc n) [] (f ∷ fs) t w full = absurd t
  first_whole cap used (suc n) (k ∷ hs) [] t w full = absurd t
  first_whole cap used (suc n) (k ∷ []) (f ∷ []) t w full = (whole_one cap used k f t.0 w (omega (arith, full (omega arith))), nothing n)
    where
      nothing : (n : ℕ) → AllByRecursion IsWrittenWhole (take n [])
      nothing zero = tt
      nothing (suc n) = tt
  first_whole cap used (suc n) (k ∷ []) (f ∷ g ∷ fs) t w full = absurd t.1
  first_whole cap used (suc n) (k ∷ j ∷ hs) (f ∷ []) t w full = absurd t.1
  first_whole cap used (suc n) (k ∷ j ∷ hs) (f ∷ g ∷ fs) t w full =
      (whole_one cap cap k f t.0 w.0 (omega arith), first_whole cap used n (j ∷ hs) (g ∷ fs) t.1 w.1 (λ less. full (omega (arith, less))))

  whole_holder : (fs : List Headed) → AllByRecursion IsWrittenWhole fs → (q : ℕ) → WrittenAt areas h (holder fs q)
  whole_holder [] w q = tt
  whole_holder (f ∷ fs) w q = by (nat_lt q (length f.area)) refl (whole_holder fs w.1 (q - length f.area))
    where
      by : (b : Bool) → nat_lt q (length f.area) ≡ b → WrittenAt areas h (holder fs (q - length f.area)) → WrittenAt areas h (cond b (Some (record { file = f; within = q })) (holder fs (q - length f.area)))
      by true e rest = w.0 q (less_of q (length f.area) e)
      by false e rest = rest

  epoch_written : (oldest : Bool) (fs : List Headed) (limit : ℕ) → ((q : ℕ) → q < limit → WrittenAt areas h (holder fs q)) → epoch_end oldest fs ≤ limit → AllByRecursion (SpellsWritten areas h fs) (places oldest fs)
  epoch_written oldest fs limit w low =
      places_written areas h fs limit w (begin_place oldest fs) (epoch_reading oldest fs) (records_stand fs (length (stream fs) / 128) (begin_place oldest fs)) low (record_in-epoch_end oldest fs)

  all_written : (oldest : Bool) (es : List (List Headed)) → AllByRecursion (AllByRecursion IsWrittenWhole) es → EachPlace (SpellsWritten areas h) oldest es
  all_written oldest [] w = tt
  all_written oldest (e ∷ es) w = (epoch_written oldest e (epoch_end oldest e) (λ q l. whole_holder e w.0 q) (omega arith), all_written false es w.1)

  -- and then the epoch of this opening
  then_written : (oldest : Bool) (d : List Headed) (es : List (List Headed)) (own : List Headed) → EachPlace (SpellsWritten areas h) oldest (d ∷ es) → AllByRecursion (SpellsWritten areas h own) (places false own)
      → EachPlace (SpellsWritten areas h) oldest ((d ∷ es) ++ own ∷ [])
  then_written oldest d [] own w last = (w.0, (last, tt))
  then_written oldest d (c ∷ es) own w last = (w.0, then_written false c es own w.1 last)

  both_written : (e : ℕ) (past own : List Headed) → Apart e past own → AllByRecursion IsWrittenWhole past → AllByRecursion (SpellsWritten areas h own) (places (is_oldest past) own) → EachPlace (SpellsWritten areas h) true (epochs (past ++ own))
  both_written e [] [] a w last = tt
  both_written e [] (g ∷ gs) a w last = subst (EachPlace (SpellsWritten areas h) true) (sym (one_run e g gs a.one)) (last, tt)
  both_written e (f ∷ fs) [] a w last = subst (λ (xs : List Headed). EachPlace (SpellsWritten areas h) true (epochs xs)) (sym (append-nil (f ∷ fs))) (all_written true (epochs (f ∷ fs)) (All-epochs IsWrittenWhole (f ∷ fs) w))
  both_written e (f ∷ fs) (g ∷ gs) a w last =
      let r = runs f fs in
      subst (EachPlace (SpellsWritten areas h) true) (sym (epochs_both e f fs g gs a ∙ ap (λ (es : List (List Headed)). es ++ (g ∷ gs) ∷ []) r.is))
      (then_written true (f ∷ r.more) r.rest (g ∷ gs) (subst (EachPlace (SpellsWritten areas h) true) r.is (all_written true (epochs (f ∷ fs)) (All-epochs IsWrittenWhole (f ∷ fs) w)))
      (subst (λ b. AllByRecursion (SpellsWritten areas h (g ∷ gs)) (places b (g ∷ gs))) (not_none (length fs)) last))

-- ---- a log

pub read_is_written : (areas : List FreeArea) (h : History) (l : LogState) (reads : List Read) → IsSound l → LogThere l (now h).disk → IsRead l reads (now h).disk → IsWrittenTo areas h l
    → EachPlace (SpellsWritten areas h) true (epochs (files_on l.opening (now h).disk))
read_is_written areas h l reads sound there r w =
    let cap : ℕ = capacity_in l.opening in
    let fs : List Headed = files_on l.opening (now h).disk in
    let s : Halves cap l.older l.files fs = halves cap l.older l.files fs sound.older there.there.files in
    let ends : l.older * cap + epoch_end (l.older == 0) s.own ≡ end_of l = ap (λ (gs : List Headed). l.older * cap + epoch_end (l.older == 0) gs) (sym s.rest) ∙ r.ends in
    let past : AllByRecursion (IsWrittenWhole areas h) s.past =
    subst (AllByRecursion (IsWrittenWhole areas h)) (ap₂ (λ n (gs : List Headed). take n gs) (sym s.count) s.is ∙ take-append_seam s.past s.own)
    (first_whole areas h cap l.used l.older l.files fs there.there.files w.written (λ less. sound.full (omega (arith, less, sound.older)))) in
    let own : AllByRecursion (SpellsWritten areas h s.own) (places (is_oldest s.past) s.own) =
    epoch_written areas h (is_oldest s.past) s.own (epoch_end (l.older == 0) s.own)
    (λ q less. subst (WrittenAt areas h) (ap (λ (gs : List Headed). holder gs (length (stream s.past) + q)) s.is ∙ holder-behind s.past s.own q)
    (held_written areas h cap l.used l.files fs sound.used.1 there.there.files w.written (length (stream s.past) + q) (omega (arith, s.size, ends, less))))
    (subst (λ n. epoch_end (n == 0) s.own ≤ epoch_end (l.older == 0) s.own) (sym s.count) (omega arith)) in
    subst (λ (gs : List Headed). EachPlace (SpellsWritten areas h) true (epochs gs)) (sym s.is)
    (both_written areas h l.opening.epoch s.past s.own (apart_by l cap sound s.past s.own s.those_past s.those_own) past own)
