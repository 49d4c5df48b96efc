-- What is read behind a batch.
use Rattle.std.proofs.Common.{◌≡◌, ◌⊎◌, inl, inr, ℕ, zero, suc, ◌+◌, ◌-◌, ◌*◌, ◌%◌, ◌/◌, ◌^◌, ◌<◌, ◌≤◌, Bool, true, false, cond, ◌&&◌, ◌||◌, ◌==◌, eqb, ltb, nat_le, List, [], ◌∷◌, ◌++◌, map, length, take, drop, Option, Some, None, IfSome, IsTrue, refl, sym, ap, ap₂, ◌∙◌, subst, arith, length-append, append_assoc, append-nil, take-take}
use Rattle.std.proofs.Math.Seq.{drop-append_seam}
use Rattle.std.proofs.lemmas.List.{map-append, drop-append-le}
use Rattle.std.specs.List.{AllByRecursion}
use Rattle.qls_shape.specs.declared.Version.TheVariants.{Two}
use Rattle.qls_record.specs.Record.{Record, record_length, is_legal}
use Rattle.qls_site.specs.Content.{Moment, Content, Tells, moments_since}
use Rattle.qls_filehdr.specs.declared.FileHeader.{FileHeader}
use Rattle.qls_filehdr.specs.Limits.{is_legal_header}
use Rattle.std.proofs.lemmas.Bool.{and_parts}
use Rattle.qls_model.specs.Limits.{file_size}
use Rattle.qls_meaning.specs.Damage.{first_in}
use Rattle.qls_blocks.specs.Plans.{plan_of, fresh_file, fresh_count, starts}
use Rattle.qls_pool.proofs.Disks.{eqb_is}
use Rattle.qls_filehdr.proofs.HeaderTrip.{legal_parts, most_of}
use Rattle.qls_meaning.specs.Journals.{Headed, epochs}
use Rattle.qls_meaning.specs.Reading.{Placed, Read, stream, record_in, end_from, first_place, begin_place, epoch_reading, epoch_end, located, reads_of, journal_reading}
use Rattle.qls_meaning.specs.History.{AllUnmarked}
use Rattle.qls_meaning.specs.Orderly.{journal_on}
use Rattle.qls_laws.specs.Readings.{Stand, AgreeUpTo}
use Rattle.qls_laws.specs.Areas.{IsUnmarkedAt}
use Rattle.qls_laws.proofs.Reaches.{records_stand, stand_there, stand_end}
use Rattle.qls_laws.proofs.Unmarked.{none_unmarked}
use Rattle.qls_blocks.specs.declared.plan.FreshFile.{FreshFile}
use Rattle.qls_blocks.specs.Batching.{length_of, laid_from, places_from, block_length, with_fillers}
use Rattle.qls_blocks.specs.Laws.{HaveCapacity}
use Rattle.qls_blocks.proofs.Spelling.{length-spelled_over}
use Rattle.qls_pool.specs.Pools.{PoolState}
use Rattle.qls_pool.specs.Files.{HeadedFile, IsPoolOf, OnDisk}
use Rattle.qls_log.specs.declared.opening.Opening.{Opening}
use Rattle.qls_log.specs.Logs.{LogState, IsSound, IsOfOpening, IsOfJournal, AreHeaded, NumberedFrom, capacity_in, ids, serials}
use Rattle.qls_log.specs.Taking.{TakesFiles}
use Rattle.qls_log.specs.Writing.{WritesAll, with_parts, with_write}
use Rattle.qls_log.specs.Standing.{files_on, end_of, AreThoseFiles, LogThere, LastIsUnmarked}
use Rattle.qls_log.specs.Appending.{from_newest, batch_bytes, written_files, written_place}
use Rattle.qls_log.specs.Reads.{IsRead, ReadsOn, batch_reads, read_in}
use Rattle.qls_log.proofs.Gains.{LastUnmarked, unmarked_front}
use Rattle.qls_log.proofs.Laid.{those_length}
use Rattle.qls_log.proofs.Appends.{those_split, same_heads, all_capacity, all_drop, end_laid, cut_last, what_laid}
use Rattle.qls_log.proofs.Shifted.{stream_both, record_behind, stand_back, located_behind, laid_moved, agree_behind, reading_by}
use Rattle.qls_log.proofs.Older.{Onward, onward, Apart, apart_by, is_oldest, older_before, those_count, those_epoch, reading_both}
use Rattle.qls_log.proofs.Appended.{sound_capacity, tail_length}
use Rattle.qls_log.proofs.Stands.{Lies, lies, new_end}
use Rattle.qls_log.proofs.Streams.{HaveSameHeads, stand_append, end_append}
use Rattle.qls_laws.proofs.Leftover.{all_moved}
use Rattle.qls_log.proofs.Places.{CountFrom, FirstFits, first_again, all_located, count_of, laid_located, later_unmarked, unmarked_again, unmarked_end}

-- ---- the records of a batch

less : (p s : ℕ) → p < s → ltb p s ≡ true
less p s h = grind arith

what_read : (cap present : ℕ) (ps : List Placed) → map (λ r. r.what) (map (read_in cap present) ps) ≡ map (λ r. r.what) ps
what_read cap present [] = refl
what_read cap present (p ∷ ps) = ap (λ (rs : List Record). p.what ∷ rs) (what_read cap present ps)

pub batch_whats : (l : LogState) (rs : List Record) → map (λ r. r.what) (batch_reads l rs) ≡ with_fillers rs
batch_whats l rs = what_read (capacity_in l.opening) l.newest (laid_from l.used (with_fillers rs)) ∙ what_laid l.used (with_fillers rs)

-- ---- the first place of the file behind a full one

abbrev pub BeginsAtFront : List HeadedFile → Type 0
BeginsAtFront [] = Unit {0}
BeginsAtFront (h ∷ hs) = h.header.first ≡ 4096

-- the first place that was planned for the first of these files
abbrev leading : List FreshFile → ℕ
leading [] = 4096
leading (f ∷ fs) = f.first

not_less : (p s : ℕ) → s ≤ p → ltb p s ≡ false
not_less p s h = grind arith

first_front : (cap : ℕ) (ps : List ℕ) → 0 < cap → first_in cap cap (cap ∷ ps) ≡ 4096
first_front cap ps some =
    ap (λ b. cond b (first_in cap cap ps) (cond (ltb cap (cap + cap)) (4096 + (cap - cap)) 0)) (not_less cap cap (omega arith))
    ∙ ap (λ b. cond b (4096 + (cap - cap)) 0) (less cap (cap + cap) (omega (arith, some))) ∙ omega arith

planned_front : (cap rid : ℕ) (ws : List Record) (n : ℕ) → 0 < cap → leading (map (fresh_file cap rid cap ws) (starts cap cap n)) ≡ 4096
planned_front cap rid ws zero some = refl
planned_front cap rid [] (suc n) some = first_front cap [] some
planned_front cap rid (r ∷ ws) (suc n) some = first_front cap (places_from (cap + record_length Two r) ws) some

headed_front : (o : Opening) (n : ℕ) (fs : List FreshFile) (taken : List HeadedFile) → AreHeaded o n fs taken → leading fs ≡ 4096 → BeginsAtFront taken
headed_front o n [] [] t e = tt
headed_front o n [] (h ∷ taken) t e = absurd t
headed_front o n (f ∷ fs) [] t e = tt
headed_front o n (f ∷ fs) (h ∷ taken) t e = ap (λ (x : FileHeader). x.first) t.0 ∙ e

planned_leads : (l : LogState) (rs : List Record) (fs : List FreshFile) → 0 < capacity_in l.opening → fs ≡ (plan_of rs l.used (capacity_in l.opening) l.rid).fresh → l.used ≡ capacity_in l.opening → leading fs ≡ 4096
planned_leads l rs fs some is full =
    ap leading is ∙ ap (λ used. leading (plan_of rs used (capacity_in l.opening) l.rid).fresh) full
    ∙ planned_front (capacity_in l.opening) l.rid (with_fillers rs) (fresh_count (capacity_in l.opening) (capacity_in l.opening + block_length (length_of rs))) some

pub begins_at_front : (l : LogState) (rs : List Record) (fs : List FreshFile) (taken : List HeadedFile) → 0 < capacity_in l.opening → AreHeaded l.opening l.newest fs taken
    → fs ≡ (plan_of rs l.used (capacity_in l.opening) l.rid).fresh → l.used ≡ capacity_in l.opening → BeginsAtFront taken
begins_at_front l rs fs taken some t is full = headed_front l.opening l.newest fs taken t (planned_leads l rs fs some is full)

leading_take : (k : ℕ) (fs : List FreshFile) → leading fs ≡ 4096 → leading (take k fs) ≡ 4096
leading_take zero fs e = refl
leading_take (suc k) [] e = e
leading_take (suc k) (f ∷ fs) e = e

-- so do the first of the planned files
pub first_begin_at_front : (l : LogState) (rs : List Record) (fs : List FreshFile) (k : ℕ) (taken : List HeadedFile) → 0 < capacity_in l.opening → AreHeaded l.opening l.newest (take k fs) taken
    → fs ≡ (plan_of rs l.used (capacity_in l.opening) l.rid).fresh → l.used ≡ capacity_in l.opening → BeginsAtFront taken
first_begin_at_front l rs fs k taken some t is full = headed_front l.opening l.newest (take k fs) taken t (leading_take k fs (planned_leads l rs fs some is full))

pub first_of_front : (cap : ℕ) (taken : List HeadedFile) (more : List Headed) → AreThoseFiles cap taken more → BeginsAtFront taken → first_place more ≡ 0
first_of_front cap [] [] t b = refl
first_of_front cap [] (f ∷ more) t b = absurd t
first_of_front cap (h ∷ taken) [] t b = absurd t
first_of_front cap (h ∷ taken) (f ∷ more) t b =
    ap (λ k. cond (eqb k 0) (length f.area + first_place more) (k - 4096)) (ap (λ (x : FileHeader). x.first) t.0.header ∙ b)

-- ---- moments

parts_moments : (cap : ℕ) (own : List ℕ) (at : ℕ) (bytes : List ℕ) (c : Content) → (xs : List Moment) × ((with_parts cap own at bytes c).moments ≡ c.moments ++ xs)
parts_moments cap [] at bytes c = ([], sym (append-nil c.moments))
parts_moments cap (id ∷ own) at bytes c =
    let one : Content = with_write id (4096 + at) (take (cap - at) bytes) c in
    let rest = parts_moments cap own 0 (drop (cap - at) bytes) one in
    (one.now ∷ rest.0, rest.1 ∙ append_assoc c.moments (one.now ∷ []) rest.0)

-- the moments of the call: those of the files that were taken, and those of the writes
pub record Added (a b : Content) (since : List Moment) : Type 0 where
  pub writes : List Moment
  pub all : b.moments ≡ a.moments ++ (since ++ writes)
  pub added : moments_since a b ≡ since ++ writes

pub added_by : (cap : ℕ) (own : List ℕ) (at : ℕ) (bytes : List ℕ) (a mid b : Content) (since : List Moment) → mid.moments ≡ a.moments ++ since → b ≡ with_parts cap own at bytes mid → Added a b since
added_by cap own at bytes a mid b since e w =
    let more = parts_moments cap own at bytes mid in
    let all : b.moments ≡ a.moments ++ (since ++ more.0) =
    ap (λ (c : Content). c.moments) w ∙ more.1 ∙ ap (λ (ms : List Moment). ms ++ more.0) e ∙ append_assoc a.moments since more.0 in
    record { writes = more.0; all = all; added = ap (drop (length a.moments)) all ∙ drop-append_seam a.moments (since ++ more.0) }

-- a call within a call: what was unmarked in all is in the first
pub unmarked_first : (a mid b : Content) (more : List Moment) → mid.moments ≡ a.moments ++ moments_since a mid → b.moments ≡ mid.moments ++ more → AllUnmarked a.now (moments_since a b) → AllUnmarked a.now (moments_since a mid)
unmarked_first a mid b more e w u =
    let all : b.moments ≡ a.moments ++ (moments_since a mid ++ more) = w ∙ ap (λ (ms : List Moment). ms ++ more) e ∙ append_assoc a.moments (moments_since a mid) more in
    unmarked_front a.now (moments_since a mid) more (subst (AllUnmarked a.now) (ap (drop (length a.moments)) all ∙ drop-append_seam a.moments (moments_since a mid ++ more)) u)

-- ---- the files

last_zero : (c : Headed) (cs : List Headed) → LastUnmarked (c ∷ cs) → LastIsUnmarked 0 (c ∷ cs)
last_zero c [] u = λ unit from room. u unit room
last_zero c (d ∷ cs) u = last_zero d cs u

last_came : (fs : List Headed) (c : Headed) (cs : List Headed) → LastUnmarked (c ∷ cs) → LastIsUnmarked 0 (fs ++ c ∷ cs)
last_came [] c cs u = last_zero c cs u
last_came (f ∷ []) c cs u = last_zero c cs u
last_came (f ∷ g ∷ fs) c cs u = last_came (g ∷ fs) c cs u

last_mid : (cap used now : ℕ) (fs : List Headed) (taken : List HeadedFile) (came : List Headed) → AreThoseFiles cap taken came → LastIsUnmarked used fs → LastUnmarked came → (length taken ≡ 0 → used ≤ now) → LastIsUnmarked now (fs ++ came)
last_mid cap used now fs [] [] t k u h = subst (LastIsUnmarked now) (sym (append-nil fs)) (later_unmarked used now fs (h refl) k)
last_mid cap used now fs [] (c ∷ cs) t k u h = absurd t
last_mid cap used now fs (h ∷ taken) [] t k u low = absurd t
last_mid cap used now fs (h ∷ taken) (c ∷ cs) t k u low = later_unmarked 0 now (fs ++ c ∷ cs) (omega arith) (last_came fs c cs u)

pub those_serials : (cap : ℕ) (hs : List HeadedFile) (fs : List Headed) → AreThoseFiles cap hs fs → AllByRecursion (λ h. IsTrue (is_legal_header h.header)) hs → AllByRecursion (λ f. f.header.serial < 2 ^ 64) fs
those_serials cap [] [] t legal = tt
those_serials cap [] (f ∷ fs) t legal = absurd t
those_serials cap (h ∷ hs) [] t legal = absurd t
those_serials cap (h ∷ hs) (f ∷ fs) t legal =
    (subst (λ (x : FileHeader). x.serial < 2 ^ 64) (sym t.0.header) (legal_parts h.header legal.0).serial, those_serials cap hs fs t.1 legal.1)

or_cases : (a b : Bool) → (a || b) ≡ true → (a ≡ true) ⊎ (b ≡ true)
or_cases true b e = inl refl
or_cases false b e = inr e

first_fits : (o : Opening) (h : HeadedFile) → IsTrue (is_legal_header h.header) → IsOfJournal o h → (h.header.first ≡ 0) ⊎ (h.header.first - 4096 < capacity_in o)
first_fits o h legal own =
    by (or_cases (h.header.first == 0) (nat_le 4096 h.header.first && nat_le (h.header.first + 128) (file_size h.header.kib) && h.header.first % 128 == 0) (legal_parts h.header legal).first)
  where
    kib : h.header.kib ≡ o.home.kib
    kib = ap (λ (x : FileHeader). x.kib) own

    by : ((h.header.first == 0) ≡ true) ⊎ ((nat_le 4096 h.header.first && nat_le (h.header.first + 128) (file_size h.header.kib) && h.header.first % 128 == 0) ≡ true)
        → (h.header.first ≡ 0) ⊎ (h.header.first - 4096 < capacity_in o)
    by (inl e) = inl (eqb_is h.header.first 0 e)
    by (inr e) =
        let parts = and_parts _ _ (and_parts _ _ e).0 in
        let past : 4096 ≤ h.header.first = most_of 4096 h.header.first parts.0 in
        let within : h.header.first + 128 ≤ file_size h.header.kib = most_of (h.header.first + 128) (file_size h.header.kib) parts.1 in
        inr (omega (arith, past, within, kib))

pub those_first : (cap : ℕ) (o : Opening) (hs : List HeadedFile) (fs : List Headed) → AreThoseFiles cap hs fs → AllByRecursion (λ h. IsTrue (is_legal_header h.header)) hs → AllByRecursion (IsOfJournal o) hs → FirstFits (capacity_in o) fs
those_first cap o [] [] t legal own = tt
those_first cap o [] (f ∷ fs) t legal own = absurd t
those_first cap o (h ∷ hs) [] t legal own = absurd t
those_first cap o (h ∷ hs) (f ∷ fs) t legal own = (
  subst (λ (x : FileHeader). (x.first ≡ 0) ⊎ (x.first - 4096 < capacity_in o)) (sym t.0.header) (first_fits o h legal.0 own.0),
  those_first cap o hs fs t.1 legal.1 own.1,
)

pub numbered_tail : (n newest : ℕ) (xs ys : List HeadedFile) → NumberedFrom n (xs ++ ys) newest → NumberedFrom (n + length xs) ys newest
numbered_tail n newest [] ys m = subst (λ k. NumberedFrom k ys newest) (omega arith) m
numbered_tail n newest (x ∷ xs) ys m = subst (λ k. NumberedFrom k ys newest) (omega arith) (numbered_tail (n + 1) newest xs ys m.1)

-- ---- the reading

module _ (l new : LogState) (sound : IsSound l) (again : IsSound new) (left : PoolState) (taken : List HeadedFile) (rs : List Record) (a mid b : Content)
    (those_old : AreThoseFiles (capacity_in l.opening) l.files (files_on l.opening a.now.disk)) (lies : Lies l taken rs left a mid b) (opening : new.opening ≡ l.opening)
    (files : new.files ≡ l.files ++ taken) (older : new.older ≡ l.older) (newest : new.newest ≡ l.newest + length taken) (end_is : end_of l + length_of (with_fillers rs) ≡ end_of new)
    (some : 0 < length_of (with_fillers rs)) (at_front : l.used ≡ capacity_in l.opening → BeginsAtFront taken) where
  abbrev cap : ℕ
  cap = capacity_in l.opening

  abbrev ws : List Record
  ws = with_fillers rs

  abbrev limit : ℕ
  limit = end_of l

  abbrev old_files : List Headed
  old_files = files_on l.opening a.now.disk

  abbrev mid_files : List Headed
  mid_files = files_on l.opening mid.now.disk

  abbrev new_files : List Headed
  new_files = files_on l.opening b.now.disk

  some_cap : 0 < cap
  some_cap = (sound_capacity l.opening sound.opening).0

  whole_blocks : cap % 4096 ≡ 0
  whole_blocks = (sound_capacity l.opening sound.opening).1

  those_new : AreThoseFiles cap (l.files ++ taken) new_files
  those_new = lies.laid.files.files

  pub those_own : AreThoseFiles cap new.files new_files
  those_own = subst (λ (hs : List HeadedFile). AreThoseFiles cap hs new_files) (sym files) those_new

  own_count : length new.files ≡ length l.files + length taken
  own_count = ap length files ∙ length-append l.files taken

  new_count : length new_files ≡ length new.files
  new_count = those_count cap new.files new_files those_own

  turned : (c k : ℕ) → c * k ≡ k * c
  turned c k = grind arith

  pub old_size : length (stream old_files) ≡ (length l.files - 1) * cap + cap
  old_size =
      those_length cap l.files old_files those_old ∙ turned cap (length l.files) ∙ ap (λ n. n * cap) (omega (arith, sound.some)) ∙ next (length l.files - 1) cap
    where
      next : (k c : ℕ) → (k + 1) * c ≡ k * c + c
      next k c = grind arith

  -- the files of earlier openings, and those of this one, before and behind the batch
  pub part : Onward cap l.older l.files taken old_files new_files
  part =
      onward cap l.older l.files taken old_files new_files sound.older those_old those_new
      (sym (take-take (l.older * cap) limit (stream new_files) before) ∙ ap (take (l.older * cap)) lies.agrees.front ∙ take-take (l.older * cap) limit (stream old_files) before)
    where
      before : l.older * cap ≤ limit
      before = older_before cap l.used l.older (length l.files) sound.some sound.older sound.full

  pub heads : HaveSameHeads part.own part.kept
  heads = same_heads cap (drop l.older l.files) part.own part.kept part.those_own part.those_kept

  pub apart_old : Apart l.opening.epoch part.past part.own
  apart_old = apart_by l cap sound part.past part.own part.those_past part.those_own

  pub apart_new : Apart l.opening.epoch part.past (part.kept ++ part.more)
  apart_new = record {
    less = apart_old.less;
    one =
        those_epoch cap l.opening (drop l.older l.files ++ taken) (part.kept ++ part.more) part.those_now
        (subst (λ (o : Opening). AllByRecursion (IsOfOpening o) (drop l.older l.files ++ taken)) opening (subst (AllByRecursion (IsOfOpening new.opening)) ((λ i. drop (older i) (files i)) ∙ drop-append-le l.older l.files taken sound.older) again.own));
  }

  -- the files from the one on that was the newest
  record NewPart : Type 0 where
    before : List Headed
    on : List Headed
    is : new_files ≡ before ++ on
    length_before : length (stream before) ≡ (length l.files - 1) * cap
    have : HaveCapacity cap on
    counts : CountFrom l.newest on
    fits_on : l.used + length_of ws ≤ length (stream on)

  new_part : NewPart
  new_part =
      let cut = cut_last l.files taken sound.some in
      let s = those_split cap cut.0 (from_newest l taken) new_files (subst (λ (hs : List HeadedFile). AreThoseFiles cap hs new_files) cut.1 those_new) in
      let on_size : length (stream s.1) ≡ cap * (length taken + 1) = those_length cap (from_newest l taken) s.1 s.4 ∙ ap (λ n. cap * n) (tail_length l.files taken (length taken) sound.some refl) in
      let numbers : NumberedFrom (new.newest + 1 - length new.files) (cut.0 ++ from_newest l taken) new.newest =
      subst (λ (hs : List HeadedFile). NumberedFrom (new.newest + 1 - length new.files) hs new.newest) (files ∙ cut.1) again.numbers in
      let start : new.newest + 1 - length new.files + length cut.0 ≡ l.newest = omega (arith, own_count, newest, cut.2, sound.few) in
      record {
        before = s.0;
        on = s.1;
        is = s.2;
        length_before = those_length cap cut.0 s.0 s.3 ∙ turned cap (length cut.0) ∙ ap (λ n. n * cap) (omega (arith, cut.2));
        have = all_capacity cap (from_newest l taken) s.1 s.4;
        counts =
            count_of cap l.newest new.newest (from_newest l taken) s.1
            (subst (λ n. NumberedFrom n (from_newest l taken) new.newest) start (numbered_tail (new.newest + 1 - length new.files) new.newest cut.0 (from_newest l taken) numbers)) s.4;
        fits_on = omega (arith, on_size, lies.room);
      }

  located_batch : map (located new_files) (laid_from limit ws) ≡ batch_reads l rs
  located_batch =
      ap (λ (fs : List Headed). map (located fs) (laid_from limit ws)) new_part.is
      ∙ ap (λ n. map (located (new_part.before ++ new_part.on)) (laid_from (n + l.used) ws)) (sym new_part.length_before)
      ∙ laid_located cap l.newest l.used new_part.before new_part.on ws some_cap new_part.have new_part.counts new_part.fits_on

  end_new : end_of new ≡ cap * (length new.files - 1) + new.used
  end_new = ap (λ (o : Opening). (length new.files - 1) * capacity_in o + new.used) opening ∙ ap (λ n. n + new.used) (sym (turned cap (length new.files - 1)))

  unmarked_new : LastUnmarked lies.got.came → LastIsUnmarked l.used old_files → LastIsUnmarked new.used new_files
  unmarked_new came k =
      let none : (length taken ≡ 0 → l.used ≤ new.used) = λ e. grown (length new.files) (length l.files) (own_count ∙ ap (λ n. length l.files + n) e) in
      let at_mid : LastIsUnmarked new.used mid_files = subst (LastIsUnmarked new.used) (sym lies.got.files) (last_mid cap l.used new.used old_files taken lies.got.came lies.got.those k came none) in
      let count : length (l.files ++ taken) ≡ length new.files = ap length (sym files) in
      unmarked_again cap new.used (limit + length_of ws) (l.files ++ taken) mid_files new_files lies.got.resting.files those_new lies.behind
      (subst (λ n. limit + length_of ws ≤ cap * (n - 1) + new.used) (sym count) (omega (arith, end_is, end_new))) at_mid
    where
      grown : (m n : ℕ) → length new.files ≡ length l.files + 0 → l.used ≤ new.used
      grown m n e =
          let same : end_of new ≡ (length l.files - 1) * cap + new.used = ap (λ (o : Opening). (length new.files - 1) * capacity_in o + new.used) opening ∙ ap (λ k. (k - 1) * cap + new.used) (omega (arith, e)) in
          omega (arith, same, end_is)

  ends_none : LastIsUnmarked new.used new_files → record_in new_files (limit + length_of ws) ≡ None
  ends_none k =
      let blocks : new.used % 4096 ≡ 0 = again.used.0 in
      let within : new.used ≤ cap = subst (λ (o : Opening). new.used ≤ capacity_in o) opening again.used.1 in
      let unmarked : IsUnmarkedAt new_files (cap * (length new_files - 1) + new.used) =
      unmarked_end cap new.used (new.used / 128) new_files (all_capacity cap new.files new_files those_own) (those_serials cap new.files new_files those_own again.legal)
      (omega (arith, new_count, again.some)) (omega (arith, blocks)) within (omega (arith, whole_blocks)) k in
      none_unmarked new_files (limit + length_of ws) (subst (IsUnmarkedAt new_files) (ap (λ n. cap * (n - 1) + new.used) new_count ∙ sym end_new ∙ sym end_is) unmarked)

  -- the reading of this opening's files, as the oldest epoch or as a later one
  module _ (oldest : Bool) (ends : l.older * cap + epoch_end oldest part.own ≡ limit) (behind : LastIsUnmarked l.used old_files) (came : LastUnmarked lies.got.came) where
    abbrev own : List Headed
    own = part.own

    abbrev now_own : List Headed
    now_own = part.kept ++ part.more

    abbrev old : List Placed
    old = epoch_reading oldest own

    abbrev q : ℕ
    q = epoch_end oldest own

    abbrev pub batch : List Placed
    batch = laid_from q ws

    place : length (stream part.past) + q ≡ limit
    place = ap (λ n. n + q) part.size ∙ ends

    pub agrees_own : AgreeUpTo q own now_own
    agrees_own = agree_behind part.past own now_own q (subst (λ (X : Type 0). X) (λ i. AgreeUpTo (sym place i) (part.was i) (part.is i)) lies.agrees)

    moved_batch : all_moved (length (stream part.past)) batch ≡ laid_from limit ws
    moved_batch = laid_moved (length (stream part.past)) q ws ∙ ap (λ p. laid_from p ws) place

    batch_stands : Stand now_own q batch
    batch_stands =
        stand_back part.past now_own q batch
        (subst (λ (X : Type 0). X) (λ i. Stand (part.is i) (sym place i) (sym moved_batch i)) lies.stands)

    pub old_stands : Stand own (begin_place oldest own) old
    old_stands = records_stand own (length (stream own) / 128) (begin_place oldest own)

    pub begin_is : begin_place oldest now_own ≡ begin_place oldest own
    begin_is = by oldest old_stands ends
      where
        all_size : length (stream old_files) ≡ length (stream part.past) + length (stream own)
        all_size = ap (λ (fs : List Headed). length (stream fs)) part.was ∙ ap length (stream_both part.past own) ∙ length-append (stream part.past) (stream own)

        by : (b : Bool) → Stand own (begin_place b own) (epoch_reading b own) → l.older * cap + epoch_end b own ≡ limit → begin_place b now_own ≡ begin_place b own
        by false s e = refl
        by true s e =
            first_again cap own part.kept part.more (all_capacity cap (drop l.older l.files) own part.those_own)
            (those_first cap l.opening (drop l.older l.files) own part.those_own (all_drop (λ h. IsTrue (is_legal_header h.header)) l.older l.files sound.legal) (all_drop (IsOfJournal l.opening) l.older l.files sound.all)) heads
            -- then the newest file is full, and the batch begins at the front of the next one
            (λ late.
            let reached : first_place own ≤ epoch_end true own = stand_end own (first_place own) (epoch_reading true own) s in
            let full : l.used ≡ cap = omega (arith, reached, late, old_size, sound.used.1, all_size, part.size, e) in
            first_of_front cap taken part.more part.those_more (at_front full))

    all_stand : Stand now_own (begin_place oldest own) (old ++ batch)
    all_stand = stand_append now_own (begin_place oldest own) old batch (stand_there q own now_own agrees_own (begin_place oldest own) old old_stands (omega arith)) batch_stands

    pub end_all : end_from (begin_place oldest now_own) (old ++ batch) ≡ q + length_of ws
    end_all = ap (λ p. end_from p (old ++ batch)) begin_is ∙ end_append (begin_place oldest own) old batch ∙ end_laid q ws

    pub behind_new : LastIsUnmarked new.used new_files
    behind_new = unmarked_new came behind

    none_own : record_in now_own (q + length_of ws) ≡ None
    none_own =
        sym (record_behind part.past now_own (q + length_of ws)) ∙ ap (record_in (part.past ++ now_own)) (ap (λ n. n + (q + length_of ws)) part.size ∙ omega (arith, ends))
        ∙ ap (λ (fs : List Headed). record_in fs (limit + length_of ws)) (sym part.is) ∙ ends_none behind_new

    pub reading_new : epoch_reading oldest now_own ≡ old ++ batch
    reading_new =
        reading_by oldest now_own (old ++ batch) (subst (λ p. Stand now_own p (old ++ batch)) (sym begin_is) all_stand) (ap (record_in now_own) end_all ∙ none_own)

    pub end_now : l.older * cap + epoch_end oldest now_own ≡ end_of new
    end_now =
        let here : epoch_end oldest now_own ≡ q + length_of ws = ap (end_from (begin_place oldest now_own)) reading_new ∙ end_all in
        omega (arith, here, ends, end_is)

    located_now : map (located now_own) (epoch_reading oldest now_own) ≡ map (located own) old ++ batch_reads l rs
    located_now =
        ap (map (located now_own)) reading_new ∙ map-append (located now_own) old batch
        ∙ ap₂ (λ (x y : List Read). x ++ y) (all_located own part.kept part.more heads (begin_place oldest own) old old_stands)
        (sym (located_behind part.past now_own q batch batch_stands) ∙ (λ i. map (located (sym part.is i)) (moved_batch i)) ∙ located_batch)

  module _ (reads : List Read) (r : IsRead l reads a.now.disk) (came : LastUnmarked lies.got.came) where
    oldest_is : is_oldest part.past ≡ (l.older == 0)
    oldest_is = ap (λ n. n == 0) part.count

    pub own_ends : l.older * cap + epoch_end (l.older == 0) part.own ≡ limit
    own_ends = ap (λ (fs : List Headed). l.older * cap + epoch_end (l.older == 0) fs) (sym part.rest_was) ∙ r.ends

    pub journal_new : reads_of true (epochs new_files) ≡ reads ++ batch_reads l rs
    journal_new =
        let before : List Read = reads_of true (epochs part.past) in
        let old_reads : List Read = map (located part.own) (epoch_reading (l.older == 0) part.own) in
        let was : before ++ old_reads ≡ reads =
        ap (λ b. before ++ map (located part.own) (epoch_reading b part.own)) (sym oldest_is) ∙ sym (ap (λ (fs : List Headed). reads_of true (epochs fs)) part.was ∙ reading_both l.opening.epoch part.past part.own apart_old) ∙ r.reading in
        ap (λ (fs : List Headed). reads_of true (epochs fs)) part.is ∙ reading_both l.opening.epoch part.past (part.kept ++ part.more) apart_new
        ∙ ap (λ b. before ++ map (located (part.kept ++ part.more)) (epoch_reading b (part.kept ++ part.more))) oldest_is
        ∙ ap (λ (xs : List Read). before ++ xs) (located_now (l.older == 0) own_ends r.behind came) ∙ sym (append_assoc before old_reads (batch_reads l rs)) ∙ ap (λ (xs : List Read). xs ++ batch_reads l rs) was

    pub read_on : IsRead new (reads ++ batch_reads l rs) b.now.disk
    read_on = record {
      reading = subst (λ (o : Opening). journal_reading (journal_on b.now.disk o.kind o.name) ≡ reads ++ batch_reads l rs) (sym opening) journal_new;
      ends =
          subst (λ (X : Type 0). X) (λ i. sym older i * capacity_in (sym opening i) + epoch_end (sym older i == 0) (drop (sym older i) (files_on (sym opening i) b.now.disk)) ≡ end_of new)
          (ap (λ (fs : List Headed). l.older * cap + epoch_end (l.older == 0) fs) part.rest_is ∙ end_now (l.older == 0) own_ends r.behind came);
      behind = subst (λ (o : Opening). LastIsUnmarked new.used (files_on o b.now.disk)) (sym opening) (behind_new (l.older == 0) own_ends r.behind came);
    }

-- ---- told

module _ (l : LogState) (sound : IsSound l) (flushed : l.unsynced ≡ []) (pool left : PoolState) (taken : List HeadedFile) (fs : List FreshFile) (headers : AreHeaded l.opening l.newest fs taken)
    (legal : AllByRecursion (λ h. IsTrue (is_legal_header h.header)) taken) (rs : List Record) (records : AllByRecursion (λ r. IsTrue (is_legal Two r)) (with_fillers rs))
    (some : 0 < length (batch_bytes l taken rs)) (count : length taken ≡ (l.used + length (batch_bytes l taken rs) - 1) / capacity_in l.opening)
    (new : LogState) (opening : new.opening ≡ l.opening) (files : new.files ≡ l.files ++ taken) (older : new.older ≡ l.older) (used : new.used + capacity_in l.opening * length taken ≡ l.used + length (batch_bytes l taken rs))
    (newest : new.newest ≡ l.newest + length taken) (again : IsSound new) (planned : fs ≡ (plan_of rs l.used (capacity_in l.opening) l.rid).fresh) where
  reads_on : (a mid b : Content) → TakesFiles l.opening.home pool left taken a mid → b ≡ with_parts (capacity_in l.opening) (ids (written_files l taken)) (written_place l) (batch_bytes l taken rs) mid
      → LogThere l a.now.disk → IsPoolOf pool [] a.now.disk → ReadsOn rs l new a b
  reads_on a mid b t w h p =
      let lying : Lies l taken rs left a mid b = lies l sound flushed pool left taken fs headers legal rs records some count new opening files used a mid b t h p w in
      let end_is : end_of l + length_of (with_fillers rs) ≡ end_of new = new_end l sound flushed pool left taken fs headers legal rs records some count new opening files used a mid b t h p w in
      let added : Added a b lying.got.since =
      added_by (capacity_in l.opening) (ids (written_files l taken)) (written_place l) (batch_bytes l taken rs) a mid b lying.got.since lying.got.moments w in
      record {
        batch = batch_whats l rs;
        adds = added.all ∙ ap (λ (ms : List Moment). a.moments ++ ms) (sym added.added);
        read = λ unmarked reads r.
            read_on l new sound again left taken rs a mid b h.there.files lying opening files older newest end_is
            (subst (λ n. 0 < n) (length-spelled_over (capacity_in l.opening) (serials (from_newest l taken)) l.used (with_fillers rs)) some)
            (begins_at_front l rs fs taken (sound_capacity l.opening sound.opening).0 headers planned) reads r
            (lying.got.unmarked (unmarked_front a.now lying.got.since added.writes (subst (AllUnmarked a.now) added.added unmarked)));
      }

  pub told_reads_on : (a mid b : Option Content) → Tells (TakesFiles l.opening.home pool left taken) a mid
      → Tells (WritesAll (capacity_in l.opening) (ids (written_files l taken)) (written_place l) (batch_bytes l taken rs)) mid b
      → IfSome a (OnDisk (LogThere l)) → IfSome a (OnDisk (IsPoolOf pool [])) → Tells (ReadsOn rs l new) a b
  told_reads_on None None None t w h p = tt
  told_reads_on None None (Some z) t w h p = absurd w
  told_reads_on None (Some y) b t w h p = absurd t
  told_reads_on (Some x) None b t w h p = absurd t
  told_reads_on (Some x) (Some y) None t w h p = absurd w
  told_reads_on (Some x) (Some y) (Some z) t w h p = reads_on x y z t w h p
