-- The bytes that are left behind a log's reading, as files are taken and nothing is written.
use Rattle.std.proofs.Common.{◌≡◌, ℕ, zero, suc, ◌+◌, ◌-◌, ◌*◌, ◌%◌, ◌/◌, ◌<◌, ◌≤◌, Bool, true, false, ◌==◌, List, [], ◌∷◌, ◌++◌, length, take, drop, Option, Some, None, IfSome, IsTrue, refl, sym, ap, ap₂, ◌∙◌, subst, arith, length-append, length-drop, append_assoc}
use Rattle.std.proofs.Math.Seq.{drop-append_seam}
use Rattle.std.proofs.lemmas.List.{take-append-le, drop-append-le}
use Rattle.std.specs.List.{AllByRecursion}
use Rattle.qls_record.specs.Record.{Record}
use Rattle.qls_site.specs.Disk.{Disk}
use Rattle.qls_site.specs.Content.{Content, Tells, moments_since}
use Rattle.qls_filehdr.specs.Limits.{is_legal_header}
use Rattle.qls_meaning.specs.Journals.{Headed, epochs}
use Rattle.qls_meaning.specs.Reading.{Placed, Read, stream, record_in, end_from, first_place, begin_place, epoch_reading, epoch_end}
use Rattle.qls_meaning.specs.Dead.{newest_number}
use Rattle.qls_meaning.specs.History.{AllUnmarked, IsUnmarked}
use Rattle.qls_meaning.specs.Orderly.{journal_on}
use Rattle.qls_laws.specs.Areas.{IsUnmarkedAt}
use Rattle.qls_laws.specs.Readings.{Stand, AgreeUpTo}
use Rattle.qls_laws.proofs.Reaches.{records_stand, stand_there, stand_end}
use Rattle.qls_laws.proofs.Unmarked.{none_unmarked}
use Rattle.qls_blocks.specs.declared.plan.FreshFile.{FreshFile}
use Rattle.qls_blocks.specs.Plans.{plan_of}
use Rattle.qls_pool.specs.Pools.{PoolState}
use Rattle.qls_pool.specs.Files.{HeadedFile, IsPoolOf, OnDisk}
use Rattle.qls_log.specs.Logs.{LogState, IsSound, IsOfJournal, AreHeaded, capacity_in}
use Rattle.qls_log.specs.Taking.{TakesFiles, TakesFirst}
use Rattle.qls_log.specs.Standing.{LogThere, AreThoseFiles, files_on, end_of}
use Rattle.qls_log.specs.Reads.{IsRead}
use Rattle.qls_log.specs.Steps.{KeepsRoom, room_in, room_behind}
use Rattle.qls_log.proofs.Gains.{GainedAll}
use Rattle.qls_log.proofs.Laid.{those_length}
use Rattle.qls_log.proofs.Appends.{gains, same_heads, all_drop, all_capacity}
use Rattle.qls_log.proofs.Appended.{sound_capacity, headed_own, numbered_more}
use Rattle.qls_log.proofs.Streams.{agree}
use Rattle.qls_log.proofs.Places.{FrontIsUnmarked, first_again, unmarked_then}
use Rattle.qls_log.proofs.Behind.{BeginsAtFront, first_begin_at_front, first_of_front, those_serials, those_first}
use Rattle.qls_log.proofs.Shifted.{stream_both, record_behind, reading_by}
use Rattle.qls_log.proofs.Older.{Halves, halves, Apart, apart_by, those_both, those_count, those_epoch, room_both}
use Rattle.qls_epochs.proofs.Alls.{all_both}
use Rattle.qls_log.proofs.Going.{newest_those}

-- ---- sizes

whole_files : (cap n : ℕ) → 0 < n → cap * n ≡ (n - 1) * cap + cap
whole_files cap zero some = absurd (omega (arith, some))
whole_files cap (suc n) some = next cap n ∙ ap (λ m. m * cap + cap) (one_less n)
  where
    next : (c n : ℕ) → c * suc n ≡ n * c + c
    next c n = grind arith

    one_less : (n : ℕ) → n ≡ suc n - 1
    one_less n = omega arith

-- so many of the bytes of n and k files lie behind a place in the n-th one
left_over : (cap used n k : ℕ) → 0 < n → used ≤ cap → cap * (n + k) - ((n - 1) * cap + used) ≡ cap * k + (cap - used)
left_over cap used n k some low = omega (arith, sum cap n k, whole_files cap n some, low)
  where
    sum : (c n k : ℕ) → c * (n + k) ≡ c * n + c * k
    sum c n k = grind arith

place_within : (cap used n : ℕ) → 0 < n → used ≤ cap → (n - 1) * cap + used ≤ cap * n
place_within cap used n some low = omega (arith, whole_files cap n some, low)

full_of : (cap used n : ℕ) → 0 < n → used ≤ cap → cap * n ≤ (n - 1) * cap + used → used ≡ cap
full_of cap used n some low late = omega (arith, whole_files cap n some, low, late)

-- ---- the files of this opening

-- of n files the first ones, and a place in the others
split_size : (cap n older end : ℕ) → older ≤ n → cap * (n - older) - end ≡ cap * n - (older * cap + end)
split_size cap n older end less = omega (arith, ap (λ k. cap * k) (both n older less) ∙ sum cap older (n - older))
  where
    both : (n older : ℕ) → older ≤ n → n ≡ older + (n - older)
    both n older less = omega (arith, less)

    sum : (c n k : ℕ) → c * (n + k) ≡ n * c + c * k
    sum c n k = grind arith

room_of_those : (l : LogState) (hs : List HeadedFile) (past own : List Headed) → Apart l.opening.epoch past own → AreThoseFiles (capacity_in l.opening) (drop l.older hs) own → length past ≡ l.older → l.older < length hs
    → l.older * capacity_in l.opening + epoch_end (l.older == 0) own ≡ end_of l → room_in true (epochs (past ++ own)) ≡ capacity_in l.opening * length hs - end_of l
room_of_those l hs past own apart those count less ends =
    let cap : ℕ = capacity_in l.opening in
    let many : length (drop l.older hs) ≡ length hs - l.older = length-drop l.older hs in
    room_both l.opening.epoch past own apart (omega (arith, those_count cap (drop l.older hs) own those, many, less))
    ∙ ap₂ (λ m n. m - n) (those_length cap (drop l.older hs) own those ∙ ap (λ n. cap * n) many) (ap (λ n. epoch_end (n == 0) own) count)
    ∙ split_size cap (length hs) l.older (epoch_end (l.older == 0) own) (omega (arith, less)) ∙ ap (λ n. cap * length hs - n) ends

-- the rest of the newest file is left
pub log_room : (l : LogState) (d : Disk) (reads : List Read) → IsSound l → LogThere l d → IsRead l reads d → l.older < length l.files → room_behind (journal_on d l.opening.kind l.opening.name) ≡ capacity_in l.opening - l.used
log_room l d reads sound there r less =
    let cap : ℕ = capacity_in l.opening in
    let s : Halves cap l.older l.files (files_on l.opening d) = halves cap l.older l.files (files_on l.opening d) sound.older there.there.files in
    ap (λ (fs : List Headed). room_in true (epochs fs)) s.is
    ∙ room_of_those l l.files s.past s.own (apart_by l cap sound s.past s.own s.those_past s.those_own) s.those_own s.count less (ap (λ (fs : List Headed). l.older * cap + epoch_end (l.older == 0) fs) (sym s.rest) ∙ r.ends)
    ∙ ap (λ n. cap * n - end_of l) (no_more (length l.files)) ∙ left_over cap l.used (length l.files) 0 sound.some sound.used.1 ∙ none cap (cap - l.used)
  where
    no_more : (n : ℕ) → n ≡ n + 0
    no_more n = omega arith

    none : (c n : ℕ) → c * 0 + n ≡ n
    none c n = omega arith

-- ---- files that were taken

front_unmarked : (cap : ℕ) (hs : List HeadedFile) (fs : List Headed) → 128 ≤ cap → AreThoseFiles cap hs fs → AllByRecursion (λ h. IsTrue (is_legal_header h.header)) hs → AllByRecursion IsUnmarked fs → FrontIsUnmarked fs
front_unmarked cap hs [] some t legal u = tt
front_unmarked cap [] (f ∷ fs) some t legal u = absurd t
front_unmarked cap (h ∷ hs) (f ∷ fs) some t legal u = ((those_serials cap (h ∷ hs) (f ∷ fs) t legal).0, omega (arith, some, t.0.area), λ unit from room. u.0 unit room)

module _ (l : LogState) (sound : IsSound l) (flushed : l.unsynced ≡ []) (pool left : PoolState) (taken : List HeadedFile) (fs : List FreshFile) (headers : AreHeaded l.opening l.newest fs taken)
    (legal : AllByRecursion (λ h. IsTrue (is_legal_header h.header)) taken) (at_front : l.used ≡ capacity_in l.opening → BeginsAtFront taken)
    (a b : Content) (t : TakesFiles l.opening.home pool left taken a b) (there : LogThere l a.now.disk) (p : IsPoolOf pool [] a.now.disk) where
  abbrev cap : ℕ
  cap = capacity_in l.opening

  abbrev old_files : List Headed
  old_files = files_on l.opening a.now.disk

  abbrev new_files : List Headed
  new_files = files_on l.opening b.now.disk

  sizes : (0 < cap) × (cap % 4096 ≡ 0)
  sizes = (sound_capacity l.opening sound.opening)

  got : GainedAll l.opening l.files taken l.newest left a b
  got = gains l sound flushed pool left taken fs headers legal a b t there p

  those_old : AreThoseFiles cap l.files old_files
  those_old = there.there.files

  within : end_of l ≤ length (stream old_files)
  within = subst (λ n. end_of l ≤ n) (sym (those_length cap l.files old_files those_old)) (place_within cap l.used (length l.files) sound.some sound.used.1)

  -- no record stands where the next batch goes
  none_there : (reads : List Read) → IsRead l reads a.now.disk → AllByRecursion IsUnmarked got.came → record_in (old_files ++ got.came) (end_of l) ≡ None
  none_there reads r u =
      let count : length old_files ≡ length l.files = those_count cap l.files old_files those_old in
      let blocks : l.used % 4096 ≡ 0 = sound.used.0 in
      let whole : cap % 4096 ≡ 0 = sizes.1 in
      none_unmarked (old_files ++ got.came) (end_of l)
      (subst (IsUnmarkedAt (old_files ++ got.came)) (ap (λ n. cap * (n - 1) + l.used) count ∙ ap (λ n. n + l.used) (turned cap (length l.files - 1)))
      (unmarked_then cap l.used (l.used / 128) old_files got.came (all_capacity cap l.files old_files those_old) (those_serials cap l.files old_files those_old sound.legal) (omega (arith, count, sound.some)) (omega (arith, blocks)) sound.used.1
      (omega (arith, whole)) r.behind (front_unmarked cap taken got.came (omega (arith, sizes.0, whole)) got.those legal u)))
    where
      turned : (c k : ℕ) → c * k ≡ k * c
      turned c k = grind arith

  -- the files of earlier openings, and those of this one
  parts : Halves cap l.older l.files old_files
  parts = halves cap l.older l.files old_files sound.older those_old

  abbrev own : List Headed
  own = parts.own

  abbrev old : List Placed
  old = epoch_reading (l.older == 0) own

  abbrev q : ℕ
  q = epoch_end (l.older == 0) own

  -- so the reading ends there still
  module _ (reads : List Read) (r : IsRead l reads a.now.disk) where
    ends : l.older * cap + q ≡ end_of l
    ends = ap (λ (fs : List Headed). l.older * cap + epoch_end (l.older == 0) fs) (sym parts.rest) ∙ r.ends

    all_size : length (stream old_files) ≡ l.older * cap + length (stream own)
    all_size = ap (λ (fs : List Headed). length (stream fs)) parts.is ∙ ap length (stream_both parts.past own) ∙ length-append (stream parts.past) (stream own) ∙ ap (λ n. n + length (stream own)) parts.size

    fits : q ≤ length (stream own)
    fits = omega (arith, ends, all_size, within)

    old_stands : Stand own (begin_place (l.older == 0) own) old
    old_stands = records_stand own (length (stream own) / 128) (begin_place (l.older == 0) own)

    begin_same : begin_place (l.older == 0) (own ++ got.came) ≡ begin_place (l.older == 0) own
    begin_same = by (l.older == 0) ends old_stands
      where
        by : (x : Bool) → l.older * cap + epoch_end x own ≡ end_of l → Stand own (begin_place x own) (epoch_reading x own) → begin_place x (own ++ got.came) ≡ begin_place x own
        by false e s = refl
        by true e s =
            first_again cap own own got.came (all_capacity cap (drop l.older l.files) own parts.those_own)
            (those_first cap l.opening (drop l.older l.files) own parts.those_own (all_drop (λ h. IsTrue (is_legal_header h.header)) l.older l.files sound.legal) (all_drop (IsOfJournal l.opening) l.older l.files sound.all))
            (same_heads cap (drop l.older l.files) own own parts.those_own parts.those_own)
            -- then the newest file is full
            (λ late.
            let reached : first_place own ≤ epoch_end true own = stand_end own (first_place own) (epoch_reading true own) s in
            let full : l.used ≡ cap = full_of cap l.used (length l.files) sound.some sound.used.1 (omega (arith, reached, late, all_size, e, those_length cap l.files old_files those_old)) in
            first_of_front cap taken got.came got.those (at_front full))

    ends_there : AllByRecursion IsUnmarked got.came → l.older * cap + epoch_end (l.older == 0) (own ++ got.came) ≡ end_of l
    ends_there u =
        let all : List Headed = own ++ got.came in
        let agrees : AgreeUpTo q own all =
        agree q own own got.came (same_heads cap (drop l.older l.files) own own parts.those_own parts.those_own) fits
        (ap (take q) (stream_both own got.came) ∙ take-append-le q (stream own) (stream got.came) fits) in
        let stand : Stand all (begin_place (l.older == 0) own) old = stand_there q own all agrees (begin_place (l.older == 0) own) old old_stands (omega arith) in
        let end : end_from (begin_place (l.older == 0) all) old ≡ q = ap (λ p. end_from p old) begin_same in
        let place : length (stream parts.past) + q ≡ end_of l = ap (λ n. n + q) parts.size ∙ ends in
        let none : record_in all q ≡ None =
        sym (record_behind parts.past all q) ∙ ap₂ (λ (fs : List Headed) p. record_in fs p) (sym (append_assoc parts.past own got.came) ∙ ap (λ (fs : List Headed). fs ++ got.came) (sym parts.is)) place ∙ none_there reads r u in
        let same : epoch_reading (l.older == 0) all ≡ old = reading_by (l.older == 0) all old (subst (λ p. Stand all p old) (sym begin_same) stand) (ap (record_in all) end ∙ none) in
        ap (λ n. l.older * cap + n) (ap (end_from (begin_place (l.older == 0) all)) same ∙ end) ∙ ends

  newest_now : newest_number new_files ≡ l.newest + length taken
  newest_now =
      let n : ℕ = l.newest + 1 - length l.files in
      newest_those cap n (l.newest + length taken) (l.files ++ taken) new_files (omega (arith, length-append l.files taken, sound.some)) (numbered_more l.opening n l.newest l.files fs taken sound.numbers headers) got.resting.files

  pub keeps_room : KeepsRoom l a b
  keeps_room unmarked reads r less =
      let since : moments_since a b ≡ got.since = ap (drop (length a.moments)) got.moments ∙ drop-append_seam a.moments got.since in
      let size : length (l.files ++ taken) ≡ length l.files + length taken = length-append l.files taken in
      let those : AreThoseFiles cap (drop l.older (l.files ++ taken)) (own ++ got.came) =
      subst (λ (hs : List HeadedFile). AreThoseFiles cap hs (own ++ got.came)) (sym (drop-append-le l.older l.files taken sound.older)) (those_both cap (drop l.older l.files) taken own got.came parts.those_own got.those) in
      let before : Apart l.opening.epoch parts.past own = apart_by l cap sound parts.past own parts.those_past parts.those_own in
      let apart : Apart l.opening.epoch parts.past (own ++ got.came) = record {
        less = before.less;
        one = all_both (λ f. f.header.epoch ≡ l.opening.epoch) own got.came before.one (those_epoch cap l.opening taken got.came got.those (headed_own l.opening l.newest fs taken headers));
      } in
      let is : new_files ≡ parts.past ++ (own ++ got.came) = got.files ∙ ap (λ (fs : List Headed). fs ++ got.came) parts.is ∙ append_assoc parts.past own got.came in
      ap (λ (fs : List Headed). room_in true (epochs fs)) is
      ∙ room_of_those l (l.files ++ taken) parts.past (own ++ got.came) apart those parts.count (subst (λ n. l.older < n) (those_count cap (l.files ++ taken) new_files got.resting.files) less)
      (ends_there reads r (got.each (subst (AllUnmarked a.now) since unmarked))) ∙ ap (λ n. cap * n - end_of l) size
      ∙ left_over cap l.used (length l.files) (length taken) sound.some sound.used.1 ∙ ap (λ k. cap * k + (cap - l.used)) (omega (arith, newest_now))

-- ---- told

pub told_keeps_room : (l : LogState) (pool left : PoolState) (fresh : List FreshFile) (rs : List Record) → IsSound l → l.unsynced ≡ [] → fresh ≡ (plan_of rs l.used (capacity_in l.opening) l.rid).fresh → (a b : Option Content)
    → TakesFirst l.opening l.newest fresh pool left a b → IfSome a (OnDisk (LogThere l)) → IfSome a (OnDisk (IsPoolOf pool [])) → Tells (KeepsRoom l) a b
told_keeps_room l pool left fresh rs sound flushed planned a b f there p = told a b f.told there p
  where
    told : (a b : Option Content) → Tells (TakesFiles l.opening.home pool left f.files) a b → IfSome a (OnDisk (LogThere l)) → IfSome a (OnDisk (IsPoolOf pool [])) → Tells (KeepsRoom l) a b
    told None None t h p = tt
    told None (Some y) t h p = absurd t
    told (Some x) None t h p = absurd t
    told (Some x) (Some y) t h p =
        keeps_room l sound flushed pool left f.files (take (length f.files) fresh) f.headers f.legal
        (first_begin_at_front l rs fresh (length f.files) f.files (sound_capacity l.opening sound.opening).0 f.headers planned) x y t h p
