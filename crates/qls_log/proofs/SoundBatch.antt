-- A log's journal breaks no damage rule behind a batch.
use Rattle.std.proofs.Common.{◌≡◌, ◌⊎◌, inl, inr, ℕ, zero, suc, ◌+◌, ◌-◌, ◌*◌, ◌/◌, ◌<◌, ◌≤◌, true, cond, ◌==◌, List, [], ◌∷◌, ◌++◌, map, length, take, drop, Ok, refl, sym, ap, ap₂, ◌∙◌, subst, arith, append_assoc, take-append-drop, length-append, length-drop, IsTrue}
use Rattle.std.proofs.lemmas.Bool.{cases_lt}
use Rattle.std.specs.List.{AllByRecursion}
use Rattle.qls_record.specs.Record.{Record, is_enqueue}
use Rattle.qls_site.specs.Content.{Content}
use Rattle.qls_filehdr.specs.declared.FileHeader.{FileHeader}
use Rattle.qls_filehdr.specs.declared.JournalKind.{JournalKind}
use Rattle.qls_filehdr.specs.Limits.{is_legal_header}
use Rattle.qls_meaning.specs.Journals.{Headed}
use Rattle.qls_meaning.specs.Reading.{Placed, Read, stream, records_from, end_from, first_place, begin_place, epoch_reading, epoch_end, journal_reading}
use Rattle.qls_meaning.specs.Damage.{rid_at_end, chain_claims, reading_claims, oldest_rid}
use Rattle.qls_meaning.specs.Dead.{after_end, past_files}
use Rattle.qls_meaning.specs.Spent.{rid_of_reads}
use Rattle.qls_meaning.specs.Orderly.{journal_on}
use Rattle.qls_laws.specs.Undamaged.{BreaksNoRule}
use Rattle.qls_laws.proofs.Rules.{rid_before-append}
use Rattle.qls_laws.proofs.Leftover.{AllBefore}
use Rattle.qls_laws.proofs.Claimed.{InOrder, AllKeep, rules_kept}
use Rattle.qls_laws.proofs.DeadQueue.{run}
use Rattle.qls_epochs.specs.Whole.{IsWhole}
use Rattle.qls_epochs.proofs.Ended.{rid_of_both}
use Rattle.qls_blocks.specs.declared.plan.FreshFile.{FreshFile}
use Rattle.qls_blocks.specs.Batching.{length_of, block_length, laid_from, last_rid, with_fillers}
use Rattle.qls_blocks.specs.Plans.{plan_of, fresh_file, fresh_count, starts}
use Rattle.qls_pool.specs.Pools.{PoolState}
use Rattle.qls_pool.specs.Files.{HeadedFile}
use Rattle.qls_log.specs.declared.opening.Opening.{Opening}
use Rattle.qls_log.specs.Logs.{LogState, IsSound, IsOfOpening, IsOfJournal, AreHeaded, NumberedFrom, capacity_in}
use Rattle.qls_log.specs.Standing.{files_on, end_of, AreThoseFiles}
use Rattle.qls_log.specs.Appending.{FollowRids}
use Rattle.qls_log.specs.Reads.{IsRead, batch_reads, read_in}
use Rattle.qls_log.specs.Soundness.{IsUndamaged}
use Rattle.qls_log.proofs.Gains.{LastUnmarked}
use Rattle.qls_log.proofs.Laid.{those_length}
use Rattle.qls_log.proofs.Appends.{all_append, all_drop, all_capacity}
use Rattle.qls_log.proofs.Appended.{sound_capacity, headed_own, numbered_more}
use Rattle.qls_log.proofs.Stands.{Lies}
use Rattle.qls_log.proofs.Streams.{HaveSameHeads, same_length}
use Rattle.qls_log.proofs.Older.{Onward, all_take, all_of_journal, of_journal, those_count}
use Rattle.qls_log.proofs.NextEpoch.{BeginAtFront, OwnKept, own_kept, FirstComesNext, whole_on}
use Rattle.qls_log.proofs.Behind.{BeginsAtFront, numbered_tail, part, heads, apart_old, apart_new, old_stands, begin_is, reading_new, end_now, own_ends, journal_new}
use Rattle.qls_log.proofs.SoundRun.{all_places, log_places, none_past}
use Rattle.qls_log.proofs.SoundRules.{chain_of, comes_next, all_before, laid_ascend, rid_laid, follow_filled, last_filled, laid_in_order, files_stay, files_come, keep_append}

-- ---- the first of the own files

abbrev FirstHasRid : ℕ → List Headed → Type 0
FirstHasRid rid [] = Unit {0}
FirstHasRid rid (f ∷ fs) = f.header.rid ≡ rid

oldest_of : (rid : ℕ) (own kept more : List Headed) → HaveSameHeads own kept → (0 < length own → oldest_rid own ≡ rid) → (length own ≡ 0 → FirstHasRid rid more) → 0 < length (kept ++ more) → oldest_rid (kept ++ more) ≡ rid
oldest_of rid [] [] [] h o f some = absurd (omega (arith, some))
oldest_of rid [] [] (m ∷ more) h o f some = f refl
oldest_of rid [] (k ∷ kept) more h o f some = absurd h
oldest_of rid (x ∷ own) [] more h o f some = absurd h
oldest_of rid (x ∷ own) (k ∷ kept) more h o f some = ap (λ (y : FileHeader). y.rid) h.0 ∙ o (omega arith)

front_of : (own kept more : List Headed) → HaveSameHeads own kept → BeginAtFront own → (length own ≡ 0 → BeginAtFront more) → BeginAtFront (kept ++ more)
front_of [] [] more h b f = f refl
front_of [] (k ∷ kept) more h b f = absurd h
front_of (x ∷ own) [] more h b f = absurd h
front_of (x ∷ own) (k ∷ kept) more h b f = ap (λ (y : FileHeader). y.first) h.0 ∙ b

front_came : (cap : ℕ) (taken : List HeadedFile) (more : List Headed) → AreThoseFiles cap taken more → BeginsAtFront taken → BeginAtFront more
front_came cap [] [] t b = tt
front_came cap [] (f ∷ more) t b = absurd t
front_came cap (h ∷ taken) [] t b = tt
front_came cap (h ∷ taken) (f ∷ more) t b = ap (λ (y : FileHeader). y.first) t.0.header ∙ b

-- behind a full file, the first one that a batch takes has the rid in force before the batch
first_rid : (cap rid n : ℕ) (ws : List Record) (o : Opening) (newest : ℕ) (fs : List FreshFile) (taken : List HeadedFile) (more : List Headed) → fs ≡ map (fresh_file cap rid cap ws) (starts cap cap n) → AreHeaded o newest fs taken
    → AreThoseFiles cap taken more → FirstHasRid rid more
first_rid cap rid n ws o newest fs [] [] e t those = tt
first_rid cap rid n ws o newest fs [] (f ∷ more) e t those = absurd those
first_rid cap rid n ws o newest fs (h ∷ taken) [] e t those = absurd those
first_rid cap rid n ws o newest [] (h ∷ taken) (f ∷ more) e t those = absurd t
first_rid cap rid zero ws o newest (x ∷ fs) (h ∷ taken) (f ∷ more) e t those = absurd (cc)
first_rid cap rid (suc n) ws o newest (x ∷ fs) (h ∷ taken) (f ∷ more) e t those =
    let here : x ≡ fresh_file cap rid cap ws cap = cc in
    ap (λ (y : FileHeader). y.rid) (those.0.header ∙ t.0) ∙ ap (λ (y : FreshFile). y.rid) here ∙ rid_before-append [] (laid_from cap ws) cap cap (laid_ascend cap ws) (omega arith) rid

none_before : (rid now : ℕ) (own : List Headed) → length own ≡ 0 → rid_at_end rid (epoch_reading true own) ≡ now → rid ≡ now
none_before rid now [] e is = is
none_before rid now (f ∷ own) e is = absurd (omega (arith, e))

kept_as : (begin end rid : ℕ) (reads : List Placed) (fs : List Headed) → (0 < length fs → oldest_rid fs ≡ rid) → AllKeep begin end rid reads 0 fs → AllKeep begin end (oldest_rid fs) reads 0 fs
kept_as begin end rid reads [] is k = tt
kept_as begin end rid reads (f ∷ fs) is k = subst (λ n. AllKeep begin end n reads 0 (f ∷ fs)) (sym (is (omega arith))) k

first_next : (cap : ℕ) (o : Opening) (n newest : ℕ) (hs ks : List HeadedFile) (past own : List Headed) → NumberedFrom n (hs ++ ks) newest → AllByRecursion (IsOfJournal o) hs → AllByRecursion (IsOfOpening o) ks
    → AllByRecursion (λ h. h.header.epoch < o.epoch) hs → AreThoseFiles cap hs past → AreThoseFiles cap ks own → FirstComesNext past own
first_next cap o n newest hs [] past [] m all own less s t = tt
first_next cap o n newest hs [] past (g ∷ gs) m all own less s t = absurd t
first_next cap o n newest hs (k ∷ ks) past [] m all own less s t = absurd t
first_next cap o n newest hs (k ∷ ks) past (g ∷ gs) m all own less s t =
    comes_next cap o n newest hs k ks past g m all (of_journal o k own.0) (subst (λ e. AllByRecursion (λ h. h.header.epoch < e) hs) (sym (ap (λ (x : FileHeader). x.epoch) own.0)) less) s t.0.header

oldest_same : (cap : ℕ) (hs taken : List HeadedFile) (fs gs : List Headed) → 0 < length hs → AreThoseFiles cap hs fs → AreThoseFiles cap (hs ++ taken) gs → oldest_rid gs ≡ oldest_rid fs
oldest_same cap [] taken fs gs some s t = absurd (omega (arith, some))
oldest_same cap (h ∷ hs) taken [] gs some s t = absurd s
oldest_same cap (h ∷ hs) taken (f ∷ fs) [] some s t = absurd t
oldest_same cap (h ∷ hs) taken (f ∷ fs) (g ∷ gs) some s t = ap (λ (x : FileHeader). x.rid) (t.0.header ∙ sym s.0.header)

rid_of_batch : (cap present rid : ℕ) (ps : List Placed) → rid_of_reads rid (map (read_in cap present) ps) ≡ rid_at_end rid ps
rid_of_batch cap present rid [] = refl
rid_of_batch cap present rid (p ∷ ps) = rid_of_batch cap present (cond (is_enqueue p.what.kind) p.what.rid rid) ps

-- ---- sizes

-- so many bytes have the files of this opening
own_size : (cap used older n q : ℕ) → 0 < n → older ≤ n → used ≤ cap → older * cap + q ≡ (n - 1) * cap + used → cap * (n - older) ≡ q + (cap - used)
own_size cap used older n q some less low ends =
    omega (arith, sum cap older (n - older), ap (λ k. k * cap) (parts n older less), ap (λ k. k * cap) (last n some), next (n - 1) cap, ends, low)
  where
    sum : (c n k : ℕ) → (n + k) * c ≡ n * c + c * k
    sum c n k = grind arith

    next : (k c : ℕ) → (k + 1) * c ≡ k * c + c
    next k c = grind arith

    parts : (n older : ℕ) → older ≤ n → n ≡ older + (n - older)
    parts n older less = omega (arith, less)

    last : (n : ℕ) → 0 < n → n ≡ n - 1 + 1
    last n some = omega (arith, some)

-- their reading ends in the last of them
last_own : (cap used older n m q : ℕ) → m ≡ n - older → older ≤ n → older * cap + q ≡ (n - 1) * cap + used → (m - 1) * cap ≤ q
last_own cap used older n m q is less ends = by (cases_lt older n)
  where
    sum : (c n k : ℕ) → (n + k) * c ≡ n * c + k * c
    sum c n k = grind arith

    none : (c : ℕ) → (0 - 1) * c ≡ 0
    none c = grind arith

    by : (older < n) ⊎ (n ≤ older) → (m - 1) * cap ≤ q
    by (inl l) = omega (arith, ap (λ k. k * cap) (parts l), sum cap older (m - 1), ends)
      where
        parts : older < n → n - 1 ≡ older + (m - 1)
        parts l = omega (arith, l, is)
    by (inr l) = omega (arith, ap (λ k. (k - 1) * cap) (nothing l), none cap)
      where
        nothing : n ≤ older → m ≡ 0
        nothing l = omega (arith, l, is)

-- ---- behind a batch

module _ (l new : LogState) (sound : IsSound l) (again : IsSound new) (left : PoolState) (taken : List HeadedFile) (rs : List Record) (a mid b : Content)
    (those_old : AreThoseFiles (capacity_in l.opening) l.files (files_on l.opening a.now.disk)) (lies : Lies l taken rs left a mid b) (opening : new.opening ≡ l.opening)
    (files : new.files ≡ l.files ++ taken) (older : new.older ≡ l.older) (newest : new.newest ≡ l.newest + length taken) (end_is : end_of l + length_of (with_fillers rs) ≡ end_of new)
    (some : 0 < length_of (with_fillers rs)) (at_front : l.used ≡ capacity_in l.opening → BeginsAtFront taken) (reads : List Read) (r : IsRead l reads a.now.disk) (came : LastUnmarked lies.got.came)
    (fs : List FreshFile) (headers : AreHeaded l.opening l.newest fs taken) (legal : AllByRecursion (λ h. IsTrue (is_legal_header h.header)) taken) (planned : fs ≡ (plan_of rs l.used (capacity_in l.opening) l.rid).fresh)
    (one : 0 < length rs) (rids : FollowRids l.rid rs) (rid_now : new.rid ≡ last_rid l.rid rs) (u : IsUndamaged l a.now.disk) where
  abbrev cap : ℕ
  cap = capacity_in l.opening

  abbrev kind : JournalKind
  kind = l.opening.kind

  abbrev name : List ℕ
  name = l.opening.name

  abbrev ws : List Record
  ws = with_fillers rs

  abbrev old_files : List Headed
  old_files = files_on l.opening a.now.disk

  abbrev new_files : List Headed
  new_files = files_on l.opening b.now.disk

  abbrev p : Onward cap l.older l.files taken old_files new_files
  p = part l new sound again left taken rs a mid b those_old lies opening files older newest end_is some at_front

  abbrev now_own : List Headed
  now_own = p.kept ++ p.more

  same_heads : HaveSameHeads p.own p.kept
  same_heads = heads l new sound again left taken rs a mid b those_old lies opening files older newest end_is some at_front

  kept : OwnKept kind name p.past p.own l.rid
  kept =
      own_kept kind name l.opening.epoch p.past p.own l.rid (apart_old l new sound again left taken rs a mid b those_old lies opening files older newest end_is some at_front)
      (subst (λ (xs : List Headed). IsWhole (run kind name xs)) p.was (record { places = log_places l a.now.disk sound those_old; rules = record { chain = u.chain; reading = u.reading }; past = u.past }))
      (subst (λ (xs : List Headed). rid_of_reads (oldest_rid xs) (journal_reading (run kind name xs)) ≡ l.rid) p.was u.rid)

  abbrev begin : ℕ
  begin = first_place p.own

  abbrev old : List Placed
  old = epoch_reading true p.own

  abbrev q : ℕ
  q = epoch_end true p.own

  abbrev batch : List Placed
  batch = laid_from q ws

  abbrev all : List Placed
  all = old ++ batch

  ends : l.older * cap + q ≡ end_of l
  ends =
      let begins : begin_place (l.older == 0) p.own ≡ begin = ap (λ n. begin_place (n == 0) p.own) (sym p.count) ∙ kept.begin in
      ap (λ n. l.older * cap + end_from n (records_from p.own (length (stream p.own) / 128) n)) (sym begins)
      ∙ own_ends l new sound again left taken rs a mid b those_old lies opening files older newest end_is some at_front reads r came

  begin_now : first_place now_own ≡ begin
  begin_now = begin_is l new sound again left taken rs a mid b those_old lies opening files older newest end_is some at_front true ends r.behind came

  reading_now : epoch_reading true now_own ≡ all
  reading_now = reading_new l new sound again left taken rs a mid b those_old lies opening files older newest end_is some at_front true ends r.behind came

  before : AllBefore q old
  before = all_before p.own begin q old (old_stands l new sound again left taken rs a mid b those_old lies opening files older newest end_is some at_front true ends r.behind came) (omega arith)

  filled : FollowRids l.rid ws
  filled = follow_filled l.rid rs one rids

  in_order : AllByRecursion (InOrder kept.rid all) batch
  in_order = laid_in_order kept.rid l.rid q old ws filled before kept.rid_now

  size_own : cap * (length l.files - l.older) ≡ q + (cap - l.used)
  size_own = own_size cap l.used l.older (length l.files) q sound.some sound.older sound.used.1 ends

  old_kept : AllKeep begin (end_from begin all) kept.rid all 0 p.kept
  old_kept =
      files_stay begin q kept.rid old batch refl (laid_ascend q ws) before in_order cap 0 p.own p.kept (all_capacity cap (drop l.older l.files) p.own p.those_own) same_heads
      (omega (arith, size_own, ap (λ n. cap * n) p.count_own)) kept.keep

  fresh_is : fs ≡ map (fresh_file cap l.rid l.used ws) (starts cap (l.used + (cap - l.used)) (fresh_count cap (l.used + block_length (length_of rs))))
  fresh_is = planned ∙ ap (λ n. map (fresh_file cap l.rid l.used ws) (starts cap n (fresh_count cap (l.used + block_length (length_of rs))))) (omega (arith, sound.used.1))

  new_kept : AllKeep begin (end_from begin all) kept.rid all (q + (cap - l.used)) p.more
  new_kept =
      files_come begin q l.used kept.rid l.rid old ws refl before kept.rid_now in_order cap (cap - l.used) (fresh_count cap (l.used + block_length (length_of rs))) l.opening l.newest fs taken p.more fresh_is headers
      p.those_more

  all_kept : AllKeep begin (end_from begin all) kept.rid all 0 now_own
  all_kept =
      let size : length (stream p.kept) ≡ q + (cap - l.used) =
      same_length p.own p.kept same_heads ∙ those_length cap (drop l.older l.files) p.own p.those_own ∙ ap (λ n. cap * n) (length-drop l.older l.files) ∙ size_own in
      keep_append begin (end_from begin all) kept.rid all 0 p.kept p.more old_kept
      (subst (λ n. AllKeep begin (end_from begin all) kept.rid all n p.more) (sym size ∙ zero_plus (length (stream p.kept))) new_kept)
    where
      zero_plus : (n : ℕ) → n ≡ 0 + n
      zero_plus n = omega arith

  -- without a file of this opening, the newest one is full
  full : length p.own ≡ 0 → l.used ≡ cap
  full none = sound.full (omega (arith, none, p.count_own, sound.older))

  oldest_now : 0 < length now_own → oldest_rid now_own ≡ kept.rid
  oldest_now =
      oldest_of kept.rid p.own p.kept p.more same_heads kept.oldest
      (λ none. subst (λ n. FirstHasRid n p.more) (sym (none_before kept.rid l.rid p.own none kept.rid_now))
      (first_rid cap l.rid (fresh_count cap (l.used + block_length (length_of rs))) ws l.opening l.newest fs taken p.more
      (planned ∙ ap (λ n. map (fresh_file cap l.rid n ws) (starts cap cap (fresh_count cap (l.used + block_length (length_of rs))))) (full none)) headers p.those_more))

  now_kept : AllKeep (first_place now_own) (end_from (first_place now_own) (epoch_reading true now_own)) (oldest_rid now_own) (epoch_reading true now_own) 0 now_own
  now_kept =
      kept_as (first_place now_own) (end_from (first_place now_own) (epoch_reading true now_own)) kept.rid (epoch_reading true now_own) now_own oldest_now
      (subst (λ (X : Type 0). X) (sym (λ i. AllKeep (begin_now i) (end_from (begin_now i) (reading_now i)) kept.rid (reading_now i) 0 now_own)) all_kept)

  abbrev own_heads : List HeadedFile
  own_heads = drop l.older l.files ++ taken

  of_opening : AllByRecursion (IsOfOpening l.opening) own_heads
  of_opening = all_append (IsOfOpening l.opening) (drop l.older l.files) taken sound.own (headed_own l.opening l.newest fs taken headers)

  abbrev least : ℕ
  least = l.newest + 1 - length l.files

  numbers : NumberedFrom least (take l.older l.files ++ own_heads) (l.newest + length taken)
  numbers =
      subst (λ (hs : List HeadedFile). NumberedFrom least hs (l.newest + length taken))
      (ap (λ (hs : List HeadedFile). hs ++ taken) (sym (take-append-drop l.older l.files)) ∙ append_assoc (take l.older l.files) (drop l.older l.files) taken)
      (numbered_more l.opening least l.newest l.files fs taken sound.numbers headers)

  rules : BreaksNoRule (run kind name now_own)
  rules = record {
    chain =
        chain_of cap l.opening (least + length (take l.older l.files)) (l.newest + length taken) own_heads now_own (numbered_tail least (l.newest + length taken) (take l.older l.files) own_heads numbers) of_opening p.those_now;
    reading = rules_kept l.opening.epoch kind name now_own (apart_new l new sound again left taken rs a mid b those_old lies opening files older newest end_is some at_front).one now_kept;
  }

  none_after : after_end (epoch_end true now_own) now_own ≡ []
  none_after =
      let ends_now : l.older * cap + epoch_end true now_own ≡ (length new.files - 1) * cap + new.used =
      end_now l new sound again left taken rs a mid b those_old lies opening files older newest end_is some at_front true ends r.behind came ∙ ap (λ (o : Opening). (length new.files - 1) * capacity_in o + new.used) opening in
      let many : length now_own ≡ length new.files - l.older =
      those_count cap own_heads now_own p.those_now ∙ length-append (drop l.older l.files) taken ∙ omega (arith, length-drop l.older l.files, count, sound.older) in
      none_past cap (epoch_end true now_own) now_own (all_capacity cap own_heads now_own p.those_now)
      (last_own cap new.used l.older (length new.files) (length now_own) (epoch_end true now_own) many (omega (arith, count, sound.older)) ends_now)
    where
      count : length new.files ≡ length l.files + length taken
      count = ap length files ∙ length-append l.files taken

  whole_now : IsWhole (run kind name (p.past ++ now_own))
  whole_now =
      whole_on kind name l.opening.epoch l.rid p.past p.own now_own (apart_new l new sound again left taken rs a mid b those_old lies opening files older newest end_is some at_front)
      (all_places l.opening own_heads now_own (sound_capacity l.opening sound.opening).0 p.those_now
      (all_append (λ h. IsTrue (is_legal_header h.header)) (drop l.older l.files) taken (all_drop (λ h. IsTrue (is_legal_header h.header)) l.older l.files sound.legal) legal)
      (all_of_journal l.opening own_heads of_opening)) rules none_after (λ past. front_of p.own p.kept p.more same_heads (kept.front past) (λ none. front_came cap taken p.more p.those_more (at_front (full none)))) kept oldest_now
      (first_next cap l.opening least (l.newest + length taken) (take l.older l.files) own_heads p.past now_own numbers (all_take (IsOfJournal l.opening) l.older l.files sound.all) of_opening sound.olds p.those_past p.those_now)

  new_rid : rid_of_reads (oldest_rid new_files) (journal_reading (run kind name new_files)) ≡ new.rid
  new_rid =
      let was : rid_of_reads (oldest_rid old_files) reads ≡ l.rid = ap (rid_of_reads (oldest_rid old_files)) (sym r.reading) ∙ u.rid in
      ap₂ rid_of_reads (oldest_same cap l.files taken old_files new_files sound.some those_old lies.laid.files.files) (journal_new l new sound again left taken rs a mid b those_old lies opening files older newest end_is some at_front reads r came)
      ∙ rid_of_both (oldest_rid old_files) reads (batch_reads l rs) ∙ ap (λ n. rid_of_reads n (batch_reads l rs)) was
      ∙ rid_of_batch cap l.newest l.rid (laid_from l.used ws) ∙ rid_laid l.rid l.used ws filled ∙ last_filled l.rid rs one ∙ sym rid_now

  pub stays_undamaged : IsUndamaged new b.now.disk
  stays_undamaged =
      let w : IsWhole (run kind name new_files) = subst (λ (xs : List Headed). IsWhole (run kind name xs)) (sym p.is) whole_now in
      record {
        chain = subst (λ (o : Opening). chain_claims (files_on o b.now.disk) ≡ Ok tt) (sym opening) w.rules.chain;
        reading = subst (λ (o : Opening). reading_claims (journal_on b.now.disk o.kind o.name) ≡ Ok tt) (sym opening) w.rules.reading;
        past = subst (λ (o : Opening). past_files (journal_on b.now.disk o.kind o.name) ≡ []) (sym opening) w.past;
        rid = subst (λ (o : Opening). rid_of_reads (oldest_rid (files_on o b.now.disk)) (journal_reading (journal_on b.now.disk o.kind o.name)) ≡ new.rid) (sym opening) new_rid;
      }
