-- A log behind a batch.
use Rattle.std.proofs.Common.{◌≡◌, ◌⊎◌, inl, inr, ℕ, zero, suc, ◌+◌, ◌-◌, ◌*◌, ◌/◌, ◌%◌, ◌^◌, ◌<◌, ◌≤◌, Bool, true, false, cond, ◌==◌, ◌||◌, List, [], ◌∷◌, ◌++◌, length, take, drop, Option, Some, None, IfSome, IsTrue, refl, sym, ap, ◌∙◌, subst, arith, length-append, length-take, length-drop}
use Rattle.std.proofs.lemmas.Bool.{and_parts, eqb-true, leb-true, cases_lt}
use Rattle.std.proofs.lemmas.List.{drop-append-le, take-append-le}
use Rattle.std.proofs.Math.Seq.{drop-append_seam, drop-drop}
use Rattle.std.specs.List.{AllByRecursion}
use Rattle.qls_record.specs.Record.{Record}
use Rattle.qls_site.specs.Disk.{FileState, file_of, size_of}
use Rattle.qls_site.specs.Content.{Content, Tells, InFile}
use Rattle.qls_filehdr.specs.declared.FileHeader.{FileHeader}
use Rattle.qls_filehdr.specs.Limits.{is_legal_header}
use Rattle.qls_blocks.specs.declared.plan.FreshFile.{FreshFile}
use Rattle.qls_blocks.specs.Batching.{length_of, block_length, with_fillers}
use Rattle.qls_blocks.specs.Spelled.{spelled_over}
use Rattle.qls_pool.specs.Pools.{PoolState}
use Rattle.qls_pool.specs.Files.{HeadedFile, IsPoolOf, OnDisk, is_among, LinkedThere, RestsThere, IsAtRest}
use Rattle.qls_log.specs.declared.opening.Opening.{Opening}
use Rattle.qls_log.specs.Logs.{LogState, IsSound, IsLegalOpening, IsOfOpening, IsOfJournal, AreHeaded, NumberedFrom, capacity_in, ids, serials, header_for}
use Rattle.qls_log.specs.Taking.{TakesFiles}
use Rattle.qls_log.specs.Writing.{HaveRoom, AreInUse, WritesAll, with_parts, with_write, from_written}
use Rattle.qls_log.specs.Standing.{HasFiles, LogThere, RestsBut}
use Rattle.qls_log.specs.Appending.{from_newest, written_files, written_place, batch_bytes, TakesAndWrites, LeavesOthers}
use Rattle.qls_log.proofs.Gains.{GainedAll}
use Rattle.qls_log.proofs.Quiets.{AreAmong, among_more, among_self}
use Rattle.qls_log.proofs.Appends.{gains, sized, room, all_append, all_drop, all_used, enough_room, cut_last}
use Rattle.qls_log.proofs.Gains.{has_files, others_all, answered_all}
use Rattle.qls_log.proofs.Older.{all_of_journal}
use Rattle.qls_blocks.proofs.Lengths.{length_of-with_fillers}
use Rattle.qls_blocks.proofs.Spelling.{length-spelled_over}
use Rattle.qls_log.proofs.Laid.{parts_laid, others_parts}
use Rattle.qls_log.proofs.Writes.{room_all, size_after}
use Rattle.qls_pool.proofs.Disks.{pool_kept, eqb_is}

pub sound_capacity : (o : Opening) → IsLegalOpening o → (0 < capacity_in o) × (capacity_in o % 4096 ≡ 0)
sound_capacity o h =
    let parts = and_parts _ _ h.kib in
    let least : 4 ≤ o.home.kib = leb-true 4 o.home.kib (and_parts _ _ parts.0).0 in
    let fours : o.home.kib % 4 ≡ 0 = eqb-true (o.home.kib % 4) 0 parts.1 in
    (omega (arith, least), omega (arith, fours))

pub headed_count : (o : Opening) (newest : ℕ) (fs : List FreshFile) (hs : List HeadedFile) → AreHeaded o newest fs hs → length hs ≡ length fs
headed_count o newest [] [] t = refl
headed_count o newest [] (h ∷ hs) t = absurd t
headed_count o newest (f ∷ fs) [] t = absurd t
headed_count o newest (f ∷ fs) (h ∷ hs) t = ap suc (headed_count o (newest + 1) fs hs t.1)

pub drop_last : (hs taken : List HeadedFile) → 0 < length hs → drop 1 (drop (length hs - 1) (hs ++ taken)) ≡ taken
drop_last hs taken some =
    drop-drop 1 (length hs - 1) (hs ++ taken) ∙ ap (λ n. drop n (hs ++ taken)) (omega (arith, some)) ∙ drop-append_seam hs taken

pub tail_length : (hs taken : List HeadedFile) (k : ℕ) → 0 < length hs → length taken ≡ k → length (drop (length hs - 1) (hs ++ taken)) ≡ k + 1
tail_length hs taken k some is = length-drop (length hs - 1) (hs ++ taken) ∙ omega (arith, some, is, length-append hs taken)

-- ---- sound again

pub headed_own : (o : Opening) (newest : ℕ) (fs : List FreshFile) (hs : List HeadedFile) → AreHeaded o newest fs hs → AllByRecursion (IsOfOpening o) hs
headed_own o newest [] [] t = tt
headed_own o newest [] (h ∷ hs) t = absurd t
headed_own o newest (f ∷ fs) [] t = absurd t
headed_own o newest (f ∷ fs) (h ∷ hs) t = (own f h t.0, headed_own o (newest + 1) fs hs t.1)
  where
    own : (f : FreshFile) (h : HeadedFile) → h.header ≡ header_for o h.header.serial (newest + 1) f → IsOfOpening o h
    own f h e = e ∙ sym (λ i. header_for o h.header.serial (e i).number (record { first = (e i).first; rid = (e i).rid }))

-- so they are of the journal
pub headed_all : (o : Opening) (newest : ℕ) (fs : List FreshFile) (hs : List HeadedFile) → AreHeaded o newest fs hs → AllByRecursion (IsOfJournal o) hs
headed_all o newest fs hs t = all_of_journal o hs (headed_own o newest fs hs t)

pub numbered_more : (o : Opening) (n newest : ℕ) (hs : List HeadedFile) (fs : List FreshFile) (taken : List HeadedFile) → NumberedFrom n hs newest → AreHeaded o newest fs taken → NumberedFrom n (hs ++ taken) (newest + length taken)
numbered_more o n newest [] [] [] m t = m ∙ omega arith
numbered_more o n newest [] [] (h ∷ taken) m t = absurd t
numbered_more o n newest [] (f ∷ fs) [] m t = absurd t
numbered_more o n newest [] (f ∷ fs) (h ∷ taken) m t =
    (ap (λ (x : FileHeader). x.number) t.0 ∙ sym m, subst (NumberedFrom (n + 1) taken) (omega arith) (numbered_more o (n + 1) (newest + 1) [] fs taken (omega (arith, m)) t.1))
numbered_more o n newest (g ∷ hs) fs taken m t = (m.0, numbered_more o (n + 1) newest hs fs taken m.1 t)

-- behind a full file, a batch takes another
pub some_taken : (cap used len k : ℕ) → 0 < cap → 0 < len → k ≡ (used + len - 1) / cap → used ≡ cap → 0 < k
some_taken cap used len k some more is full = by (cases_lt 0 k)
  where
    none : (n : ℕ) → n ≤ 0 → n ≡ 0
    none n h = omega (arith, h)

    once : (c : ℕ) → c * (0 + 1) ≡ c
    once c = omega arith

    one : (c n : ℕ) → n ≤ 0 → c * (n + 1) ≡ c
    one c n h = ap (λ m. c * (m + 1)) (none n h) ∙ once c

    by : (0 < k) ⊎ (k ≤ 0) → 0 < k
    by (inl l) = l
    by (inr l) = let room = enough_room cap used len k some more is in absurd (omega (arith, room, one cap k l, full, more))

-- the files of earlier openings are the same, and those of this one are more
parts_after : (l new : LogState) (taken : List HeadedFile) → l.older ≤ length l.files → new.files ≡ l.files ++ taken → new.older ≡ l.older
    → (take new.older new.files ≡ take l.older l.files) × (drop new.older new.files ≡ drop l.older l.files ++ taken)
parts_after l new taken less files older = (
  (λ i. take (older i) (files i)) ∙ take-append-le l.older l.files taken less,
  (λ i. drop (older i) (files i)) ∙ drop-append-le l.older l.files taken less,
)

pub sound_after : (l : LogState) (fs : List FreshFile) (taken : List HeadedFile) (new : LogState) → IsSound l → AreHeaded l.opening l.newest fs taken → new.opening ≡ l.opening → new.files ≡ l.files ++ taken → new.older ≡ l.older
    → (l.used ≡ capacity_in l.opening → 0 < length taken) → new.newest ≡ l.newest + length taken
    → new.newest < 2 ^ 62 → (new.used % 4096 ≡ 0) × (new.used ≤ capacity_in l.opening) → new.rid < 2 ^ 62
    → AllByRecursion (λ h. IsTrue (is_legal_header h.header)) taken → AreAmong (ids new.files) new.unsynced → IsSound new
sound_after l fs taken new s t o files older more newest small used rid legal among =
    let size : length new.files ≡ length l.files + length taken = ap length files ∙ length-append l.files taken in
    let start : new.newest + 1 - length new.files ≡ l.newest + 1 - length l.files = omega (arith, size, newest, s.few) in
    let parts = parts_after l new taken s.older files older in
    record {
      opening = subst IsLegalOpening (sym o) s.opening;
      all = subst (λ (x : Opening). AllByRecursion (IsOfJournal x) new.files) (sym o) (subst (AllByRecursion (IsOfJournal l.opening)) (sym files) (all_append (IsOfJournal l.opening) l.files taken s.all (headed_all l.opening l.newest fs taken t)));
      older = omega (arith, size, older, s.older);
      olds = subst (λ (x : Opening). AllByRecursion (λ h. h.header.epoch < x.epoch) (take new.older new.files)) (sym o) (subst (AllByRecursion (λ h. h.header.epoch < l.opening.epoch)) (sym parts.0) s.olds);
      own =
          subst (λ (x : Opening). AllByRecursion (IsOfOpening x) (drop new.older new.files)) (sym o)
          (subst (AllByRecursion (IsOfOpening l.opening)) (sym parts.1) (all_append (IsOfOpening l.opening) (drop l.older l.files) taken s.own (headed_own l.opening l.newest fs taken t)));
      full = λ e. absurd (none e size);
      next = λ e. absurd (none e size);
      legal = subst (AllByRecursion (λ h. IsTrue (is_legal_header h.header))) (sym files) (all_append (λ h. IsTrue (is_legal_header h.header)) l.files taken s.legal legal);
      some = omega (arith, size, s.some);
      few = omega (arith, size, newest, s.few);
      numbers =
          subst (λ n. NumberedFrom n new.files new.newest) (sym start)
          (subst (λ (hs : List HeadedFile). NumberedFrom (l.newest + 1 - length l.files) hs new.newest) (sym files)
          (subst (NumberedFrom (l.newest + 1 - length l.files) (l.files ++ taken)) (sym newest) (numbered_more l.opening (l.newest + 1 - length l.files) l.newest l.files fs taken s.numbers t)));
      newest = small;
      used = subst (λ (x : Opening). (new.used % 4096 ≡ 0) × (new.used ≤ capacity_in x)) (sym o) used;
      rid = rid;
      unsynced = among;
    }
  where
    none : new.older ≡ length new.files → length new.files ≡ length l.files + length taken → ⊥
    none e size = let some : 0 < length taken = more (s.full (omega (arith, e, size, older, s.older))) in omega (arith, e, size, older, s.older, some)

-- the files that are written are among the log's
among_later : (n : ℕ) (all rest : List ℕ) → AreAmong all rest → AreAmong (n ∷ all) rest
among_later n all rest h = among_more n all rest h

among_dropped : (k : ℕ) (hs : List HeadedFile) → AreAmong (ids hs) (ids (drop k hs))
among_dropped zero hs = among_self (ids hs)
among_dropped (suc k) [] = tt
among_dropped (suc k) (h ∷ hs) = among_later h.id (ids hs) (ids (drop k hs)) (among_dropped k hs)

among_cond : (x : Bool) (k : ℕ) (hs : List HeadedFile) → AreAmong (ids hs) (ids (cond x (drop 1 (drop k hs)) (drop k hs)))
among_cond true k hs = subst (λ (gs : List HeadedFile). AreAmong (ids hs) (ids gs)) (sym (drop-drop 1 k hs)) (among_dropped (k + 1) hs)
among_cond false k hs = among_dropped k hs

pub among_written_files : (l : LogState) (taken files : List HeadedFile) → files ≡ l.files ++ taken → AreAmong (ids files) (ids (written_files l taken))
among_written_files l taken files is =
    subst (λ (hs : List HeadedFile). AreAmong (ids hs) (ids (written_files l taken))) (sym is) (among_cond (l.used == capacity_in l.opening) (length l.files - 1) (l.files ++ taken))

-- ---- told

module _ (l : LogState) (sound : IsSound l) (flushed : l.unsynced ≡ []) (pool left : PoolState) (taken : List HeadedFile) (fs : List FreshFile) (headers : AreHeaded l.opening l.newest fs taken)
    (legal : AllByRecursion (λ h. IsTrue (is_legal_header h.header)) taken) where
  pub told_room : (a mid : Option Content) → Tells (TakesFiles l.opening.home pool left taken) a mid → IfSome a (OnDisk (LogThere l)) → IfSome a (OnDisk (IsPoolOf pool [])) → IfSome mid (HaveRoom (capacity_in l.opening) (ids (from_newest l taken)))
  told_room None None t h p = tt
  told_room None (Some y) t h p = absurd t
  told_room (Some x) None t h p = absurd t
  told_room (Some x) (Some y) t h p = room l sound flushed pool left taken fs headers legal x y t h p

-- ---- the calls

takes_writes : (rs : List Record) (l new : LogState) (pool left : PoolState) (taken : List HeadedFile) (a mid b : Option Content) → Tells (TakesFiles l.opening.home pool left taken) a mid
    → Tells (WritesAll (capacity_in l.opening) (ids (written_files l taken)) (written_place l) (batch_bytes l taken rs)) mid b → Tells (TakesAndWrites rs l new pool left taken) a b
takes_writes rs l new pool left taken None None None t w = tt
takes_writes rs l new pool left taken None None (Some z) t w = absurd w
takes_writes rs l new pool left taken None (Some y) b t w = absurd t
takes_writes rs l new pool left taken (Some x) None b t w = absurd t
takes_writes rs l new pool left taken (Some x) (Some y) None t w = absurd w
takes_writes rs l new pool left taken (Some x) (Some y) (Some z) t w = record { mid = y; takes = t; writes = w }

pub told_writes : (rs : List Record) (l : LogState) (taken over : List HeadedFile) (capacity : ℕ) (written : List ℕ) (mid b : Option Content) → capacity ≡ capacity_in l.opening → over ≡ from_newest l taken
    → written ≡ ids (from_written capacity l.used over)
    → Tells (WritesAll capacity written (cond (l.used == capacity) 0 l.used) (spelled_over capacity (serials over) l.used (with_fillers rs))) mid b
    → Tells (WritesAll (capacity_in l.opening) (ids (written_files l taken)) (written_place l) (batch_bytes l taken rs)) mid b
told_writes rs l taken over capacity written mid b cap is own t =
    let own_now : written ≡ ids (written_files l taken) = own ∙ (λ i. ids (from_written (cap i) l.used (is i))) in
    subst (λ (X : Type 0). X) (λ i. Tells (WritesAll (cap i) (own_now i) (cond (l.used == cap i) 0 l.used) (spelled_over (cap i) (serials (is i)) l.used (with_fillers rs))) mid b) t

pub told_appended : (rs : List Record) (l new : LogState) (pool left : PoolState) (taken over : List HeadedFile) (capacity : ℕ) (written : List ℕ) (a mid b : Option Content) → capacity ≡ capacity_in l.opening → over ≡ from_newest l taken
    → written ≡ ids (from_written capacity l.used over) → Tells (TakesFiles l.opening.home pool left taken) a mid
    → Tells (WritesAll capacity written (cond (l.used == capacity) 0 l.used) (spelled_over capacity (serials over) l.used (with_fillers rs))) mid b
    → Tells (TakesAndWrites rs l new pool left taken) a b
told_appended rs l new pool left taken over capacity written a mid b cap is own t w = takes_writes rs l new pool left taken a mid b t (told_writes rs l taken over capacity written mid b cap is own w)

-- ---- the log stands again

pool_kept_parts : (cap : ℕ) (own : List ℕ) (at : ℕ) (bytes : List ℕ) (pool : PoolState) (c : Content) → IsPoolOf pool [] c.now.disk → HaveRoom cap own c → (at + 0 ≤ cap) → IsPoolOf pool [] (with_parts cap own at bytes c).now.disk
pool_kept_parts cap [] at bytes pool c p r low = p
pool_kept_parts cap (id ∷ own) at bytes pool c p r low =
    let part : List ℕ = take (cap - at) bytes in
    let fits : (4096 + at) + length part ≤ 4096 + cap = omega (arith, length-take (cap - at) bytes, low) in
    pool_kept_parts cap own 0 (drop (cap - at) bytes) pool (with_write id (4096 + at) part c)
    (pool_kept id (λ f. record f { pending = f.pending ++ (record { at = 4096 + at; bytes = part }) ∷ [] }) (λ f. refl) (λ f. refl) c.now.disk
    (λ f e. size_after (record { at = 4096 + at; bytes = part }) f (in_file (file_of id c.now.disk) f r.0 e fits)) pool [] p)
    (room_all cap id (4096 + at) part own c (with_write id (4096 + at) part c) fits refl r.1) (omega arith)
  where
    in_file : (o : Option FileState) (f : FileState) → InFile 0 (4096 + cap) o → o ≡ Some f → {n : ℕ} → n ≤ 4096 + cap → n ≤ size_of f
    in_file o f h e {n} l = let k : 0 + (4096 + cap) ≤ size_of f = subst (InFile 0 (4096 + cap)) e h in omega (arith, k, l)

rests_kept : (cap : ℕ) (own : List ℕ) (at : ℕ) (bytes : List ℕ) (c : Content) (hs : List HeadedFile) → AllByRecursion (λ h. RestsThere h c.now.disk) hs → RestsBut own hs (with_parts cap own at bytes c).now.disk
rests_kept cap own at bytes c [] r = tt
rests_kept cap own at bytes c (h ∷ hs) r = (λ e. subst (IsAtRest h) (sym (others_parts cap h.id own at bytes c e)) r.0, rests_kept cap own at bytes c hs r.1)

module _ (l : LogState) (sound : IsSound l) (flushed : l.unsynced ≡ []) (pool left : PoolState) (taken : List HeadedFile) (fs : List FreshFile) (headers : AreHeaded l.opening l.newest fs taken)
    (legal : AllByRecursion (λ h. IsTrue (is_legal_header h.header)) taken) (bytes : List ℕ) (some : 0 < length bytes) (count : length taken ≡ (l.used + length bytes - 1) / capacity_in l.opening)
    (new : LogState) (opening : new.opening ≡ l.opening) (files : new.files ≡ l.files ++ taken) (unsynced : new.unsynced ≡ ids (written_files l taken)) where
  abbrev cap : ℕ
  cap = capacity_in l.opening

  whole_room : l.used + length bytes ≤ cap * (length taken + 1)
  whole_room = enough_room cap l.used (length bytes) (length taken) (sound_capacity l.opening sound.opening).0 some count

  module _ (a mid b : Content) (t : TakesFiles l.opening.home pool left taken a mid) (there : LogThere l a.now.disk) (p : IsPoolOf pool [] a.now.disk) where
    got : GainedAll l.opening l.files taken l.newest left a mid
    got = gains l sound flushed pool left taken fs headers legal a mid t there p

    all_sized : AllByRecursion (λ g. g.header.kib * 1024 ≡ cap) (l.files ++ taken)
    all_sized = sized l sound flushed pool left taken fs headers legal a mid t there p

    kept_files : HasFiles l.opening (l.files ++ taken) mid.now.disk
    kept_files = has_files l.opening (l.files ++ taken) mid.now.disk got.resting

    next_product : (c k : ℕ) → c * (k + 1) ≡ c * k + c
    next_product c k = grind arith

    files_by : (x : Bool) → (l.used == cap) ≡ x
        → HasFiles l.opening (l.files ++ taken) (with_parts cap (ids (cond x (drop 1 (from_newest l taken)) (from_newest l taken))) (cond x 0 l.used) bytes mid).now.disk
    files_by true e =
        let same : l.used ≡ cap = eqb_is l.used cap e in
        let rest : drop 1 (from_newest l taken) ≡ taken = drop_last l.files taken sound.some in
        subst (λ (hs : List HeadedFile). HasFiles l.opening (l.files ++ taken) (with_parts cap (ids hs) 0 bytes mid).now.disk) (sym rest)
        (parts_laid l.opening (l.files ++ taken) l.files taken 0 bytes mid refl kept_files (omega arith) all_sized (omega (arith, whole_room, same, next_product cap (length taken)))).files
    files_by false e =
        let cut = cut_last l.files taken sound.some in
        let size : length (from_newest l taken) ≡ length taken + 1 = tail_length l.files taken (length taken) sound.some refl in
        (parts_laid l.opening (l.files ++ taken) cut.0 (from_newest l taken) l.used bytes mid cut.1 kept_files sound.used.1 all_sized
        (omega (arith, whole_room, ap (λ n. cap * n) size))).files

    pub there_after : b ≡ with_parts cap (ids (written_files l taken)) (written_place l) bytes mid → LogThere new b.now.disk
    there_after w =
        let wrote : HasFiles l.opening (l.files ++ taken) b.now.disk = subst (λ (c : Content). HasFiles l.opening (l.files ++ taken) c.now.disk) (sym w) (files_by (l.used == cap) refl) in
        record {
          waiting =
              subst (λ (own : List ℕ). AreInUse own b.now.disk) (sym unsynced)
              (all_used (written_files l taken) b.now.disk (used_part (l.used == cap) (all_drop (λ h. LinkedThere h b.now.disk) (length l.files - 1) (l.files ++ taken) wrote.linked)));
          there = subst (λ (o : Opening). HasFiles o new.files b.now.disk) (sym opening) (subst (λ (hs : List HeadedFile). HasFiles l.opening hs b.now.disk) (sym files) wrote);
          rests =
              subst (λ (own : List ℕ). RestsBut own new.files b.now.disk) (sym unsynced)
              (subst (λ (hs : List HeadedFile). RestsBut (ids (written_files l taken)) hs b.now.disk) (sym files)
              (subst (λ (c : Content). RestsBut (ids (written_files l taken)) (l.files ++ taken) c.now.disk) (sym w)
              (rests_kept cap (ids (written_files l taken)) (written_place l) bytes mid (l.files ++ taken) got.resting.rest)));
        }
      where
        used_part : (x : Bool) → AllByRecursion (λ h. LinkedThere h b.now.disk) (from_newest l taken) → AllByRecursion (λ h. LinkedThere h b.now.disk) (cond x (drop 1 (from_newest l taken)) (from_newest l taken))
        used_part true k = all_drop (λ h. LinkedThere h b.now.disk) 1 (from_newest l taken) k
        used_part false k = k

    rooms_written : (x : Bool) → HaveRoom cap (ids (from_newest l taken)) mid → HaveRoom cap (ids (cond x (drop 1 (from_newest l taken)) (from_newest l taken))) mid
    rooms_written true r = room_drop (from_newest l taken) r
      where
        room_drop : (hs : List HeadedFile) → HaveRoom cap (ids hs) mid → HaveRoom cap (ids (drop 1 hs)) mid
        room_drop [] r = r
        room_drop (h ∷ hs) r = r.1
    rooms_written false r = r

    low_place : (x : Bool) → cond x 0 l.used + 0 ≤ cap
    low_place true = omega arith
    low_place false = omega (arith, sound.used.1)

    pub pool_behind : b ≡ with_parts cap (ids (written_files l taken)) (written_place l) bytes mid → IsPoolOf left [] b.now.disk
    pool_behind w =
        subst (λ (c : Content). IsPoolOf left [] c.now.disk) (sym w)
        (pool_kept_parts cap (ids (written_files l taken)) (written_place l) bytes left mid got.pool
        (rooms_written (l.used == cap) (room l sound flushed pool left taken fs headers legal a mid t there p)) (low_place (l.used == cap)))

  pub told_there : (a mid b : Option Content) → Tells (TakesFiles l.opening.home pool left taken) a mid → Tells (WritesAll cap (ids (written_files l taken)) (written_place l) bytes) mid b
      → IfSome a (OnDisk (LogThere l)) → IfSome a (OnDisk (IsPoolOf pool [])) → IfSome b (OnDisk (LogThere new))
  told_there None None None t w h p = tt
  told_there None None (Some z) t w h p = absurd w
  told_there None (Some y) b t w h p = absurd t
  told_there (Some x) None b t w h p = absurd t
  told_there (Some x) (Some y) None t w h p = absurd w
  told_there (Some x) (Some y) (Some z) t w h p = there_after x y z t h p w

  pub told_pool_after : (a mid b : Option Content) → Tells (TakesFiles l.opening.home pool left taken) a mid → Tells (WritesAll cap (ids (written_files l taken)) (written_place l) bytes) mid b
      → IfSome a (OnDisk (LogThere l)) → IfSome a (OnDisk (IsPoolOf pool [])) → IfSome b (OnDisk (IsPoolOf left []))
  told_pool_after None None None t w h p = tt
  told_pool_after None None (Some z) t w h p = absurd w
  told_pool_after None (Some y) b t w h p = absurd t
  told_pool_after (Some x) None b t w h p = absurd t
  told_pool_after (Some x) (Some y) None t w h p = absurd w
  told_pool_after (Some x) (Some y) (Some z) t w h p = pool_behind x y z t h p w

-- ---- what stays

with_parts_answered : (cap : ℕ) (own : List ℕ) (at : ℕ) (bytes : List ℕ) (c : Content) → (with_parts cap own at bytes c).now.answered ≡ c.now.answered
with_parts_answered cap [] at bytes c = refl
with_parts_answered cap (id ∷ own) at bytes c = with_parts_answered cap own 0 (drop (cap - at) bytes) (with_write id (4096 + at) (take (cap - at) bytes) c)

or_right : (a b : Bool) → (a || b) ≡ false → b ≡ false
or_right true b e = absurd (cc)
or_right false b e = e

among_append : (id : ℕ) (xs ys : List HeadedFile) → is_among id (ids (xs ++ ys)) ≡ false → is_among id (ids ys) ≡ false
among_append id [] ys e = e
among_append id (x ∷ xs) ys e = among_append id xs ys (or_right (x.id == id) (is_among id (ids (xs ++ ys))) e)

among_drop : (id k : ℕ) (hs : List HeadedFile) → is_among id (ids hs) ≡ false → is_among id (ids (drop k hs)) ≡ false
among_drop id zero hs e = e
among_drop id (suc k) [] e = refl
among_drop id (suc k) (h ∷ hs) e = among_drop id k hs (or_right (h.id == id) (is_among id (ids hs)) e)

among_written : (id : ℕ) (x : Bool) (hs : List HeadedFile) → is_among id (ids hs) ≡ false → is_among id (ids (cond x (drop 1 hs) hs)) ≡ false
among_written id true hs e = among_drop id 1 hs e
among_written id false hs e = e

pub told_others_after : (l : LogState) (pool left : PoolState) (taken : List HeadedFile) (fs : List FreshFile) (headers : AreHeaded l.opening l.newest fs taken) (legal : AllByRecursion (λ h. IsTrue (is_legal_header h.header)) taken)
    (bytes : List ℕ) (files : List HeadedFile) → files ≡ l.files ++ taken → (a mid b : Option Content) → Tells (TakesFiles l.opening.home pool left taken) a mid
    → Tells (WritesAll (capacity_in l.opening) (ids (written_files l taken)) (written_place l) bytes) mid b → Tells (LeavesOthers files) a b
told_others_after l pool left taken fs headers legal bytes files is None None None t w = tt
told_others_after l pool left taken fs headers legal bytes files is None None (Some z) t w = absurd w
told_others_after l pool left taken fs headers legal bytes files is None (Some y) b t w = absurd t
told_others_after l pool left taken fs headers legal bytes files is (Some x) None b t w = absurd t
told_others_after l pool left taken fs headers legal bytes files is (Some x) (Some y) None t w = absurd w
told_others_after l pool left taken fs headers legal bytes files is (Some x) (Some y) (Some z) t w = record {
  files = λ id e.
      let all = subst (λ (hs : List HeadedFile). is_among id (ids hs) ≡ false) is e in
      ap (λ (c : Content). file_of id c.now.disk) w
      ∙ others_parts (capacity_in l.opening) id (ids (written_files l taken)) (written_place l) bytes y
      (among_written id (l.used == capacity_in l.opening) (from_newest l taken) (among_drop id (length l.files - 1) (l.files ++ taken) all))
      ∙ others_all l.opening pool left taken fs l.newest x y t headers legal id (among_append id l.files taken all);
  answered =
      ap (λ (c : Content). c.now.answered) w ∙ with_parts_answered (capacity_in l.opening) (ids (written_files l taken)) (written_place l) bytes y
      ∙ answered_all l.opening pool left taken fs l.newest x y t headers legal;
}

pub batch_size : (l : LogState) (taken : List HeadedFile) (rs : List Record) (len : ℕ) → len ≡ block_length (length_of rs) → length (batch_bytes l taken rs) ≡ len
batch_size l taken rs len e = length-spelled_over (capacity_in l.opening) (serials (from_newest l taken)) l.used (with_fillers rs) ∙ length_of-with_fillers rs ∙ sym e
