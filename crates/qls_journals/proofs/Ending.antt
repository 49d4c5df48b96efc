-- Records for which there is no further file: they had one where the call wrote them, and there is none where the call stopped.
use Rattle.std.proofs.Common.{◌≡◌, ℕ, zero, suc, true, false, not, ◌&&◌, ◌==◌, ◌+◌, ◌-◌, ◌<◌, ◌≤◌, ◌^◌, List, [], ◌∷◌, length, map, take, Option, Some, None, refl, sym, ap, ap₂, ◌∙◌, subst, arith, ◌⊎◌, inl, inr, cond, ltb, nat_lt, ◌||◌, Bool, IsTrue}
use Rattle.std.specs.List.{list_any, filter, AllByRecursion}
use Rattle.std.proofs.lemmas.Bool.{and_parts, cases_lt, eqb-true, ltb-true, leb-true}
use Rattle.std.proofs.lemmas.Bool.Decides.{nat_tests}
use Rattle.std.proofs.lemmas.Nat.{le-div}
use Rattle.std.proofs.lemmas.List.{length-map, length-take-le}
use Rattle.qls_model.specs.Bytes.{same}
use Rattle.qls_model.specs.declared.machine.PoolId.{PoolId}
use Rattle.qls_model.proofs.XidKeys.{same_self}
use Rattle.qls_record.specs.Record.{Record}
use Rattle.qls_site.specs.Disk.{Disk, FileState, file_of, full, full_file, bytes_at, seen_bytes, all_written}
use Rattle.qls_site.specs.Content.{Moment, Content, moments_since}
use Rattle.qls_filehdr.specs.declared.FileHeader.{FileHeader}
use Rattle.qls_filehdr.specs.declared.JournalKind.{JournalKind}
use Rattle.qls_filehdr.specs.declared.JournalKind.TheVariants.{Queue, List as TheList}
use Rattle.qls_filehdr.specs.Header.{header_spelling}
use Rattle.qls_filehdr.specs.Limits.{is_legal_header}
use Rattle.qls_meaning.specs.History.{AllUnmarked, last_of, is_file_in_use}
use Rattle.qls_meaning.specs.Journals.{Headed, Journal, headed, is_in_use, in_use, is_of, same_kind}
use Rattle.qls_meaning.specs.Dead.{newest_number}
use Rattle.qls_meaning.specs.Orderly.{journal_on}
use Rattle.qls_meaning.specs.Reading.{Read}
use Rattle.qls_meaning.specs.Spent.{last_count, greatest_id, has_empty, is_pool_place, no_file_left, greatest_epoch, batch_meets_end}
use Rattle.qls_blocks.specs.Plans.{plan_of, starts, fresh_file, fresh_count}
use Rattle.qls_blocks.specs.declared.plan.FreshFile.{FreshFile}
use Rattle.qls_blocks.specs.Batching.{with_fillers, length_of, block_length}
use Rattle.qls_pool.specs.Pools.{PoolState, IsSpent, has, least_id}
use Rattle.qls_pool.specs.Files.{HeadedFile, IsLinked, LinkedThere, IsWholePool, IdsDiffer, is_at, is_among}
use Rattle.qls_pool.specs.Moments.{Chain, Passes, Arrives}
use Rattle.qls_pool.proofs.Disks.{found_id}
use Rattle.qls_pool.proofs.Moments.{since_is, since_of}
use Rattle.qls_pool.proofs.Order.{IsLeastOf, least_is}
use Rattle.qls_pool.proofs.Steps.{all_found, header_length}
use Rattle.qls_log.specs.declared.opening.Opening.{Opening}
use Rattle.qls_log.specs.Leaving.{NoneLeaves, RemainsInUse}
use Rattle.qls_log.specs.Logs.{LogState, IsSound, IsOfJournal, capacity_in, ids, NumberedFrom}
use Rattle.qls_log.specs.Reads.{IsRead}
use Rattle.qls_log.specs.Standing.{LogThere, AreThoseFiles, AreApart, files_on}
use Rattle.qls_log.specs.Steps.{IsLogStep, MeetsEndWith, KeepsRoom, room_behind, room_on, is_own}
use Rattle.qls_log.specs.Taking.{MeetsEnd}
use Rattle.qls_log.proofs.Splits.{all_by_number, by_number-back}
use Rattle.qls_log.proofs.Takes.{header_seen}
use Rattle.qls_journals.specs.Ends.{has_own, at_end_in, at_end_by, batch_at_end}
use Rattle.qls_journals.specs.Homes.{Home, Homes, home_by, home_for}
use Rattle.qls_journals.proofs.Counting.{no_more, ids_differ, apart_take, ids_in, all_among, greatest_there, greatest_own, greatest_before}
use Rattle.qls_journals.proofs.Others.{found_all}

-- ---- a disk without a file for the next journal

not_both : (b : Bool) → b ≡ true → b ≡ false → ⊥
not_both b e k = cc

any_first : (t : FileState → Bool) (f g : FileState) (b : Bool) (rest : Option FileState) (any : Bool) → t f ≡ true → (rest ≡ Some f → any ≡ true) → cond b (Some g) rest ≡ Some f → (t g || any) ≡ true
any_first t f g true rest any is more e = ap (λ (x : FileState). t x || any) (some_is e) ∙ ap (λ b. b || any) is
  where
    some_is : Some g ≡ Some f → g ≡ f
    some_is e = cc
any_first t f g false rest any is more e = or_true (t g) any (more e)
  where
    or_true : (a b : Bool) → b ≡ true → (a || b) ≡ true
    or_true true b e = refl
    or_true false b e = e

any_found : (t : FileState → Bool) (id : ℕ) (f : FileState) (d : Disk) → t f ≡ true → file_of id d ≡ Some f → list_any t d ≡ true
any_found t id f [] is e = absurd (cc)
any_found t id f (g ∷ d) is e = any_first t f g (g.id == id) (file_of id d) (list_any t d) is (any_found t id f d is) e

found_at : (part kib : ℕ) (o : Option FileState) → is_at part kib o ≡ true → (f : FileState) × (o ≡ Some f) × (is_pool_place part kib f.place ≡ true)
found_at part kib None e = absurd (cc)
found_at part kib (Some f) e = (f, refl, e)

none_least : (home : PoolId) (pool : PoolState) (d : Disk) → IsWholePool pool d → has_empty home d ≡ false → (o : Option ℕ) → IsLeastOf (λ j. has home.part home.kib j pool.files) o → o ≡ None
none_least home pool d whole none None least = refl
none_least home pool d whole none (Some m) least =
    let at : is_at home.part home.kib (file_of m d) ≡ true = (and_parts (is_at home.part home.kib (file_of m d)) (not (is_among m [])) (sym (whole.1.files home.part home.kib m) ∙ least.0)).0 in
    let found = found_at home.part home.kib (file_of m d) at in
    absurd (not_both (has_empty home d) (any_found (λ f. is_pool_place home.part home.kib f.place) m found.0 d found.2 found.1) none)

not_true : (b : Bool) → not b ≡ true → b ≡ false
not_true true e = cc
not_true false e = refl

-- where the disk has no file left, nor has the pool
pub spent_of_disk : (home : PoolId) (pool : PoolState) (d : Disk) → IsWholePool pool d → no_file_left home d ≡ true → IsSpent home pool
spent_of_disk home pool d whole e =
    let parts = and_parts (greatest_id d == last_count) (not (has_empty home d)) e in
    record { empty = none_least home pool d whole (not_true (has_empty home d) parts.1) (least_id home pool.files) (least_is home pool.files); last = whole.1.greatest ∙ eqb-true (greatest_id d) last_count parts.0 }

-- the number of the journal's newest file is the log's
pub newest_there : (cap n newest : ℕ) (hs : List HeadedFile) (fs : List Headed) → 0 < length hs → NumberedFrom n hs newest → AreThoseFiles cap hs fs → newest_number fs ≡ newest
newest_there cap n newest [] fs some numbers those = absurd (omega (arith, some))
newest_there cap n newest (h ∷ hs) [] some numbers those = absurd those
newest_there cap n newest (h ∷ []) (f ∷ []) some numbers those = ap (λ (x : FileHeader). x.number) those.0.header ∙ numbers.0 ∙ omega (arith, numbers.1)
newest_there cap n newest (h ∷ []) (f ∷ g ∷ fs) some numbers those = absurd those.1
newest_there cap n newest (h ∷ k ∷ hs) (f ∷ []) some numbers those = absurd those.1
newest_there cap n newest (h ∷ k ∷ hs) (f ∷ g ∷ fs) some numbers those = newest_there cap (n + 1) newest (k ∷ hs) (g ∷ fs) (omega arith) numbers.1 those.1

-- a batch that doesn't fit needs a fresh file
length-starts : (capacity start n : ℕ) → length (starts capacity start n) ≡ n
length-starts capacity start zero = refl
length-starts capacity start (suc n) = ap suc (length-starts capacity (start + capacity) n)

some_fresh : (rs : List Record) (used capacity rid : ℕ) → used ≤ capacity → 0 < capacity → capacity - used < block_length (length_of rs) → 0 < length (plan_of rs used capacity rid).fresh
some_fresh rs used capacity rid within some over =
    subst (λ n. 0 < n) (sym (length-map (starts capacity capacity (fresh_count capacity (used + block_length (length_of rs)))) (fresh_file capacity rid used (with_fillers rs)) ∙ length-starts capacity capacity (fresh_count capacity (used + block_length (length_of rs)))))
    (le-div 1 (used + block_length (length_of rs) - 1) capacity some (omega (arith, within, over)))

-- ---- the files of a journal

-- what holds of all files of a journal holds of a file in use that is one
back_filter : (test : Headed → Bool) (P : Headed → Type 0) (fs : List Headed) → AllByRecursion P (filter test fs) → AllByRecursion (λ f. test f ≡ true → P f) fs
back_filter test P [] h = tt
back_filter test P (f ∷ fs) h =
    elim (test f) as (λ b. test f ≡ b → AllByRecursion P (cond b (f ∷ filter test fs) (filter test fs)) → AllByRecursion (λ f. test f ≡ true → P f) (f ∷ fs)) [
      | true ↦ λ e k. ((λ u. k.0), back_filter test P fs k.1)
      | false ↦ λ e k. ((λ u. absurd (not_both (sym u ∙ e))), back_filter test P fs k)
    ] refl h
  where
    not_both : true ≡ false → ⊥
    not_both e = cc

back_in_use : (P : Headed → Type 0) (d : Disk) → AllByRecursion P (map headed (in_use (full d))) → AllByRecursion (λ g. is_in_use g.place ≡ true → P (headed (full_file g))) d
back_in_use P [] h = tt
back_in_use P (g ∷ d) h =
    elim (is_in_use g.place) as (λ b. is_in_use g.place ≡ b → AllByRecursion P (map headed (cond b (full_file g ∷ in_use (full d)) (in_use (full d)))) → AllByRecursion (λ g. is_in_use g.place ≡ true → P (headed (full_file g))) (g ∷ d)) [
      | true ↦ λ e k. ((λ u. k.0), back_in_use P d k.1)
      | false ↦ λ e k. ((λ u. absurd (not_both (sym u ∙ e))), back_in_use P d k)
    ] refl h
  where
    not_both : true ≡ false → ⊥
    not_both e = cc

pub of_journal : (P : Headed → Type 0) (o : Opening) (d : Disk) (id : ℕ) (f : FileState) → AllByRecursion P (files_on o d) → file_of id d ≡ Some f → is_in_use f.place ≡ true
    → is_of o.kind o.name (headed (full_file f)) ≡ true → P (headed (full_file f))
of_journal P o d id f all there used own =
    let mine = back_filter (is_of o.kind o.name) P (map headed (in_use (full d))) (by_number-back P (filter (is_of o.kind o.name) (map headed (in_use (full d)))) all) in
    found_all (λ g. is_in_use g.place ≡ true → is_of o.kind o.name (headed (full_file g)) ≡ true → P (headed (full_file g))) id f d (back_in_use (λ x. is_of o.kind o.name x ≡ true → P x) d mine) there used own

all_in_use : (test : Headed → Bool) (P : Headed → Type 0) (d : Disk) → AllByRecursion (λ g. is_in_use g.place ≡ true → test (headed (full_file g)) ≡ true → P (headed (full_file g))) d → AllByRecursion P (filter test (map headed (in_use (full d))))
all_in_use test P [] h = tt
all_in_use test P (g ∷ d) h =
    elim (is_in_use g.place) as (λ b. is_in_use g.place ≡ b → AllByRecursion P (filter test (map headed (cond b (full_file g ∷ in_use (full d)) (in_use (full d)))))) [
      | true ↦ λ e. elim (test (headed (full_file g))) as (λ c. test (headed (full_file g)) ≡ c → AllByRecursion P (cond c (headed (full_file g) ∷ filter test (map headed (in_use (full d)))) (filter test (map headed (in_use (full d)))))) [
        | true ↦ λ k. (h.0 e k, all_in_use test P d h.1)
        | false ↦ λ k. all_in_use test P d h.1
      ] refl
      | false ↦ λ e. all_in_use test P d h.1
    ] refl

-- what holds of each file in use that is one of a journal holds of the journal's files
pub to_journal : (P : Headed → Type 0) (o : Opening) (d : Disk) → IdsDiffer d
    → ((id : ℕ) (f : FileState) → file_of id d ≡ Some f → is_in_use f.place ≡ true → is_of o.kind o.name (headed (full_file f)) ≡ true → P (headed (full_file f))) → AllByRecursion P (files_on o d)
to_journal P o d differ h =
    all_by_number P (filter (is_of o.kind o.name) (map headed (in_use (full d))))
    (all_in_use (is_of o.kind o.name) P d
    (Rattle.qls_pool.proofs.Steps.all_weaken (λ g. file_of g.id d ≡ Some g) (λ g. is_in_use g.place ≡ true → is_of o.kind o.name (headed (full_file g)) ≡ true → P (headed (full_file g))) (λ g there. h g.id g there) d (all_found d differ)))

-- ---- where no file leaves use, a file of the log is in use still

abbrev IsThere : HeadedFile → Disk → Type 0
IsThere h d = (f : FileState) × (file_of h.id d ≡ Some f) × (is_in_use f.place ≡ true) × (take 4096 (bytes_at h.id d) ≡ header_spelling h.header)

module _ (o : Opening) (h : HeadedFile) (legal : IsTrue (is_legal_header h.header)) where
  still_by : (m n : Moment) → IsThere h m.disk → NoneLeaves m n → take 4096 (bytes_at h.id n.disk) ≡ header_spelling h.header → (p : Option FileState) → file_of h.id n.disk ≡ p → IsThere h n.disk
  still_by m n was stays bytes None e = absurd (omega (arith, ap length (ap (λ (q : Option FileState). take 4096 (seen_bytes q)) (sym e) ∙ bytes), header_length h.header legal))
  still_by m n was stays bytes (Some g) e =
      let remains : RemainsInUse (file_of g.id m.disk) g = found_all (λ g. RemainsInUse (file_of g.id m.disk) g) h.id g n.disk stays e in
      let before : RemainsInUse (Some was.0) g = subst (λ p. RemainsInUse p g) (ap (λ k. file_of k m.disk) (found_id h.id g n.disk e) ∙ was.1) remains in
      (g, e, before was.2, bytes)

  still_there : (m n : Moment) → IsLogStep o m n → NoneLeaves m n → IsThere h m.disk → IsThere h n.disk
  still_there m n step stays was = still_by m n was stays (step.headers h.id (ap is_file_in_use was.1 ∙ was.2) ∙ was.3) (file_of h.id n.disk) refl

  there_after : (m : Moment) (ms : List Moment) → Chain (IsLogStep o) m ms → Chain NoneLeaves m ms → IsThere h m.disk → IsThere h (last_of m ms).disk
  there_after m [] steps stays was = was
  there_after m (n ∷ ns) steps stays was = there_after n ns steps.1 stays.1 (still_there m n steps.0 stays.0 was)

differ_of : (o : Opening) (m : Moment) (ms : List Moment) → Chain (IsLogStep o) m ms → IdsDiffer m.disk → IdsDiffer (last_of m ms).disk
differ_of o m [] steps d = d
differ_of o m (n ∷ ns) steps d = differ_of o n ns steps.1 (steps.0.differ d)

-- ---- the files that are there still are among the journal's

same_kind_self : (k : JournalKind) → same_kind k k ≡ true
same_kind_self Queue = refl
same_kind_self TheList = refl

-- the file is of the journal and of an earlier opening
record IsOld (o : Opening) (d : Disk) (h : HeadedFile) : Type 0 where
  journal : IsOfJournal o h
  legal : IsTrue (is_legal_header h.header)
  there : IsThere h d
  less : h.header.epoch < o.epoch

module _ (o : Opening) (d : Disk) where
  fields_at : (h : HeadedFile) → IsTrue (is_legal_header h.header) → (f : FileState) → file_of h.id d ≡ Some f → take 4096 (bytes_at h.id d) ≡ header_spelling h.header → (headed (full_file f)).header ≡ h.header
  fields_at h legal f found bytes = header_seen h.header (all_written f.pending f.stable) legal (ap (λ (p : Option FileState). take 4096 (seen_bytes p)) (sym found) ∙ bytes)

  own_there : (h : HeadedFile) → IsOfJournal o h → IsTrue (is_legal_header h.header) → (was : IsThere h d) → is_of o.kind o.name (headed (full_file was.0)) ≡ true
  own_there h own legal was =
      ap (λ (x : FileHeader). is_own o x.kind x.name) (fields_at h legal was.0 was.1 was.3 ∙ own) ∙ ap (λ b. b && same o.name o.name) (same_kind_self o.kind) ∙ same_self o.name

  among_there : (h : HeadedFile) → IsOfJournal o h → IsTrue (is_legal_header h.header) → IsThere h d → is_among h.id (ids_in (files_on o d)) ≡ true
  among_there h own legal was =
      subst (λ n. is_among n (ids_in (files_on o d)) ≡ true) (found_id h.id was.0 d was.1)
      (of_journal (λ x. is_among x.id (ids_in (files_on o d)) ≡ true) o d h.id was.0 (all_among (files_on o d)) was.1 was.2 (own_there h own legal was))

  -- a file with the id of an old one is of an earlier opening
  abbrev Avoids : List HeadedFile → Headed → Type 0
  Avoids olds x = AllByRecursion (λ h. h.id ≡ x.id → x.header.epoch < o.epoch) olds

  avoids_each : (olds : List HeadedFile) → AllByRecursion (IsOld o d) olds → (id : ℕ) (f : FileState) → file_of id d ≡ Some f → Avoids olds (headed (full_file f))
  avoids_each [] k id f found = tt
  avoids_each (h ∷ hs) k id f found = (
    (λ same. subst (λ (x : FileHeader). x.epoch < o.epoch) (sym (fields_at h k.0.legal f (ap (λ n. file_of n d) (same ∙ found_id id f d found) ∙ found) k.0.there.3)) k.0.less),
    avoids_each hs k.1 id f found,
  )

  avoids_all : IdsDiffer d → (olds : List HeadedFile) → AllByRecursion (IsOld o d) olds → AllByRecursion (Avoids olds) (files_on o d)
  avoids_all differ olds k = to_journal (Avoids olds) o d differ (λ id f found used own. avoids_each olds k id f found)

  both : (P Q : Headed → Type 0) (fs : List Headed) → AllByRecursion P fs → AllByRecursion Q fs → AllByRecursion (λ f. P f × Q f) fs
  both P Q [] h k = tt
  both P Q (f ∷ fs) h k = ((h.0, k.0), both P Q fs h.1 k.1)

  ids_among : (olds : List HeadedFile) → AllByRecursion (IsOld o d) olds → AllByRecursion (λ id. is_among id (ids_in (files_on o d)) ≡ true) (ids olds)
  ids_among [] k = tt
  ids_among (h ∷ hs) k = (among_there h k.0.journal k.0.legal k.0.there, ids_among hs k.1)

  other_ids : (olds : List HeadedFile) (f : Headed) → f.header.epoch ≡ o.epoch → Avoids olds f → AllByRecursion (λ id. (id ≡ f.id) → ⊥) (ids olds)
  other_ids [] f own k = tt
  other_ids (h ∷ hs) f own k = ((λ same. below f.header.epoch (k.0 same) own), other_ids hs f own k.1)
    where
      below : (e : ℕ) → e < o.epoch → e ≡ o.epoch → ⊥
      below e less is = omega (arith, less, is)

  -- where the journal has a file of this opening, it has more files than these old ones
  more_files : IdsDiffer d → 0 < o.epoch → (olds : List HeadedFile) → AllByRecursion (IsOld o d) olds → AreApart olds → greatest_epoch (files_on o d) ≡ o.epoch → length olds < length (files_on o d)
  more_files differ some olds k apart is =
      let fs : List Headed = files_on o d in
      let own = greatest_there o.epoch (λ f. (is_among f.id (ids_in fs) ≡ true) × Avoids olds f) fs some is (both (λ f. is_among f.id (ids_in fs) ≡ true) (Avoids olds) fs (all_among fs) (avoids_all differ olds k)) in
      let few = no_more (own.0.id ∷ ids olds) (ids_in fs) (other_ids olds own.0 own.2 own.1.1, ids_differ olds apart) (own.1.0, ids_among olds k) in
      omega (arith, few, length-map olds (λ (h : HeadedFile). h.id), length-map fs (λ (f : Headed). f.id))

-- ---- the records of a batch

-- behind a log's reading, the bytes that are left are those of its newest file, where it has one of this opening
abbrev pub HasItsRoom : Type 0
HasItsRoom = (l : LogState) (d : Disk) (reads : List Read) → IsSound l → LogThere l d → IsRead l reads d → l.older < length l.files → room_behind (journal_on d l.opening.kind l.opening.name) ≡ capacity_in l.opening - l.used

abbrev pub fresh_of : LogState → List Record → List FreshFile
fresh_of l rs = (plan_of rs l.used (capacity_in l.opening) l.rid).fresh

-- The journal has a file of this opening or not, as `fresh` says, and so much room. Where the batch needs a further file and it could be had,
-- it doesn't meet the end
had_file : (l : LogState) (rs : List Record) (pool : PoolState) (d : Disk) (fresh : Bool) (room : ℕ) → IsSound l → IsWholePool pool d → LogThere l d → (room < block_length (length_of rs) → capacity_in l.opening - l.used < block_length (length_of rs))
    → (fresh ≡ false → greatest_epoch (files_on l.opening d) ≡ last_count → l.opening.epoch ≡ 2 ^ 62) → (0 < length (fresh_of l rs) → MeetsEnd l.opening l.newest 1 pool → ⊥)
    → batch_meets_end l.opening.home d (files_on l.opening d) fresh room (block_length (length_of rs)) ≡ true → ⊥
had_file l rs pool d fresh room sound whole there over spent had e =
    let needed : ℕ = block_length (length_of rs) in
    let parts = and_parts (ltb room needed) (no_file_left l.opening.home d || newest_number (files_on l.opening d) == last_count || (not fresh && greatest_epoch (files_on l.opening d) == last_count)) e in
    let some : 0 < capacity_in l.opening = omega (arith, leb-true 4 l.opening.home.kib (and_parts _ _ (and_parts _ _ sound.opening.kib).0).0) in
    had (some_fresh rs l.used (capacity_in l.opening) l.rid sound.used.1 some (over (ltb-true room needed parts.0))) (by (no_file_left l.opening.home d) refl (newest_number (files_on l.opening d) == last_count) refl fresh refl (greatest_epoch (files_on l.opening d) == last_count) refl parts.1)
  where
    one_more : 0 < 1
    one_more = omega arith

    at_last : newest_number (files_on l.opening d) ≡ last_count → l.newest + 0 ≡ 2 ^ 62 - 1
    at_last e = omega (arith, newest_there (capacity_in l.opening) (l.newest + 1 - length l.files) l.newest l.files (files_on l.opening d) sound.some sound.numbers there.there.files, e)

    by : (a : Bool) → no_file_left l.opening.home d ≡ a → (b : Bool) → (newest_number (files_on l.opening d) == last_count) ≡ b → (f : Bool) → fresh ≡ f → (g : Bool) → (greatest_epoch (files_on l.opening d) == last_count) ≡ g
        → (a || b || (not f && g)) ≡ true → MeetsEnd l.opening l.newest 1 pool
    by true j b k f m g n h = record { taken = 0; fewer = one_more; last = inr (inr (spent_of_disk l.opening.home pool d whole j)) }
    by false j true k f m g n h = record { taken = 0; fewer = one_more; last = inl (at_last (eqb-true (newest_number (files_on l.opening d)) last_count k)) }
    by false j false k true m g n h = absurd (cc)
    by false j false k false m true n h = record { taken = 0; fewer = one_more; last = inr (inl (spent m (eqb-true (greatest_epoch (files_on l.opening d)) last_count n))) }
    by false j false k false m false n h = absurd (cc)

-- where there is a file of the journal, the end is by its home
end_of_some : (home : Home) (d : Disk) (j : Journal) (fs : List Headed) (needed : ℕ) → 0 < length fs
    → at_end_in home d j fs needed ≡ batch_meets_end home.pool d fs (has_own home.epoch fs) (cond (has_own home.epoch fs) (room_behind j) 0) needed
end_of_some home d j [] needed some = absurd (omega (arith, some))
end_of_some home d j (f ∷ fs) needed some = refl

less_than : (m n : ℕ) → m < n → nat_lt m n ≡ true
less_than m n h = grind (arith, nat_tests)

equals : (m n : ℕ) → m ≡ n → (m == n) ≡ true
equals m n h = grind (arith, nat_tests)

differs : (m n : ℕ) → m + 1 ≡ n → (m == n) ≡ false
differs m n h = grind (arith, nat_tests)

those_some : (cap : ℕ) (hs : List HeadedFile) (fs : List Headed) → AreThoseFiles cap hs fs → 0 < length hs → 0 < length fs
those_some cap [] fs those some = absurd (omega (arith, some))
those_some cap (h ∷ hs) [] those some = absurd those
those_some cap (h ∷ hs) (f ∷ fs) those some = omega arith

among_some : (id : ℕ) (fs : List Headed) → is_among id (ids_in fs) ≡ true → 0 < length fs
among_some id [] e = absurd (cc)
among_some id (f ∷ fs) e = omega arith

-- what stops a batch without a file of this opening, stops it with one or without
or_less : (a b c fresh : Bool) → (a || b || (not fresh && c)) ≡ true → (a || b || (true && c)) ≡ true
or_less true b c fresh h = refl
or_less false true c fresh h = refl
or_less false false c true h = absurd (cc)
or_less false false c false h = h

module _ (homes : Homes) (l : LogState) (sound : IsSound l) (home : home_by l.opening.kind l.opening.name homes ≡ Some (home_for l.opening)) (rs : List Record) where
  abbrev o : Opening
  o = l.opening

  abbrev needed : ℕ
  needed = block_length (length_of rs)

  abbrev behind : Disk → Journal
  behind d = journal_on d o.kind o.name

  abbrev End : Disk → Bool → ℕ → Type 0
  End d own room = batch_meets_end o.home d (files_on o d) own room needed ≡ true

  -- the end on a disk that has a file of the log's journal
  ends_as : (d : Disk) → 0 < length (files_on o d)
      → batch_at_end homes o.kind o.name rs d ≡ batch_meets_end o.home d (files_on o d) (has_own o.epoch (files_on o d)) (cond (has_own o.epoch (files_on o d)) (room_behind (journal_on d o.kind o.name)) 0) needed
  ends_as d some =
      ap (λ h. at_end_by h d (journal_on d o.kind o.name) needed) home ∙ end_of_some (home_for o) d (journal_on d o.kind o.name) (files_on o d) needed some

  pub batch_had : (law : HasItsRoom) (pool : PoolState) (d : Disk) (reads : List Read) → LogThere l d → IsWholePool pool d → IsRead l reads d → (0 < length (fresh_of l rs) → MeetsEnd o l.newest 1 pool → ⊥)
      → batch_at_end homes o.kind o.name rs d ≡ true → ⊥
  batch_had law pool d reads there whole read had e =
      by (cases_lt l.older (length l.files)) (sym (ends_as d (those_some (capacity_in o) l.files (files_on o d) there.there.files sound.some)) ∙ e)
    where
      by : (l.older < length l.files) ⊎ (length l.files ≤ l.older) → End d (has_own o.epoch (files_on o d)) (cond (has_own o.epoch (files_on o d)) (room_behind (behind d)) 0) → ⊥
      by (inl less) k =
          let own : has_own o.epoch (files_on o d) ≡ true = equals (greatest_epoch (files_on o d)) o.epoch (greatest_own o l.older (capacity_in o) l.files (files_on o d) less there.there.files sound.olds sound.own) in
          had_file l rs pool d true (room_behind (behind d)) sound whole there (λ h. subst (λ n. n < needed) (law l d reads sound there read less) h) (λ f. absurd (not_both true refl f)) had
          (subst (λ b. End d b (cond b (room_behind (behind d)) 0)) own k)
      by (inr more) k =
          let all : l.older ≡ length l.files = omega (arith, more, sound.older) in
          let olds : AllByRecursion (λ h. h.header.epoch < o.epoch) l.files = subst (AllByRecursion (λ (h : HeadedFile). h.header.epoch < o.epoch)) (ap (λ n. take n l.files) all ∙ take_all l.files) sound.olds in
          let greatest : greatest_epoch (files_on o d) + 1 ≡ o.epoch = greatest_before o.epoch (capacity_in o) l.files (files_on o d) sound.some there.there.files olds (sound.next all) in
          let own : has_own o.epoch (files_on o d) ≡ false = differs (greatest_epoch (files_on o d)) o.epoch greatest in
          had_file l rs pool d false 0 sound whole there (λ h. omega (arith, h, sound.full all)) (λ f last. omega (arith, greatest, last)) had
          (subst (λ b. End d b (cond b (room_behind (behind d)) 0)) own k)
        where
          take_all : (hs : List HeadedFile) → take (length hs) hs ≡ hs
          take_all [] = refl
          take_all (h ∷ hs) = ap (λ (xs : List HeadedFile). h ∷ xs) (take_all hs)

  -- ---- where the call stopped

  linked_there : (d : Disk) (h : HeadedFile) → LinkedThere h d → take 4096 (bytes_at h.id d) ≡ header_spelling h.header → IsThere h d
  linked_there d h linked bytes = let f = by (file_of h.id d) linked in (f.0, f.1, f.2, bytes)
    where
      by : (p : Option FileState) → IsLinked h p → (f : FileState) × (p ≡ Some f) × (is_in_use f.place ≡ true)
      by None k = absurd k
      by (Some f) k = (f, refl, ap is_in_use k.0)

  there_later : (a b : Content) → Arrives (IsLogStep o) a b → Passes NoneLeaves a b → (hs : List HeadedFile) → AllByRecursion (λ h. IsTrue (is_legal_header h.header)) hs
      → AllByRecursion (λ h. LinkedThere h a.now.disk) hs → AllByRecursion (λ h. take 4096 (bytes_at h.id a.now.disk) ≡ header_spelling h.header) hs → AllByRecursion (λ h. IsThere h b.now.disk) hs
  there_later a b went stays [] legal linked bytes = tt
  there_later a b went stays (h ∷ hs) legal linked bytes =
      let chain : Chain NoneLeaves a.now went.since = subst (Chain NoneLeaves a.now) (sym (since_is NoneLeaves a b stays) ∙ since_of (IsLogStep o) a b went) stays.chain in
      let later = there_after o h legal.0 a.now went.since went.chain chain (linked_there a.now.disk h linked.0 bytes.0) in (
        subst (λ (m : Moment). IsThere h m.disk) (sym went.last) later,
        there_later a b went stays hs legal.1 linked.1 bytes.1,
      )

  first_there : (d : Disk) (hs : List HeadedFile) → 0 < length hs → AllByRecursion (IsOfJournal o) hs → AllByRecursion (λ h. IsTrue (is_legal_header h.header)) hs → AllByRecursion (λ h. IsThere h d) hs → 0 < length (files_on o d)
  first_there d [] some own legal there = absurd (omega (arith, some))
  first_there d (h ∷ hs) some own legal there = among_some h.id (files_on o d) (among_there o d h own.0 legal.0 there.0)

  olds_there : (d : Disk) (n : ℕ) (hs : List HeadedFile) → AllByRecursion (IsOfJournal o) hs → AllByRecursion (λ h. IsTrue (is_legal_header h.header)) hs → AllByRecursion (λ h. IsThere h d) hs → AllByRecursion (λ h. h.header.epoch < o.epoch) (take n hs)
      → AllByRecursion (IsOld o d) (take n hs)
  olds_there d zero hs own legal there less = tt
  olds_there d (suc n) [] own legal there less = tt
  olds_there d (suc n) (h ∷ hs) own legal there less = (record { journal = own.0; legal = legal.0; there = there.0; less = less.0 }, olds_there d n hs own.1 legal.1 there.1 less.1)

  -- where the journal has a file of this opening then, it has more files than the log had of earlier ones
  own_later : (d : Disk) → IdsDiffer d → AreApart l.files → AllByRecursion (λ h. IsThere h d) l.files → has_own o.epoch (files_on o d) ≡ true → l.older < length (files_on o d)
  own_later d differ apart there own =
      let olds = olds_there d l.older l.files sound.all sound.legal there sound.olds in
      let more = more_files o d differ sound.opening.epoch.0 (take l.older l.files) olds (apart_take l.older l.files apart) (eqb-true (greatest_epoch (files_on o d)) o.epoch own) in
      subst (λ n. n < length (files_on o d)) (length-take-le l.older l.files sound.older) more

  pub batch_ends : (a b : Content) (reads : List Read) → Arrives (IsLogStep o) a b → Passes NoneLeaves a b → LogThere l a.now.disk → KeepsRoom l a b → AllUnmarked a.now (moments_since a b) → IsRead l reads a.now.disk
      → MeetsEndWith l needed b.now.disk → batch_at_end homes o.kind o.name rs b.now.disk ≡ true
  batch_ends a b reads went stays there keeps unmarked read meets =
      let later = there_later a b went stays l.files sound.legal there.there.linked there.there.headers in
      ends_as b.now.disk (first_there b.now.disk l.files sound.some sound.all sound.legal later)
      ∙ by (has_own o.epoch (files_on o b.now.disk)) refl (nat_lt l.older (length (files_on o b.now.disk))) refl (own_later b.now.disk (differ_later went) there.there.apart later) meets
    where
      differ_later : Arrives (IsLogStep o) a b → IdsDiffer b.now.disk
      differ_later went = subst (λ (m : Moment). IdsDiffer m.disk) (sym went.last) (differ_of o a.now went.since went.chain there.there.differ)

      by : (own : Bool) → has_own o.epoch (files_on o b.now.disk) ≡ own → (fresh : Bool) → nat_lt l.older (length (files_on o b.now.disk)) ≡ fresh → (has_own o.epoch (files_on o b.now.disk) ≡ true → l.older < length (files_on o b.now.disk)) → End b.now.disk fresh (room_on l b.now.disk)
          → End b.now.disk own (cond own (room_behind (behind b.now.disk)) 0)
      by true i true j more k = subst (End b.now.disk true) (sym (keeps unmarked reads read (more i))) k
      by true i false j more k = absurd (not_both (nat_lt l.older (length (files_on o b.now.disk))) (less_than l.older (length (files_on o b.now.disk)) (more i)) j)
      by false i fresh j more k =
          let rest = no_file_left o.home b.now.disk || newest_number (files_on o b.now.disk) == last_count || (not fresh && greatest_epoch (files_on o b.now.disk) == last_count) in
          let parts = and_parts (ltb (room_on l b.now.disk) needed) rest k in
          let over : room_on l b.now.disk < needed = ltb-true (room_on l b.now.disk) needed parts.0 in
          ap₂ (λ x y. x && y) (less_than 0 needed (omega (arith, over))) (or_less (no_file_left o.home b.now.disk) (newest_number (files_on o b.now.disk) == last_count) (greatest_epoch (files_on o b.now.disk) == last_count) fresh parts.1)
