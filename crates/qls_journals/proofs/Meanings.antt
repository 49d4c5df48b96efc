-- What the disk of whole journals means.
use Rattle.std.proofs.Common.{◌≡◌, inl, inr, ℕ, ◌<◌, ◌^◌, true, false, cond, ◌&&◌, List, [], ◌∷◌, ◌++◌, map, length, Option, Some, None, Ok, refl, sym, ap, ap₂, ◌∙◌, subst, arith, eqb, leb, ltb}
use Rattle.std.proofs.lemmas.Bool.Decides.{nat_tests}
use Rattle.std.specs.List.{AllByRecursion, filter, filter_map}
use Rattle.qls_shape.specs.Claims.{◌>>=◌}
use Rattle.qls_model.specs.Limits.{file_size}
use Rattle.qls_model.specs.Messages.{decided}
use Rattle.qls_model.specs.declared.machine.QueueState.{QueueState}
use Rattle.qls_site.specs.declared.site.Place.{Place}
use Rattle.qls_site.specs.declared.site.Place.TheVariants.{InUse, Empty}
use Rattle.qls_site.specs.declared.site.ImageFile.{ImageFile}
use Rattle.qls_site.specs.Disk.{Disk, FileState, full, file_of, size_of}
use Rattle.qls_decide.specs.declared.ListEntry.{ListEntry}
use Rattle.qls_decide.specs.Entries.{verdict_by}
use Rattle.qls_filehdr.specs.declared.JournalKind.TheVariants.{List as Listed}
use Rattle.qls_filehdr.specs.Limits.{is_counter}
use Rattle.qls_meaning.specs.Journals.{Journal, is_queue, in_use, headed, journals_of}
use Rattle.qls_meaning.specs.Reading.{Read, journal_reading}
use Rattle.qls_meaning.specs.Damage.{is_pool, oldest_rid}
use Rattle.qls_meaning.specs.Dead.{past_files, has_dead_oldest, NoneDead}
use Rattle.qls_meaning.specs.Replay.{entries_after}
use Rattle.qls_meaning.specs.Meaning.{records_of, queue_of, entries_of, queues_of, in_doubt, meaning_of, meaning}
use Rattle.qls_meaning.specs.Spent.{greatest_id, is_pool_place, rid_of_reads, rid_of_journals, list_rid}
use Rattle.qls_pool.specs.Pools.{PoolState, has}
use Rattle.qls_pool.specs.Files.{IsPoolOf, IsSized, FitsPlace, is_at}
use Rattle.qls_pool.proofs.Disks.{eqb_own, below_left, below_right}
use Rattle.qls_pool.proofs.Steps.{all_found}
use Rattle.qls_log.specs.Logs.{LogState, IsSound}
use Rattle.qls_log.specs.Standing.{LogThere, files_on}
use Rattle.qls_log.specs.Reads.{IsRead}
use Rattle.qls_log.specs.Soundness.{IsUndamaged, BelongsToLog, AllBelongToLogs}
use Rattle.qls_log.proofs.SoundDisk.{logs_make_a_whole_disk}
use Rattle.qls_log.proofs.SoundRun.{log_whole}
use Rattle.qls_log.proofs.Splits.{is_of-own}
use Rattle.qls_queue.specs.Live.{LiveState, QueueThere}
use Rattle.qls_queue.specs.Releasing.{IsQueueWhole}
use Rattle.qls_prepared.specs.Lists.{PreparedState, IsOwn, ThereBy, WholeBy, AliveBy, rid_of_log, rid_of}
use Rattle.qls_prepared.specs.Ends.{IsFitPool}
use Rattle.qls_journals.specs.State.{JournalsState, queues_of as queues_held, IsKept, AreJournals, NamesList, NamesJournal, Fits, IsWhole, IsClean, NonePast}
use Rattle.qls_journals.proofs.AllJournals.{all_weaken, all_joined, all_mapped, all_empty, named_files, held_has, held_name, log_journal, list_part, MayName, may_name, journal_of, all_journals}

-- ---- the queues

-- a queue of the store, whose journal on the disk is whole
pub record IsWell (d : Disk) (q : LiveState) : Type 0 where
  pub kept : IsKept q
  pub there : QueueThere q d
  pub whole : IsQueueWhole q d

pub all_well : (s : JournalsState) (d : Disk) → AreJournals s → Fits s d → IsWhole s d → AllByRecursion (IsWell d) s.queues
all_well s d are fits whole =
    all_joined IsKept (λ q. QueueThere q d × IsQueueWhole q d) (IsWell d) (λ q k h. record { kept = k; there = h.0; whole = h.1 }) s.queues are.kept
    (all_joined (λ q. QueueThere q d) (λ q. IsQueueWhole q d) _ (λ q t w. (t, w)) s.queues fits.queues whole.queues)

-- ---- the list

-- the list's log stands, and its journal on the disk says the entries
pub record IsWellLog (d : Disk) (es : List ListEntry) (l : LogState) : Type 0 where
  pub kind : l.opening.kind ≡ Listed
  pub name : l.opening.name ≡ []
  pub sound : IsSound l
  pub there : LogThere l d
  pub reads : List Read
  pub read : IsRead l reads d
  pub undamaged : IsUndamaged l d
  pub entries : entries_after (map (λ r. r.what) reads) [] ≡ es

-- without a log there is no entry
abbrev pub IsWellList : Disk → List ListEntry → Option LogState → Type 0
IsWellList d es None = es ≡ []
IsWellList d es (Some l) = IsWellLog d es l

well_by : (p : PreparedState) (d : Disk) (log : Option LogState) → IsOwn log → ThereBy p.home log d → WholeBy log p.entries p.held d → IsWellList d p.entries log
well_by p d None own there whole = whole.0
well_by p d (Some l) own there whole = record {
  kind = own.kind;
  name = own.name;
  sound = own.sound;
  there = there;
  reads = whole.reads;
  read = whole.read;
  undamaged = whole.undamaged;
  entries = whole.entries;
}

pub well_list : (s : JournalsState) (d : Disk) → AreJournals s → Fits s d → IsWhole s d → IsWellList d s.list.entries s.list.log
well_list s d are fits whole = well_by s.list d s.list.log are.list.sound.log fits.list whole.list

-- ---- all journals

joined : {A : Type 0} (P : A → Type 0) (xs ys : List A) → AllByRecursion P xs → AllByRecursion P ys → AllByRecursion P (xs ++ ys)
joined P [] ys h k = k
joined P (x ∷ xs) ys h k = (h.0, joined P xs ys h.1 k)

-- what holds of the list's journal and of each queue's holds of all journals
pub of_journals : (P : Journal → Type 0) (s : JournalsState) (d : Disk) → AreJournals s → Fits s d → AllByRecursion P (list_part d s.list.log) → AllByRecursion (λ q. P (journal_of d q)) s.queues → AllByRecursion P (journals_of (full d))
of_journals P s d are fits h k =
    subst (AllByRecursion P) (sym (all_journals s d are fits)) (joined P (list_part d s.list.log) (map (journal_of d) s.queues) h (all_mapped P (journal_of d) s.queues k))

alive_list : (d : Disk) (log : Option LogState) → AliveBy log d → AllByRecursion (λ j. has_dead_oldest j ≡ false) (list_part d log)
alive_list d None h = tt
alive_list d (Some l) h = (h, tt)

pub none_dead : (s : JournalsState) (d : Disk) → AreJournals s → Fits s d → IsClean s d → NoneDead (full d)
none_dead s d are fits clean =
    of_journals (λ j. has_dead_oldest j ≡ false) s d are fits (alive_list d s.list.log clean.list) clean.queues

past_list : (d : Disk) (es : List ListEntry) (log : Option LogState) → IsWellList d es log → AllByRecursion (λ j. past_files j ≡ []) (list_part d log)
past_list d es None h = tt
past_list d es (Some l) h = ((log_whole l d h.sound h.there h.undamaged).past, tt)

pub none_past : (s : JournalsState) (d : Disk) → AreJournals s → Fits s d → IsWhole s d → NonePast d
none_past s d are fits whole =
    of_journals (λ j. past_files j ≡ []) s d are fits (past_list d s.list.entries s.list.log (well_list s d are fits whole))
    (all_weaken (IsWell d) _ (λ q w. (log_whole q.log d w.kept.log w.there w.whole.undamaged).past) s.queues (all_well s d are fits whole))

-- ---- no damage

at_least : (m n : ℕ) → m < n → leb 1 n ≡ true
at_least m n h = grind (arith, nat_tests)

less : (m n : ℕ) → m < n → ltb m n ≡ true
less m n h = grind (arith, nat_tests)

counters : (d : Disk) → AllByRecursion (λ f. 0 < f.id) d → greatest_id d < 2 ^ 62 → AllByRecursion (λ f. is_counter f.id ≡ true) (full d)
counters [] h l = tt
counters (f ∷ d) h l = (
  ap₂ (λ a b. a && b) (at_least 0 f.id h.0) (less f.id (2 ^ 62) (below_left f.id (greatest_id d) (2 ^ 62) l)),
  counters d h.1 (below_right f.id (greatest_id d) (2 ^ 62) l),
)

equal : (m n : ℕ) → m ≡ n → eqb m n ≡ true
equal m n e = grind (arith, nat_tests)

module _ (pool : PoolState) (d : Disk) (is : IsPoolOf pool [] d) (fit : IsFitPool pool) where
  own_place : (part kib : ℕ) → (is_pool_place part kib (Empty part kib) && true) ≡ true
  own_place part kib = ap₂ (λ a b. (a && b) && true) (eqb_own part) (eqb_own kib)

  fit_file : (f : FileState) → file_of f.id d ≡ Some f → (p : Place) → f.place ≡ p → is_pool (size_of f) p ≡ true
  fit_file f found InUse e = refl
  fit_file f found (Empty part kib) e =
      let there : has part kib f.id pool.files ≡ true =
      is.files part kib f.id ∙ ap (λ (o : Option FileState). is_at part kib o && true) found ∙ ap (λ p. is_pool_place part kib p && true) e ∙ own_place part kib in
      let size : size_of f ≡ file_size kib = subst (λ p. FitsPlace p (size_of f)) e (subst IsSized found (is.sizes f.id)) in
      let limits = fit part kib f.id there in
      ap₂ (λ a b. a && b && eqb (size_of f) (file_size kib)) limits.0 limits.1 ∙ equal (size_of f) (file_size kib) size

-- ---- each file is of a log

list_file : (d : Disk) (f : ImageFile) (es : List ListEntry) (log : Option LogState) → IsWellList d es log → MayName log (headed f).header → NamesList (headed f).header → BelongsToLog d f
list_file d f es None h may n = absurd (may n)
list_file d f es (Some l) h may n = record {
  log = l;
  sound = h.sound;
  there = h.there;
  undamaged = h.undamaged;
  own = is_of-own l.opening.kind l.opening.name (headed f) (n.kind ∙ sym h.kind) (n.name ∙ sym h.name);
}

-- ---- the list's record id

log_rid : (d : Disk) (es : List ListEntry) (l : LogState) → IsWellLog d es l → rid_of_reads (oldest_rid (files_on l.opening d)) (journal_reading (log_journal d l)) ≡ l.rid
log_rid d es l h = h.undamaged.rid

module _ (s : JournalsState) (d : Disk) (are : AreJournals s) (fits : Fits s d) (whole : IsWhole s d) where
  abbrev es : List ListEntry
  es = s.list.entries

  well : AllByRecursion (IsWell d) s.queues
  well = all_well s d are fits whole

  well_log : IsWellList d es s.list.log
  well_log = well_list s d are fits whole

  own_file : (f : ImageFile) → NamesJournal s.queues (headed f).header → MayName s.list.log (headed f).header → BelongsToLog d f
  own_file f (inl n) may =
      let q = n.queue in
      let w : IsWell d q = held_has (IsWell d) (headed f).header.name s.queues q well n.there in
      record {
        log = q.log;
        sound = w.kept.log;
        there = w.there;
        undamaged = w.whole.undamaged;
        own = is_of-own q.log.opening.kind q.log.opening.name (headed f) (n.kind ∙ sym w.kept.sound.kind) (sym (held_name (headed f).header.name s.queues q n.there) ∙ w.kept.sound.name);
      }
  own_file f (inr n) may = list_file d f es s.list.log well_log may n

  all_belong : AllBelongToLogs d
  all_belong = record {
    ids = counters d fits.ids (subst (λ n. n < 2 ^ 62) fits.pool.1.greatest fits.limit);
    pools =
        all_empty (λ f. is_pool (length f.bytes) f.place ≡ true) d
        (all_weaken (λ (f : FileState). file_of f.id d ≡ Some f) _ (λ f found out. fit_file s.pool d fits.pool.1 fits.fit f found f.place refl) d (all_found d fits.pool.0));
    files =
        all_joined (λ f. NamesJournal s.queues (headed f).header) (λ f. MayName s.list.log (headed f).header) (BelongsToLog d) own_file (in_use (full d)) (named_files s.queues d fits.pool.0 fits.own)
        (may_name s.list.home d s.list.log fits.list);
  }

  -- ---- the machine's state

  no_entries : (qs : List LiveState) → AllByRecursion (IsWell d) qs → entries_of (map (journal_of d) qs) ≡ []
  no_entries [] h = refl
  no_entries (q ∷ qs) h = ap (λ k. cond (is_queue k) (entries_of (map (journal_of d) qs)) (entries_after (records_of (journal_of d q)) [])) h.0.kept.sound.kind ∙ no_entries qs h.1

  all_queues : (qs : List LiveState) → AllByRecursion (IsWell d) qs → queues_of (map (journal_of d) qs) ≡ map (λ q. q.queue) qs
  all_queues [] h = refl
  all_queues (q ∷ qs) h =
      ap (λ k. map queue_of (cond (is_queue k) (journal_of d q ∷ filter (λ j. is_queue j.kind) (map (journal_of d) qs)) (filter (λ j. is_queue j.kind) (map (journal_of d) qs)))) h.0.kept.sound.kind
      ∙ ap₂ (λ (r : QueueState) (rs : List QueueState). r ∷ rs) h.0.whole.read.queue (all_queues qs h.1)

  no_rid : (qs : List LiveState) → AllByRecursion (IsWell d) qs → rid_of_journals (map (journal_of d) qs) ≡ 0
  no_rid [] h = refl
  no_rid (q ∷ qs) h =
      ap (λ k. cond (is_queue k) (rid_of_journals (map (journal_of d) qs)) (rid_of_reads (oldest_rid (journal_of d q).files) (journal_reading (journal_of d q)))) h.0.kept.sound.kind ∙ no_rid qs h.1

  abbrev js : List Journal
  js = map (journal_of d) s.queues

  entries_are : (log : Option LogState) → IsWellList d es log → entries_of (list_part d log ++ js) ≡ es
  entries_are None h = no_entries s.queues well ∙ sym h
  entries_are (Some l) h =
      ap (λ k. cond (is_queue k) (entries_of js) (entries_after (records_of (log_journal d l)) [])) h.kind ∙ ap (λ (rs : List Read). entries_after (map (λ r. r.what) rs) []) h.read.reading ∙ h.entries

  queues_are : (log : Option LogState) → IsWellList d es log → queues_of (list_part d log ++ js) ≡ queues_held s
  queues_are None h = all_queues s.queues well
  queues_are (Some l) h =
      ap (λ k. map queue_of (cond (is_queue k) (log_journal d l ∷ filter (λ j. is_queue j.kind) js) (filter (λ j. is_queue j.kind) js))) h.kind ∙ all_queues s.queues well

  rid_is : (log : Option LogState) → IsWellList d es log → rid_of_journals (list_part d log ++ js) ≡ rid_of_log log
  rid_is None h = no_rid s.queues well
  rid_is (Some l) h =
      ap (λ k. cond (is_queue k) (rid_of_journals js) (rid_of_reads (oldest_rid (files_on l.opening d)) (journal_reading (log_journal d l)))) h.kind ∙ log_rid d es l h

  means : meaning_of (list_part d s.list.log ++ js) ≡ record { queues = map (decided (verdict_by es)) (queues_held s); xids = filter_map in_doubt es }
  means =
      λ i. record {
        queues = map (decided (verdict_by (entries_are s.list.log well_log i))) (queues_are s.list.log well_log i);
        xids = filter_map in_doubt (entries_are s.list.log well_log i);
      }

  pub meaning_is : meaning (full d) ≡ Ok (record { queues = map (decided (verdict_by es)) (queues_held s); xids = filter_map in_doubt es })
  meaning_is =
      ap (λ r. r >>= λ js. Ok (meaning_of js)) (logs_make_a_whole_disk d all_belong)
      ∙ ap (λ js. Ok (meaning_of js)) (all_journals s d are fits) ∙ ap Ok means

  pub list_rid_is : list_rid d ≡ rid_of s.list
  list_rid_is = ap rid_of_journals (all_journals s d are fits) ∙ rid_is s.list.log well_log
