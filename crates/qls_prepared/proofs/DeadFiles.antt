-- The oldest file of the list's journal: dead where every entry's enqueue starts behind it, and what its journal says without it.
use Rattle.std.proofs.Common.{◌≡◌, ◌⊎◌, inl, inr, ℕ, ◌-◌, ◌/◌, ◌<◌, ◌≤◌, Bool, true, false, cond, not, ◌&&◌, ◌==◌, ltb, List, [], ◌∷◌, map, drop, length, Some, Ok, refl, sym, ap, ap₂, ◌∙◌, subst, arith, length-append}
use Rattle.std.proofs.lemmas.Bool.{cases_lt}
use Rattle.std.proofs.lemmas.Bool.Decides.{nat_tests}
use Rattle.std.specs.List.{AllByRecursion, list_any, filter}
use Rattle.qls_model.specs.declared.machine.Message.{Message}
use Rattle.qls_site.specs.Disk.{Disk}
use Rattle.qls_decide.specs.declared.ListEntry.{ListEntry}
use Rattle.qls_filehdr.specs.declared.JournalKind.{JournalKind}
use Rattle.qls_filehdr.specs.declared.JournalKind.TheVariants as journal
use Rattle.qls_enqmap.specs.declared.Held.{Held}
use Rattle.qls_enqmap.specs.Records.{least_file}
use Rattle.qls_meaning.specs.Journals.{Headed, Journal, is_queue, epochs}
use Rattle.qls_meaning.specs.Reading.{Placed, Read, holder, stream, number_of, located, begin_place, epoch_reading, reads_of, journal_reading}
use Rattle.qls_meaning.specs.Damage.{chain_claims}
use Rattle.qls_meaning.specs.Dead.{newest_number, oldest_number, held_rids, holds, is_dead, has_dead_oldest, first_is_dead}
use Rattle.qls_meaning.specs.Meaning.{records_of, queue_of, entries_of}
use Rattle.qls_meaning.specs.Replay.{entries_after}
use Rattle.qls_meaning.specs.Orderly.{journal_on}
use Rattle.qls_laws.specs.Readings.{Stand}
use Rattle.qls_laws.specs.Returns.{starts_elsewhere}
use Rattle.qls_laws.proofs.DeadQueue.{run}
use Rattle.qls_laws.proofs.Ends.{record_fits}
use Rattle.qls_laws.proofs.Reaches.{records_stand}
use Rattle.qls_laws.proofs.Returned.{AllAbove, numbers_rise}
use Rattle.qls_laws.proofs.Seen.{All-epochs}
use Rattle.qls_epochs.specs.Whole.{IsWhole}
use Rattle.qls_epochs.proofs.Alls.{all_both}
use Rattle.qls_epochs.proofs.Dead.{dead_list}
use Rattle.qls_log.specs.Logs.{LogState, IsSound}
use Rattle.qls_log.specs.Standing.{LogThere, files_on}
use Rattle.qls_log.specs.Soundness.{IsKeptWithout, log_without_oldest}
use Rattle.qls_log.proofs.SoundLess.{log_less}
use Rattle.qls_log.proofs.SoundRun.{log_whole}
use Rattle.qls_prepared.specs.Lists.{IsReadSo}
use Rattle.qls_prepared.specs.Releasing.{file_or}
use Rattle.qls_prepared.proofs.HeldFiles.{AboveFile, rids_of, held_elsewhere, none_held, least_held}

-- ---- where records end

less : (m n : ℕ) → m < n → ltb m n ≡ true
less m n h = grind (arith, nat_tests)

not_less : (m n : ℕ) → n ≤ m → ltb m n ≡ false
not_less m n h = grind (arith, nat_tests)

-- the number of the file that holds a place is none below those of the files
least_number : (n : ℕ) (fs : List Headed) (p : ℕ) → AllByRecursion (λ f. n ≤ f.header.number) fs → p < length (stream fs) → n ≤ number_of (holder fs p)
least_number n [] p a l = absurd (omega (arith, l))
least_number n (f ∷ fs) p a l = by (cases_lt p (length f.area)) (λ h. least_number n fs (p - length f.area) a.1 (omega (arith, l, h, length-append f.area (stream fs))))
  where
    by : (p < length f.area) ⊎ (length f.area ≤ p) → (length f.area ≤ p → n ≤ number_of (holder fs (p - length f.area))) → n ≤ number_of (holder (f ∷ fs) p)
    by (inl h) rest = subst (λ b. n ≤ number_of (cond b (Some (record { file = f; within = p })) (holder fs (p - length f.area)))) (sym (less p (length f.area) h)) a.0
    by (inr h) rest = subst (λ b. n ≤ number_of (cond b (Some (record { file = f; within = p })) (holder fs (p - length f.area)))) (sym (not_less p (length f.area) h)) (rest h)

all_most : (n : ℕ) (fs : List Headed) → AllAbove n fs → AllByRecursion (λ f. n ≤ f.header.number) fs
all_most n [] a = tt
all_most n (f ∷ fs) a = let here : n < f.header.number = a.0 in (omega (arith, here), all_most n fs a.1)

all_end : (n : ℕ) (fs : List Headed) (p : ℕ) (rs : List Placed) → AllByRecursion (λ f. n ≤ f.header.number) fs → Stand fs p rs → AllByRecursion (λ r. n ≤ r.end_file) (map (located fs) rs)
all_end n fs p [] a s = tt
all_end n fs p (r ∷ rs) a s =
    let fits = record_fits fs p r.what s.1 in
    (least_number n fs (r.after - 1) a (omega (arith, fits.0, fits.1, s.2)), all_end n fs r.after rs a s.3)

-- no record of these epochs ends before a file of the least number
reads_end : (n : ℕ) (oldest : Bool) (es : List (List Headed)) → AllByRecursion (AllByRecursion (λ f. n ≤ f.header.number)) es → AllByRecursion (λ r. n ≤ r.end_file) (reads_of oldest es)
reads_end n oldest [] a = tt
reads_end n oldest (e ∷ es) a =
    let rs : List Placed = epoch_reading oldest e in
    all_both (λ r. n ≤ r.end_file) (map (located e) rs) (reads_of false es) (all_end n e (begin_place oldest e) rs a.0 (records_stand e (length (stream e) / 128) (begin_place oldest e))) (reads_end n false es a.1)

run_ends : (kind : JournalKind) (name : List ℕ) (fs : List Headed) (n : ℕ) → AllByRecursion (λ f. n ≤ f.header.number) fs → AllByRecursion (λ r. n ≤ r.end_file) (journal_reading (run kind name fs))
run_ends kind name fs n a = reads_end n true (epochs fs) (All-epochs (λ f. n ≤ f.header.number) fs a)

-- ---- the oldest file

newest_above : (n : ℕ) (g : Headed) (fs : List Headed) → AllAbove n (g ∷ fs) → n < newest_number (g ∷ fs)
newest_above n g [] a = a.0
newest_above n g (h ∷ fs) a = newest_above n h fs a.1

differs : (m n : ℕ) → m < n → (m == n) ≡ false
differs m n h = grind (arith, nat_tests)

own : (n : ℕ) → (n == n) ≡ true
own n = grind (arith, nat_tests)

no_and : (b : Bool) → (b && false) ≡ false
no_and true = refl
no_and false = refl

entries_of-list : (j : Journal) → is_queue j.kind ≡ false → entries_of (j ∷ []) ≡ entries_after (records_of j) []
entries_of-list j q = ap (λ b. cond b [] (entries_after (records_of j) [])) q

module _ (l : LogState) (es : List ListEntry) (hs : List Held) (d : Disk) (kind : l.opening.kind ≡ journal.List) (sound : IsSound l) (there : LogThere l d) (whole : IsReadSo l es hs d) where
  abbrev fs : List Headed
  fs = files_on l.opening d

  abbrev j : Journal
  j = journal_on d l.opening.kind l.opening.name

  whole_run : IsWhole j
  whole_run = log_whole l d sound there whole.undamaged

  no_queue : is_queue l.opening.kind ≡ false
  no_queue = ap is_queue kind

  entries_are : entries_of (j ∷ []) ≡ es
  entries_are = entries_of-list j no_queue ∙ ap (λ (xs : List Read). entries_after (map (λ r. r.what) xs) []) whole.read.reading ∙ whole.entries

  rids_are : held_rids j ≡ rids_of es
  rids_are = ap (λ c. cond c (map (λ (m : Message). m.number) (queue_of j).messages) (map (λ (e : ListEntry). e.rid) (entries_of (j ∷ [])))) no_queue ∙ ap rids_of entries_are

  -- what the reading holds
  holds_so : (n : ℕ) → list_any (holds (held_rids j) n) (journal_reading j) ≡ list_any (holds (rids_of es) n) whole.reads
  holds_so n = ap (λ (rids : List ℕ). list_any (holds rids n) (journal_reading j)) rids_are ∙ ap (list_any (holds (rids_of es) n)) whole.read.reading

  -- it holds nothing where every entry's enqueue starts behind it
  pub oldest_dead : (f g : Headed) (rest : List Headed) → fs ≡ f ∷ g ∷ rest → AboveFile f.header.number hs → is_dead j f ≡ true
  oldest_dead f g rest e above =
      let n : ℕ = f.header.number in
      let rises : AllAbove n (g ∷ rest) = numbers_rise f (g ∷ rest) (subst (λ (xs : List Headed). chain_claims xs ≡ Ok tt) e whole_run.rules.chain) in
      let newest : (n == newest_number fs) ≡ false = ap (λ (xs : List Headed). n == newest_number xs) e ∙ differs n (newest_number (g ∷ rest)) (newest_above n g rest rises) in
      let none : list_any (holds (held_rids j) n) (journal_reading j) ≡ false = holds_so n ∙ none_held es n whole.reads (subst (AboveFile n) (sym whole.held) above) in
      ap₂ (λ x y. not x && not y) newest none

  -- the only file isn't dead
  pub only_alive : (f : Headed) → fs ≡ f ∷ [] → has_dead_oldest j ≡ false
  only_alive f e =
      ap (first_is_dead j) e ∙ ap (λ x. not x && not (list_any (holds (held_rids j) f.header.number) (journal_reading j))) (ap (λ (xs : List Headed). f.header.number == newest_number xs) e ∙ own f.header.number)

  -- nor is the oldest where an enqueue starts there
  pub oldest_alive : (newest : ℕ) (f : Headed) (rest : List Headed) → fs ≡ f ∷ rest → f.header.number < newest → file_or newest (least_file hs) ≤ f.header.number → has_dead_oldest j ≡ false
  oldest_alive newest f rest e less least =
      let n : ℕ = f.header.number in
      let rises : AllAbove n rest = numbers_rise f rest (subst (λ (xs : List Headed). chain_claims xs ≡ Ok tt) e whole_run.rules.chain) in
      let all : AllByRecursion (λ g. n ≤ g.header.number) fs = subst (AllByRecursion (λ g. n ≤ g.header.number)) (sym e) (omega arith, all_most n rest rises) in
      let ends : AllByRecursion (λ r. n ≤ r.end_file) whole.reads = subst (AllByRecursion (λ r. n ≤ r.end_file)) whole.read.reading (run_ends l.opening.kind l.opening.name fs n all) in
      let any : list_any (holds (held_rids j) n) (journal_reading j) ≡ true =
      holds_so n ∙ least_held es n newest whole.reads ends less (subst (λ (gs : List Held). file_or newest (least_file gs) ≤ n) (sym whole.held) least) in
      ap (first_is_dead j) e ∙ ap (λ x. not (n == newest_number fs) && not x) any ∙ no_and (not (n == newest_number fs))

  -- ---- the journal without it

  module _ (e : Disk) (more : 1 < length l.files) (flushed : l.unsynced ≡ []) (is : files_on l.opening e ≡ drop 1 fs) (dead : has_dead_oldest j ≡ true) (above : AboveFile (oldest_number fs) hs) where
    less_log : IsSound (log_without_oldest l) × IsKeptWithout l (filter (starts_elsewhere (oldest_number fs)) whole.reads) e
    less_log = log_less l d e whole.reads more flushed sound there whole.undamaged whole.read is

    pub sound_without : IsSound (log_without_oldest l)
    sound_without = less_log.0

    entries_still : entries_of (journal_on e l.opening.kind l.opening.name ∷ []) ≡ es
    entries_still = ap (λ (xs : List Headed). entries_of (run l.opening.kind l.opening.name xs ∷ [])) is ∙ dead_list j whole_run dead no_queue ∙ entries_are

    pub whole_without : IsReadSo (log_without_oldest l) es hs e
    whole_without = record {
      reads = filter (starts_elsewhere (oldest_number fs)) whole.reads;
      read = less_log.1.read;
      undamaged = less_log.1.undamaged;
      entries =
          ap (λ (xs : List Read). entries_after (map (λ r. r.what) xs) []) (sym less_log.1.read.reading)
          ∙ sym (entries_of-list (journal_on e l.opening.kind l.opening.name) no_queue) ∙ entries_still;
      held = held_elsewhere (oldest_number fs) es whole.reads (subst (AboveFile (oldest_number fs)) (sym whole.held) above) ∙ whole.held;
    }
