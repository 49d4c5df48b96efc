-- The oldest file of a queue's journal: dead where every held record starts behind it, and what its journal says without it.
use Rattle.std.proofs.Common.{◌≡◌, ◌⊎◌, inl, inr, ℕ, ◌+◌, ◌-◌, ◌/◌, ◌<◌, ◌≤◌, Bool, true, false, cond, not, ◌&&◌, ◌==◌, ltb, List, [], ◌∷◌, ◌++◌, map, drop, length, Some, refl, sym, ap, ap₂, ◌∙◌, subst, arith, length-append}
use Rattle.std.proofs.lemmas.Bool.{cases_lt}
use Rattle.std.proofs.lemmas.Bool.Decides.{nat_tests}
use Rattle.std.specs.List.{AllByRecursion, list_any, filter}
use Rattle.qls_record.specs.Record.{is_enqueue}
use Rattle.qls_model.specs.declared.machine.Message.{Message}
use Rattle.qls_model.specs.declared.machine.QueueState.{QueueState}
use Rattle.qls_site.specs.Disk.{Disk}
use Rattle.qls_filehdr.specs.declared.JournalKind.{JournalKind}
use Rattle.qls_filehdr.specs.declared.JournalKind.TheVariants.{Queue}
use Rattle.qls_enqmap.specs.declared.Held.{Held}
use Rattle.qls_enqmap.specs.Records.{least_file}
use Rattle.qls_meaning.specs.Journals.{Headed, Journal, is_queue, epochs}
use Rattle.qls_meaning.specs.Reading.{Placed, Read, holder, stream, number_of, located, begin_place, epoch_reading, reads_of, journal_reading}
use Rattle.qls_meaning.specs.Damage.{oldest_rid}
use Rattle.qls_meaning.specs.Dead.{newest_number, oldest_number, held_rids, holds, is_dead, has_dead_oldest, first_is_dead}
use Rattle.qls_meaning.specs.Meaning.{queue_of, entries_of}
use Rattle.qls_meaning.specs.Orderly.{journal_on}
use Rattle.qls_laws.specs.Readings.{Stand}
use Rattle.qls_laws.specs.Returns.{starts_elsewhere}
use Rattle.qls_laws.proofs.DeadQueue.{run}
use Rattle.qls_laws.proofs.Ends.{record_fits}
use Rattle.qls_laws.proofs.Reaches.{records_stand}
use Rattle.qls_laws.proofs.Returned.{AllAbove, numbers_rise}
use Rattle.qls_laws.proofs.Seen.{All-epochs}
use Rattle.qls_epochs.specs.Whole.{IsWhole}
use Rattle.qls_epochs.proofs.Alls.{all_both}
use Rattle.qls_epochs.proofs.Dead.{dead_queue}
use Rattle.qls_epochs.proofs.Follows.{Follows, whole_follows}
use Rattle.qls_epochs.proofs.Oldest.{part}
use Rattle.qls_replay.specs.Held.{messages_of, held_after_all, is_of}
use Rattle.qls_replay.proofs.Whole.{all_records, all_files}
use Rattle.qls_log.specs.Logs.{LogState, IsSound}
use Rattle.qls_log.specs.Standing.{LogThere, files_on}
use Rattle.qls_log.specs.Soundness.{IsKeptWithout, log_without_oldest}
use Rattle.qls_log.proofs.SoundLess.{log_less}
use Rattle.qls_log.proofs.SoundRun.{log_whole}
use Rattle.qls_queue.specs.Live.{live}
use Rattle.qls_queue.specs.Releasing.{file_or, IsQueueWhole}
use Rattle.qls_queue.proofs.HeldFiles.{Rise, OwnFile, AboveFile, each_own, none_held, least_held, held_without}
use Rattle.qls_queue.proofs.Replays.{held_append}

-- ---- where records end

less : (m n : ℕ) → m < n → ltb m n ≡ true
less m n h = grind (arith, nat_tests)

not_less : (m n : ℕ) → n ≤ m → ltb m n ≡ false
not_less m n h = grind (arith, nat_tests)

-- the number of the file that holds a place is none below those of the files
least_number : (n : ℕ) (fs : List Headed) (p : ℕ) → AllByRecursion (λ f. n ≤ f.header.number) fs → p < length (stream fs) → n ≤ number_of (holder fs p)
least_number n [] p a l = absurd (omega (arith, l))
least_number n (f ∷ fs) p a l = by (cases_lt p (length f.area)) (λ h. least_number n fs (p - length f.area) a.1 (omega (arith, l, h, length-append f.area (stream fs))))
  where
    by : (p < length f.area) ⊎ (length f.area ≤ p) → (length f.area ≤ p → n ≤ number_of (holder fs (p - length f.area))) → n ≤ number_of (holder (f ∷ fs) p)
    by (inl h) rest = subst (λ b. n ≤ number_of (cond b (Some (record { file = f; within = p })) (holder fs (p - length f.area)))) (sym (less p (length f.area) h)) a.0
    by (inr h) rest = subst (λ b. n ≤ number_of (cond b (Some (record { file = f; within = p })) (holder fs (p - length f.area)))) (sym (not_less p (length f.area) h)) (rest h)

all_most : (n : ℕ) (fs : List Headed) → AllAbove n fs → AllByRecursion (λ f. n ≤ f.header.number) fs
all_most n [] a = tt
all_most n (f ∷ fs) a = let here : n < f.header.number = a.0 in (omega (arith, here), all_most n fs a.1)

all_end : (n : ℕ) (fs : List Headed) (p : ℕ) (rs : List Placed) → AllByRecursion (λ f. n ≤ f.header.number) fs → Stand fs p rs → AllByRecursion (λ r. n ≤ r.end_file) (map (located fs) rs)
all_end n fs p [] a s = tt
all_end n fs p (r ∷ rs) a s =
    let fits = record_fits fs p r.what s.1 in
    (least_number n fs (r.after - 1) a (omega (arith, fits.0, fits.1, s.2)), all_end n fs r.after rs a s.3)

follows_rise : (rid : ℕ) (rs : List Read) → Follows rid (map (λ r. r.what) rs) → Rise rid rs
follows_rise rid [] h = tt
follows_rise rid (r ∷ rs) h = (h.0, follows_rise r.what.rid rs h.1)

-- ---- a whole journal

-- its rids follow from the one in the oldest file's header
whole_rises : (kind : JournalKind) (name : List ℕ) (fs : List Headed) → 0 < length fs → IsWhole (run kind name fs) → Rise (oldest_rid fs) (journal_reading (run kind name fs))
whole_rises kind name [] some w = absurd (omega (arith, some))
whole_rises kind name (f ∷ fs) some w = follows_rise f.header.rid (journal_reading (run kind name (f ∷ fs))) (whole_follows (run kind name (f ∷ fs)) f fs w)

-- no record ends before a file of the least number
reads_end : (n : ℕ) (oldest : Bool) (es : List (List Headed)) → AllByRecursion (AllByRecursion (λ f. n ≤ f.header.number)) es → AllByRecursion (λ r. n ≤ r.end_file) (reads_of oldest es)
reads_end n oldest [] a = tt
reads_end n oldest (e ∷ es) a =
    all_both (λ r. n ≤ r.end_file) (map (located e) (epoch_reading oldest e)) (reads_of false es)
    (all_end n e (begin_place oldest e) (epoch_reading oldest e) a.0 (records_stand e (length (stream e) / 128) (begin_place oldest e))) (reads_end n false es a.1)

all_reads_end : (n : ℕ) (kind : JournalKind) (name : List ℕ) (fs : List Headed) → AllByRecursion (λ f. n ≤ f.header.number) fs → AllByRecursion (λ r. n ≤ r.end_file) (journal_reading (run kind name fs))
all_reads_end n kind name fs a = reads_end n true (epochs fs) (All-epochs (λ f. n ≤ f.header.number) fs a)

-- the records that start in the oldest file, and those of the others
pub record Fronted (kind : JournalKind) (name : List ℕ) (fs : List Headed) : Type 0 where
  pub front : List Read
  pub is : journal_reading (run kind name fs) ≡ front ++ journal_reading (run kind name (drop 1 fs))

pub fronted : (kind : JournalKind) (name : List ℕ) (fs : List Headed) → 1 < length fs → IsWhole (run kind name fs) → Fronted kind name fs
fronted kind name [] more w = absurd (omega (arith, more))
fronted kind name (f ∷ []) more w = absurd (omega (arith, more))
fronted kind name (f ∷ g ∷ fs) more w = let p = part kind name f g fs w in record { front = p.front; is = p.is }

-- ---- the oldest file

newest_above : (n : ℕ) (g : Headed) (fs : List Headed) → AllAbove n (g ∷ fs) → n < newest_number (g ∷ fs)
newest_above n g [] a = a.0
newest_above n g (h ∷ fs) a = newest_above n h fs a.1

differs : (m n : ℕ) → m < n → (m == n) ≡ false
differs m n h = grind (arith, nat_tests)

own : (n : ℕ) → (n == n) ≡ true
own n = grind (arith, nat_tests)

no_and : (b : Bool) → (b && false) ≡ false
no_and true = refl
no_and false = refl

module _ (l : LogState) (hs : List Held) (b : Bool) (d : Disk) (kind : l.opening.kind ≡ Queue) (sound : IsSound l) (there : LogThere l d) (whole : IsQueueWhole (live l hs b) d) where
  abbrev fs : List Headed
  fs = files_on l.opening d

  abbrev j : Journal
  j = journal_on d l.opening.kind l.opening.name

  abbrev reads : List Read
  reads = whole.read.reads

  pub whole_journal : IsWhole j
  whole_journal = log_whole l d sound there whole.undamaged

  queue_kind : is_queue l.opening.kind ≡ true
  queue_kind = ap is_queue kind

  rids_are : held_rids j ≡ map (λ m. m.number) (messages_of hs)
  rids_are =
      ap (λ c. cond c (map (λ (m : Message). m.number) (queue_of j).messages) (map (λ e. e.rid) (entries_of (j ∷ [])))) queue_kind
      ∙ ap (λ (q : QueueState). map (λ (m : Message). m.number) q.messages) whole.read.queue

  held_own : 0 < length fs → AllByRecursion (λ r. is_enqueue r.what.kind ≡ true → OwnFile r.what.rid r.file hs) (journal_reading j)
  held_own some =
      subst (λ (gs : List Held). AllByRecursion (λ r. is_enqueue r.what.kind ≡ true → OwnFile r.what.rid r.file gs) (journal_reading j)) (ap (λ (xs : List Read). held_after_all xs []) whole.read.read.reading ∙ whole.read.held)
      (each_own (oldest_rid fs) (journal_reading j) [] (whole_rises l.opening.kind l.opening.name fs some whole_journal) tt)

  held_read : AllByRecursion (λ h. list_any (is_of h) (journal_reading j) ≡ true) hs
  held_read =
      subst (λ (gs : List Held). AllByRecursion (λ h. list_any (is_of h) (journal_reading j) ≡ true) gs) (ap (λ (xs : List Read). held_after_all xs []) whole.read.read.reading ∙ whole.read.held)
      (all_files (journal_reading j))

  -- it holds nothing where every held record starts behind it
  pub oldest_dead : (f g : Headed) (rest : List Headed) → fs ≡ f ∷ g ∷ rest → AboveFile f.header.number hs → is_dead j f ≡ true
  oldest_dead f g rest e above =
      let rises : AllAbove f.header.number (g ∷ rest) = numbers_rise f (g ∷ rest) (subst (λ (xs : List Headed). Rattle.qls_meaning.specs.Damage.chain_claims xs ≡ Rattle.std.proofs.Common.Ok tt) e whole_journal.rules.chain) in
      let newest : (f.header.number == newest_number fs) ≡ false = ap (λ (xs : List Headed). f.header.number == newest_number xs) e ∙ differs f.header.number (newest_number (g ∷ rest)) (newest_above f.header.number g rest rises) in
      let some : 0 < length fs = omega (arith, ap length e) in
      let none : list_any (holds (held_rids j) f.header.number) (journal_reading j) ≡ false =
      ap (λ (rids : List ℕ). list_any (holds rids f.header.number) (journal_reading j)) rids_are ∙ none_held hs f.header.number (journal_reading j) (held_own some) above in
      ap₂ (λ x y. not x && not y) newest none

  -- the only file isn't dead
  pub only_alive : (f : Headed) → fs ≡ f ∷ [] → has_dead_oldest j ≡ false
  only_alive f e =
      ap (first_is_dead j) e ∙ ap (λ x. not x && not (list_any (holds (held_rids j) f.header.number) (journal_reading j))) (ap (λ (xs : List Headed). f.header.number == newest_number xs) e ∙ own f.header.number)

  -- nor is the oldest where a record starts there
  pub oldest_alive : (newest : ℕ) (f : Headed) (rest : List Headed) → fs ≡ f ∷ rest → f.header.number < newest → file_or newest (least_file hs) ≤ f.header.number → has_dead_oldest j ≡ false
  oldest_alive newest f rest e less least =
      let n : ℕ = f.header.number in
      let some : 0 < length fs = omega (arith, ap length e) in
      let rises : AllAbove n rest = numbers_rise f rest (subst (λ (xs : List Headed). Rattle.qls_meaning.specs.Damage.chain_claims xs ≡ Rattle.std.proofs.Common.Ok tt) e whole_journal.rules.chain) in
      let all : AllByRecursion (λ g. n ≤ g.header.number) fs = subst (AllByRecursion (λ g. n ≤ g.header.number)) (sym e) (omega arith, all_most n rest rises) in
      let any : list_any (holds (held_rids j) n) (journal_reading j) ≡ true =
      ap (λ (rids : List ℕ). list_any (holds rids n) (journal_reading j)) rids_are
      ∙ least_held n newest hs (journal_reading j) held_read (all_reads_end n l.opening.kind l.opening.name fs all) less least in
      ap (first_is_dead j) e ∙ ap (λ x. not (n == newest_number fs) && not x) any ∙ no_and (not (n == newest_number fs))

  -- ---- the journal without it

  module _ (e : Disk) (more : 1 < length l.files) (flushed : l.unsynced ≡ []) (is : files_on l.opening e ≡ drop 1 fs) (count : length fs ≡ length l.files) (dead : has_dead_oldest j ≡ true) where
    abbrev rest : List Read
    rest = journal_reading (journal_on e l.opening.kind l.opening.name)

    less_log : IsSound (log_without_oldest l) × IsKeptWithout l (filter (starts_elsewhere (oldest_number fs)) reads) e
    less_log = log_less l d e reads more flushed sound there whole.undamaged whole.read.read is

    pub sound_without : IsSound (log_without_oldest l)
    sound_without = less_log.0

    queue_without : queue_of (journal_on e l.opening.kind l.opening.name) ≡ (live l hs b).queue
    queue_without = ap (λ (xs : List Headed). queue_of (run l.opening.kind l.opening.name xs)) is ∙ dead_queue j whole_journal dead queue_kind ∙ whole.read.queue

    split : Fronted l.opening.kind l.opening.name fs
    split = fronted l.opening.kind l.opening.name fs (omega (arith, count, more)) whole_journal

    reads_split : reads ≡ split.front ++ rest
    reads_split = sym whole.read.read.reading ∙ split.is ∙ ap (λ (xs : List Headed). split.front ++ journal_reading (run l.opening.kind l.opening.name xs)) (sym is)

    held_is : held_after_all rest [] ≡ hs
    held_is =
        held_without (held_after_all split.front []) rest hs (sym (held_append split.front rest []) ∙ ap (λ (xs : List Read). held_after_all xs []) (sym reads_split) ∙ whole.read.held)
        (ap (λ (q : QueueState). q.messages) (sym queue_without)
        ∙ all_records rest [] (record { name = l.opening.name; last = oldest_rid (files_on l.opening e); messages = [] }) refl)

    pub whole_without : IsQueueWhole (live (log_without_oldest l) hs b) e
    whole_without = record {
      read = record {
        reads = filter (starts_elsewhere (oldest_number fs)) reads;
        read = less_log.1.read;
        queue = queue_without;
        held = ap (λ (xs : List Read). held_after_all xs []) (sym less_log.1.read.reading) ∙ held_is;
      };
      undamaged = less_log.1.undamaged;
    }
