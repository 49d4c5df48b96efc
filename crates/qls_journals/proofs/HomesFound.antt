-- The homes of the journals that were opened are those that the disk gives them.
use Rattle.std.proofs.Common.{◌≡◌, ℕ, ◌+◌, ◌<◌, Bool, true, false, cond, ◌&&◌, ◌||◌, List, [], ◌∷◌, map, length, option_map, Option, Some, None, refl, sym, ap, ◌∙◌, arith}
use Rattle.std.specs.List.{AllByRecursion}
use Rattle.qls_model.specs.Bytes.{same}
use Rattle.qls_model.proofs.XidKeys.{same_true}
use Rattle.qls_model.specs.declared.machine.PoolId.{PoolId}
use Rattle.qls_site.specs.Disk.{Disk}
use Rattle.qls_filehdr.specs.declared.JournalKind.{JournalKind}
use Rattle.qls_filehdr.specs.declared.JournalKind.TheVariants.{Queue, List as Listed}
use Rattle.qls_meaning.specs.Journals.{Headed, same_kind}
use Rattle.qls_meaning.specs.Orderly.{journal_on}
use Rattle.qls_meaning.specs.Spent.{greatest_epoch}
use Rattle.qls_scan.specs.declared.answers.HeadedFile.{HeadedFile}
use Rattle.qls_reading.specs.ReadLogs.{linked, linked_files, first_home, opening_behind}
use Rattle.qls_reading.proofs.Row.{rising_greatest}
use Rattle.qls_log.specs.Logs.{capacity_in}
use Rattle.qls_log.specs.Standing.{AreThoseFiles}
use Rattle.qls_log.specs.Steps.{is_own}
use Rattle.qls_log.specs.Trimming.{last_epoch}
use Rattle.qls_pool.specs.Files.{IdsDiffer}
use Rattle.qls_queue.specs.Live.{LiveState}
use Rattle.qls_prepared.specs.Lists.{PreparedState, opening_by}
use Rattle.qls_journals.specs.State.{JournalsState, queue_held}
use Rattle.qls_journals.specs.Homes.{Home, home_for, queue_home, list_home, homes_of, homes_on, SameHomes}
use Rattle.qls_journals.specs.Opening.{ReadingState, IsReading, StandsSo, StandAsRead}
use Rattle.qls_journals.proofs.OpenedFrom.{is_queue_reading, queue_from, queues_from, list_after, kind_queue, list_name}
use Rattle.qls_journals.proofs.OpenedList.{new_list, IfListed, list_by}
use Rattle.qls_journals.proofs.OpenedNamed.{is_read, AllRead, no_file, later_than, other_queue, no_queue}

-- ---- a journal that was read

-- its files on the disk give it the home of the files that are taken behind them
abbrev pub HasHome : Disk → ReadingState → Type 0
HasHome d r = queue_home (journal_on d r.log.journal.kind r.log.journal.name).files ≡ Some (home_for (opening_behind r.log.journal))

home_by_files : (capacity : ℕ) (hs : List HeadedFile) (fs : List Headed) → 0 < length hs → AreThoseFiles capacity (map linked hs) fs → greatest_epoch fs ≡ last_epoch (map linked hs)
    → queue_home fs ≡ Some (record { pool = first_home hs; epoch = last_epoch (map linked hs) + 1 })
home_by_files capacity [] fs some those e = absurd (omega (arith, some))
home_by_files capacity (h ∷ hs) [] some those e = absurd those
home_by_files capacity (h ∷ hs) (f ∷ fs) some those e = λ i. Some (record { pool = record { part = (those.0.header i).part; kib = (those.0.header i).kib }; epoch = e i + 1 })

has_home : (d : Disk) (r : ReadingState) → IsReading r → StandsSo d r → HasHome d r
has_home d r read stands =
    let j = r.log.journal in
    let those = stands.log.there.files in
    home_by_files (capacity_in (opening_behind j)) j.files (journal_on d j.kind j.name).files read.log.order.some those
    (rising_greatest (capacity_in (opening_behind j)) (linked_files j) (journal_on d j.kind j.name).files those stands.log.rules.chain)

pub all_homes : (d : Disk) (rs : List ReadingState) → AllByRecursion IsReading rs → StandAsRead rs d → AllByRecursion (HasHome d) rs
all_homes d [] read stand = tt
all_homes d (r ∷ rs) read stand = (has_home d r read.0 stand.0, all_homes d rs read.1 stand.1)

-- ---- the queues

abbrev homes_held : Option LiveState → Option Home
homes_held o = option_map (λ q. home_for q.log.opening) o

first_of : (b : Bool) (q : LiveState) (o : Option LiveState) → homes_held (cond b (Some q) o) ≡ cond b (Some (home_for q.log.opening)) (homes_held o)
first_of true q o = refl
first_of false q o = refl

module _ (d : Disk) (name : List ℕ) where
  abbrev found : Option Home
  found = queue_home (journal_on d Queue name).files

  -- a queue that was opened
  held_home : (rs : List ReadingState) → AllByRecursion (HasHome d) rs → is_read rs Queue name ≡ true → homes_held (queue_held name (queues_from rs)) ≡ found
  held_home [] h e = absurd (cc)
  held_home (r ∷ rs) h e = by (is_queue_reading r) (same r.log.journal.name name) refl refl (held_home rs h.1)
    where
      by : (k b : Bool) → is_queue_reading r ≡ k → same r.log.journal.name name ≡ b → (is_read rs Queue name ≡ true → homes_held (queue_held name (queues_from rs)) ≡ found)
          → homes_held (queue_held name (cond k (queue_from r ∷ queues_from rs) (queues_from rs))) ≡ found
      by true true kind own later =
          ap (λ c. homes_held (cond c (Some (queue_from r)) (queue_held name (queues_from rs)))) own ∙ sym h.0
          ∙ (λ i. queue_home (journal_on d (kind_queue r.log.journal.kind kind i) (same_true r.log.journal.name name own i)).files)
      by true false kind own later =
          ap (λ c. homes_held (cond c (Some (queue_from r)) (queue_held name (queues_from rs)))) own
          ∙ later (later_than (is_own (opening_behind r.log.journal) Queue name) (is_read rs Queue name) (other_queue r name kind own) e)
      by false b kind own later = later (later_than (is_own (opening_behind r.log.journal) Queue name) (is_read rs Queue name) (no_queue r name kind) e)

  -- no queue has the name
  lacking_home : (rs : List ReadingState) → is_read rs Queue name ≡ false → homes_held (queue_held name (queues_from rs)) ≡ None
  lacking_home [] e = refl
  lacking_home (r ∷ rs) e = by_kind (is_queue_reading r) refl (lacking_home rs)
    where
      rest : (b c : Bool) → (b || c) ≡ false → (b ≡ false) × (c ≡ false)
      rest true c e = absurd (cc)
      rest false c e = (refl, e)

      parts : ((same_kind r.log.journal.kind Queue && same r.log.journal.name name) ≡ false) × (is_read rs Queue name ≡ false)
      parts = rest (same_kind r.log.journal.kind Queue && same r.log.journal.name name) (is_read rs Queue name) e

      by_kind : (k : Bool) → is_queue_reading r ≡ k → (is_read rs Queue name ≡ false → homes_held (queue_held name (queues_from rs)) ≡ None) → homes_held (queue_held name (cond k (queue_from r ∷ queues_from rs) (queues_from rs))) ≡ None
      by_kind true kind later =
          let other : same r.log.journal.name name ≡ false = ap (λ (k : JournalKind). same_kind k Queue && same r.log.journal.name name) (sym (kind_queue r.log.journal.kind kind)) ∙ parts.0 in
          ap (λ b. homes_held (cond b (Some (queue_from r)) (queue_held name (queues_from rs)))) other ∙ later parts.1
      by_kind false kind later = later parts.1

  queue_home_is : (rs : List ReadingState) → IdsDiffer d → AllByRecursion (HasHome d) rs → AllRead rs d → homes_held (queue_held name (queues_from rs)) ≡ found
  queue_home_is rs differ homes all = by (is_read rs Queue name) refl
    where
      by : (b : Bool) → is_read rs Queue name ≡ b → homes_held (queue_held name (queues_from rs)) ≡ found
      by true e = held_home rs homes e
      by false e = lacking_home rs e ∙ sym (ap queue_home (no_file rs Queue name e d differ all))

-- ---- the list

list_home_by : (default : PoolId) (fs : List Headed) (h : Home) → queue_home fs ≡ Some h → h ≡ list_home default fs
list_home_by default [] h e = absurd (cc)
list_home_by default (f ∷ fs) h e = sym (some_is (list_home default (f ∷ fs)) h e)
  where
    some_is : (x y : Home) → ◌≡◌ {A = Option Home} (Some x) (Some y) → x ≡ y
    some_is x y e = cc

module _ (default : PoolId) (d : Disk) where
  -- the list's home is the one that the disk gives it
  abbrev ListHome : PreparedState → Type 0
  ListHome p = home_for (opening_by p.home p.log) ≡ list_home default (journal_on d Listed []).files

  list_homes : (rs : List ReadingState) → AllByRecursion IsReading rs → AllByRecursion (HasHome d) rs → AllByRecursion (IfListed default ListHome) rs
  list_homes [] read homes = tt
  list_homes (r ∷ rs) read homes = (
    (λ e. list_home_by default (journal_on d Listed []).files (home_for (opening_behind r.log.journal))
        ((λ i. queue_home (journal_on d (sym e i) (sym (list_name r.log.journal read.0.log.order e) i)).files) ∙ homes.0)),
    list_homes rs read.1 homes.1,
  )

  pub homes_are : (s : JournalsState) (rs : List ReadingState) → s.home ≡ default → s.queues ≡ queues_from rs → s.list ≡ list_after default rs (new_list default) → AllByRecursion IsReading rs → StandAsRead rs d → IdsDiffer d → AllRead rs d
      → SameHomes (homes_of s) (homes_on s.home d)
  homes_are s rs home queues list read stand differ all =
      let homes : AllByRecursion (HasHome d) rs = all_homes d rs read stand in
      record {
        default = refl;
        queue = λ name. ap (λ (qs : List LiveState). homes_held (queue_held name qs)) queues ∙ queue_home_is d name rs differ homes all;
        list =
            ap (λ (p : PreparedState). home_for (opening_by p.home p.log)) list
            ∙ list_by default ListHome rs (list_homes rs read homes) (λ e. sym (ap (list_home default) (no_file rs Listed [] e d differ all)))
            ∙ ap (λ (h : PoolId). list_home h (journal_on d Listed []).files) (sym home);
      }
