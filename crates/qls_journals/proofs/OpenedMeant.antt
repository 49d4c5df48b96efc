-- The queues, the entries and the record id of what was opened are those that the journals on the disk say.
use Rattle.std.proofs.Common.{◌≡◌, ℕ, Bool, true, false, cond, not, List, [], ◌∷◌, ◌++◌, map, length, refl, sym, ap, ap₂, ◌∙◌, subst}
use Rattle.std.specs.List.{AllByRecursion, filter, list_any}
use Rattle.qls_model.specs.declared.machine.PoolId.{PoolId}
use Rattle.qls_model.specs.declared.machine.QueueState.{QueueState}
use Rattle.qls_record.specs.declared.Kind.{Kind}
use Rattle.qls_record.specs.declared.Kind.TheVariants.{Enqueue, Dequeue, Commit, Abort, Filler}
use Rattle.qls_record.specs.Record.{is_filler}
use Rattle.qls_site.specs.Disk.{Disk, full}
use Rattle.qls_filehdr.specs.declared.JournalKind.TheVariants.{Queue, List as Listed}
use Rattle.qls_decide.specs.declared.ListEntry.{ListEntry}
use Rattle.qls_meaning.specs.Journals.{Headed, Journal, is_queue, journal, queue_names, journals_of}
use Rattle.qls_meaning.specs.Reading.{Read, read_of, journal_reading}
use Rattle.qls_meaning.specs.Damage.{oldest_rid}
use Rattle.qls_meaning.specs.Dead.{past_files}
use Rattle.qls_meaning.specs.Meaning.{records_of, queue_of, entries_of, queues_of as queues_in}
use Rattle.qls_meaning.specs.Orderly.{journal_on}
use Rattle.qls_meaning.specs.Replay.{after_list_record, entries_after}
use Rattle.qls_meaning.specs.Spent.{rid_of_reads, rid_of_journals, list_rid}
use Rattle.qls_replay.specs.Held.{held_after_all, messages_of}
use Rattle.qls_scan.specs.Found.{files_of}
use Rattle.qls_log.proofs.Splits.{heads}
use Rattle.qls_queue.proofs.Opened.{meant, without_fillers}
use Rattle.qls_prepared.specs.Lists.{PreparedState, rid_of}
use Rattle.qls_journals.specs.State.{NonePast}
use Rattle.qls_journals.specs.Opening.{ReadingState, IsReading, StandsSo, StandAsRead, journals_in}
use Rattle.qls_journals.proofs.OpenedFrom.{HasNonePast, is_queue_reading, queue_from, queues_from, list_from, list_after, list_name}
use Rattle.qls_journals.proofs.OpenedList.{new_list, IfListed, list_by}
use Rattle.qls_journals.proofs.OpenedNamed.{is_read, is_there, is_list, read_there, AreAmong, among_self}

-- ---- fillers enter nothing

is_filler_kind : (k : Kind) → is_filler k ≡ true → k ≡ Filler
is_filler_kind Enqueue h = absurd (cc)
is_filler_kind Dequeue h = absurd (cc)
is_filler_kind Commit h = absurd (cc)
is_filler_kind Abort h = absurd (cc)
is_filler_kind Filler h = refl

abbrev kept_of : List Read → List Read
kept_of rs = filter (λ r. not (is_filler r.what.kind)) rs

filled_entries : (rs : List Read) (es : List ListEntry) → entries_after (map (λ r. r.what) rs) es ≡ entries_after (map (λ r. r.what) (kept_of rs)) es
filled_entries [] es = refl
filled_entries (r ∷ rs) es = by (is_filler r.what.kind) refl (filled_entries rs)
  where
    by : (b : Bool) → is_filler r.what.kind ≡ b → ((gs : List ListEntry) → entries_after (map (λ r. r.what) rs) gs ≡ entries_after (map (λ r. r.what) (kept_of rs)) gs)
        → entries_after (map (λ r. r.what) rs) (after_list_record r.what.kind r.what es) ≡ entries_after (map (λ r. r.what) (cond (not b) (r ∷ kept_of rs) (kept_of rs))) es
    by true e rest = ap (λ k. entries_after (map (λ r. r.what) rs) (after_list_record k r.what es)) (is_filler_kind r.what.kind e) ∙ rest es
    by false e rest = rest (after_list_record r.what.kind r.what es)

module _ (d : Disk) where
  abbrev fs : List Headed
  fs = heads d

  -- the journal of the reading, as the disk has it
  abbrev pub on_disk : ReadingState → Journal
  on_disk r = journal_on d r.log.journal.kind r.log.journal.name

  -- ---- the journals are those of the readings

  abbrev IsOwn : Journal → Type 0
  IsOwn j = j ≡ journal_on d j.kind j.name

  own_queues : (ns : List (List ℕ)) → AllByRecursion IsOwn (map (journal fs Queue) ns)
  own_queues [] = tt
  own_queues (n ∷ ns) = (refl, own_queues ns)

  all_own : AllByRecursion IsOwn (journals_of (full d))
  all_own = elim (list_any is_list fs) as (λ b. AllByRecursion IsOwn (cond b (journal fs Listed [] ∷ []) [] ++ map (journal fs Queue) (queue_names fs))) [
    | true ↦ (refl, own_queues (queue_names fs))
    | false ↦ own_queues (queue_names fs)
  ]

  heads_are : {A : Type 0} (x y : A) (xs ys : List A) → x ∷ xs ≡ y ∷ ys → (x ≡ y) × (xs ≡ ys)
  heads_are x y xs ys e = (cc, cc)

  journals_by : (rs : List ReadingState) (js : List Journal) → AllByRecursion IsOwn js → journals_in rs ≡ map files_of js → js ≡ map on_disk rs
  journals_by [] [] own e = refl
  journals_by [] (j ∷ js) own e = absurd (cc)
  journals_by (r ∷ rs) [] own e = absurd (cc)
  journals_by (r ∷ rs) (j ∷ js) own e =
      let parts = heads_are r.log.journal (files_of j) (journals_in rs) (map files_of js) e in
      let here : j ≡ on_disk r = own.0 ∙ (λ i. journal_on d (sym parts.0 i).kind (sym parts.0 i).name) in
      (λ i. here i ∷ journals_by rs js own.1 parts.1 i)

  pub journals_are : (rs : List ReadingState) → journals_in rs ≡ map files_of (journals_of (full d)) → journals_of (full d) ≡ map on_disk rs
  journals_are rs e = journals_by rs (journals_of (full d)) all_own e

  -- ---- nothing past the reading

  none_by : (rs : List ReadingState) → StandAsRead rs d → AllByRecursion (λ j. past_files j ≡ []) (map on_disk rs) → AllByRecursion HasNonePast rs
  none_by [] stand h = tt
  none_by (r ∷ rs) stand h = (sym stand.0.log.past ∙ ap length h.0, none_by rs stand.1 h.1)

  pub none_past_of : (rs : List ReadingState) → journals_in rs ≡ map files_of (journals_of (full d)) → StandAsRead rs d → NonePast d → AllByRecursion HasNonePast rs
  none_past_of rs e stand none = none_by rs stand (subst (AllByRecursion (λ j. past_files j ≡ [])) (journals_are rs e) none)

  -- ---- the queues

  one_queue : (r : ReadingState) → StandsSo d r → queue_of (on_disk r) ≡ (queue_from r).queue
  one_queue r stands =
      let j : Journal = on_disk r in
      let held : held_after_all (journal_reading j) [] ≡ held_after_all (map read_of r.records) [] = sym (without_fillers (journal_reading j) []) ∙ ap (λ (rs : List Read). held_after_all rs []) (sym stands.records) in
      meant j ∙ (λ i. record { name = r.log.journal.name; last = stands.log.rid i; messages = messages_of (held i) })

  queues_by : (rs : List ReadingState) → StandAsRead rs d → queues_in (map on_disk rs) ≡ map (λ q. q.queue) (queues_from rs)
  queues_by [] stand = refl
  queues_by (r ∷ rs) stand = by (is_queue_reading r) (queues_by rs stand.1)
    where
      by : (b : Bool) → queues_in (map on_disk rs) ≡ map (λ q. q.queue) (queues_from rs) → map queue_of (cond b (on_disk r ∷ filter (λ j. is_queue j.kind) (map on_disk rs)) (filter (λ j. is_queue j.kind) (map on_disk rs))) ≡ map (λ q. q.queue) (cond b (queue_from r ∷ queues_from rs) (queues_from rs))
      by true rest = ap₂ (λ (q : QueueState) (qs : List QueueState). q ∷ qs) (one_queue r stand.0) rest
      by false rest = rest

  pub queues_meant : (rs : List ReadingState) → journals_in rs ≡ map files_of (journals_of (full d)) → StandAsRead rs d → map (λ q. q.queue) (queues_from rs) ≡ queues_in (journals_of (full d))
  queues_meant rs e stand = sym (queues_by rs stand) ∙ ap queues_in (sym (journals_are rs e))

  -- ---- the list

  abbrev list_on : Journal
  list_on = journal_on d Listed []

  no_list_among : (ns : List (List ℕ)) → list_any (is_there Listed []) (map (journal fs Queue) ns) ≡ false
  no_list_among [] = refl
  no_list_among (n ∷ ns) = no_list_among ns

  list_there : list_any (is_there Listed []) (journals_of (full d)) ≡ list_any is_list fs
  list_there = by (list_any is_list fs)
    where
      by : (b : Bool) → list_any (is_there Listed []) (cond b (journal fs Listed [] ∷ []) [] ++ map (journal fs Queue) (queue_names fs)) ≡ b
      by true = refl
      by false = no_list_among (queue_names fs)

  list_read : (rs : List ReadingState) → journals_in rs ≡ map files_of (journals_of (full d)) → is_read rs Listed [] ≡ list_any is_list fs
  list_read rs e = read_there rs (journals_of (full d)) Listed [] e ∙ list_there

  no_entries : (ns : List (List ℕ)) → entries_of (map (journal fs Queue) ns) ≡ []
  no_entries [] = refl
  no_entries (n ∷ ns) = no_entries ns

  no_rid : (ns : List (List ℕ)) → rid_of_journals (map (journal fs Queue) ns) ≡ 0
  no_rid [] = refl
  no_rid (n ∷ ns) = no_rid ns

  entries_by : (b : Bool) → entries_of (cond b (journal fs Listed [] ∷ []) [] ++ map (journal fs Queue) (queue_names fs)) ≡ cond b (entries_after (records_of list_on) []) []
  entries_by true = refl
  entries_by false = no_entries (queue_names fs)

  rid_by : (b : Bool) → rid_of_journals (cond b (journal fs Listed [] ∷ []) [] ++ map (journal fs Queue) (queue_names fs)) ≡ cond b (rid_of_reads (oldest_rid list_on.files) (journal_reading list_on)) 0
  rid_by true = refl
  rid_by false = no_rid (queue_names fs)

  module _ (home : PoolId) (all : List ReadingState) (e : journals_in all ≡ map files_of (journals_of (full d))) where
    abbrev HasEntries : PreparedState → Type 0
    HasEntries p = p.entries ≡ entries_of (journals_of (full d))

    abbrev HasRid : PreparedState → Type 0
    HasRid p = rid_of p ≡ list_rid d

    -- where a reading is the list's
    module _ (r : ReadingState) (read : IsReading r) (among : is_read all r.log.journal.kind r.log.journal.name ≡ true) (kind : r.log.journal.kind ≡ Listed) where
      own_name : r.log.journal.name ≡ []
      own_name = list_name r.log.journal read.log.order kind

      there : list_any is_list fs ≡ true
      there = sym (list_read all e) ∙ (λ i. is_read all (sym kind i) (sym own_name i)) ∙ among

      same_journal : on_disk r ≡ list_on
      same_journal = λ i. journal_on d (kind i) (own_name i)

      entries_read : StandsSo d r → HasEntries (list_from home r)
      entries_read stands =
          ap (λ (rs : List Read). entries_after (map (λ x. x.what) rs) []) stands.records ∙ sym (filled_entries (journal_reading (on_disk r)) [])
          ∙ ap (λ (j : Journal). entries_after (records_of j) []) same_journal ∙ ap (λ b. cond b (entries_after (records_of list_on) []) []) (sym there) ∙ sym (entries_by (list_any is_list fs))

      rid_read : StandsSo d r → HasRid (list_from home r)
      rid_read stands =
          sym stands.log.rid ∙ ap (λ (j : Journal). rid_of_reads (oldest_rid j.files) (journal_reading j)) same_journal
          ∙ ap (λ b. cond b (rid_of_reads (oldest_rid list_on.files) (journal_reading list_on)) 0) (sym there) ∙ sym (rid_by (list_any is_list fs))

    lists_read : (rs : List ReadingState) → AllByRecursion IsReading rs → AreAmong all rs → StandAsRead rs d → AllByRecursion (IfListed home HasEntries) rs × AllByRecursion (IfListed home HasRid) rs
    lists_read [] read among stand = (tt, tt)
    lists_read (r ∷ rs) read among stand =
        let rest = lists_read rs read.1 among.1 stand.1 in
        (((λ kind. entries_read r read.0 among.0 kind stand.0), rest.0), ((λ kind. rid_read r read.0 among.0 kind stand.0), rest.1))

    none_there : is_read all Listed [] ≡ false → list_any is_list fs ≡ false
    none_there none = sym (list_read all e) ∙ none

    pub entries_meant : AllByRecursion IsReading all → StandAsRead all d → HasEntries (list_after home all (new_list home))
    entries_meant read stand =
        list_by home HasEntries all (lists_read all read (among_self all) stand).0
        (λ none. ap (λ b. cond b (entries_after (records_of list_on) []) []) (sym (none_there none)) ∙ sym (entries_by (list_any is_list fs)))

    pub rid_meant : AllByRecursion IsReading all → StandAsRead all d → HasRid (list_after home all (new_list home))
    rid_meant read stand =
        list_by home HasRid all (lists_read all read (among_self all) stand).1
        (λ none. ap (λ b. cond b (rid_of_reads (oldest_rid list_on.files) (journal_reading list_on)) 0) (sym (none_there none)) ∙ sym (rid_by (list_any is_list fs)))
